use Rattle.name_service.proofs.Heard.{name_lines_are_heard}
use Rattle.name_service.proofs.NamedLife.{parts_are_named_life, empty_parts_grow}
use Rattle.name_service.proofs.laws.lines_are_inputs_of_one_machine.Goals as goal

pub returns : goal.returns
returns c = record { heard = name_lines_are_heard; life = parts_are_named_life; grow = empty_parts_grow }
