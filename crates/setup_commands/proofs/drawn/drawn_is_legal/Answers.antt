use Rattle.setup_commands.proofs.LegalStarts.{drawn_legal}
use Rattle.setup_commands.proofs.drawn.drawn_is_legal.Goals as goal

pub returns : goal.returns
returns c = drawn_legal c.legal_as_defined.ensures
