use Rattle.std.proofs.Common.{List, subst}
use Rattle.ring_service.specs.Standings.{Standing}
use Rattle.ring_service.specs.Segments.{AreNext}
use Rattle.wrong_commands.proofs.Emptied.{none_is_next}
use Rattle.wrong_commands.proofs.endless.next_without_the_rings.Goals as goal

pub returns : goal.returns
returns c = record { wrong = λ h. none_is_next c.args._served.now c.requires (subst (λ (x : List Standing). AreNext c.args._served.now x) c.none.ensures h) }
