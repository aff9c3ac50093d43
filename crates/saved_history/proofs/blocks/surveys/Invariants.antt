use Rattle.std.proofs.Common.{◌≡◌, length}
use Rattle.text_lines.proofs.Repetitions.{with_items}
use Rattle.saved_history.specs.Lines.{surveys_at}
use Rattle.saved_history.proofs.blocks.surveys.Given as goal

abbrev pub invariant-loop-found : goal.invariant-loop-found
invariant-loop-found l = with_items l.found.items (surveys_at l.rest) ≡ surveys_at l.bytes

abbrev pub decreases-loop-found : goal.decreases-loop-found
decreases-loop-found l = length l.rest
