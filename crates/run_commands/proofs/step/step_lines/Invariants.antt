use Rattle.std.proofs.Common.{◌≡◌, drop, length}
use Rattle.ring_model.specs.Ring.{ring_with}
use Rattle.text_lines.specs.Writing.{Wrote}
use Rattle.run_commands.specs.StepText.{step_text, lines_from}
use Rattle.run_commands.proofs.step.step_lines.Given as goal

abbrev pub invariant-loop-choice : goal.invariant-loop-choice
invariant-loop-choice g l = record {
  written : Wrote (g.W.Write.contents l.initial.out) (g.W.Write.contents l.out) (step_text (ring_with l.k l.states) l.choices) (lines_from l.book.now (drop l.choice-index l.choices));
  started : length l.book.start.values ≡ l.n;
  size : length l.book.now.ring.values ≡ l.n;
  recorded : length l.book.history ≡ l.choice-index;
}
