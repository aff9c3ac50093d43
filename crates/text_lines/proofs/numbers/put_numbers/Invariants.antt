use Rattle.std.proofs.Common.{ℕ, ◌<◌, List, drop}
use Rattle.text_lines.specs.Spelling.{numbers_text}
use Rattle.text_lines.specs.Writing.{AreAnswers, Wrote}
use Rattle.text_lines.proofs.numbers.put_numbers.Given as goal

abbrev pub invariant-loop-i : goal.invariant-loop-i
invariant-loop-i g l = record {
  wrote : (numbers : List ℕ) → AreAnswers (goal.F-post g l.number) l.count numbers →
      Wrote (g.W.Write.contents l.initial.out) (g.W.Write.contents l.out) (numbers_text l.between l.behind numbers) (numbers_text l.between l.behind (drop l.i numbers));
  asked : (i : ℕ) → i < l.i → (answer : ℕ) × goal.F-post g l.number i answer;
}
