-- A number for each seat, as a function answers it.
use Rattle.std.proofs.Common.{◌≡◌, ◌∙◌, ℕ, sym, arith}
use Rattle.std.proofs.lemmas.List.FromFn.{length-map-range_with_len, get_or-map-range_with_len}
use Rattle.text_lines.specs.Writing.{AreAnswers}
use Rattle.ring_model.specs.Limits.{seat_limit}
use Rattle.ring_text.specs.SavedReport.{each_seat}

pub seats_answered : (Answers : ℕ → ℕ → Type 0) (f : ℕ → ℕ) → ((i answer : ℕ) → Answers i answer → answer ≡ f i) → AreAnswers Answers seat_limit (each_seat f)
seats_answered Answers f same = record {
  many = length-map-range_with_len f 0 seat_limit;
  each = λ i answer lt said. same i answer said ∙ sym (get_or-map-range_with_len f 0 seat_limit i i 0 lt (omega arith));
}
