-- A line that is too long is answered as its start is (this project's own).
use Rattle.std.proofs.Common.{◌≡◌, ℕ, ◌+◌, ◌<◌, ◌≤◌, leb, Bool, List, length, Option, Some, None, sym, ap, subst, inl, inr, ◌⊎◌, length-take-le, lt-suc_self}
use Rattle.std.proofs.lemmas.Bool.{both_ways, lt-leb, le-leb}
use Rattle.disks.specs.Held.{Held}
use Rattle.text_lines.specs.Limits.{line_limit}
use Rattle.line_service.specs.Answering.{cut}
use Rattle.ring_service.specs.declared.answers.Answer.{Answer}
use Rattle.ring_service.specs.declared.answers.Answer.TheVariants as answer
use Rattle.ring_service.specs.declared.answers.Refusal.{Refusal}
use Rattle.ring_service.specs.declared.answers.Refusal.TheVariants as refusal
use Rattle.ring_service.specs.Permits.{Terms}
use Rattle.ring_service.specs.Standings.{Standing}
use Rattle.ring_service.specs.Turns.{Turn, refused, IsTurnOfLine}
use Rattle.ring_service.specs.Serving.{name_in, IsGiven, IsTurnOn, IsAnswered}

below : (n m : ℕ) → n < m → m ≤ n → ⊥
below n m less most = both_ways (leb m n) (lt-leb m n less) (le-leb m n most)

cut_long : (full : List ℕ) → line_limit < length full → line_limit < length (cut full)
unfolding cut
cut_long full l = subst (λ (k : ℕ). line_limit < k) (sym (length-take-le (line_limit + 1) full l)) (lt-suc_self line_limit)

-- a line that is too long is refused, or memory ran out
long_refused : (faults : Bool) (rings : List Standing) (line : List ℕ) (t : Turn (List Standing)) → line_limit < length line → IsTurnOfLine faults rings line t → (t ≡ refused rings refusal.Syntax) ⊎ (t ≡ refused rings refusal.OutOfMemory)
long_refused faults rings line t l (inl (inl h)) = absurd (below line_limit (length line) l h.1.1)
long_refused faults rings line t l (inl (inr h)) = inl h.1
long_refused faults rings line t l (inr e) = inr e

-- and is answered as its start is
whole_line : (faults : Bool) (rings : List Standing) (full : List ℕ) (t : Turn (List Standing)) → line_limit < length full → IsTurnOfLine faults rings (cut full) t → IsTurnOfLine faults rings full t
whole_line faults rings full t l h = elim (long_refused faults rings (cut full) t (cut_long full l) h) [
  | inl e ↦ inl (inr ((λ c is. below line_limit (length full) l is.1), e))
  | inr e ↦ inr e
]

any_name : (journal history saves : Option (List ℕ)) (was is : Option Held) (n m : List ℕ) (rings : List Standing) (a given : Answer) (why : Refusal) → a ≡ answer.Refused why → IsGiven journal history saves was is n rings a given → IsGiven journal history saves was is m rings a given
any_name journal history saves was is n m rings a given why e g =
    subst (λ (x : Answer). IsGiven journal history saves was is m rings x given) (sym e) (subst (λ (x : Answer). IsGiven journal history saves was is n rings x given) e g)

refused_why : (faults : Bool) (rings : List Standing) (full : List ℕ) (t : Turn (List Standing)) → line_limit < length full → IsTurnOfLine faults rings (cut full) t → (why : Refusal) × (t.answer ≡ answer.Refused why)
refused_why faults rings full t l is =
    elim (long_refused faults rings full t l (whole_line faults rings full t l is)) [
      | inl e ↦ (refusal.Syntax, ap (λ (x : Turn (List Standing)). x.answer) e)
      | inr e ↦ (refusal.OutOfMemory, ap (λ (x : Turn (List Standing)). x.answer) e)
    ]

refused_on : (refusing : Option Refusal) (faults : Bool) (rings : List Standing) (full : List ℕ) (t : Turn (List Standing)) → line_limit < length full → IsTurnOn refusing faults rings (cut full) t → (why : Refusal) × (t.answer ≡ answer.Refused why)
refused_on None faults rings full t l is = refused_why faults rings full t l is
refused_on (Some why) faults rings full t l is = (why, ap (λ (x : Turn (List Standing)). x.answer) is)

whole_on : (refusing : Option Refusal) (faults : Bool) (rings : List Standing) (full : List ℕ) (t : Turn (List Standing)) → line_limit < length full → IsTurnOn refusing faults rings (cut full) t → IsTurnOn refusing faults rings full t
whole_on None faults rings full t l is = whole_line faults rings full t l is
whole_on (Some why) faults rings full t l is = is

pub whole_answer : {terms : Terms} {old new : List Standing} {was is : Option Held} {said noted : List ℕ} (full : List ℕ) → line_limit < length full → IsAnswered terms old was (cut full) said noted new is → IsAnswered terms old was full said noted new is
whole_answer {terms} {old} {new} {was} {is} full l a =
    let why = refused_on terms.refusing terms.faults old full a.turn l a.of_line in
    record {
      turn = a.turn;
      given = a.given;
      goes = a.goes;
      of_line = whole_on terms.refusing terms.faults old full a.turn l a.of_line;
      heeded = a.heeded;
      gives = any_name terms.journal terms.history terms.saves was is (name_in (cut full)) (name_in full) new a.turn.answer a.given why.0 why.1 a.gives;
      says = a.says;
      notes = a.notes;
      leaves = a.leaves;
    }
