-- Whether no line is answered any more.
use Rattle.std.proofs.Common.{◌≡◌, ℕ, Bool, true, false, not, ◌&&◌, List, Option, Some, None, refl, sym, ap, ◌∙◌}
use Rattle.std.specs.Prelude.{is_some}
use Rattle.std.proofs.lemmas.Bool.{false≢true}
use Rattle.ring_service.specs.declared.answers.Refusal.{Refusal}
use Rattle.ring_service.specs.declared.turns.CallAnswer.{CallAnswer}
use Rattle.ring_service.specs.Standings.{Standing}
use Rattle.ring_service.specs.Turns.{Turn, turn_seen_among}
use Rattle.ring_service.specs.Due.{is_due, is_due_at}
use Rattle.ring_service.specs.Permits.{Terms, IsOpen, is_shut, IsTied}
use Rattle.ring_service.specs.Serving.{IsTurnOn, is_over_at}

-- ---- a test of two

not_both : (due off : Bool) → due ≡ off → (due && not off) ≡ false
not_both true off e = ap not (sym e)
not_both false off e = refl

same_both : (due off : Bool) → (due && not off) ≡ false → (off ≡ true → due ≡ true) → due ≡ off
same_both due true e f = f refl
same_both true false e f = e
same_both false false e f = refl

and_true : (due : Bool) → (due && true) ≡ due
and_true true = refl
and_true false = refl

-- ---- lines are answered

pub open_tied : (terms : Terms) (rings : List Standing) → IsOpen terms rings → IsTied terms rings false
open_tied terms rings open_ = (
  sym (not_both (is_due terms.limit rings) (is_some terms.refusing) open_),
  λ off. open_ ∙ off,
)

pub tied_open : (terms : Terms) (rings : List Standing) (shut : Bool) → IsTied terms rings shut → is_shut terms rings ≡ false → IsOpen terms rings
tied_open terms rings shut tied e = same_both (is_due terms.limit rings) (is_some terms.refusing) e tied.1

-- after a line
tied_at : (refusing : Option Refusal) (limit : Option ℕ) (faults : Bool) (old new : List Standing) (line : List ℕ) (ring : ℕ) (m : CallAnswer) → is_due limit old ≡ is_some refusing → IsTurnOn refusing faults old line (turn_seen_among ring new m) →
    ((l : ℕ) → is_due (Some l) old ≡ false → is_due (Some l) new ≡ is_due_at (Some l) new ring) →
    (is_over_at refusing limit new ring ≡ (is_due limit new && not (is_some refusing))) × (is_some refusing ≡ true → is_due limit new ≡ true)
tied_at (Some why) limit faults old new line ring m goes turn due =
    let same : new ≡ old = ap (λ (x : Turn (List Standing)). x.leaves) turn in
    let still : is_due limit new ≡ true = ap (λ (x : List Standing). is_due limit x) same ∙ goes in
    (sym (ap (λ (b : Bool). b && false) still), λ off. still)
tied_at None None faults old new line ring m goes turn due = (refl, λ off. off)
tied_at None (Some l) faults old new line ring m goes turn due =
    (sym (due l goes) ∙ sym (and_true (is_due (Some l) new)), λ off. absurd (false≢true off))

pub tied_after : (terms : Terms) (old new : List Standing) (line : List ℕ) (ring : ℕ) (m : CallAnswer) (shut : Bool) → IsOpen terms old → IsTurnOn terms.refusing terms.faults old line (turn_seen_among ring new m) →
    ((l : ℕ) → is_due (Some l) old ≡ false → is_due (Some l) new ≡ is_due_at (Some l) new ring) → shut ≡ is_over_at terms.refusing terms.limit new ring → IsTied terms new shut
tied_after terms old new line ring m shut goes turn due is =
    let both = tied_at terms.refusing terms.limit terms.faults old new line ring m goes turn due in
    (is ∙ both.0, both.1)
