-- What was read of a line is answered as the ask in it is.
use Rattle.std.proofs.Common.{◌≡◌, ℕ, Bool, false, List, Option, sym, subst}
use Rattle.held_locks.specs.Locks.{Ask}
use Rattle.lock_protocol.specs.Views.{Input}
use Rattle.lock_protocol.specs.Views as input
use Rattle.lock_protocol.specs.Asks as asks
use Rattle.lock_journal.specs.declared.terms.Terms.{Terms}
use Rattle.lock_journal.specs.Asking.{one_ask, is_off}
use Rattle.lock_journal.specs.Counting.{SegmentView}
use Rattle.lock_journal.specs.Answering.{IsTold, IsAnsweredIf, IsInputAnswered}

pub asked_input : (terms : Terms) (i : Input) (client : ℕ) (ask : asks.Ask) (off : Bool) (old : SegmentView) (said noted : List ℕ) (new : SegmentView) → i ≡ input.Asked client ask → is_off terms.faults ask ≡ off → IsAnsweredIf off terms client ask old said noted new →
    IsInputAnswered terms i old said noted new
asked_input terms i client ask off old said noted new e f a =
    subst (λ (x : Input). IsInputAnswered terms x old said noted new) (sym e) (subst (λ (b : Bool). IsAnsweredIf b terms client ask old said noted new) (sym f) a)

pub told_input : (terms : Terms) (i : Input) (client : ℕ) (ask : asks.Ask) (one : Option (List ℕ × Ask)) (old : SegmentView) (said noted : List ℕ) (new : SegmentView) → i ≡ input.Asked client ask → is_off terms.faults ask ≡ false → one ≡ one_ask ask →
    IsTold terms.strict terms.noting client one old said noted new → IsInputAnswered terms i old said noted new
told_input terms i client ask one old said noted new e f o a = asked_input terms i client ask false old said noted new e f (subst (λ (x : Option (List ℕ × Ask)). IsTold terms.strict terms.noting client x old said noted new) o a)
