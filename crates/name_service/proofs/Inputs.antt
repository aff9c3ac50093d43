-- What was read of a line is answered as the ask in it is; and what it names is a name.
use Rattle.std.proofs.Common.{◌≡◌, ℕ, Bool, false, List, Option, Some, sym, subst}
use Rattle.held_locks.specs.Locks.{Ask}
use Rattle.lock_protocol.specs.declared.inputs.Fault.TheVariants as fault
use Rattle.lock_protocol.specs.Names.{IsName}
use Rattle.lock_protocol.specs.Views.{Input}
use Rattle.lock_protocol.specs.Views as input
use Rattle.lock_protocol.specs.Asks as asks
use Rattle.lock_protocol.specs.Inputs.{IsReadAs}
use Rattle.lock_names.proofs.Found.{some_same, none_some}
use Rattle.lock_journal.specs.Asking.{one_ask, is_off}
use Rattle.name_service.specs.declared.service.NameTerms.{NameTerms}
use Rattle.name_service.specs.Naming.{NamingView}
use Rattle.name_service.specs.Serving.{IsNameTold, IsNamedInput, IsNameAnsweredIf, IsNameInputAnswered}

pub asked_input : (terms : NameTerms) (i : Input) (client : ℕ) (ask : asks.Ask) (off : Bool) (old : NamingView) (said noted : List ℕ) (new : NamingView) → i ≡ input.Asked client ask → is_off terms.lines.faults ask ≡ off →
    IsNameAnsweredIf off terms client ask old said noted new → IsNameInputAnswered terms i old said noted new
asked_input terms i client ask off old said noted new e f a =
    subst (λ (x : Input). IsNameInputAnswered terms x old said noted new) (sym e) (subst (λ (b : Bool). IsNameAnsweredIf b terms client ask old said noted new) (sym f) a)

pub told_input : (terms : NameTerms) (i : Input) (client : ℕ) (ask : asks.Ask) (old : NamingView) (said noted : List ℕ) (new : NamingView) → i ≡ input.Asked client ask → is_off terms.lines.faults ask ≡ false →
    IsNameTold terms client (one_ask ask) old said noted new → IsNameInputAnswered terms i old said noted new
told_input terms i client ask old said noted new e f a = asked_input terms i client ask false old said noted new e f a

-- ---- names

same_name : (name x : List ℕ) (ask a : Ask) → ◌≡◌ {A = Option (List ℕ × Ask)} (Some (name, ask)) (Some (x, a)) → IsName name → IsName x
same_name name x ask a e n = subst (λ (p : List ℕ × Ask). IsName p.0) (some_same (name, ask) (x, a) e) n

pub one_named : (ask : asks.Ask) (x : List ℕ) (a : Ask) → asks.HasName ask → one_ask ask ≡ Some (x, a) → IsName x
one_named (asks.acquire name label) x a n e = same_name name x _ a e n
one_named (asks.try name label) x a n e = same_name name x _ a e n
one_named (asks.release name token) x a n e = same_name name x _ a e n
one_named (asks.cancel name) x a n e = same_name name x _ a e n
one_named asks.leave x a n e = absurd (none_some (x, a) e)
one_named (asks.corrupt name machine value) x a n e = same_name name x _ a e n
one_named (asks.stats name) x a n e = same_name name x _ a e n

pub read_named : (line : List ℕ) (i : Input) → IsReadAs line i → IsNamedInput i
read_named line (input.Asked client ask) r = r.1.named
read_named line (input.Refused client fault.Number) r = tt
read_named line (input.Refused client fault.Syntax) r = tt
read_named line input.Nobody r = tt
