-- A line is not a fault where none is permitted.
use Rattle.std.proofs.Common.{◌≡◌, ℕ, List, Bool, true, false, cond, if◌then◌else◌, Option, None, Some, inl, inr, refl, sym, subst}
use Rattle.ring_model.specs.Ring.{is_privileged}
use Rattle.ring_model.specs.declared.events.Reply.TheVariants as reply_is
use Rattle.ring_model.specs.declared.bases.Base.{Base}
use Rattle.ring_model.specs.Bases.{shifted_reply}
use Rattle.one_thread_ring.specs.Refusals.{seat_refusal, place_refusal, pass_refusal, group_refusal}
use Rattle.one_thread_ring.specs.declared.errors.CallError.{CallError}
use Rattle.ring_service.specs.Commands.{Command, pass, try, group, corrupt, survey, glance, save, heard}
use Rattle.ring_service.specs.Standings.{Standing, state_of}
use Rattle.ring_service.specs.declared.answers.Answer.TheVariants as answer
use Rattle.ring_service.specs.declared.answers.Refusal.{Refusal}
use Rattle.ring_service.specs.declared.answers.Refusal.TheVariants as refusal
use Rattle.ring_service.specs.Turns.{Turn, refused, refusal_of, bounds_now, unless, passed, waits, answer_of, turn_at, turn_among, turn_of, is_off, heard_turn, IsTurnOfLine}

abbrev IsNoFault : {S : Type 0} → Turn S → Type 0
IsNoFault turn = (old : ℕ) → turn.answer ≡ answer.Corrupted old → ⊥

refused_none : {S : Type 0} (s : S) (why : Refusal) → IsNoFault (refused s why)
refused_none s why old e = no e
  where
    no : answer.Refused why ≡ answer.Corrupted old → ⊥
    no p = cc

unless_none : {S : Type 0} (x : Option CallError) (s : S) (turn : Turn S) → IsNoFault turn → IsNoFault (unless x s turn)
unless_none None s turn h = h
unless_none (Some why) s turn h = refused_none s (refusal_of why)

waits_none : (r : Standing) → IsNoFault (waits r)
waits_none r old e = no e
  where
    no : answer.Waits ≡ answer.Corrupted old → ⊥
    no p = cc

-- a pass is granted, or waits
reply_none : (b : Base) (privileged : Bool) (number result old : ℕ) → answer_of (shifted_reply b (cond privileged (reply_is.Granted number result) reply_is.NotPrivileged)) ≡ answer.Corrupted old → ⊥
reply_none b true number result old e = no _ _ e
  where
    no : (x y : ℕ) → answer.Granted x y ≡ answer.Corrupted old → ⊥
    no x y p = cc
reply_none b false number result old e = no e
  where
    no : answer.Waits ≡ answer.Corrupted old → ⊥
    no p = cc

pass_none : (r : Standing) (ring seat machine order : ℕ) → IsNoFault (passed ring r seat machine order)
pass_none r ring seat machine order = unless_none (pass_refusal (bounds_now r) seat machine) r _ (λ old e. reply_none r.base (is_privileged (state_of r).ring.values machine) _ _ old e)

try_none : (r : Standing) (ring seat machine order : ℕ) (privileged : Bool) → IsNoFault (if privileged then passed ring r seat machine order else unless (place_refusal (bounds_now r) seat machine) r (waits r))
try_none r ring seat machine order true = pass_none r ring seat machine order
try_none r ring seat machine order false = unless_none (place_refusal (bounds_now r) seat machine) r (waits r) (waits_none r)

turn_none : (r : Standing) (command : Command) → is_off false command ≡ false → IsNoFault (turn_at r command)
turn_none r (pass ring seat machine order) on = pass_none r ring seat machine order
turn_none r (try ring seat machine order) on = try_none r ring seat machine order (is_privileged (state_of r).ring.values machine)
turn_none r (corrupt ring seat machine value) on = absurd (no on)
  where
    no : true ≡ false → ⊥
    no p = cc
turn_none r (group ring seat order machines) on = unless_none (group_refusal (bounds_now r) seat machines) r _ (λ old e. no _ _ old e)
  where
    no : (a b old : ℕ) → answer.Block a b ≡ answer.Corrupted old → ⊥
    no a b old p = cc
turn_none r (survey ring seat) on = unless_none (seat_refusal (bounds_now r) seat) r _ (λ old e. no _ old e)
  where
    no : (s : _) (old : ℕ) → answer.Survey s ≡ answer.Corrupted old → ⊥
    no s old p = cc
turn_none r (glance ring) on = λ old e. no _ old e
  where
    no : (s : _) (old : ℕ) → answer.Survey s ≡ answer.Corrupted old → ⊥
    no s old p = cc
turn_none r (save name) on = λ old e. no old e
  where
    no : (old : ℕ) → answer.Saved ≡ answer.Corrupted old → ⊥
    no old p = cc

among_none : (rings : List Standing) (command : Command) (x : Option Standing) → is_off false command ≡ false → IsNoFault (turn_among rings command x)
among_none rings command None on = refused_none rings refusal.NoRing
among_none rings command (Some r) on = turn_none r command on

heard_none : (rings : List Standing) (x : Option Command) → IsNoFault (heard_turn false rings x)
heard_none rings (Some command) = go (is_off false command) refl
  where
    go : (off : Bool) → is_off false command ≡ off → IsNoFault (if off then refused rings refusal.Off else turn_of rings command)
    go true e = refused_none rings refusal.Off
    go false e = among_none rings command _ e
heard_none rings None = refused_none rings refusal.OrderTooLarge

pub no_fault : (rings : List Standing) (line : List ℕ) (turn : Turn (List Standing)) → IsTurnOfLine false rings line turn → (old : ℕ) → turn.answer ≡ answer.Corrupted old → ⊥
no_fault rings line turn (inl (inl h)) = subst (λ (t : Turn (List Standing)). IsNoFault t) (sym h.2) (heard_none rings (heard h.0))
no_fault rings line turn (inl (inr h)) = subst (λ (t : Turn (List Standing)). IsNoFault t) (sym h.1) (refused_none rings refusal.Syntax)
no_fault rings line turn (inr e) = subst (λ (t : Turn (List Standing)). IsNoFault t) (sym e) (refused_none rings refusal.OutOfMemory)
