-- That steps are the calls in range, and runs of choices the histories without a corruption.
use Rattle.std.proofs.Common.{◌≡◌, ℕ, Bool, true, false, List, [], ◌∷◌, length, refl, sym, ap, subst, arith}
use Rattle.ring_model.specs.Numbers.{bit}
use Rattle.ring_model.specs.Ring.{is_privileged}
use Rattle.ring_model.specs.Runs.{AreBelow}
use Rattle.ring_model.specs.History.{Works, State, StepOf, next, reply}
use Rattle.ring_model.specs.Surveys.{is_corrupted, corrupted_count}
use Rattle.ring_model.specs.Steps.{IsInRange, StepsAreCalls, CallsHaveSteps, HistoriesAreRuns, RunsAreHistories}
use Rattle.ring_model.specs.declared.events.Op.{Op}
use Rattle.ring_model.specs.declared.events.Op.TheVariants.{Pass, Member, Corrupt}
use Rattle.ring_model.specs.declared.events.Reply.{Reply}
use Rattle.ring_model.specs.declared.events.Reply.TheVariants.{Granted, NotPrivileged, Corrupted}
use Rattle.ring_model.specs.declared.events.Event.{Event}
use Rattle.ring_model.proofs.Moves.{length_move}
use Rattle.ring_model.proofs.Histories.{StepOf-next, StepOf-reply}
use Rattle.ring_model.proofs.QuietRuns.{quiet_run, corrupted_count-cons}

in_range : {C : Type 0} (w : Works C) (a : State C) (o : Op) (r : Reply) (b : State C) → StepOf w a o r b → IsInRange a.ring o
in_range w a (Pass i order) (Granted number result) b h = h.0
in_range w a (Pass i order) NotPrivileged b h = h.0
in_range w a (Pass i order) (Corrupted old) b h = absurd h
in_range w a (Member i order left) (Granted number result) b h = (h.0, h.1)
in_range w a (Member i order left) NotPrivileged b h = absurd h
in_range w a (Member i order left) (Corrupted old) b h = absurd h
in_range w a (Corrupt i v) (Granted number result) b h = absurd h
in_range w a (Corrupt i v) NotPrivileged b h = absurd h
in_range w a (Corrupt i v) (Corrupted old) b h = (h.0, h.1)

pub steps_are_calls : {C : Type 0} → StepsAreCalls C
steps_are_calls w a e b h = (in_range w a e.op e.reply b h, StepOf-reply w a e.op e.reply b h, StepOf-next w a e.op e.reply b h)

call_step : {C : Type 0} (w : Works C) (a : State C) (o : Op) → IsInRange a.ring o → StepOf w a o (reply w a o) (next w a o)
call_step w a (Pass i order) h = go (is_privileged a.ring.values i) refl
  where
    go : (p : Bool) → is_privileged a.ring.values i ≡ p → StepOf w a (Pass i order) (reply w a (Pass i order)) (next w a (Pass i order))
    go true e = rw e (h, e, refl, refl, refl)
    go false e = rw e (h, e, refl)
call_step w a (Member i order left) h = let e : is_privileged a.ring.values i ≡ true = h.1 in rw e (h.0, e, refl, refl, refl)
call_step w a (Corrupt i v) h = (h.0, h.1, refl, refl)

pub calls_have_steps : {C : Type 0} → CallsHaveSteps C
calls_have_steps w a seat o h = call_step w a o h

pub histories_are_runs : {C : Type 0} → HistoriesAreRuns C
histories_are_runs w a h legal quiet =
    let run = quiet_run w a h legal quiet in
    (run.below, run.state, run.grants)

kept_size : {C : Type 0} (w : Works C) (a : State C) (i order : ℕ) → length (next w a (Pass i order)).ring.values ≡ length a.ring.values
kept_size w a i order = go (is_privileged a.ring.values i) refl
  where
    go : (p : Bool) → is_privileged a.ring.values i ≡ p → length (next w a (Pass i order)).ring.values ≡ length a.ring.values
    go true e = rw e (length_move a.ring i)
    go false e = rw e refl

no_fault : {C : Type 0} (w : Works C) (a : State C) (i order : ℕ) → is_corrupted (reply w a (Pass i order)) ≡ false
no_fault w a i order = go (is_privileged a.ring.values i) refl
  where
    go : (p : Bool) → is_privileged a.ring.values i ≡ p → is_corrupted (reply w a (Pass i order)) ≡ false
    go true e = rw e refl
    go false e = rw e refl

pub runs_are_histories : {C : Type 0} → RunsAreHistories C
runs_are_histories w a seat order [] b = ([], tt, refl, refl)
runs_are_histories w a seat order (i ∷ choices) b =
    let e : Event = record { seat = seat; op = Pass i order; reply = reply w a (Pass i order) } in
    let more = runs_are_histories w (next w a (Pass i order)) seat order choices (subst (λ n. AreBelow n choices) (sym (kept_size w a i order)) b.1) in
    let c = corrupted_count-cons e more.0 in
    let q : bit (is_corrupted e.reply) ≡ 0 = ap bit (no_fault w a i order) in
    let z : corrupted_count more.0 ≡ 0 = more.2 in
    (e ∷ more.0, (call_step w a (Pass i order) b.0, more.1), omega arith, ap (λ (xs : List ℕ). i ∷ xs) more.3)
