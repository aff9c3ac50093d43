-- A legal run of events without a corruption: its values and its granted machines are those of the passes that it asks for.
use Rattle.std.proofs.Common.{◌≡◌, ℕ, ◌+◌, Bool, true, false, cond, List, [], ◌∷◌, length, refl, sym, ◌∙◌, ap, subst, arith}
use Rattle.std.specs.Prelude.{count_by}
use Rattle.std.proofs.lemmas.Bool.{true≢false, cond-true, cond-false}
use Rattle.std.proofs.lemmas.List.Sums.{sum_by-cons}
use Rattle.ring_model.specs.Numbers.{bit}
use Rattle.ring_model.specs.Ring.{Ring, is_privileged, moved}
use Rattle.ring_model.specs.Runs.{passed, after_passes, granted_passes, AreBelow}
use Rattle.ring_model.specs.History.{Works, State, StepOf, next, after, IsLegal}
use Rattle.ring_model.specs.Surveys.{is_granted, is_corrupted, granted_count, corrupted_count}
use Rattle.ring_model.specs.Grants.{is_grant_of, grants_of, and_asked, asked_machines, and_granted, granted_machines}
use Rattle.ring_model.specs.declared.events.Op.{Op}
use Rattle.ring_model.specs.declared.events.Op.TheVariants.{Pass, Member, Corrupt}
use Rattle.ring_model.specs.declared.events.Reply.{Reply}
use Rattle.ring_model.specs.declared.events.Reply.TheVariants.{Granted, NotPrivileged, Corrupted}
use Rattle.ring_model.specs.declared.events.Event.{Event}
use Rattle.ring_model.proofs.Moves.{length_move}
use Rattle.ring_model.proofs.Runs.{pass_granted, pass_idle}

-- counts of events, one event at a time

pub bit_is : (b : Bool) → cond {A = ℕ} b 1 0 ≡ bit b
bit_is true = refl
bit_is false = refl

pub count_events-cons : (p : Event → Bool) (e : Event) (es : List Event) → count_by p (e ∷ es) ≡ bit (p e) + count_by p es
count_events-cons p e es = sum_by-cons (λ (u : Event). cond {A = ℕ} (p u) 1 0) e es ∙ ap (λ n. n + count_by p es) (bit_is (p e))

pub granted_count-cons : (e : Event) (es : List Event) → granted_count (e ∷ es) ≡ bit (is_granted e.reply) + granted_count es
granted_count-cons e es = count_events-cons (λ (u : Event). is_granted u.reply) e es

pub corrupted_count-cons : (e : Event) (es : List Event) → corrupted_count (e ∷ es) ≡ bit (is_corrupted e.reply) + corrupted_count es
corrupted_count-cons e es = count_events-cons (λ (u : Event). is_corrupted u.reply) e es

pub grants_of-cons : (i : ℕ) (e : Event) (es : List Event) → grants_of i (e ∷ es) ≡ bit (is_grant_of i e.op e.reply) + grants_of i es
grants_of-cons i e es = count_events-cons (λ (u : Event). is_grant_of i u.op u.reply) e es

-- where none is a corruption, the first is not, and none of the others
pub quiet_parts : (e : Event) (es : List Event) → corrupted_count (e ∷ es) ≡ 0 → (is_corrupted e.reply ≡ false) × (corrupted_count es ≡ 0)
quiet_parts e es q =
    let c : corrupted_count (e ∷ es) ≡ bit (is_corrupted e.reply) + corrupted_count es = corrupted_count-cons e es in
    (off (is_corrupted e.reply) (omega arith), omega arith)
  where
    off : (b : Bool) → bit b ≡ 0 → b ≡ false
    off true z = absurd (omega arith)
    off false z = refl

pub granted_on : (r : Ring) (i : ℕ) (choices : List ℕ) → is_privileged r.values i ≡ true →
    granted_passes r (i ∷ choices) ≡ i ∷ granted_passes (moved r i) choices
granted_on r i choices e =
    cond-true (is_privileged r.values i) (i ∷ granted_passes (passed r i) choices) (granted_passes (passed r i) choices) e
    ∙ ap (λ (t : Ring). i ∷ granted_passes t choices) (pass_granted r i e)

pub granted_off : (r : Ring) (i : ℕ) (choices : List ℕ) → is_privileged r.values i ≡ false → granted_passes r (i ∷ choices) ≡ granted_passes r choices
granted_off r i choices e =
    cond-false (is_privileged r.values i) (i ∷ granted_passes (passed r i) choices) (granted_passes (passed r i) choices) e
    ∙ ap (λ (t : Ring). granted_passes t choices) (pass_idle r i e)

-- one step that is not a corruption, from ring s to ring t: a pass
pub record IsPassed (s : Ring) (o : Op) (r : Reply) (t : Ring) : Type 0 where
  pub state : (choices : List ℕ) → after_passes s (and_asked o choices) ≡ after_passes t choices
  pub grants : (choices : List ℕ) → granted_passes s (and_asked o choices) ≡ and_granted o r (granted_passes t choices)
  pub below : (choices : List ℕ) → AreBelow (length s.values) choices → AreBelow (length s.values) (and_asked o choices)
  pub size : length t.values ≡ length s.values
  pub count : (machines : List ℕ) → length (and_granted o r machines) ≡ bit (is_granted r) + length machines

pub quiet_step : {C : Type 0} (w : Works C) (a : State C) (o : Op) (r : Reply) → StepOf w a o r (next w a o) → is_corrupted r ≡ false →
    IsPassed a.ring o r (next w a o).ring
quiet_step w a (Pass i order) (Granted number result) h q =
    let e : is_privileged a.ring.values i ≡ true = h.1 in
    rw e (record {
      state = λ choices. ap (λ (t : Ring). after_passes t choices) (pass_granted a.ring i e);
      grants = λ choices. granted_on a.ring i choices e;
      below = λ choices b. (h.0, b);
      size = length_move a.ring i;
      count = λ machines. omega arith;
    })
quiet_step w a (Pass i order) NotPrivileged h q =
    let e : is_privileged a.ring.values i ≡ false = h.1 in
    rw e (record {
      state = λ choices. ap (λ (t : Ring). after_passes t choices) (pass_idle a.ring i e);
      grants = λ choices. granted_off a.ring i choices e;
      below = λ choices b. (h.0, b);
      size = refl;
      count = λ machines. omega arith;
    })
quiet_step w a (Pass i order) (Corrupted old) h q = absurd h
quiet_step w a (Member i order left) (Granted number result) h q =
    let e : is_privileged a.ring.values i ≡ true = h.1 in
    rw e (record {
      state = λ choices. ap (λ (t : Ring). after_passes t choices) (pass_granted a.ring i e);
      grants = λ choices. granted_on a.ring i choices e;
      below = λ choices b. (h.0, b);
      size = length_move a.ring i;
      count = λ machines. omega arith;
    })
quiet_step w a (Member i order left) NotPrivileged h q = absurd h
quiet_step w a (Member i order left) (Corrupted old) h q = absurd h
quiet_step w a (Corrupt i v) (Granted number result) h q = absurd h
quiet_step w a (Corrupt i v) NotPrivileged h q = absurd h
quiet_step w a (Corrupt i v) (Corrupted old) h q = absurd (true≢false q)

-- the whole run
pub record IsPassedAll (s : Ring) (es : List Event) (t : Ring) : Type 0 where
  pub state : t ≡ after_passes s (asked_machines es)
  pub grants : granted_machines es ≡ granted_passes s (asked_machines es)
  pub below : AreBelow (length s.values) (asked_machines es)
  pub size : length t.values ≡ length s.values
  pub count : granted_count es ≡ length (granted_machines es)

pub quiet_run : {C : Type 0} (w : Works C) (a : State C) (es : List Event) → IsLegal w a es → corrupted_count es ≡ 0 →
    IsPassedAll a.ring es (after w a es).ring
quiet_run w a [] h q = record { state = refl; grants = refl; below = tt; size = refl; count = refl }
quiet_run w a (e ∷ es) h q =
    let parts = quiet_parts e es q in
    let one = quiet_step w a e.op e.reply h.0 parts.0 in
    let more = quiet_run w (next w a e.op) es h.1 parts.1 in
    let c = granted_count-cons e es in
    let d = one.count (granted_machines es) in
    let f = more.count in
    record {
      state = more.state ∙ sym (one.state (asked_machines es));
      grants = ap (λ (gs : List ℕ). and_granted e.op e.reply gs) more.grants ∙ sym (one.grants (asked_machines es));
      below = one.below (asked_machines es) (subst (λ n. AreBelow n (asked_machines es)) one.size more.below);
      size = more.size ∙ one.size;
      count = omega arith;
    }
