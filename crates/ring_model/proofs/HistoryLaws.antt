-- The laws of settlement over every legal history: of quiet runs first, and then at the places of a history.
use Rattle.std.proofs.Common.{◌≡◌, ℕ, ◌+◌, ◌-◌, ◌<◌, ◌≤◌, Bool, true, false, not, List, [], ◌∷◌, length, take, refl, sym, ◌∙◌, ap, subst, inl, inr, arith}
use Rattle.std.specs.Prelude.{◌&&◌}
use Rattle.std.proofs.lemmas.Bool.{cases_Bool, cond-true, cond-false, eqb-true, and_parts}
use Rattle.ring_model.specs.Numbers.{bit}
use Rattle.ring_model.specs.Ring.{Ring, IsRing, is_privileged, privileged_count, is_settled, first_privileged, rest, bound}
use Rattle.ring_model.specs.Runs.{after_passes, granted_passes, GoesRoundFrom}
use Rattle.ring_model.specs.History.{Works, State, next, after, IsLegal}
use Rattle.ring_model.specs.Surveys.{is_corrupted, granted_count, corrupted_count, calm}
use Rattle.ring_model.specs.Grants.{is_grant_of, grants_of, asked_machines, and_granted, granted_machines, is_settled_run, settled_run, settled_grants_of}
use Rattle.ring_model.specs.HistoryLaws.{values_at, rest_at, between, Settlement, HistoryDescent, HistorySettles, HistoryCalm, HistoryRound, HistoryFairness, HistorySurveys, HistoryKeepsRing}
use Rattle.ring_model.specs.declared.events.Op.{Op}
use Rattle.ring_model.specs.declared.events.Op.TheVariants.{Pass, Member, Corrupt}
use Rattle.ring_model.specs.declared.events.Reply.{Reply}
use Rattle.ring_model.specs.declared.events.Reply.TheVariants.{Granted, NotPrivileged, Corrupted}
use Rattle.ring_model.specs.declared.events.Event.{Event}
use Rattle.ring_model.proofs.Settled.{count_positive, first_is, rest_zero}
use Rattle.ring_model.proofs.Below.{count_le}
use Rattle.ring_model.proofs.Runs.{run_descent, round}
use Rattle.ring_model.proofs.QuietRuns.{quiet_run, corrupted_count-cons, grants_of-cons}
use Rattle.ring_model.proofs.Places.{front_legal, between_legal, between_after, kept_after, calm_after}
use Rattle.ring_model.proofs.Fairness.{times, fair_round, round_from}

-- quiet runs

-- a run without a corruption lowers the rest by its granted passes, down to 0
pub quiet_descent : {C : Type 0} (w : Works C) (a : State C) (es : List Event) → IsRing a.ring → IsLegal w a es → corrupted_count es ≡ 0 →
    rest (after w a es).ring ≤ rest a.ring - granted_count es
quiet_descent w a es g l q =
    let run = quiet_run w a es l q in
    let d : rest (after_passes a.ring (asked_machines es)) ≤ rest a.ring - length (granted_passes a.ring (asked_machines es)) =
    run_descent a.ring (asked_machines es) g run.below in
    let n : granted_count es ≡ length (granted_passes a.ring (asked_machines es)) = run.count ∙ ap (λ (x : List ℕ). length x) run.grants in
    let e : rest (after w a es).ring ≡ rest (after_passes a.ring (asked_machines es)) = ap rest run.state in
    omega arith

-- from a settled state on it stays settled, and its granted passes go round from the privileged machine
pub quiet_round : {C : Type 0} (w : Works C) (a : State C) (es : List Event) → IsRing a.ring → IsLegal w a es → corrupted_count es ≡ 0 →
    is_settled a.ring.values ≡ true →
    (is_settled (after w a es).ring.values ≡ true) × GoesRoundFrom (length a.ring.values) (first_privileged a.ring.values) (granted_machines es)
quiet_round w a es g l q u =
    let run = quiet_run w a es l q in
    let r = round a.ring (asked_machines es) g run.below u in (
      ap (λ (x : Ring). is_settled x.values) run.state ∙ r.0,
      subst (λ (x : List ℕ). GoesRoundFrom (length a.ring.values) (first_privileged a.ring.values) x) (sym run.grants) r.1,
    )

-- a machine's granted passes are its places among the granted machines
pub grants_of_times : (i : ℕ) (es : List Event) → grants_of i es ≡ times i (granted_machines es)
grants_of_times i [] = refl
grants_of_times i (e ∷ es) =
    let ih = grants_of_times i es in
    let c = grants_of-cons i e es in
    let one : times i (and_granted e.op e.reply (granted_machines es)) ≡ bit (is_grant_of i e.op e.reply) + times i (granted_machines es) =
    one_more e.op e.reply (granted_machines es) in
    omega arith
  where
    one_more : (o : Op) (r : Reply) (ms : List ℕ) → times i (and_granted o r ms) ≡ bit (is_grant_of i o r) + times i ms
    one_more (Pass machine order) (Granted number result) ms = refl
    one_more (Pass machine order) NotPrivileged ms = omega arith
    one_more (Pass machine order) (Corrupted old) ms = omega arith
    one_more (Member machine order left) (Granted number result) ms = refl
    one_more (Member machine order left) NotPrivileged ms = omega arith
    one_more (Member machine order left) (Corrupted old) ms = omega arith
    one_more (Corrupt machine value) r ms = omega arith

-- the settled run

-- a settled run has no corruption
pub settled_quiet : {C : Type 0} (w : Works C) (a : State C) (es : List Event) → is_settled_run w a es ≡ true → corrupted_count es ≡ 0
settled_quiet w a [] u = refl
settled_quiet w a (e ∷ es) u =
    let p = and_parts (is_settled a.ring.values) (not (is_corrupted e.reply) && is_settled_run w (next w a e.op) es) u in
    let q = and_parts (not (is_corrupted e.reply)) (is_settled_run w (next w a e.op) es) p.1 in
    let c = corrupted_count-cons e es in
    let ih = settled_quiet w (next w a e.op) es q.1 in
    let z = off (is_corrupted e.reply) q.0 in
    omega arith
  where
    off : (b : Bool) → not b ≡ true → bit b ≡ 0
    off true n = absurd (cc)
    off false n = refl

-- in a legal settled run two machines' granted passes differ by at most 1
pub run_fair : {C : Type 0} (w : Works C) (a : State C) (es : List Event) (i j : ℕ) → IsRing a.ring → IsLegal w a es →
    is_settled_run w a es ≡ true → i < length a.ring.values → j < length a.ring.values → grants_of i es ≤ grants_of j es + 1
run_fair w a [] i j g l u li lj = omega arith
run_fair w a (e ∷ es) i j g l u li lj =
    let n : ℕ = length a.ring.values in
    let two = g.two in
    let here = (and_parts (is_settled a.ring.values) (not (is_corrupted e.reply) && is_settled_run w (next w a e.op) es) u).0 in
    let r = quiet_round w a (e ∷ es) g l (settled_quiet w a (e ∷ es) u) here in
    let f = first_is a.ring.values (omega arith) in
    let fair = fair_round n (first_privileged a.ring.values) (granted_machines (e ∷ es)) i j f.0 li lj r.1 in
    let gi = grants_of_times i (e ∷ es) in
    let gj = grants_of_times j (e ∷ es) in
    omega arith

pub settled_fair : {C : Type 0} (w : Works C) (a : State C) (h : List Event) (n i j : ℕ) → IsRing a.ring → IsLegal w a h →
    length a.ring.values ≡ n → i < n → j < n → settled_grants_of w a i h ≤ settled_grants_of w a j h + 1
settled_fair w a [] n i j g l s li lj = omega arith
settled_fair w a (e ∷ es) n i j g l s li lj = elim (cases_Bool (is_settled_run w a (e ∷ es))) [
  | inl u ↦
      let here : settled_run w a (e ∷ es) ≡ e ∷ es = cond-true (is_settled_run w a (e ∷ es)) (e ∷ es) (settled_run w (next w a e.op) es) u in
      let fair = run_fair w a (e ∷ es) i j g l u (omega arith) (omega arith) in
      rw here fair
  | inr u ↦
      let there : settled_run w a (e ∷ es) ≡ settled_run w (next w a e.op) es = cond-false (is_settled_run w a (e ∷ es)) (e ∷ es) (settled_run w (next w a e.op) es) u in
      let kept = kept_after w a (e ∷ []) g (l.0, tt) in
      rw there (settled_fair w (next w a e.op) es n i j kept.ring l.1 (kept.size ∙ s) li lj)
]

-- every legal history

pub history_keeps_ring : {C : Type 0} → HistoryKeepsRing C
history_keeps_ring w a h g l p le =
    let kept = kept_after w a (take p h) g (front_legal w a h p l) in
    (kept.same, kept.size, kept.ring)

pub history_descent : {C : Type 0} → HistoryDescent C
history_descent w a h g l p q le lq quiet =
    let kept = kept_after w a (take p h) g (front_legal w a h p l) in
    rw (between_after w a h p q le) (quiet_descent w (after w a (take p h)) (between h p q) kept.ring (between_legal w a h p q le l) quiet)

-- where the rest is 0 the ring is settled
pub settled_at : {C : Type 0} (w : Works C) (a : State C) (h : List Event) (q : ℕ) → IsRing a.ring → IsLegal w a h →
    rest_at w a h q ≡ 0 → is_settled (values_at w a h q) ≡ true
settled_at w a h q g l z =
    let kept = kept_after w a (take q h) g (front_legal w a h q l) in
    let two = kept.ring.two in
    rest_zero (after w a (take q h)).ring (omega arith) z

pub history_calm : {C : Type 0} → HistoryCalm C
history_calm w a h g l q lq = calm_after w a g (take q h) (front_legal w a h q l)

pub history_settles : {C : Type 0} → HistorySettles C
history_settles w a h g l = (
  (λ p q le lq quiet many.
      let d : rest_at w a h q ≤ rest_at w a h p - granted_count (between h p q) = history_descent w a h g l p q le lq quiet in
      settled_at w a h q g l (omega arith)),
  λ q lq many.
      let d : rest_at w a h q ≤ bound (length a.ring.values) - calm (take q h) = history_calm w a h g l q lq in
      settled_at w a h q g l (omega arith),
)

pub history_round : {C : Type 0} → HistoryRound C
history_round w a h g l p q le lq quiet u =
    let n : ℕ = length a.ring.values in
    let f : ℕ = first_privileged (values_at w a h p) in
    let kept = kept_after w a (take p h) g (front_legal w a h p l) in
    let r = quiet_round w (after w a (take p h)) (between h p q) kept.ring (between_legal w a h p q le l) quiet u in
    let goes : GoesRoundFrom n f (granted_machines (between h p q)) = subst (λ m. GoesRoundFrom m f (granted_machines (between h p q))) kept.size r.1 in
    (ap (λ (b : State _). is_settled b.ring.values) (between_after w a h p q le) ∙ r.0, round_from n f (granted_machines (between h p q)) goes, goes)

pub history_fairness : {C : Type 0} → HistoryFairness C
history_fairness w a h g l i j li lj = settled_fair w a h (length a.ring.values) i j g l refl li lj

pub history_surveys : {C : Type 0} → HistorySurveys C
history_surveys w a h g l p lp =
    let s : List ℕ = values_at w a h p in
    let kept = kept_after w a (take p h) g (front_legal w a h p l) in
    let two = kept.ring.two in
    let size = kept.size in
    let some = count_positive s (omega arith) in
    let few : privileged_count s ≤ length s = count_le (is_privileged s) (length s) in
    let f = (first_is s (omega arith)).0 in
    let d : rest_at w a h p ≤ bound (length a.ring.values) - calm (take p h) = history_calm w a h g l p lp in
    (some, omega arith, omega arith, d, λ many. (eqb-true (privileged_count s) 1 ((history_settles w a h g l).1 p lp many), omega arith))

-- all of them
pub settlement : {C : Type 0} (w : Works C) (a : State C) (h : List Event) → IsRing a.ring → IsLegal w a h → Settlement w a h
settlement w a h g l = record {
  descends = history_descent w a h g l;
  settles = (history_settles w a h g l).0;
  calm_bounds_rest = history_calm w a h g l;
  calm_settles = (history_settles w a h g l).1;
  stays_round = history_round w a h g l;
  fair = history_fairness w a h g l;
  surveys_tell = history_surveys w a h g l;
}
