-- Facts for the loops of the plain programs, one turn further and at their ends.
use Rattle.std.proofs.Common.{◌≡◌, ℕ, zero, suc, ◌+◌, ◌-◌, ◌%◌, ◌<◌, ◌≤◌, ◌≢◌, Bool, true, false, List, length, get_or, refl, sym, ◌∙◌, ap, arith}
use Rattle.std.proofs.lemmas.Bool.{cond-true, cond-false, both_ways, false_from_ne_true}
use Rattle.ring_model.specs.Numbers.{sum_below, bit, count_below, least}
use Rattle.ring_model.specs.Ring.{Ring, is_privileged, weight_at, is_absent, first_value_is_prefix, lead}
use Rattle.ring_model.proofs.Below.{least_from, least_le, least_passes}
use Rattle.ring_model.proofs.Weight.{pull_true, pull_false}
use Rattle.ring_model.proofs.Lead.{absent_from, absent_true, front_true}
use Rattle.std.proofs.Common.{take}
use Rattle.std.proofs.lemmas.List.{take_more}
use Rattle.ring_model.specs.Surveys.{calm}
use Rattle.ring_model.specs.declared.events.Reply.{Reply}
use Rattle.ring_model.specs.declared.events.Event.{Event}
use Rattle.ring_model.proofs.Histories.{calm_next, calm-push}

-- a running count and a running sum
pub count_more : (p : ℕ → Bool) (i : ℕ) → count_below p (i + 1) ≡ count_below p i + bit (p i)
count_more p i = let e : i + 1 ≡ suc i = omega arith in ap (count_below p) e

pub sum_more : (f : ℕ → ℕ) (i : ℕ) → sum_below f (i + 1) ≡ sum_below f i + f i
sum_more f i = let e : i + 1 ≡ suc i = omega arith in ap (sum_below f) e

-- a search that has found its number, and one that has not
pub least_at : (p : ℕ → Bool) (from turns m : ℕ) → from ≤ m → m < from + turns → p m ≡ true → ((k : ℕ) → from ≤ k → k < m → p k ≡ false) → m ≡ least p from turns
least_at p from turns m low high e h =
    let le : least p from turns ≤ m = least_le p from turns m low e in
    let ge : from ≤ least p from turns = least_from p from turns in
    let on : p (least p from turns) ≡ true = least_passes p from turns (omega arith) in
    let not_less : least p from turns < m → ⊥ = λ l. both_ways (p (least p from turns)) (h (least p from turns) ge l) on in
    omega arith

pub least_none : (p : ℕ → Bool) (from turns : ℕ) → ((k : ℕ) → from ≤ k → k < from + turns → p k ≡ false) → least p from turns ≡ from + turns
least_none p from zero h = omega arith
least_none p from (suc turns) h =
    let off : p from ≡ false = h from (omega arith) (omega arith) in
    let more : least p (suc from) turns ≡ suc from + turns = least_none p (suc from) turns (λ k l g. h k (omega arith) (omega arith)) in
    cond-false (p from) from (least p (suc from) turns) off ∙ omega arith

-- the part of a machine past machine 0 in the weight
pub weight_on : (s : List ℕ) (i : ℕ) → 1 ≤ i → is_privileged s i ≡ true → weight_at s i ≡ length s - i
weight_on s zero l e = absurd (omega arith)
weight_on s (suc i) l e = pull_true s i e

pub weight_off : (s : List ℕ) (i : ℕ) → is_privileged s i ≡ false → weight_at s i ≡ 0
weight_off s zero e = refl
weight_off s (suc i) e = pull_false s i e

-- the tests after the lead
pub absent_past : (s : List ℕ) (v : ℕ) → ((k : ℕ) → 1 ≤ k → k < length s → get_or s k 0 ≢ v) → is_absent s v ≡ true
absent_past s v h = absent_from s v (λ k l. h (suc k) (omega arith) l)

pub present_at : (s : List ℕ) (v i : ℕ) → 1 ≤ i → i < length s → get_or s i 0 ≡ v → is_absent s v ≡ false
present_at s v zero o l e = absurd (omega arith)
present_at s v (suc i) o l e = false_from_ne_true (is_absent s v) (λ q. absent_true s v q i l e)

pub no_prefix_at : (s : List ℕ) (i : ℕ) → 1 ≤ i → i < length s → get_or s (i - 1) 0 ≢ get_or s 0 0 → get_or s i 0 ≡ get_or s 0 0 → first_value_is_prefix s ≡ false
no_prefix_at s zero o l ne e = absurd (omega arith)
no_prefix_at s (suc i) o l ne e =
    false_from_ne_true (first_value_is_prefix s) (λ q. ne (let at : suc i - 1 ≡ i = omega arith in ap (λ x. get_or s x 0) at ∙ front_true s q i l e))

-- the lead, found after j steps or not at all
pub lead_at : (r : Ring) (j : ℕ) → first_value_is_prefix r.values ≡ false → 1 ≤ j → j < r.k + 1 → is_absent r.values ((get_or r.values 0 0 + j) % r.k) ≡ true →
    ((i : ℕ) → 1 ≤ i → i < j → is_absent r.values ((get_or r.values 0 0 + i) % r.k) ≡ false) → j ≡ lead r
lead_at r j f one top e h =
    let p : ℕ → Bool = λ i. is_absent r.values ((get_or r.values 0 0 + i) % r.k) in
    least_at p 1 r.k j one (omega arith) e h ∙ sym (cond-false (first_value_is_prefix r.values) 0 (least p 1 r.k) f)

pub lead_none : (r : Ring) → first_value_is_prefix r.values ≡ false → ((i : ℕ) → 1 ≤ i → i < r.k + 1 → is_absent r.values ((get_or r.values 0 0 + i) % r.k) ≡ false) → r.k + 1 ≡ lead r
lead_none r f h =
    let p : ℕ → Bool = λ i. is_absent r.values ((get_or r.values 0 0 + i) % r.k) in
    let none : least p 1 r.k ≡ 1 + r.k = least_none p 1 r.k (λ k l g. h k l (omega arith)) in
    let e : lead r ≡ least p 1 r.k = cond-false (first_value_is_prefix r.values) 0 (least p 1 r.k) f in
    omega arith

pub lead_prefix : (r : Ring) → first_value_is_prefix r.values ≡ true → 0 ≡ lead r
lead_prefix r f = sym (cond-true (first_value_is_prefix r.values) 0 (least (λ i. is_absent r.values ((get_or r.values 0 0 + i) % r.k)) 1 r.k) f)

-- the calm, one event further
pub calm_more : (es : List Event) (i : ℕ) (d : Event) (r : Reply) → i < length es → (get_or es i d).reply ≡ r → calm (take (i + 1) es) ≡ calm_next (calm (take i es)) r
calm_more es i d r l e =
    ap (λ (x : List Event). calm x) (take_more es i d l) ∙ (calm-push (take i es) (get_or es i d) ∙ ap (calm_next (calm (take i es))) e)
