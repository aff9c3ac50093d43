-- The trials of a study: their starts are rings, and each is counted once.
use Rattle.std.proofs.Common.{◌≡◌, ◌≢◌, ℕ, zero, suc, ◌+◌, ◌-◌, ◌/◌, ◌%◌, ◌<◌, ◌≤◌, ◌==◌, Bool, true, false, cond, List, [], ◌∷◌, ◌++◌, length, get_or, refl, sym, ◌∙◌, ap, subst, inl, inr, arith, below_more}
use Rattle.std.proofs.lemmas.Bool.{cases_eq, cases_lt, cases_Bool, cond-true, cond-false, eq-eqb, ne_eqb}
use Rattle.std.proofs.lemmas.List.{get_or-set_same, get_or-set_other, length-set}
use Rattle.std.proofs.Math.ListN.{set}
use Rattle.std.specs.Prelude.{nat_le, nat_lt}
use Rattle.rand_pcg.specs.Lcg.{Lcg}
use Rattle.ring_model.specs.Numbers.{bit, count_below}
use Rattle.ring_model.specs.Ring.{Ring, IsRing, ring_with, is_settled, bound}
use Rattle.ring_model.specs.Runs.{after_passes, granted_passes}
use Rattle.ring_model.specs.RepairLaws.{longest_repair}
use Rattle.ring_state.specs.Sizes.{Size, IsSize, size_of}
use Rattle.ring_repairs.specs.Draws.{draw, generator}
use Rattle.drawn_groups.specs.Groups.{group_choices}
use Rattle.drawn_groups.proofs.Choices.{groups_settle}
use Rattle.ring_repairs.specs.Daemons.{passes, daemon_choices}
use Rattle.ring_repairs.specs.Starts.{after_values, drawn_values, settled_value, Hits, hits_with, hit_by, hits, faulty, digits, numbered, start_values, start_left}
use Rattle.ring_repairs.specs.Histograms.{counted, IsEmpty}
use Rattle.ring_repairs.specs.Studies.{StudyData, IsStudy, trial_ring, trial_memory, trial_choices, trial_passes, IsCounted, AreRepairs, repairs_with}
use Rattle.ring_repairs.specs.TrialLaws.{TrialsStart, TrialsSettle, TrialsSettleFirst, TrialsAreGranted, TrialsAreBounded}
use Rattle.ring_repairs.specs.declared.daemons.Daemon.{Daemon}
use Rattle.ring_repairs.specs.declared.daemons.Memory.{Memory}
use Rattle.ring_repairs.specs.declared.starts.Start.{Start}
use Rattle.ring_repairs.specs.declared.starts.Start.TheVariants.{Any, Faults, All}
use Rattle.ring_repairs.proofs.Choices.{draw_less}
use Rattle.ring_repairs.specs.declared.daemons.Daemon.TheVariants.{Groups}
use Rattle.ring_repairs.proofs.Passing.{IsPassing, daemon_passing, daemon_unsettled, choices_else, choices_groups}
use Rattle.ring_repairs.proofs.Counting.{entry, counted_none, counted_set}
use Rattle.std.proofs.lemmas.Nat.{mod_below}
use Rattle.ring_repairs.proofs.Numbering.{digits_long}
use Rattle.ring_repairs.proofs.Starting.{drawn_long}

-- ---- a start is a ring

-- each value is below k
abbrev AreUnder : ℕ → List ℕ → Type 0
AreUnder k xs = (i : ℕ) → i < length xs → get_or xs i 0 < k

-- so are those of a list with one more
under_more : (k v : ℕ) (xs : List ℕ) → AreUnder k xs → v < k → AreUnder k (xs ++ v ∷ [])
under_more k v [] all l zero there = l
under_more k v [] all l (suc i) there = absurd (omega arith)
under_more k v (x ∷ xs) all l zero there = all 0 (omega arith)
under_more k v (x ∷ xs) all l (suc i) there = under_more k v xs (λ j lj. all (suc j) (omega arith)) l i (omega arith)

under_drawn : (k : ℕ) (g : Lcg) (n : ℕ) → 0 < k → AreUnder k (drawn_values k g n)
unfolding drawn_values
under_drawn k g zero some = λ i l. absurd (omega arith)
under_drawn k g (suc n) some =
    under_more k (draw k (after_values k g n)).0 (drawn_values k g n) (under_drawn k g n some) (draw_less k (after_values k g n) some)

cond_under : (b : Bool) (k : ℕ) → 2 ≤ k → cond {A = ℕ} b 1 0 < k
cond_under true k two = two
cond_under false k two = omega arith

long_more : (xs : List ℕ) (v : ℕ) → length (xs ++ v ∷ []) ≡ suc (length xs)
long_more [] v = refl
long_more (x ∷ xs) v = let ih = long_more xs v in omega arith

settled_under : (k p i : ℕ) → 2 ≤ k → settled_value p i < k
settled_under k p i two = cond_under (nat_le i p) k two

under_hit : (k old : ℕ) (h : Hits) (d : ℕ × Lcg) → 0 < k → old < k → AreUnder k h.values → AreUnder k (hit_by k old h d).values
under_hit k old h d some l all = elim (cases_Bool (nat_lt d.0 h.left)) [
  | inl on ↦
      subst (λ (x : Hits). AreUnder k x.values) (sym (cond-true (nat_lt d.0 h.left)
      (hits_with (h.values ++ (draw k d.1).0 ∷ []) (h.left - 1) (draw k d.1).1) (hits_with (h.values ++ old ∷ []) h.left d.1) on))
      (under_more k (draw k d.1).0 h.values all (draw_less k d.1 some))
  | inr off ↦
      subst (λ (x : Hits). AreUnder k x.values) (sym (cond-false (nat_lt d.0 h.left)
      (hits_with (h.values ++ (draw k d.1).0 ∷ []) (h.left - 1) (draw k d.1).1) (hits_with (h.values ++ old ∷ []) h.left d.1) off))
      (under_more k old h.values all l)
]

long_hit : (k old : ℕ) (h : Hits) (d : ℕ × Lcg) → length (hit_by k old h d).values ≡ suc (length h.values)
long_hit k old h d = elim (cases_Bool (nat_lt d.0 h.left)) [
  | inl on ↦
      ap (λ (x : Hits). length x.values) (cond-true (nat_lt d.0 h.left)
      (hits_with (h.values ++ (draw k d.1).0 ∷ []) (h.left - 1) (draw k d.1).1) (hits_with (h.values ++ old ∷ []) h.left d.1) on)
      ∙ long_more h.values (draw k d.1).0
  | inr off ↦
      ap (λ (x : Hits). length x.values) (cond-false (nat_lt d.0 h.left)
      (hits_with (h.values ++ (draw k d.1).0 ∷ []) (h.left - 1) (draw k d.1).1) (hits_with (h.values ++ old ∷ []) h.left d.1) off)
      ∙ long_more h.values old
]

under_hits : (size : Size) (p f : ℕ) (g : Lcg) (i : ℕ) → 2 ≤ size.k → AreUnder size.k (hits size p f g i).values
unfolding hits
under_hits size p f g zero two = λ j l. absurd (omega arith)
under_hits size p f g (suc i) two =
    under_hit size.k (settled_value p i) (hits size p f g i) (draw (size.n - i) (hits size p f g i).words) (omega arith) (settled_under size.k p i two)
    (under_hits size p f g i two)

long_hits : (size : Size) (p f : ℕ) (g : Lcg) (i : ℕ) → length (hits size p f g i).values ≡ i
unfolding hits
long_hits size p f g zero = refl
long_hits size p f g (suc i) =
    let ih = long_hits size p f g i in
    let more = long_hit size.k (settled_value p i) (hits size p f g i) (draw (size.n - i) (hits size p f g i).words) in
    omega arith

under_digits : (k number n : ℕ) → 0 < k → AreUnder k (digits k number n)
under_digits k number zero some = λ i l. absurd (omega arith)
under_digits k number (suc n) some = λ i. elim i as (λ j. j < length (digits k number (suc n)) → get_or (digits k number (suc n)) j 0 < k) [
  | zero ↦ λ l. mod_below number k some
  | suc j ↦ λ l. under_digits k (number / k) n some j (omega arith)
]

under_numbered : (size : Size) (number : ℕ) → 0 < size.k → AreUnder size.k (numbered size number)
under_numbered size number some zero l = some
under_numbered size number some (suc i) l = under_digits size.k number (size.n - 1) some i (omega arith)

pub start_under : (start : Start) (size : Size) (number : ℕ) (g : Lcg) → 2 ≤ size.k → AreUnder size.k (start_values start size number g)
unfolding start_values
start_under Any size number g two = under_drawn size.k g size.n (omega arith)
start_under (Faults f) size number g two = under_hits size (draw size.n g).0 f (draw size.n g).1 size.n two
start_under All size number g two = under_numbered size number (omega arith)

pub start_long : (start : Start) (size : Size) (number : ℕ) (g : Lcg) → 2 ≤ size.n → length (start_values start size number g) ≡ size.n
unfolding start_values
start_long Any size number g two = drawn_long size.k g size.n
start_long (Faults f) size number g two = long_hits size (draw size.n g).0 f (draw size.n g).1 size.n
start_long All size number g two = let all' = digits_long size.k number (size.n - 1) in omega arith

-- the start of a trial is a ring of the study's size
pub trials_start : TrialsStart
unfolding trial_ring
trials_start s t is =
    let size = is.size in
    let machines = size.machines in
    let values = size.values in
    let g : Lcg = generator s.seed t in
    let number : ℕ = t / s.trials in
    let long : length (start_values s.start s.size number g) ≡ s.size.n = start_long s.start s.size number g (omega arith) in
    (record { two = omega arith; enough = omega arith; below = start_under s.start s.size number g (omega arith) }, refl, long)

-- ---- its choices settle it

-- the machines that pass
trial_passing : (s : StudyData) (t : ℕ) → IsStudy s → IsPassing (trial_ring s t) (trial_choices s t)
unfolding trial_choices
trial_passing s t is =
    let start = trials_start s t is in
    let n : length (trial_ring s t).values ≡ s.size.n = start.2 in
    subst (λ (x : ℕ). IsPassing (trial_ring s t) (daemon_choices s.daemon (longest_repair x) (trial_memory s t) (trial_ring s t))) n
    (daemon_passing s.daemon (trial_memory s t) (trial_ring s t) start.0)

pub trials_settle : TrialsSettle
trials_settle s t is = (trial_passing s t is).settled

pub trials_settle_first : TrialsSettleFirst
unfolding trial_choices
trials_settle_first s t p l = daemon_unsettled s.daemon (longest_repair s.size.n) p (trial_memory s t) (trial_ring s t) l

pub trials_are_granted : TrialsAreGranted
unfolding trial_passes
trials_are_granted s t is =
    let all = (trial_passing s t is).granted in
    (all, ap (λ (x : List ℕ). length x) all)

pub trials_are_bounded : TrialsAreBounded
unfolding trial_passes
trials_are_bounded s t is =
    let start = trials_start s t is in
    let n : length (trial_ring s t).values ≡ s.size.n = start.2 in
    let e : longest_repair (length (trial_ring s t).values) ≡ longest_repair s.size.n = ap longest_repair n in
    let b : bound (length (trial_ring s t).values) ≡ bound s.size.n = ap bound n in
    let long' = (trial_passing s t is).long in
    let within' = (trial_passing s t is).within in
    (omega arith, omega arith)

-- ---- each is counted once

-- none is counted
pub none_counted : (number : ℕ → ℕ) (n : ℕ) (h : List ℕ) → IsEmpty n h → IsCounted number 0 h
none_counted number n h none = record { each = λ v l. none.none v; all = counted_none h (λ v l. none.none v) }

pub none_are : (s : StudyData) (most : ℕ) (h : List ℕ) → IsStudy s → IsEmpty (most + 1) h → most ≡ longest_repair s.size.n → AreRepairs (repairs_with s 0 h)
none_are s most h is none e =
    let numbers' = none.numbers in
    record { study = is; within = omega arith; numbers = omega arith; counted = none_counted (trial_passes s) (most + 1) h none }

-- one more
pub one_counted : (number : ℕ → ℕ) (t i : ℕ) (h h' : List ℕ) → IsCounted number t h → i ≡ number t → i < length h → h' ≡ set h i (get_or h i 0 + 1) →
    IsCounted number (t + 1) h'
one_counted number t i h h' old is l e =
    let next : t + 1 ≡ suc t = omega arith in
    let sum = counted_set h i (get_or h i 0 + 1) l in
    let all' = old.all in
    let long : length (set h i (get_or h i 0 + 1)) ≡ length h = length-set h i (get_or h i 0 + 1) in
    let new : IsCounted number (suc t) (set h i (get_or h i 0 + 1)) = record {
      each = λ v lv. elim (cases_eq v i) [
        | inl same ↦
            let on : (number t == v) ≡ true = eq-eqb (number t) v (sym is ∙ sym same) in
            let one : bit (number t == v) ≡ 1 = ap bit on in
            let before : get_or h i 0 ≡ count_below (λ (u : ℕ). number u == i) t = old.each i l in
            let there : count_below (λ (u : ℕ). number u == v) t ≡ count_below (λ (u : ℕ). number u == i) t =
            ap (λ (x : ℕ). count_below (λ (u : ℕ). number u == x) t) same in
            let here : get_or (set h i (get_or h i 0 + 1)) v 0 ≡ get_or h i 0 + 1 =
            ap (λ (x : ℕ). get_or (set h i (get_or h i 0 + 1)) x 0) same ∙ get_or-set_same h i (get_or h i 0 + 1) 0 l in
            omega arith
        | inr other ↦
            let off : (number t == v) ≡ false = ne_eqb (number t) v (λ q. other (sym q ∙ sym is)) in
            let none : bit (number t == v) ≡ 0 = ap bit off in
            let before : get_or h v 0 ≡ count_below (λ (u : ℕ). number u == v) t = old.each v (omega arith) in
            let here : get_or (set h i (get_or h i 0 + 1)) v 0 ≡ get_or h v 0 = get_or-set_other h i v (get_or h i 0 + 1) 0 other in
            omega arith
      ];
      all = omega arith;
    } in
    subst (λ (x : List ℕ). IsCounted number (t + 1) x) (sym e) (subst (λ (x : ℕ). IsCounted number x (set h i (get_or h i 0 + 1))) (sym next) new)

-- ---- the code's trials

-- what a repair answers, of the start that a trial has
pub trial_is : (s : StudyData) (t most : ℕ) (d : Daemon) (w : Lcg) (r : Ring) → d ≡ s.daemon → most ≡ longest_repair s.size.n →
    w ≡ start_left s.start s.size (generator s.seed t) → r.k ≡ s.size.k → r.values ≡ start_values s.start s.size (t / s.trials) (generator s.seed t) →
    length (granted_passes r (daemon_choices d most (record { words = w; asked = 0 }) r)) ≡ trial_passes s t
unfolding trial_passes trial_choices trial_memory trial_ring
trial_is s t most d w r ed em ew ek ev =
    let with_words : Lcg → Memory = λ g. record { words = g; asked = 0 } in
    let all : Daemon → ℕ → Memory → Ring → ℕ = λ x y m u. length (granted_passes u (daemon_choices x y m u)) in
    ap (λ (x : Daemon). all x most (with_words w) r) ed
    ∙ ap (λ (x : ℕ). all s.daemon x (with_words w) r) em
    ∙ ap (λ (x : Lcg). all s.daemon (longest_repair s.size.n) (with_words x) r) ew
    ∙ ap (λ (x : ℕ). all s.daemon (longest_repair s.size.n) (trial_memory s t) (ring_with x r.values)) ek
    ∙ ap (λ (x : List ℕ). all s.daemon (longest_repair s.size.n) (trial_memory s t) (ring_with s.size.k x)) ev

-- of a daemon that chooses machines, and of groups
pub one_by_one : (d : Daemon) (most : ℕ) (m : Memory) (r : Ring) → (d ≡ Groups → ⊥) →
    passes d most m r ≡ length (granted_passes r (daemon_choices d most m r))
unfolding passes
one_by_one d most m r other = ap (λ (x : List ℕ). length (granted_passes r x)) (sym (choices_else d most m r other))

pub in_groups : (d : Daemon) (most : ℕ) (m : Memory) (r : Ring) → d ≡ Groups → IsRing r → most ≡ longest_repair (length r.values) →
    length (group_choices most [] m.words r) ≡ length (granted_passes r (daemon_choices d most m r))
in_groups d most m r e g em =
    let with_most : ℕ → ℕ = λ x. length (group_choices x [] m.words r) in
    ap with_most em ∙ sym (ap (λ (x : List ℕ). length x) (groups_settle r m.words g).0)
    ∙ ap (λ (x : ℕ). length (granted_passes r (group_choices x [] m.words r))) (sym em)
    ∙ ap (λ (x : List ℕ). length (granted_passes r x)) (sym (choices_groups d most m r e))

-- a ring of a size, by its parts
pub same_size : (r : Ring) (s : Size) → size_of r ≡ s → (t : Ring) → length t.values ≡ length r.values → t.k ≡ r.k → size_of t ≡ s
same_size r s e t en ek =
    let with_parts : ℕ → ℕ → Size = λ a b. record { n = a; k = b } in
    ap (λ (x : ℕ). with_parts x t.k) en ∙ ap (with_parts (length r.values)) ek ∙ e
