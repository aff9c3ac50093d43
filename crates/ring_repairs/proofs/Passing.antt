-- The machines that pass in a repair, whichever the daemon.
use Rattle.std.proofs.Common.{◌≡◌, ℕ, zero, suc, ◌<◌, ◌≤◌, true, false, List, length, take, refl, sym, ◌∙◌, ap, subst, inl, inr, arith}
use Rattle.std.specs.Prelude.{◌⊎◌, []}
use Rattle.std.proofs.lemmas.Bool.{cases_Bool}
use Rattle.rand_pcg.specs.Lcg.{Lcg}
use Rattle.ring_model.specs.Ring.{Ring, IsRing, is_settled, bound}
use Rattle.ring_model.specs.Runs.{passed, after_passes, granted_passes}
use Rattle.ring_model.specs.RepairLaws.{longest_repair}
use Rattle.drawn_groups.specs.Groups.{group_choices}
use Rattle.drawn_groups.proofs.Choices.{groups_settle, groups_are_bounded, choices_none, choices_settled, choices_go_on, next_of, rest_of, words_of}
use Rattle.ring_repairs.specs.Daemons.{choices, passes, daemon_choices}
use Rattle.ring_repairs.specs.declared.daemons.Daemon.{Daemon}
use Rattle.ring_repairs.specs.declared.daemons.Daemon.TheVariants.{First, Last, Random, Turn, Slow, Groups}
use Rattle.ring_repairs.specs.declared.daemons.Memory.{Memory}
use Rattle.ring_repairs.proofs.Bounds.{settles_long, settles_bound, choices_settle, choices_unsettled, choices_granted, passes_within}

-- ---- of groups

-- fewer do not settle the ring
pub group_unsettled : (most p : ℕ) (left : List ℕ) (g : Lcg) (r : Ring) → p < length (group_choices most left g r) →
    is_settled (after_passes r (take p (group_choices most left g r))).values ≡ false
group_unsettled zero p left g r l = let none = ap (λ (x : List ℕ). length x) (choices_none left g r) in absurd (omega arith)
group_unsettled (suc most) zero left g r l = elim (cases_Bool (is_settled r.values)) [
  | inl e ↦ let none = ap (λ (x : List ℕ). length x) (choices_settled (suc most) left g r e) in absurd (omega arith)
  | inr e ↦ e
]
group_unsettled (suc most) (suc p) left g r l = elim (cases_Bool (is_settled r.values)) [
  | inl e ↦ let none = ap (λ (x : List ℕ). length x) (choices_settled (suc most) left g r e) in absurd (omega arith)
  | inr e ↦
      let is = choices_go_on most left g r e in
      let long = ap (λ (x : List ℕ). length x) is in
      ap (λ (x : List ℕ). is_settled (after_passes r (take (suc p) x)).values) is
      ∙ group_unsettled most p (rest_of r left g) (words_of r left g) (passed r (next_of r left g)) (omega arith)
]

-- ---- of each daemon

pub is_groups : (d : Daemon) → (d ≡ Groups) ⊎ (d ≡ Groups → ⊥)
is_groups First = inr (λ e. cc e)
is_groups Last = inr (λ e. cc e)
is_groups Random = inr (λ e. cc e)
is_groups Turn = inr (λ e. cc e)
is_groups Slow = inr (λ e. cc e)
is_groups Groups = inl refl

pub choices_else : (d : Daemon) (most : ℕ) (m : Memory) (r : Ring) → (d ≡ Groups → ⊥) → daemon_choices d most m r ≡ choices d most m r
choices_else First most m r other = refl
choices_else Last most m r other = refl
choices_else Random most m r other = refl
choices_else Turn most m r other = refl
choices_else Slow most m r other = refl
choices_else Groups most m r other = absurd (other refl)

pub choices_groups : (d : Daemon) (most : ℕ) (m : Memory) (r : Ring) → d ≡ Groups → daemon_choices d most m r ≡ group_choices most [] m.words r
choices_groups d most m r e = ap (λ (x : Daemon). daemon_choices x most m r) e

-- what holds of them
pub record IsPassing (r : Ring) (cs : List ℕ) : Type 0 where
  pub granted : granted_passes r cs ≡ cs
  pub settled : is_settled (after_passes r cs).values ≡ true
  pub long : length (granted_passes r cs) ≤ longest_repair (length r.values)
  pub within : length (granted_passes r cs) ≤ bound (length r.values)

passes_are : (d : Daemon) (most : ℕ) (m : Memory) (r : Ring) → passes d most m r ≡ length (granted_passes r (choices d most m r))
unfolding passes
passes_are d most m r = refl

pub daemon_passing : (d : Daemon) (m : Memory) (r : Ring) → IsRing r → IsPassing r (daemon_choices d (longest_repair (length r.values)) m r)
daemon_passing d m r g = elim (is_groups d) [
  | inl e ↦
      let cs : List ℕ = group_choices (longest_repair (length r.values)) [] m.words r in
      let settles = groups_settle r m.words g in
      let few = groups_are_bounded r m.words g in
      let all = ap (λ (x : List ℕ). length x) settles.0 in
      subst (λ (x : List ℕ). IsPassing r x) (sym (choices_groups d (longest_repair (length r.values)) m r e))
      (record {
        granted = settles.0;
        settled = settles.1;
        long = let l = few.0 in omega arith;
        within = let l = few.1 in omega arith;
      })
  | inr other ↦
      let most : ℕ = longest_repair (length r.values) in
      let all = passes_are d most m r in
      let long' = passes_within d most most m r g (settles_long r g) in
      let within' = passes_within d most (bound (length r.values)) m r g (settles_bound r g) in
      subst (λ (x : List ℕ). IsPassing r x) (sym (choices_else d most m r other))
      (record {
        granted = choices_granted d most m r g;
        settled = choices_settle d most most m r g (settles_long r g) (omega arith);
        long = omega arith;
        within = omega arith;
      })
]

-- fewer of them do not settle the ring
pub daemon_unsettled : (d : Daemon) (most p : ℕ) (m : Memory) (r : Ring) → p < length (daemon_choices d most m r) →
    is_settled (after_passes r (take p (daemon_choices d most m r))).values ≡ false
daemon_unsettled d most p m r l = elim (is_groups d) [
  | inl e ↦
      let is = choices_groups d most m r e in
      let long = ap (λ (x : List ℕ). length x) is in
      ap (λ (x : List ℕ). is_settled (after_passes r (take p x)).values) is ∙ group_unsettled most p [] m.words r (omega arith)
  | inr other ↦
      let is = choices_else d most m r other in
      let long = ap (λ (x : List ℕ). length x) is in
      ap (λ (x : List ℕ). is_settled (after_passes r (take p x)).values) is ∙ choices_unsettled d most p m r (omega arith)
]
