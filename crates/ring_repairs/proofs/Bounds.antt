-- How many choices settle a ring, and how many are made at most.
use Rattle.std.proofs.Common.{◌≡◌, ℕ, zero, suc, ◌+◌, ◌-◌, ◌*◌, ◌<◌, ◌≤◌, Bool, true, false, cond, List, [], ◌∷◌, length, take, refl, sym, ◌∙◌, ap, subst, inl, inr, arith}
use Rattle.std.proofs.lemmas.Bool.{cases_Bool, both_ways}
use Rattle.ring_model.specs.Ring.{Ring, IsRing, is_privileged, is_settled, bound}
use Rattle.ring_model.specs.Runs.{passed, after_passes, granted_passes, AreBelow}
use Rattle.ring_model.specs.RepairLaws.{longest_repair}
use Rattle.ring_model.proofs.Runs.{length_pass, run_settles}
use Rattle.ring_model.proofs.LongRuns.{long_run_settles}
use Rattle.ring_repairs.specs.Daemons.{choice, remembered, choices, passes}
use Rattle.ring_repairs.specs.declared.daemons.Daemon.{Daemon}
use Rattle.ring_repairs.specs.declared.daemons.Memory.{Memory}
use Rattle.ring_repairs.proofs.Choices.{choice_below, choice_privileged, choice_ring, choices_none, choices_settled, choices_go_on, granted_next, passes_more, passes_none, passes_settled}

-- as many granted passes settle the ring, whoever passes
abbrev pub SettlesIn : ℕ → Ring → Type 0
SettlesIn b r =
    (cs : List ℕ) → AreBelow (length r.values) cs → b ≤ length (granted_passes r cs) → is_settled (after_passes r cs).values ≡ true

pub settles_long : (r : Ring) → IsRing r → SettlesIn (longest_repair (length r.values)) r
settles_long r g = λ cs below enough. long_run_settles r cs g below enough

pub settles_bound : (r : Ring) → IsRing r → SettlesIn (bound (length r.values)) r
settles_bound r g = λ cs below enough. run_settles r cs g below enough

settles_now : (r : Ring) → SettlesIn 0 r → is_settled r.values ≡ true
settles_now r h = h [] tt (omega arith)

settles_passed : (b i : ℕ) (r : Ring) → i < length r.values → is_privileged r.values i ≡ true → SettlesIn (suc b) r → SettlesIn b (passed r i)
settles_passed b i r l e h = λ cs below enough.
    let one : length (granted_passes r (i ∷ cs)) ≡ suc (length (granted_passes (passed r i) cs)) =
    ap (λ (x : List ℕ). length x) (granted_next r i cs e) in
    let same : AreBelow (length r.values) cs = subst (λ (x : ℕ). AreBelow x cs) (length_pass r i) below in
    h (i ∷ cs) (l, same) (omega arith)

-- a daemon's choices settle the ring
pub choices_settle : (d : Daemon) (most b : ℕ) (m : Memory) (r : Ring) → IsRing r → SettlesIn b r → b ≤ most →
    is_settled (after_passes r (choices d most m r)).values ≡ true
choices_settle d zero b m r g h l =
    let none : b ≡ 0 = omega arith in
    ap (λ (x : List ℕ). is_settled (after_passes r x).values) (choices_none d m r)
    ∙ settles_now r (subst (λ (x : ℕ). SettlesIn x r) none h)
choices_settle d (suc most) zero m r g h l =
    ap (λ (x : List ℕ). is_settled (after_passes r x).values) (choices_settled d (suc most) m r (settles_now r h)) ∙ settles_now r h
choices_settle d (suc most) (suc b) m r g h l = elim (cases_Bool (is_settled r.values)) [
  | inl e ↦ ap (λ (x : List ℕ). is_settled (after_passes r x).values) (choices_settled d (suc most) m r e) ∙ e
  | inr e ↦
      ap (λ (x : List ℕ). is_settled (after_passes r x).values) (choices_go_on d most m r e)
      ∙ choices_settle d most b (remembered d m r) (passed r (choice d m r)) (choice_ring d m r g)
      (settles_passed b (choice d m r) r (choice_below d m r g) (choice_privileged d m r g) h) (omega arith)
]

-- fewer of them do not
pub choices_unsettled : (d : Daemon) (most p : ℕ) (m : Memory) (r : Ring) → p < length (choices d most m r) →
    is_settled (after_passes r (take p (choices d most m r))).values ≡ false
choices_unsettled d zero p m r l = let none = ap (λ (x : List ℕ). length x) (choices_none d m r) in absurd (omega arith)
choices_unsettled d (suc most) zero m r l = elim (cases_Bool (is_settled r.values)) [
  | inl e ↦ let none = ap (λ (x : List ℕ). length x) (choices_settled d (suc most) m r e) in absurd (omega arith)
  | inr e ↦ e
]
choices_unsettled d (suc most) (suc p) m r l = elim (cases_Bool (is_settled r.values)) [
  | inl e ↦ let none = ap (λ (x : List ℕ). length x) (choices_settled d (suc most) m r e) in absurd (omega arith)
  | inr e ↦
      let is = choices_go_on d most m r e in
      let long = ap (λ (x : List ℕ). length x) is in
      ap (λ (x : List ℕ). is_settled (after_passes r (take (suc p) x)).values) is
      ∙ choices_unsettled d most p (remembered d m r) (passed r (choice d m r)) (omega arith)
]

-- each is granted
pub choices_granted : (d : Daemon) (most : ℕ) (m : Memory) (r : Ring) → IsRing r → granted_passes r (choices d most m r) ≡ choices d most m r
choices_granted d zero m r g =
    let none = choices_none d m r in
    ap (granted_passes r) none ∙ sym none
choices_granted d (suc most) m r g = elim (cases_Bool (is_settled r.values)) [
  | inl e ↦ let none = choices_settled d (suc most) m r e in ap (granted_passes r) none ∙ sym none
  | inr e ↦
      let is = choices_go_on d most m r e in
      let i : ℕ = choice d m r in
      let more : List ℕ = choices d most (remembered d m r) (passed r i) in
      ap (granted_passes r) is ∙ granted_next r i more (choice_privileged d m r g)
      ∙ ap (λ (x : List ℕ). i ∷ x) (choices_granted d most (remembered d m r) (passed r i) (choice_ring d m r g)) ∙ sym is
]

-- no daemon's repair has more passes than settle the ring
pub passes_within : (d : Daemon) (most b : ℕ) (m : Memory) (r : Ring) → IsRing r → SettlesIn b r → passes d most m r ≤ b
passes_within d zero b m r g h = let none = passes_none d m r in omega arith
passes_within d (suc most) zero m r g h = let none = passes_settled d (suc most) m r (settles_now r h) in omega arith
passes_within d (suc most) (suc b) m r g h = elim (cases_Bool (is_settled r.values)) [
  | inl e ↦ let none = passes_settled d (suc most) m r e in omega arith
  | inr e ↦
      let all = passes_more d most m r g e in
      let ih = passes_within d most b (remembered d m r) (passed r (choice d m r)) (choice_ring d m r g)
      (settles_passed b (choice d m r) r (choice_below d m r g) (choice_privileged d m r g) h) in
      omega arith
]
