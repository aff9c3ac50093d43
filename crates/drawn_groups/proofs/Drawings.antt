-- Drawn sets of privileged machines, and that a drawn group can move.
use Rattle.std.proofs.Common.{◌≡◌, ℕ, zero, suc, ◌+◌, ◌%◌, ◌≤◌, ◌==◌, Bool, true, false, List, [], ◌∷◌, ◌++◌, length, take, refl, sym, ◌∙◌, ap, subst, inl, inr, arith}
use Rattle.std.specs.Prelude.{◌&&◌, ◌||◌, nat_lt}
use Rattle.std.proofs.lemmas.List.{length-take-le}
use Rattle.std.proofs.lemmas.Bool.{cases_Bool, cond-true, cond-false, and_parts, ltb-true, both_ways}
use Rattle.rand_pcg.specs.Lcg.{Lcg}
use Rattle.ring_model.specs.Ring.{is_privileged, first_privileged}
use Rattle.ring_model.specs.Groups.{has, Rises}
use Rattle.ring_model.specs.GroupLaws.{CanMove, AreAllPrivileged}
use Rattle.ring_model.proofs.Settled.{first_is}
use Rattle.ring_model.proofs.Groups.{has_parts, has_append}
use Rattle.drawn_groups.specs.Drawn.{bits_for, members_with, drawing, drawn, is_group, group_within, set_limit, group}

-- ---- rising lists

rises_wider : (low high : ℕ) (ms : List ℕ) → Rises low high ms → Rises low (suc high) ms
rises_wider low high [] up = tt
rises_wider low high (m ∷ ms) up = let l = up.1 in (up.0, omega arith, rises_wider (suc m) high ms up.2)

rises_more : (low high : ℕ) (ms : List ℕ) → low ≤ high → Rises low high ms → Rises low (suc high) (ms ++ high ∷ [])
rises_more low high [] le up = (le, omega arith, tt)
rises_more low high (m ∷ ms) le up = let l = up.1 in (up.0, omega arith, rises_more (suc m) high ms (omega arith) up.2)

pub rises_length : (low high : ℕ) (ms : List ℕ) → low ≤ high → Rises low high ms → length ms + low ≤ high
rises_length low high [] le up = omega arith
rises_length low high (m ∷ ms) le up =
    let l = up.1 in
    let low' = up.0 in
    let ih = rises_length (suc m) high ms (omega arith) up.2 in
    omega arith

-- ---- a drawn set

-- the members of some machines of a ring: they rise, and are privileged
pub record AreMembers (s : List ℕ) (n : ℕ) (ms : List ℕ) : Type 0 where
  pub rises : Rises 0 n ms
  pub able : AreAllPrivileged s ms

or_false : (a b : Bool) → a ≡ false → (a || b) ≡ b
or_false a b e = ap (λ (x : Bool). x || b) e

able_more : (s ms : List ℕ) (i : ℕ) → AreAllPrivileged s ms → is_privileged s i ≡ true → AreAllPrivileged s (ms ++ i ∷ [])
able_more s ms i all on k e = elim (cases_Bool (has ms k)) [
  | inl there ↦ all k there
  | inr other ↦
      let last : has (i ∷ []) k ≡ true = sym (or_false (has ms k) (has (i ∷ []) k) other) ∙ sym (has_append ms (i ∷ []) k) ∙ e in
      elim (has_parts i k [] last) [
        | inl same ↦ ap (is_privileged s) same ∙ on
        | inr none ↦ absurd (both_ways false refl none)
      ]
]

members_more : (s ms : List ℕ) (i bits : ℕ) → AreMembers s i ms → AreMembers s (suc i) (members_with s i bits ms)
members_more s ms i bits are = elim (cases_Bool (is_privileged s i && (bits % 2 == 1))) [
  | inl on ↦
      subst (λ (x : List ℕ). AreMembers s (suc i) x) (sym (cond-true (is_privileged s i && (bits % 2 == 1)) (ms ++ i ∷ []) ms on))
      (record {
        rises = rises_more 0 i ms (omega arith) are.rises;
        able = able_more s ms i are.able (and_parts (is_privileged s i) (bits % 2 == 1) on).0;
      })
  | inr off ↦
      subst (λ (x : List ℕ). AreMembers s (suc i) x) (sym (cond-false (is_privileged s i && (bits % 2 == 1)) (ms ++ i ∷ []) ms off))
      (record { rises = rises_wider 0 i ms are.rises; able = are.able })
]

no_members_able : (s : List ℕ) → AreAllPrivileged s []
no_members_able s k e = absurd (both_ways false refl e)

pub drawing_members : (s : List ℕ) (g : Lcg) (i : ℕ) → AreMembers s i (drawing s g i).members
unfolding drawing
drawing_members s g zero = record { rises = tt; able = no_members_able s }
drawing_members s g (suc i) = members_more s (drawing s g i).members i (bits_for i (drawing s g i)).0 (drawing_members s g i)

-- ---- a group

group_able : (s ms : List ℕ) → AreMembers s (length s) ms → is_group s ms ≡ true → CanMove s ms
group_able s ms are e =
    let both = and_parts (nat_lt 0 (length ms)) (nat_lt (length ms) (length s)) e in
    record {
      rising = are.rises;
      some = ltb-true 0 (length ms) both.0;
      fewer = ltb-true (length ms) (length s) both.1;
      able = are.able;
    }

one_able : (s : List ℕ) → 2 ≤ length s → CanMove s (first_privileged s ∷ [])
one_able s two =
    let first = first_is s (omega arith) in
    record {
      rising = (omega arith, first.0, tt);
      some = omega arith;
      fewer = omega arith;
      able = λ k e. elim (has_parts (first_privileged s) k [] e) [
        | inl same ↦ ap (is_privileged s) same ∙ first.1
        | inr none ↦ absurd (both_ways false refl none)
      ];
    }

pub within_none : (s : List ℕ) (g : Lcg) → group_within 0 s g ≡ (first_privileged s ∷ [], g)
unfolding group_within
within_none s g = refl

pub within_here : (more : ℕ) (s : List ℕ) (g : Lcg) → is_group s (drawn s g).members ≡ true →
    group_within (suc more) s g ≡ ((drawn s g).members, (drawn s g).words)
unfolding group_within
within_here more s g e = cond-true (is_group s (drawn s g).members) ((drawn s g).members, (drawn s g).words) (group_within more s (drawn s g).words) e

pub within_later : (more : ℕ) (s : List ℕ) (g : Lcg) → is_group s (drawn s g).members ≡ false →
    group_within (suc more) s g ≡ group_within more s (drawn s g).words
unfolding group_within
within_later more s g e = cond-false (is_group s (drawn s g).members) ((drawn s g).members, (drawn s g).words) (group_within more s (drawn s g).words) e

within_able : (more : ℕ) (s : List ℕ) (g : Lcg) → 2 ≤ length s → CanMove s (group_within more s g).0
within_able zero s g two = subst (λ (x : List ℕ × Lcg). CanMove s x.0) (sym (within_none s g)) (one_able s two)
within_able (suc more) s g two = elim (cases_Bool (is_group s (drawn s g).members)) [
  | inl on ↦
      subst (λ (x : List ℕ × Lcg). CanMove s x.0) (sym (within_here more s g on)) (group_able s (drawn s g).members (drawing_members s g (length s)) on)
  | inr off ↦
      subst (λ (x : List ℕ × Lcg). CanMove s x.0) (sym (within_later more s g off)) (within_able more s (drawn s g).words two)
]

pub group_can : (s : List ℕ) (g : Lcg) → 2 ≤ length s → CanMove s (group s g).0
unfolding group
group_can s g two = within_able set_limit s g two

pub group_is : (s : List ℕ) (g : Lcg) → group s g ≡ group_within set_limit s g
unfolding group
group_is s g = refl

-- ---- the test of a drawn set

pub group_tested : (s : List ℕ) (count n : ℕ) (machines ms : List ℕ) → count ≤ length machines → n ≡ length s → take count machines ≡ ms →
    (nat_lt 0 count && nat_lt count n) ≡ is_group s ms
group_tested s count n machines ms l en em =
    let long : count ≡ length ms = sym (length-take-le count machines l) ∙ ap (λ (x : List ℕ). length x) em in
    ap (λ (x : ℕ). nat_lt 0 x && nat_lt x n) long ∙ ap (λ (x : ℕ). nat_lt 0 (length ms) && nat_lt (length ms) x) en
