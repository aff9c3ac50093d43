-- The size of a pool is one; and the rings in use.
use Rattle.std.proofs.Common.{◌≡◌, ℕ, zero, suc, ◌+◌, ◌-◌, ◌*◌, ◌^◌, ◌<◌, ◌≤◌, ◌⊎◌, true, false, List, length, Option, None, Some, inl, inr, refl, sym, ◌∙◌, ap, subst, arith}
use Rattle.std.specs.Prelude.{nat_lt, slice_get, is_some}
use Rattle.std.proofs.Math.Nat.{pow-suc}
use Rattle.std.proofs.lemmas.Bool.{cases_Bool, cases_eq, ltb-true, ltb-false, false≢true}
use Rattle.std.proofs.lemmas.Option.{slice_get_within}
use Rattle.lock_names.specs.Names.{Bound, Named}
use Rattle.lock_names.specs.Promises.{IsNamed}
use Rattle.lock_names.specs.Sizes.{least_pool, AreUsedUntil, WantedIsOne}
use Rattle.name_bindings.proofs.Found.{some_same, none_some, not_some, there_is}
use Rattle.lock_names.proofs.Fitting.{lock_at}

-- twice a size is the next one
pub doubled : (k size : ℕ) → size ≡ least_pool * 2 ^ k → size * 2 ≡ least_pool * 2 ^ suc k
doubled k size e =
    let power : 2 ^ suc k ≡ 2 ^ k * 2 = pow-suc 2 k in
    let is : size ≡ 1024 * 2 ^ k = e in
    let goal : size * 2 ≡ 1024 * 2 ^ suc k = omega arith in
    goal

at_least : (j : ℕ) → 1 ≤ 2 ^ j
at_least zero = let le : 1 ≤ 1 = omega arith in le
at_least (suc j) =
    let power : 2 ^ suc j ≡ 2 ^ j * 2 = pow-suc 2 j in
    let rest : 1 ≤ 2 ^ j = at_least j in
    omega arith

steps : (j d : ℕ) → 2 * 2 ^ j ≤ 2 ^ (suc d + j)
steps j zero =
    let power : 2 ^ suc j ≡ 2 ^ j * 2 = pow-suc 2 j in
    let same : 2 ^ (1 + j) ≡ 2 ^ suc j = ap (λ (n : ℕ). 2 ^ n) (omega arith) in
    omega arith
steps j (suc d) =
    let power : 2 ^ suc (suc d + j) ≡ 2 ^ (suc d + j) * 2 = pow-suc 2 (suc d + j) in
    let same : 2 ^ (suc (suc d) + j) ≡ 2 ^ suc (suc d + j) = ap (λ (n : ℕ). 2 ^ n) (omega arith) in
    let rest : 2 * 2 ^ j ≤ 2 ^ (suc d + j) = steps j d in
    omega arith

lower : (used a b j k : ℕ) → a ≡ least_pool * 2 ^ j → b ≡ least_pool * 2 ^ k → j < k → 4 * used ≤ 3 * a → (b ≡ least_pool) ⊎ (3 * b < 8 * used) → ⊥
lower used a b j k e f lt room least =
    let d : ℕ = k - suc j in
    let at : k ≡ suc d + j = omega (arith, lt) in
    let twice : 2 * 2 ^ j ≤ 2 ^ k = subst (λ (n : ℕ). 2 * 2 ^ j ≤ 2 ^ n) (sym at) (steps j d) in
    let one : 1 ≤ 2 ^ j = at_least j in
    let first : a ≡ 1024 * 2 ^ j = e in
    let second : b ≡ 1024 * 2 ^ k = f in
    let enough : 4 * used ≤ 3 * a = room in
    elim least [
      | inl q ↦ let is : b ≡ 1024 = q in omega arith
      | inr q ↦ let less : 3 * b < 8 * used = q in omega arith
    ]

pub wanted_is_one : WantedIsOne
wanted_is_one used a b x y = elim (cases_eq x.power.0 y.power.0) [
  | inl q ↦ x.power.1 ∙ ap (λ (n : ℕ). least_pool * 2 ^ n) q ∙ sym y.power.1
  | inr n ↦ elim (cases_Bool (nat_lt x.power.0 y.power.0)) [
    | inl q ↦ absurd (lower used a b x.power.0 y.power.0 x.power.1 y.power.1 (ltb-true x.power.0 y.power.0 q) x.room y.least)
    | inr q ↦
        let le : y.power.0 ≤ x.power.0 = ltb-false x.power.0 y.power.0 q in
        let lt : y.power.0 < x.power.0 = omega (arith, n) in
        absurd (lower used b a y.power.0 x.power.0 y.power.1 x.power.1 lt y.room x.least)
  ]
]

-- ---- the rings in use

-- no ring from this one on has a name
abbrev pub AreFreeFrom : List (Option Bound) → ℕ → Type 0
AreFreeFrom os end = (i : ℕ) (b : Bound) → end ≤ i → slice_get os i ≡ Some (Some b) → ⊥

pub all_used : (os : List (Option Bound)) (end : ℕ) → length os ≤ end → AreFreeFrom os end
all_used os end le i b from e = let lt : i < length os = slice_get_within os i (Some b) e in omega (arith, le, from)

some_bound : (o : Option Bound) → is_some o ≡ true → (b : Bound) × (o ≡ Some b)
some_bound None e = absurd (false≢true e)
some_bound (Some b) e = (b, refl)

pub used_here : (os : List (Option Bound)) (until end : ℕ) (o : Option Bound) → until ≡ end → AreFreeFrom os end → slice_get os (end - 1) ≡ Some o → is_some o ≡ true → AreUsedUntil os until
used_here os until end o same above e some =
    let b = some_bound o some in
    subst (λ (n : ℕ). AreUsedUntil os n) (sym same) (record { none = above; last = λ lt. (b.0, e ∙ ap (λ (x : Option Bound). Some x) b.1) })

pub one_less : (os : List (Option Bound)) (end less : ℕ) (o : Option Bound) → end ≡ less + 1 → AreFreeFrom os end → slice_get os less ≡ Some o → is_some o ≡ false → AreFreeFrom os less
one_less os end less o same above e none i b from f = elim (cases_eq i less) [
  | inl q ↦ none_some b (sym (not_some o none) ∙ some_same o (Some b) (sym e ∙ ap (λ (n : ℕ). slice_get os n) (sym q) ∙ f))
  | inr q ↦ above i b (omega (arith, same, from, q)) f
]

named_last : (os : List (Option Bound)) (fixed k : ℕ) (o : Option Bound) → fixed ≡ k + 1 → slice_get os k ≡ Some o → ((i : ℕ) → slice_get os i ≡ Some None → fixed ≤ i) → (b : Bound) × (slice_get os k ≡ Some (Some b))
named_last os fixed k None same e pool = let le : fixed ≤ k = pool k e in absurd (omega (arith, same))
named_last os fixed k (Some b) same e pool = (b, e)

pub used_none : (os : List (Option Bound)) (until fixed end : ℕ) → until ≡ fixed → end ≤ fixed → AreFreeFrom os end → fixed ≤ length os → ((i : ℕ) → slice_get os i ≡ Some None → fixed ≤ i) → AreUsedUntil os until
used_none os until fixed end same le above within pool = subst (λ (n : ℕ). AreUsedUntil os n) (sym same) (record {
  none = λ i b from e. above i b (omega (arith, le, from)) e;
  last = λ lt.
      let w = there_is os (fixed - 1) (omega (arith, lt, within)) in
      named_last os fixed (fixed - 1) w.0 (omega (arith, lt)) w.1 pool;
})

-- a ring that has no name is one of the pool
pub pool_ring : (s : Named) → IsNamed s → (i : ℕ) → slice_get s.names i ≡ Some None → s.fixed ≤ i
pool_ring s n i e = let l = lock_at s i None n e in (n.each i l.0 None l.1 e).0
