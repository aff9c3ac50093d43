-- Tables of names: what is found, and which rings are free, after a change.
use Rattle.std.proofs.Common.{◌≡◌, ℕ, zero, suc, ◌+◌, ◌<◌, ◌≤◌, Bool, true, false, cond, List, [], ◌∷◌, ◌++◌, length, Option, None, Some, ◌⊎◌, inl, inr, refl, sym, ◌∙◌, ap, subst, arith}
use Rattle.std.specs.Prelude.{◌==◌, nat_lt, if◌then◌else◌, slice_get, slice_set, slice_index_or, option_map}
use Rattle.std.specs.Str.{bytes_eq}
use Rattle.std.specs.List.{sum_by}
use Rattle.std.proofs.lemmas.List.{length-map, length-set, length-append}
use Rattle.std.proofs.lemmas.Option.{slice_get_within, slice_get_read, slice_get-map}
use Rattle.std.proofs.lemmas.Bool.{cases_Bool, both_ways, ltb-true, ltb-false, eqb-true, eq-eqb}
use Rattle.std.proofs.lemmas.List.Sums.{sum_by-cons}
use Rattle.std.proofs.lemmas.List.Sorted.{sum_by-IsPermutation, sum_by_pushed}
use Rattle.std.specs.List.Sorted.{IsPermutation}
use Rattle.std.specs.BinaryHeap.{IsHeap, IsUpperBound, KeepsHeap, PopsGreatest}
use Rattle.std.specs.Ordering.{nat_cmp, is_lt}
use Rattle.core.specs.declared.cmp.Ordering.{Ordering}
use Rattle.core.specs.declared.cmp.Ordering.TheVariants.{Less, Equal, Greater}
use Rattle.core.specs.declared.cmp.Reverse.{Reverse}
use Rattle.held_locks.proofs.Standing.{get_set}
use Rattle.lock_names.specs.declared.table.Binding.{Binding}
use Rattle.lock_names.specs.Table.{bound_of, bounds_of, numbers, free_sum, IsTable, IsKeptTable}
use Rattle.name_bindings.proofs.Changed.{pass, same_on, differs, ring_in, found_bound, found_forgot, found_added}
use Rattle.name_bindings.proofs.Found.{same_name, some_same, none_some, unlike, OnlyAt, found_there, free_at}
use Rattle.name_bindings.specs.Bindings.{Bound, found, free}

-- ---- what free rings weigh

further_on : (f : ℕ → ℕ) (at i : ℕ) → f (suc at + i) ≡ f (at + suc i)
further_on f at i = ap f (omega arith)

here_on : (f : ℕ → ℕ) (at : ℕ) → f at ≡ f (at + zero)
here_on f at = ap f (omega arith)

pub sum_bound : (f : ℕ → ℕ) (at : ℕ) (os : List (Option Bound)) (i : ℕ) (b : Bound) → slice_get os i ≡ Some None → free_sum f at os ≡ f (at + i) + free_sum f at (slice_set os i (Some b))
sum_bound f at [] i b e = absurd (none_some None e)
sum_bound f at (None ∷ os) zero b e = ap (λ (n : ℕ). n + free_sum f (suc at) os) (here_on f at)
sum_bound f at (None ∷ os) (suc i) b e =
    let rest : free_sum f (suc at) os ≡ f (suc at + i) + free_sum f (suc at) (slice_set os i (Some b)) = sum_bound f (suc at) os i b e in
    let same : f (suc at + i) ≡ f (at + suc i) = further_on f at i in
    omega arith
sum_bound f at (Some d ∷ os) zero b e = absurd (none_some d (sym (some_same (Some d) None e)))
sum_bound f at (Some d ∷ os) (suc i) b e = sum_bound f (suc at) os i b e ∙ ap (λ (n : ℕ). n + free_sum f (suc at) (slice_set os i (Some b))) (further_on f at i)

pub sum_forgot : (f : ℕ → ℕ) (at : ℕ) (os : List (Option Bound)) (i : ℕ) (b : Bound) → slice_get os i ≡ Some (Some b) → free_sum f at (slice_set os i None) ≡ f (at + i) + free_sum f at os
sum_forgot f at [] i b e = absurd (none_some (Some b) e)
sum_forgot f at (None ∷ os) zero b e = absurd (none_some b (some_same None (Some b) e))
sum_forgot f at (None ∷ os) (suc i) b e =
    let rest : free_sum f (suc at) (slice_set os i None) ≡ f (suc at + i) + free_sum f (suc at) os = sum_forgot f (suc at) os i b e in
    let same : f (suc at + i) ≡ f (at + suc i) = further_on f at i in
    omega arith
sum_forgot f at (Some d ∷ os) zero b e = ap (λ (n : ℕ). n + free_sum f (suc at) os) (here_on f at)
sum_forgot f at (Some d ∷ os) (suc i) b e = sum_forgot f (suc at) os i b e ∙ ap (λ (n : ℕ). n + free_sum f (suc at) os) (further_on f at i)

pub sum_added : (f : ℕ → ℕ) (at : ℕ) (os : List (Option Bound)) → free_sum f at (os ++ None ∷ []) ≡ free_sum f at os + f (at + length os)
sum_added f at [] = ap (λ (n : ℕ). n + 0) (here_on f at) ∙ plus_zero (f (at + zero))
  where
    plus_zero : (n : ℕ) → n + 0 ≡ 0 + n
    plus_zero n = omega arith
sum_added f at (None ∷ os) =
    let rest : free_sum f (suc at) (os ++ None ∷ []) ≡ free_sum f (suc at) os + f (suc at + length os) = sum_added f (suc at) os in
    let same : f (suc at + length os) ≡ f (at + suc (length os)) = further_on f at (length os) in
    omega arith
sum_added f at (Some b ∷ os) = sum_added f (suc at) os ∙ ap (λ (n : ℕ). free_sum f (suc at) os + n) (further_on f at (length os))

-- one of weight 0 among them
pub weighs_none : (f : ℕ → ℕ) (at : ℕ) (os : List (Option Bound)) (i : ℕ) → free_sum f at os ≡ 0 → slice_get os i ≡ Some None → f (at + i) ≡ 0
weighs_none f at [] i z e = absurd (none_some None e)
weighs_none f at (None ∷ os) zero z e = let same : f at ≡ f (at + zero) = here_on f at in omega arith
weighs_none f at (None ∷ os) (suc i) z e = sym (further_on f at i) ∙ weighs_none f (suc at) os i (omega arith) e
weighs_none f at (Some b ∷ os) zero z e = absurd (none_some b (sym (some_same (Some b) None e)))
weighs_none f at (Some b ∷ os) (suc i) z e = sym (further_on f at i) ∙ weighs_none f (suc at) os i z e

-- one that weighs something
pub weighs_some : (f : ℕ → ℕ) (at : ℕ) (os : List (Option Bound)) → 0 < free_sum f at os → (i : ℕ) × (slice_get os i ≡ Some None) × (0 < f (at + i))
weighs_some f at [] lt = absurd (omega arith)
weighs_some f at (None ∷ os) lt = elim (cases_Bool (nat_lt 0 (f at))) [
  | inl p ↦ (zero, refl, subst (λ (n : ℕ). 0 < n) (here_on f at) (ltb-true 0 (f at) p))
  | inr p ↦
      let nothing : f at ≤ 0 = ltb-false 0 (f at) p in
      let r = weighs_some f (suc at) os (omega arith) in
      (suc r.0, r.1, subst (λ (n : ℕ). 0 < n) (further_on f at r.0) r.2)
]
weighs_some f at (Some b ∷ os) lt =
    let r = weighs_some f (suc at) os lt in
    (suc r.0, r.1, subst (λ (n : ℕ). 0 < n) (further_on f at r.0) r.2)

-- ---- the lowest free ring

lowest : (os : List (Option Bound)) (x : ℕ) → slice_get os x ≡ Some None → ((i : ℕ) → slice_get os i ≡ Some None → x ≤ i) → free os ≡ Some x
lowest [] x e low = absurd (none_some None e)
lowest (None ∷ os) zero e low = refl
lowest (None ∷ os) (suc x) e low = absurd (let le : suc x ≤ 0 = low 0 refl in omega arith)
lowest (Some b ∷ os) zero e low = absurd (none_some b (sym (some_same (Some b) None e)))
lowest (Some b ∷ os) (suc x) e low = ap (λ (o : Option ℕ). option_map suc o) (lowest os x e (λ i f. let le : suc x ≤ suc i = low (suc i) f in omega arith))

none_lowest : (os : List (Option Bound)) → ((i : ℕ) → slice_get os i ≡ Some None → ⊥) → free os ≡ None
none_lowest [] nope = refl
none_lowest (None ∷ os) nope = absurd (nope 0 refl)
none_lowest (Some b ∷ os) nope = ap (λ (o : Option ℕ). option_map suc o) (none_lowest os (λ i e. nope (suc i) e))

abbrev below : ℕ → ℕ → ℕ
below x j = if nat_lt j x then 1 else 0

abbrev is_it : ℕ → ℕ → ℕ
is_it x j = if j == x then 1 else 0

-- the elements are at least this one
abbrev pub AtLeast : ℕ → List ℕ → Type 0
AtLeast x [] = Unit {0}
AtLeast x (y ∷ ys) = (x ≤ y) × AtLeast x ys

none_below : (x : ℕ) (ys : List ℕ) → AtLeast x ys → sum_by (below x) ys ≡ 0
none_below x [] h = refl
none_below x (y ∷ ys) h = elim (cases_Bool (nat_lt y x)) [
  | inl q ↦
      let lt : y < x = ltb-true y x q in
      let le : x ≤ y = h.0 in
      absurd (omega arith)
  | inr q ↦
      let rest : sum_by (below x) ys ≡ 0 = none_below x ys h.1 in
      let none : below x y ≡ 0 = ap (λ (r : Bool). if r then 1 else 0) q in
      let sum : sum_by (below x) (y ∷ ys) ≡ below x y + sum_by (below x) ys = sum_by-cons (below x) y ys in
      omega arith
]

not_it : (x j : ℕ) → 0 < is_it x j → j ≡ x
not_it x j lt = by (j == x) refl
  where
    by : (q : Bool) → (j == x) ≡ q → j ≡ x
    by true q = eqb-true j x q
    by false q = let none : is_it x j ≡ 0 = ap (λ (r : Bool). if r then 1 else 0) q in absurd (omega arith)

not_below : (x i : ℕ) → below x i ≡ 0 → x ≤ i
not_below x i e = by (nat_lt i x) refl
  where
    by : (q : Bool) → nat_lt i x ≡ q → x ≤ i
    by true q = let one : below x i ≡ 1 = ap (λ (r : Bool). if r then 1 else 0) q in absurd (omega arith)
    by false q = ltb-false i x q

-- the least of the list is the lowest free ring
pub least_is_free : (os : List (Option Bound)) (look : List ℕ → Option ℕ) (x : ℕ) (ys : List ℕ) → IsTable os look (x ∷ ys) → AtLeast x (x ∷ ys) → free os ≡ Some x
least_is_free os look x ys t least =
    let own : is_it x x ≡ 1 = ap (λ (r : Bool). if r then 1 else 0) (eq-eqb x x refl) in
    let sum : sum_by (is_it x) (x ∷ ys) ≡ free_sum (is_it x) 0 os = t.free (is_it x) in
    let first : sum_by (is_it x) (x ∷ ys) ≡ is_it x x + sum_by (is_it x) ys = sum_by-cons (is_it x) x ys in
    let r = weighs_some (is_it x) 0 os (subst (λ (n : ℕ). 0 < n) sum (omega arith)) in
    let from : 0 + r.0 ≡ x = not_it x (0 + r.0) r.2 in
    let at : r.0 ≡ x = omega arith in
    let zero_sum : free_sum (below x) 0 os ≡ 0 = sym (t.free (below x)) ∙ none_below x (x ∷ ys) least in
    lowest os x (ap (λ (n : ℕ). slice_get os n) (sym at) ∙ r.1)
    (λ i e. let le : x ≤ 0 + i = not_below x (0 + i) (weighs_none (below x) 0 os i zero_sum e) in omega arith)

pub none_is_free : (os : List (Option Bound)) (look : List ℕ → Option ℕ) → IsTable os look [] → free os ≡ None
none_is_free os look t = none_lowest os (λ i e. let z : 1 ≡ 0 = weighs_none (λ (j : ℕ). 1) 0 os i (sym (t.free (λ (j : ℕ). 1))) e in absurd (omega arith))

-- ---- tables after a change

once_bound : (os : List (Option Bound)) (i : ℕ) (b : Bound) → slice_get os i ≡ Some None → found b.name os ≡ None →
    ((j k : ℕ) (d e : Bound) → slice_get os j ≡ Some (Some d) → slice_get os k ≡ Some (Some e) → d.name ≡ e.name → j ≡ k) →
    (j k : ℕ) (d e : Bound) → slice_get (slice_set os i (Some b)) j ≡ Some (Some d) → slice_get (slice_set os i (Some b)) k ≡ Some (Some e) → d.name ≡ e.name → j ≡ k
once_bound os i b entry none once j k d e f g same = elim (get_set os i j (Some b) None (Some d) entry f) [
  | inl p ↦ elim (get_set os i k (Some b) None (Some e) entry g) [
    | inl q ↦ p.0 ∙ sym q.0
    | inr q ↦ absurd (unlike b.name os k e none q.1 (sym same ∙ ap (λ (x : Bound). x.name) (some_same d b p.1)))
  ]
  | inr p ↦ elim (get_set os i k (Some b) None (Some e) entry g) [
    | inl q ↦ absurd (unlike b.name os j d none p.1 (same ∙ ap (λ (x : Bound). x.name) (some_same e b q.1)))
    | inr q ↦ once j k d e p.1 q.1 same
  ]
]

-- the first of the list gets a name
pub bound_table : (os : List (Option Bound)) (look more : List ℕ → Option ℕ) (ring : ℕ) (ys : List ℕ) (b : Bound) → IsTable os look (ring ∷ ys) → slice_get os ring ≡ Some None → found b.name os ≡ None →
    ((y : List ℕ) → more y ≡ cond (bytes_eq b.name y) (Some ring) (look y)) → IsTable (slice_set os ring (Some b)) more ys
bound_table os look more ring ys b t entry none new = record {
  looks = λ y. new y ∙ ap (λ (o : Option ℕ). cond (bytes_eq b.name y) (Some ring) o) (t.looks y) ∙ sym (found_bound os ring b y entry none);
  free = λ f.
      let sum : sum_by f (ring ∷ ys) ≡ free_sum f 0 os = t.free f in
      let first : sum_by f (ring ∷ ys) ≡ f ring + sum_by f ys = sum_by-cons f ring ys in
      let set : free_sum f 0 os ≡ f (0 + ring) + free_sum f 0 (slice_set os ring (Some b)) = sum_bound f 0 os ring b entry in
      let same : f (0 + ring) ≡ f ring = ap f (omega arith) in
      omega arith;
  once = once_bound os ring b entry none t.once;
}

once_forgot : (os : List (Option Bound)) (i : ℕ) (b : Bound) → slice_get os i ≡ Some (Some b) →
    ((j k : ℕ) (d e : Bound) → slice_get os j ≡ Some (Some d) → slice_get os k ≡ Some (Some e) → d.name ≡ e.name → j ≡ k) →
    (j k : ℕ) (d e : Bound) → slice_get (slice_set os i None) j ≡ Some (Some d) → slice_get (slice_set os i None) k ≡ Some (Some e) → d.name ≡ e.name → j ≡ k
once_forgot os i b entry once j k d e f g same = elim (get_set os i j None (Some b) (Some d) entry f) [
  | inl p ↦ absurd (none_some d (sym p.1))
  | inr p ↦ elim (get_set os i k None (Some b) (Some e) entry g) [
    | inl q ↦ absurd (none_some e (sym q.1))
    | inr q ↦ once j k d e p.1 q.1 same
  ]
]

-- a ring loses its name
pub forgot_table : (os : List (Option Bound)) (look less : List ℕ → Option ℕ) (ring : ℕ) (ys zs : List ℕ) (b : Bound) → IsTable os look ys → slice_get os ring ≡ Some (Some b) →
    ((y : List ℕ) → less y ≡ cond (bytes_eq b.name y) None (look y)) → ((f : ℕ → ℕ) → sum_by f zs ≡ f ring + sum_by f ys) → IsTable (slice_set os ring None) less zs
forgot_table os look less ring ys zs b t entry new sums = record {
  looks = λ y. new y ∙ ap (λ (o : Option ℕ). cond (bytes_eq b.name y) None o) (t.looks y) ∙ sym (found_forgot os ring b y entry (λ j d f same. t.once j ring d b f entry same));
  free = λ f.
      let sum : sum_by f ys ≡ free_sum f 0 os = t.free f in
      let all : sum_by f zs ≡ f ring + sum_by f ys = sums f in
      let set : free_sum f 0 (slice_set os ring None) ≡ f (0 + ring) + free_sum f 0 os = sum_forgot f 0 os ring b entry in
      let same : f (0 + ring) ≡ f ring = ap f (omega arith) in
      omega arith;
  once = once_forgot os ring b entry t.once;
}

-- ---- lists of rings

pub sum_numbers : (f : ℕ → ℕ) (rs : List (Reverse ℕ)) → sum_by f (numbers rs) ≡ sum_by (λ (r : Reverse ℕ). f r.0) rs
sum_numbers f [] = refl
sum_numbers f (r ∷ rs) =
    let rest : sum_by f (numbers rs) ≡ sum_by (λ (r : Reverse ℕ). f r.0) rs = sum_numbers f rs in
    sum_by-cons f r.0 (numbers rs) ∙ ap (λ (n : ℕ). f r.0 + n) rest ∙ sym (sum_by-cons (λ (r : Reverse ℕ). f r.0) r rs)

-- in another order
pub permuted_table : (os : List (Option Bound)) (look : List ℕ → Option ℕ) (rs qs : List (Reverse ℕ)) → IsPermutation rs qs → IsTable os look (numbers rs) → IsTable os look (numbers qs)
permuted_table os look rs qs p t = record {
  looks = t.looks;
  free = λ f. sum_numbers f qs ∙ sum_by-IsPermutation (λ (r : Reverse ℕ). f r.0) rs qs p ∙ sym (sum_numbers f rs) ∙ t.free f;
  once = t.once;
}

not_less : (a b : ℕ) → is_lt (nat_cmp a b) ≡ false → b ≤ a
not_less a b e = by (nat_lt a b) refl e
  where
    by : (q : Bool) → nat_lt a b ≡ q → is_lt (cond q Less (cond (a == b) Equal Greater)) ≡ false → b ≤ a
    by true q e = absurd (both_ways true e refl)
    by false q e = ltb-false a b q

pub at_least : (x : Reverse ℕ) (rs : List (Reverse ℕ)) → IsUpperBound (λ (y z : Reverse ℕ). nat_cmp z.0 y.0) x rs → AtLeast x.0 (numbers rs)
at_least x [] h = tt
at_least x (r ∷ rs) h = (not_less r.0 x.0 h.0, at_least x rs h.1)

-- what comes out of the heap first is the lowest free ring
pub popped_is_free : (os : List (Option Bound)) (look : List ℕ → Option ℕ) (x : Reverse ℕ) (rs qs : List (Reverse ℕ)) → IsTable os look (numbers rs) → IsPermutation rs (x ∷ qs) →
    IsUpperBound (λ (y z : Reverse ℕ). nat_cmp z.0 y.0) x qs → free os ≡ Some x.0
popped_is_free os look x rs qs t p low = least_is_free os look x.0 (numbers qs) (permuted_table os look rs (x ∷ qs) p t) (omega arith, at_least x qs low)

pub pushed_sums : (x : Reverse ℕ) (rs qs : List (Reverse ℕ)) → IsPermutation (x ∷ rs) qs → (f : ℕ → ℕ) → sum_by f (numbers qs) ≡ f x.0 + sum_by f (numbers rs)
pushed_sums x rs qs p f =
    let a : sum_by (λ (r : Reverse ℕ). f r.0) qs ≡ f x.0 + sum_by (λ (r : Reverse ℕ). f r.0) rs = sum_by_pushed (λ (r : Reverse ℕ). f r.0) x rs qs p in
    let b : sum_by f (numbers qs) ≡ sum_by (λ (r : Reverse ℕ). f r.0) qs = sum_numbers f qs in
    let d : sum_by f (numbers rs) ≡ sum_by (λ (r : Reverse ℕ). f r.0) rs = sum_numbers f rs in
    omega arith

-- ---- a ring more at the end

at_end : {X : Type 0} (xs : List X) (x z : X) (i : ℕ) → slice_get (xs ++ x ∷ []) i ≡ Some z → (slice_get xs i ≡ Some z) ⊎ ((i ≡ length xs) × (z ≡ x))
at_end [] x z zero e = inr (refl, sym (some_same x z e))
at_end [] x z (suc i) e = absurd (none_some z e)
at_end (y ∷ xs) x z zero e = inl e
at_end (y ∷ xs) x z (suc i) e = elim (at_end xs x z i e) [
  | inl p ↦ inl p
  | inr p ↦ inr (ap suc p.0, p.1)
]

end_there : {X : Type 0} (xs : List X) (x : X) → slice_get (xs ++ x ∷ []) (length xs) ≡ Some x
end_there [] x = refl
end_there (y ∷ xs) x = end_there xs x

bound_before : (os : List (Option Bound)) (i : ℕ) (d : Bound) → slice_get (os ++ None ∷ []) i ≡ Some (Some d) → slice_get os i ≡ Some (Some d)
bound_before os i d e = elim (at_end os None (Some d) i e) [
  | inl p ↦ p
  | inr p ↦ absurd (none_some d (sym p.1))
]

found_end : (y : List ℕ) (os : List (Option Bound)) (b : Bound) → bytes_eq y b.name ≡ false → found y (os ++ Some b ∷ []) ≡ found y os
found_end y [] b n = pass y (Some b) [] n
found_end y (o ∷ os) b n = same_on y o (os ++ Some b ∷ []) os (found_end y os b n)

only_end : (os : List (Option Bound)) (b : Bound) → found b.name os ≡ None → OnlyAt (os ++ Some b ∷ []) (length os) b
only_end os b none j d e same = elim (at_end os (Some b) (Some d) j e) [
  | inl p ↦ absurd (unlike b.name os j d none p same)
  | inr p ↦ p.0
]

found_named : (os : List (Option Bound)) (b : Bound) (y : List ℕ) → found b.name os ≡ None → ring_in (found y (os ++ Some b ∷ [])) ≡ cond (bytes_eq b.name y) (Some (length os)) (ring_in (found y os))
found_named os b y none = by (bytes_eq b.name y) refl
  where
    by : (q : Bool) → bytes_eq b.name y ≡ q → ring_in (found y (os ++ Some b ∷ [])) ≡ cond q (Some (length os)) (ring_in (found y os))
    by true q = ap ring_in (found_there y (os ++ Some b ∷ []) (length os) b (end_there os (Some b)) (sym (same_name b.name y q)) (only_end os b none))
    by false q = ap ring_in (found_end y os b (differs b.name y q))

sum_named : (f : ℕ → ℕ) (at : ℕ) (os : List (Option Bound)) (b : Bound) → free_sum f at (os ++ Some b ∷ []) ≡ free_sum f at os
sum_named f at [] b = refl
sum_named f at (None ∷ os) b = ap (λ (n : ℕ). f at + n) (sum_named f (suc at) os b)
sum_named f at (Some d ∷ os) b = sum_named f (suc at) os b

once_named : (os : List (Option Bound)) (b : Bound) → found b.name os ≡ None →
    ((j k : ℕ) (d e : Bound) → slice_get os j ≡ Some (Some d) → slice_get os k ≡ Some (Some e) → d.name ≡ e.name → j ≡ k) →
    (j k : ℕ) (d e : Bound) → slice_get (os ++ Some b ∷ []) j ≡ Some (Some d) → slice_get (os ++ Some b ∷ []) k ≡ Some (Some e) → d.name ≡ e.name → j ≡ k
once_named os b none once j k d e f g same = elim (at_end os (Some b) (Some d) j f) [
  | inl p ↦ elim (at_end os (Some b) (Some e) k g) [
    | inl q ↦ once j k d e p q same
    | inr q ↦ absurd (unlike b.name os j d none p (same ∙ ap (λ (x : Bound). x.name) (some_same e b q.1)))
  ]
  | inr p ↦ elim (at_end os (Some b) (Some e) k g) [
    | inl q ↦ absurd (unlike b.name os k e none q (sym same ∙ ap (λ (x : Bound). x.name) (some_same d b p.1)))
    | inr q ↦ p.0 ∙ sym q.0
  ]
]

-- ---- kept tables

few_free : (at : ℕ) (os : List (Option Bound)) → free_sum (λ (j : ℕ). 1) at os ≤ length os
few_free at [] = omega arith
few_free at (None ∷ os) = let le : free_sum (λ (j : ℕ). 1) (suc at) os ≤ length os = few_free (suc at) os in omega arith
few_free at (Some b ∷ os) = let le : free_sum (λ (j : ℕ). 1) (suc at) os ≤ length os = few_free (suc at) os in omega arith

many_listed : (rs : List (Reverse ℕ)) → sum_by (λ (j : ℕ). 1) (numbers rs) ≡ length rs
many_listed [] = refl
many_listed (r ∷ rs) =
    let rest : sum_by (λ (j : ℕ). 1) (numbers rs) ≡ length rs = many_listed rs in
    let first : sum_by (λ (j : ℕ). 1) (r.0 ∷ numbers rs) ≡ 1 + sum_by (λ (j : ℕ). 1) (numbers rs) = sum_by-cons (λ (j : ℕ). 1) r.0 (numbers rs) in
    omega arith

-- beside a ring with a name there is room in the heap
pub heap_below : (os : List (Option Bound)) (look : List ℕ → Option ℕ) (rs : List (Reverse ℕ)) (room i : ℕ) (b : Bound) → IsKeptTable os look rs room → slice_get os i ≡ Some (Some b) → length rs < room
heap_below os look rs room i b k e =
    let all : sum_by (λ (j : ℕ). 1) (numbers rs) ≡ free_sum (λ (j : ℕ). 1) 0 os = k.table.free (λ (j : ℕ). 1) in
    let len : sum_by (λ (j : ℕ). 1) (numbers rs) ≡ length rs = many_listed rs in
    let set : free_sum (λ (j : ℕ). 1) 0 (slice_set os i None) ≡ 1 + free_sum (λ (j : ℕ). 1) 0 os = sum_forgot (λ (j : ℕ). 1) 0 os i b e in
    let few : free_sum (λ (j : ℕ). 1) 0 (slice_set os i None) ≤ length (slice_set os i None) = few_free 0 (slice_set os i None) in
    let same : length (slice_set os i None) ≡ length os = length-set os i None in
    let holds : length os ≤ room = k.holds in
    omega arith

abbrev later : Reverse ℕ → Reverse ℕ → Ordering
later x y = nat_cmp y.0 x.0

pub kept_bound : (os : List (Option Bound)) (look more : List ℕ → Option ℕ) (rs qs : List (Reverse ℕ)) (room wide : ℕ) (top : Reverse ℕ) (ring : ℕ) (key : List ℕ) (b : Bound) → IsKeptTable os look rs room →
    free os ≡ Some ring → key ≡ b.name → found key os ≡ None → IsPermutation rs (top ∷ qs) → PopsGreatest later rs top qs → (IsHeap later rs → IsUpperBound later top qs) → wide ≡ room →
    ((y : List ℕ) → more y ≡ cond (bytes_eq key y) (Some ring) (look y)) → IsKeptTable (slice_set os ring (Some b)) more qs wide
kept_bound os look more rs qs room wide top ring key b k first_free name unused p pops low same new =
    let first : free os ≡ Some top.0 = popped_is_free os look top rs qs k.table p (low k.order) in
    let at : top.0 ≡ ring = some_same top.0 ring (sym first ∙ first_free) in
    let t : IsTable os look (top.0 ∷ numbers qs) = permuted_table os look rs (top ∷ qs) p k.table in
    let len : length (slice_set os ring (Some b)) ≡ length os = length-set os ring (Some b) in
    let holds : length os ≤ room = k.holds in
    record {
      table = bound_table os look more ring (numbers qs) b (subst (λ (n : ℕ). IsTable os look (n ∷ numbers qs)) at t) (free_at os ring first_free)
          (subst (λ (x : List ℕ). found x os ≡ None) name unused) (λ y. subst (λ (x : List ℕ). more y ≡ cond (bytes_eq x y) (Some ring) (look y)) name (new y));
      order = (pops k.order).0;
      holds = omega arith;
    }

pub kept_forgot : (os : List (Option Bound)) (look less : List ℕ → Option ℕ) (rs qs : List (Reverse ℕ)) (room wide : ℕ) (item : Reverse ℕ) (ring : ℕ) (b : Bound) → IsKeptTable os look rs room →
    slice_get os ring ≡ Some (Some b) → item.0 ≡ ring → IsPermutation (item ∷ rs) qs → KeepsHeap later rs qs → room ≤ wide →
    ((y : List ℕ) → less y ≡ cond (bytes_eq b.name y) None (look y)) → IsKeptTable (slice_set os ring None) less qs wide
kept_forgot os look less rs qs room wide item ring b k entry at p keeps le new =
    let len : length (slice_set os ring None) ≡ length os = length-set os ring None in
    let holds : length os ≤ room = k.holds in
    record {
      table = forgot_table os look less ring (numbers rs) (numbers qs) b k.table entry new
          (λ f. subst (λ (n : ℕ). sum_by f (numbers qs) ≡ f n + sum_by f (numbers rs)) at (pushed_sums item rs qs p f));
      order = keeps k.order;
      holds = omega arith;
    }

pub kept_freed : (os : List (Option Bound)) (look : List ℕ → Option ℕ) (rs qs : List (Reverse ℕ)) (room wide : ℕ) (item : Reverse ℕ) → IsKeptTable os look rs room → item.0 ≡ length os →
    IsPermutation (item ∷ rs) qs → KeepsHeap later rs qs → length os + 1 ≤ wide → IsKeptTable (os ++ None ∷ []) look qs wide
kept_freed os look rs qs room wide item k at p keeps le =
    let len : length (os ++ None ∷ []) ≡ length os + 1 = length-append os (None ∷ []) in
    record {
      table = record {
        looks = λ y. k.table.looks y ∙ sym (ap ring_in (found_added y os));
        free = λ f.
            let all : sum_by f (numbers rs) ≡ free_sum f 0 os = k.table.free f in
            let sums : sum_by f (numbers qs) ≡ f item.0 + sum_by f (numbers rs) = pushed_sums item rs qs p f in
            let more : free_sum f 0 (os ++ None ∷ []) ≡ free_sum f 0 os + f (0 + length os) = sum_added f 0 os in
            let same : f item.0 ≡ f (0 + length os) = ap f (omega arith) in
            omega arith;
        once = λ i j b d e f same. k.table.once i j b d (bound_before os i b e) (bound_before os j d f) same;
      };
      order = keeps k.order;
      holds = omega arith;
    }

pub kept_named : (os : List (Option Bound)) (look more : List ℕ → Option ℕ) (rs qs : List (Reverse ℕ)) (room wide ring : ℕ) (key : List ℕ) (b : Bound) → IsKeptTable os look rs room → ring ≡ length os →
    qs ≡ rs → key ≡ b.name → found key os ≡ None → length os + 1 ≤ wide → ((y : List ℕ) → more y ≡ cond (bytes_eq key y) (Some ring) (look y)) → IsKeptTable (os ++ Some b ∷ []) more qs wide
kept_named os look more rs qs room wide ring key b k at same name unused le new =
    let len : length (os ++ Some b ∷ []) ≡ length os + 1 = length-append os (Some b ∷ []) in
    let nowhere : found b.name os ≡ None = subst (λ (x : List ℕ). found x os ≡ None) name unused in
    subst (λ (zs : List (Reverse ℕ)). IsKeptTable (os ++ Some b ∷ []) more zs wide) (sym same) (record {
      table = record {
        looks = λ y.
            subst (λ (x : List ℕ). more y ≡ cond (bytes_eq x y) (Some ring) (look y)) name (new y)
            ∙ ap (λ (n : ℕ). cond (bytes_eq b.name y) (Some n) (look y)) at
            ∙ ap (λ (o : Option ℕ). cond (bytes_eq b.name y) (Some (length os)) o) (k.table.looks y)
            ∙ sym (found_named os b y nowhere);
        free = λ f. k.table.free f ∙ sym (sum_named f 0 os b);
        once = once_named os b nowhere k.table.once;
      };
      order = k.order;
      holds = omega arith;
    })

-- the first of the heap is the lowest free ring
pub peeked_is_free : (os : List (Option Bound)) (look : List ℕ → Option ℕ) (rs : List (Reverse ℕ)) (room : ℕ) (x : Reverse ℕ) → IsKeptTable os look rs room → 0 < length rs → x ≡ slice_index_or rs 0 x →
    IsUpperBound later x rs → free os ≡ Some x.0
peeked_is_free os look [] room x k lt e low = absurd (omega (arith, lt))
peeked_is_free os look (y ∷ ys) room x k lt e low =
    least_is_free os look y.0 (numbers ys) k.table (subst (λ (z : Reverse ℕ). AtLeast z.0 (numbers (y ∷ ys))) e (at_least x (y ∷ ys) low)) ∙ ap (λ (z : Reverse ℕ). Some z.0) (sym e)

pub empty_is_full : (os : List (Option Bound)) (look : List ℕ → Option ℕ) (rs : List (Reverse ℕ)) (room : ℕ) → IsKeptTable os look rs room → (0 < length rs → ⊥) → free os ≡ None
empty_is_full os look [] room k nope = none_is_free os look k.table
empty_is_full os look (y ∷ ys) room k nope = absurd (nope (omega arith))

pub empty_contradicts : (os : List (Option Bound)) (look : List ℕ → Option ℕ) (rs : List (Reverse ℕ)) (room ring : ℕ) → IsKeptTable os look rs room → length rs ≡ 0 → free os ≡ Some ring → ⊥
empty_contradicts os look rs room ring k len e = none_some ring (sym (empty_is_full os look rs room k (λ lt. omega (arith, len, lt))) ∙ e)

-- ---- the list of bindings

pub entry_within : (items : List (Option Binding)) (ring : ℕ) (o : Option Bound) → slice_get (bounds_of items) ring ≡ Some o → ring < length items
entry_within items ring o e =
    let len : length (bounds_of items) ≡ length items = length-map items (λ (x : Option Binding). option_map bound_of x) in
    let lt : ring < length (bounds_of items) = slice_get_within (bounds_of items) ring o e in
    omega arith

pub entry_read : (items : List (Option Binding)) (ring : ℕ) (x : Option Binding) → ring < length items → x ≡ slice_index_or items ring x → slice_get (bounds_of items) ring ≡ Some (option_map bound_of x)
entry_read items ring x lt e = slice_get-map (λ (o : Option Binding). option_map bound_of o) items ring ∙ ap (λ (o : Option (Option Binding)). option_map (λ (z : Option Binding). option_map bound_of z) o) (slice_get_read items (length items) ring x refl lt e)
