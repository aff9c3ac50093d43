-- The locks that are found along a chain, and those of a client in order.
use Rattle.std.proofs.Common.{◌≡◌, ℕ, zero, suc, ◌+◌, ◌-◌, ◌<◌, ◌≤◌, true, false, List, [], ◌∷◌, ◌++◌, length, length-append, refl, sym, ◌∙◌, ap, subst, inl, inr, arith, Option, Some, None, eqb}
use Rattle.std.specs.Prelude.{slice_get, slice_index_or, ◌⊎◌, ◌==◌, ◌%◌}
use Rattle.std.specs.List.{list_any, Contains, IsDistinct, AllByRecursion}
use Rattle.std.proofs.lemmas.Bool.{cases_Bool, cases_eq, eqb-true, eq-eqb, ne_eqb, or_cases, both_ways, false≢true}
use Rattle.std.proofs.lemmas.Map.Steps.{length-le_from_distinct_below}
use Rattle.std.proofs.lemmas.Option.{slice_get_within}
use Rattle.held_locks.specs.Holding.{Has, Differ, IsChain, IsHeldIn, AreChained, noted, AreFound}
use Rattle.held_locks.proofs.Linking.{same_nat}

-- ---- numbers in lists

any_has : (q : ℕ) (xs : List ℕ) → list_any (eqb q) xs ≡ true → Has q xs
any_has q [] e = false≢true e
any_has q (x ∷ xs) e = elim (or_cases (eqb q x) (list_any (eqb q) xs) e) [
  | inl p ↦ inl (eqb-true q x p)
  | inr p ↦ inr (any_has q xs p)
]

all_apart : (x : ℕ) (xs : List ℕ) → ¬ Has x xs → AllByRecursion (λ y. eqb x y ≡ false) xs
all_apart x [] n = tt
all_apart x (y ∷ ys) n = (ne_eqb x y (λ q. n (inl q)), all_apart x ys (λ h. n (inr h)))

pub distinct : (xs : List ℕ) → Differ xs → IsDistinct eqb xs
unfolding IsDistinct
distinct [] d = tt
distinct (x ∷ xs) d = (all_apart x xs d.0, distinct xs d.1)

pub flips : (x y : ℕ) → eqb x y ≡ eqb y x
flips x y = elim (cases_eq x y) [
  | inl q ↦ eq-eqb x y q ∙ sym (eq-eqb y x (sym q))
  | inr n ↦ ne_eqb x y n ∙ sym (ne_eqb y x (λ q. n (sym q)))
]

pub has_contains : (x : ℕ) (xs : List ℕ) → Has x xs → Contains xs x
has_contains x [] h = absurd h
has_contains x (y ∷ ys) (inl q) = (0, omega arith, sym q)
has_contains x (y ∷ ys) (inr h) =
    let c = has_contains x ys h in
    let l = c.1 in
    (suc c.0, omega (arith, l), c.2)

has_at : (x : ℕ) (xs : List ℕ) (k : ℕ) → k < length xs → slice_index_or xs k x ≡ x → Has x xs
has_at x [] k l e = absurd (omega arith)
has_at x (y ∷ ys) zero l e = inl (sym e)
has_at x (y ∷ ys) (suc k) l e = inr (has_at x ys k (omega arith) e)

pub contains_has : (x : ℕ) (xs : List ℕ) → Contains xs x → Has x xs
contains_has x xs c = has_at x xs c.0 c.1 c.2

pub has_front : (x y : ℕ) (xs : List ℕ) → Has x xs → Has x (xs ++ y ∷ [])
has_front x y [] h = absurd h
has_front x y (z ∷ xs) (inl q) = inl q
has_front x y (z ∷ xs) (inr h) = inr (has_front x y xs h)

pub has_last : (x : ℕ) (xs : List ℕ) → Has x (xs ++ x ∷ [])
has_last x [] = inl refl
has_last x (y ∷ xs) = inr (has_last x xs)

pub has_push : (x y : ℕ) (xs : List ℕ) → Has x (xs ++ y ∷ []) → Has x xs ⊎ (x ≡ y)
has_push x y [] (inl q) = inr q
has_push x y [] (inr h) = absurd h
has_push x y (z ∷ xs) (inl q) = inl (inl q)
has_push x y (z ∷ xs) (inr h) = elim (has_push x y xs h) [
  | inl p ↦ inl (inr p)
  | inr p ↦ inr p
]

pub differ_push : (x : ℕ) (xs : List ℕ) → Differ xs → ¬ Has x xs → Differ (xs ++ x ∷ [])
differ_push x [] d n = (λ h. h, tt)
differ_push x (y ∷ xs) d n = (
  λ h. elim (has_push y x xs h) [
    | inl p ↦ d.0 p
    | inr p ↦ n (inl (sym p))
  ],
  differ_push x xs d.1 (λ h. n (inr h)),
)

-- ---- along a chain

chain_within : (ends : ℕ) (N : List ℕ) (at : ℕ) (is : List ℕ) (j : ℕ) → IsChain ends N at is → Has j is → ends + j < length N
chain_within ends N at [] j c h = absurd h
chain_within ends N at (i ∷ is) j c (inl q) = slice_get_within N (ends + j) c.1.0 (ap (λ (n : ℕ). slice_get N (ends + n)) q ∙ c.1.1)
chain_within ends N at (i ∷ is) j c (inr h) = chain_within ends N c.1.0 is j c.1.2 h

-- the locks of a client that were found before this link, and those after it
pub record IsGathered (ends : ℕ) (next : List ℕ) (clients : List (Option ℕ)) (c link more : ℕ) (found : List ℕ) : Type 0 where
  pub rest : List ℕ
  pub chain : IsChain ends next link rest
  pub apart : Differ rest
  pub few : length rest ≤ more
  pub room : length found + more ≤ length clients
  pub differ : Differ found
  pub once : (i : ℕ) → Has i found → ¬ Has i rest
  pub held : (i : ℕ) → Has i found → IsHeldIn clients i c
  pub all : (i : ℕ) → IsHeldIn clients i c → Has i found ⊎ Has i rest

pub gather_none : (ends : ℕ) (N P : List ℕ) (clients : List (Option ℕ)) (c s at : ℕ) → AreChained ends N P clients → s ≡ c % ends → s < ends → slice_get N s ≡ Some at → IsGathered ends N clients c at (length clients) []
gather_none ends N P clients c s at a e low there =
    let o = a.chains s at low there in
    let many = a.many in record {
      rest = o.locks;
      chain = o.chain;
      apart = o.differ;
      few = length-le_from_distinct_below o.locks (length clients) (distinct o.locks o.differ) (λ q h.
          let w = chain_within ends N at o.locks q o.chain (any_has q o.locks h) in omega (arith, w, many));
      room = omega arith;
      differ = tt;
      once = λ i h. absurd h;
      held = λ i h. absurd h;
      all = λ i h. inr (o.known i c h (sym e));
    }

-- no chain has the client, where there are no locks
pub found_none : (ends : ℕ) (N P : List ℕ) (clients : List (Option ℕ)) (c s : ℕ) → AreChained ends N P clients → s < ends → length N ≤ s → AreFound clients c []
found_none ends N P clients c s a low l = record {
  differ = tt;
  few = omega arith;
  held = λ i h. absurd h;
  all = λ i h. let w = slice_get_within clients i (Some c) h in let many = a.many in absurd (omega (arith, w, many, low, l));
}

none_some : (c : ℕ) → ◌≡◌ {A = Option ℕ} None (Some c) → ⊥
none_some c e = cc

some_is : (x y : Option ℕ) → ◌≡◌ {A = Option (Option ℕ)} (Some x) (Some y) → x ≡ y
some_is x y e = cc

module _ (ends : ℕ) (N : List ℕ) (clients : List (Option ℕ)) (c link more lock z : ℕ) (o : Option ℕ) (found : List ℕ) (less : 0 < more) (is : link ≡ ends + lock) (next : slice_get N link ≡ Some z) (there : slice_get clients lock ≡ Some o) where
  -- the lock is the client's
  gather_it : (rest : List ℕ) → IsHeldIn clients lock c → (g : IsGathered ends N clients c link more found) → g.rest ≡ lock ∷ rest → IsChain ends N z rest → IsGathered ends N clients c z (more - 1) (found ++ lock ∷ [])
  gather_it rest h g e k =
      let new : ¬ Has lock found = λ x. g.once lock x (subst (λ (l : List ℕ). Has lock l) (sym e) (inl refl)) in
      let apart : Differ (lock ∷ rest) = subst Differ e g.apart in
      let size : length g.rest ≡ suc (length rest) = ap (λ (l : List ℕ). length l) e in
      let few = g.few in
      let room = g.room in
      let long = length-append found (lock ∷ []) in record {
        rest = rest;
        chain = k;
        apart = apart.1;
        few = omega arith;
        room = omega arith;
        differ = differ_push lock found g.differ new;
        once = λ i x y. elim (has_push i lock found x) [
          | inl p ↦ g.once i p (subst (λ (l : List ℕ). Has i l) (sym e) (inr y))
          | inr p ↦ apart.0 (subst (λ (n : ℕ). Has n rest) p y)
        ];
        held = λ i x. elim (has_push i lock found x) [
          | inl p ↦ g.held i p
          | inr p ↦ subst (λ (n : ℕ). IsHeldIn clients n c) (sym p) h
        ];
        all = λ i x. elim (g.all i x) [
          | inl p ↦ inl (has_front i lock found p)
          | inr p ↦ elim (subst (λ (l : List ℕ). Has i l) e p) [
            | inl q ↦ inl (subst (λ (n : ℕ). Has n (found ++ lock ∷ [])) (sym q) (has_last lock found))
            | inr q ↦ inr q
          ]
        ];
      }

  -- it is not
  gather_not : (rest : List ℕ) → ¬ IsHeldIn clients lock c → (g : IsGathered ends N clients c link more found) → g.rest ≡ lock ∷ rest → IsChain ends N z rest → IsGathered ends N clients c z (more - 1) found
  gather_not rest n g e k =
      let apart : Differ (lock ∷ rest) = subst Differ e g.apart in
      let size : length g.rest ≡ suc (length rest) = ap (λ (l : List ℕ). length l) e in
      let few = g.few in
      let room = g.room in record {
        rest = rest;
        chain = k;
        apart = apart.1;
        few = omega arith;
        room = omega arith;
        differ = g.differ;
        once = λ i x y. g.once i x (subst (λ (l : List ℕ). Has i l) (sym e) (inr y));
        held = g.held;
        all = λ i x. elim (g.all i x) [
          | inl p ↦ inl p
          | inr p ↦ elim (subst (λ (l : List ℕ). Has i l) e p) [
            | inl q ↦ absurd (n (subst (λ (m : ℕ). IsHeldIn clients m c) q x))
            | inr q ↦ inr q
          ]
        ];
      }

  by_holder : (rest : List ℕ) (h : Option ℕ) → o ≡ h → (g : IsGathered ends N clients c link more found) → g.rest ≡ lock ∷ rest → IsChain ends N z rest → IsGathered ends N clients c z (more - 1) (noted found lock h c)
  by_holder rest None q g e k = gather_not rest (λ x. none_some c (sym q ∙ some_is o (Some c) (sym there ∙ x))) g e k
  by_holder rest (Some d) q g e k = elim (cases_Bool (d == c)) [
    | inl t ↦
        let it : IsHeldIn clients lock c = there ∙ ap (λ (x : Option ℕ). Some x) (q ∙ ap (λ (x : ℕ). Some x) (eqb-true d c t)) in
        rw t (gather_it rest it g e k)
    | inr t ↦
        rw t (gather_not rest (λ x. both_ways (d == c) t (eq-eqb d c (same_nat d c (sym q ∙ some_is o (Some c) (sym there ∙ x))))) g e k)
  ]

  pub gather_more : IsGathered ends N clients c link more found → IsGathered ends N clients c z (more - 1) (noted found lock o c)
  gather_more g = by g.rest refl
    where
      by : (rest : List ℕ) → g.rest ≡ rest → IsGathered ends N clients c z (more - 1) (noted found lock o c)
      by [] e = let k : link < ends = subst (λ (l : List ℕ). IsChain ends N link l) e g.chain in absurd (omega (arith, is, k))
      by (i ∷ rest) e =
          let k : IsChain ends N link (i ∷ rest) = subst (λ (l : List ℕ). IsChain ends N link l) e g.chain in
          let k0 : link ≡ ends + i = k.0 in
          let same : i ≡ lock = omega (arith, k0, is) in
          let there' : slice_get N link ≡ Some k.1.0 = ap (λ (n : ℕ). slice_get N n) k.0 ∙ k.1.1 in
          let to : k.1.0 ≡ z = same_nat k.1.0 z (sym there' ∙ next) in
          by_holder rest o refl g (e ∙ ap (λ (n : ℕ). n ∷ rest) same) (subst (λ (n : ℕ). IsChain ends N n rest) to k.1.2)

-- at the end
pub gathered : (ends : ℕ) (N : List ℕ) (clients : List (Option ℕ)) (c link more : ℕ) (found : List ℕ) → (link < ends) ⊎ (more ≤ 0) → IsGathered ends N clients c link more found → AreFound clients c found
gathered ends N clients c link more found end g = record {
  differ = g.differ;
  few = let room = g.room in omega arith;
  held = g.held;
  all = λ i x. elim (g.all i x) [
    | inl p ↦ p
    | inr p ↦ absurd (subst (λ (l : List ℕ). Has i l) (none g.rest g.chain g.few) p)
  ];
}
  where
    none : (rest : List ℕ) → IsChain ends N link rest → length rest ≤ more → rest ≡ []
    none [] k l = refl
    none (i ∷ rest) k l = let k0 : link ≡ ends + i = k.0 in elim end [
      | inl p ↦ absurd (omega (arith, p, k0))
      | inr p ↦ absurd (omega (arith, p, l))
    ]

-- a link on the way is a lock's
pub link_within : (ends : ℕ) (N : List ℕ) (clients : List (Option ℕ)) (c link more : ℕ) (found : List ℕ) → IsGathered ends N clients c link more found → ends ≤ link → link < length N
link_within ends N clients c link more found g l = by g.rest g.chain
  where
    by : (rest : List ℕ) → IsChain ends N link rest → link < length N
    by [] k = let b : link < ends = k in absurd (omega (arith, b, l))
    by (i ∷ rest) k =
        let e : link ≡ ends + i = k.0 in
        let w = slice_get_within N (ends + i) k.1.0 k.1.1 in
        omega (arith, e, w)
