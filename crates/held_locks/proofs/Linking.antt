-- Two lists of which one says what comes after each link, and the other what comes before it.
use Rattle.std.proofs.Common.{◌≡◌, ◌≢◌, ℕ, zero, suc, ◌+◌, ◌<◌, List, [], ◌∷◌, ◌++◌, length, length-append, refl, sym, ◌∙◌, ap, inl, inr, arith, Option, Some, None}
use Rattle.std.specs.Prelude.{slice_get, slice_set, ◌⊎◌}
use Rattle.std.proofs.lemmas.Bool.{cases_eq}
use Rattle.std.proofs.lemmas.List.{length-set}
use Rattle.std.proofs.lemmas.Option.{slice_get_within}
use Rattle.held_locks.specs.Holding.{IsLinked, IsSpliced}
use Rattle.held_locks.proofs.Standing.{get_set_same, get_set_other}
use Rattle.held_locks.proofs.Adding.{get_front}

pub same_nat : (x y : ℕ) → ◌≡◌ {A = Option ℕ} (Some x) (Some y) → x ≡ y
same_nat x y e = cc

pub there_is : {X : Type 0} (xs : List X) (i : ℕ) → i < length xs → (x : X) × (slice_get xs i ≡ Some x)
there_is [] i l = absurd (omega arith)
there_is (x ∷ xs) zero l = (x, refl)
there_is (x ∷ xs) (suc i) l = there_is xs i (omega arith)

pub one_longer : (xs : List (Option ℕ)) (x : Option ℕ) → length (xs ++ x ∷ []) ≡ length xs + 1
one_longer xs x = length-append xs (x ∷ [])

-- two writes that exchange what is at two places
pub set_spliced : (xs : List ℕ) (a b x y : ℕ) → slice_get xs a ≡ Some x → slice_get xs b ≡ Some y → IsSpliced xs (slice_set (slice_set xs a y) b x) a b
set_spliced xs a b x y e f = record {
  first = elim (cases_eq a b) [
    | inl q ↦ ap (λ (k : ℕ). slice_get (slice_set (slice_set xs a y) b x) k) q ∙ second ∙ ap (λ (k : ℕ). slice_get xs k) q
    | inr n ↦ get_set_other (slice_set xs a y) b a x n ∙ get_set_same xs a y x e ∙ sym f
  ];
  second = second;
  others = λ k n m. get_set_other (slice_set xs a y) b k x m ∙ get_set_other xs a k y n;
  many = length-set (slice_set xs a y) b x ∙ length-set xs a y;
}
  where
    there : (w : ℕ) × (slice_get (slice_set xs a y) b ≡ Some w)
    there = elim (cases_eq b a) [
      | inl q ↦ (y, ap (λ (k : ℕ). slice_get (slice_set xs a y) k) q ∙ get_set_same xs a y x e)
      | inr n ↦ (y, get_set_other xs a b y n ∙ f)
    ]

    second : slice_get (slice_set (slice_set xs a y) b x) b ≡ slice_get xs a
    second = get_set_same (slice_set xs a y) b x there.0 there.1 ∙ sym e

module _ (N P M Q : List ℕ) (a b x y : ℕ) (k : (u v : ℕ) → slice_get N u ≡ Some v → slice_get P v ≡ Some u) (e : slice_get N a ≡ Some x) (f : slice_get N b ≡ Some y) (s : IsSpliced N M a b)
    (first : slice_get Q y ≡ slice_get P x) (second : slice_get Q x ≡ slice_get P y) (others : (v : ℕ) → v ≢ x → v ≢ y → slice_get Q v ≡ slice_get P v) where
  ahead : (u v : ℕ) → slice_get M u ≡ Some v → slice_get Q v ≡ Some u
  ahead u v g = elim (cases_eq u a) [
    | inl q ↦
        let r : v ≡ y = same_nat v y (sym g ∙ ap (λ (n : ℕ). slice_get M n) q ∙ s.first ∙ f) in
        ap (λ (n : ℕ). slice_get Q n) r ∙ first ∙ k a x e ∙ ap (λ (n : ℕ). Some n) (sym q)
    | inr n ↦ elim (cases_eq u b) [
      | inl q ↦
          let r : v ≡ x = same_nat v x (sym g ∙ ap (λ (n : ℕ). slice_get M n) q ∙ s.second ∙ e) in
          ap (λ (n : ℕ). slice_get Q n) r ∙ second ∙ k b y f ∙ ap (λ (n : ℕ). Some n) (sym q)
      | inr m ↦
          let g' : slice_get N u ≡ Some v = sym (s.others u n m) ∙ g in
          let p : v ≢ x = λ q. n (same_nat u a (sym (k u v g') ∙ ap (λ (n : ℕ). slice_get P n) q ∙ k a x e)) in
          let p' : v ≢ y = λ q. m (same_nat u b (sym (k u v g') ∙ ap (λ (n : ℕ). slice_get P n) q ∙ k b y f)) in
          others v p p' ∙ k u v g'
    ]
  ]

pub spliced_linked : (N P M Q : List ℕ) (a b x y : ℕ) → IsLinked N P → slice_get N a ≡ Some x → slice_get N b ≡ Some y → IsSpliced N M a b → IsSpliced P Q y x → IsLinked M Q
spliced_linked N P M Q a b x y k e f s t = record {
  same = t.many ∙ k.same ∙ sym s.many;
  ahead = ahead N P M Q a b x y k.ahead e f s t.first t.second (λ v n m. t.others v m n);
  behind = ahead P N Q M y x b a k.behind (k.ahead b y f) (k.ahead a x e) t s.first s.second (λ v n m. s.others v m n);
}

-- what comes after a link is a link, and what comes before it
pub after_within : (N P : List ℕ) (u v : ℕ) → IsLinked N P → slice_get N u ≡ Some v → v < length N
after_within N P u v k e =
    let l = slice_get_within P v u (k.ahead u v e) in
    let n = k.same in
    omega arith

pub before_within : (N P : List ℕ) (u v : ℕ) → IsLinked N P → slice_get P u ≡ Some v → v < length N
before_within N P u v k e = slice_get_within N v u (k.behind u v e)

-- two links before the same one are one
pub one_before : (N P : List ℕ) (u w v : ℕ) → IsLinked N P → slice_get N u ≡ Some v → slice_get N w ≡ Some v → u ≡ w
one_before N P u w v k e f = same_nat u w (sym (k.ahead u v e) ∙ k.ahead w v f)

-- ---- a link more, which comes after itself

pub get_last : (xs : List ℕ) (x : ℕ) → slice_get (xs ++ x ∷ []) (length xs) ≡ Some x
get_last [] x = refl
get_last (y ∷ xs) x = get_last xs x

-- what is at a place then: what was there, or the new one
pub get_more : (xs : List ℕ) (x i y : ℕ) → slice_get (xs ++ x ∷ []) i ≡ Some y → (slice_get xs i ≡ Some y) ⊎ ((i ≡ length xs) × (y ≡ x))
get_more [] x zero y e = inr (refl, same_nat y x (sym e))
get_more [] x (suc i) y e = absurd (no i y e)
  where
    no : (i y : ℕ) → ◌≡◌ {A = Option ℕ} None (Some y) → ⊥
    no i y e = cc
get_more (z ∷ xs) x zero y e = inl e
get_more (z ∷ xs) x (suc i) y e = elim (get_more xs x i y e) [
  | inl p ↦ inl p
  | inr p ↦ inr (ap suc p.0, p.1)
]

link_ahead : (N P : List ℕ) (n : ℕ) → length N ≡ n → length P ≡ n → ((x y : ℕ) → slice_get N x ≡ Some y → slice_get P y ≡ Some x) → (x y : ℕ) → slice_get (N ++ n ∷ []) x ≡ Some y → slice_get (P ++ n ∷ []) y ≡ Some x
link_ahead N P n e f k x y g = elim (get_more N n x y g) [
  | inl p ↦ get_front P n y x (k x y p)
  | inr p ↦ ap (λ (i : ℕ). slice_get (P ++ n ∷ []) i) (p.1 ∙ sym f) ∙ get_last P n ∙ ap (λ (i : ℕ). Some i) (sym e ∙ sym p.0)
]

pub link_linked : (N P : List ℕ) → IsLinked N P → IsLinked (N ++ length N ∷ []) (P ++ length N ∷ [])
link_linked N P k = record {
  same = let a = length-append N (length N ∷ []) in let b = length-append P (length N ∷ []) in let c = k.same in omega arith;
  ahead = link_ahead N P (length N) refl k.same k.ahead;
  behind = link_ahead P N (length N) k.same refl k.behind;
}
