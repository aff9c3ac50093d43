-- Facts on each item of a list, or of two, found by a loop over them.
use Rattle.std.proofs.Common.{◌≡◌, ℕ, ◌+◌, ◌<◌, ◌≤◌, List, [], ◌∷◌, length, drop, get_or, sym, ap, subst, ◌∙◌, arith}
use Rattle.std.proofs.lemmas.List.{drop_more, drop_all}

-- a fact on a list is one on its first item and on the others
pub record Splits {B : Type 0} (Are : List B → Type 0) (Is : B → Type 0) : Type 0 where
  pub none : Are []
  pub first : (b : B) (bs : List B) → Are (b ∷ bs) → Is b
  pub others : (b : B) (bs : List B) → Are (b ∷ bs) → Are bs
  pub more : (b : B) (bs : List B) → Is b → Are bs → Are (b ∷ bs)

-- of the items from a place on it is the fact of all
pub record SoFar {B : Type 0} (Are : List B → Type 0) (bs : List B) (i : ℕ) : Type 0 where
  pub to : Are (drop i bs) → Are bs
  pub from : Are bs → Are (drop i bs)

pub so_first : {B : Type 0} (Are : List B → Type 0) (bs : List B) → SoFar Are bs 0
so_first Are bs = record { to = λ h. h; from = λ h. h }

module _ {B : Type 0} {Are : List B → Type 0} {Is : B → Type 0} (law : Splits Are Is) {bs : List B} {i : ℕ} (so : SoFar Are bs i) where
  pub so_more : (d : B) → i < length bs → Is (get_or bs i d) → SoFar Are bs (i + 1)
  so_more d lt is = record {
    to = λ h. so.to (subst Are (sym (drop_more bs i d lt)) (law.more (get_or bs i d) (drop (i + 1) bs) is h));
    from = λ h. law.others (get_or bs i d) (drop (i + 1) bs) (subst Are (drop_more bs i d lt) (so.from h));
  }

  pub so_not : (d : B) → i < length bs → (Is (get_or bs i d) → ⊥) → Are bs → ⊥
  so_not d lt not h = not (law.first (get_or bs i d) (drop (i + 1) bs) (subst Are (drop_more bs i d lt) (so.from h)))

  pub so_all : length bs ≤ i → Are bs
  so_all le = so.to (subst Are (sym (drop_all i bs le)) law.none)

-- a fact on two lists, as long as the first has items
pub record Pairs {A B : Type 0} (Are : List A → List B → Type 0) (Is : A → B → Type 0) : Type 0 where
  pub first : (a : A) (as' : List A) (b : B) (bs : List B) → Are (a ∷ as') (b ∷ bs) → Is a b
  pub others : (a : A) (as' : List A) (b : B) (bs : List B) → Are (a ∷ as') (b ∷ bs) → Are as' bs
  pub more : (a : A) (as' : List A) (b : B) (bs : List B) → Is a b → Are as' bs → Are (a ∷ as') (b ∷ bs)
  pub few : (a : A) (as' : List A) → Are (a ∷ as') [] → ⊥

pub record BothSoFar {A B : Type 0} (Are : List A → List B → Type 0) (xs : List A) (bs : List B) (i : ℕ) : Type 0 where
  pub to : Are (drop i xs) (drop i bs) → Are xs bs
  pub from : Are xs bs → Are (drop i xs) (drop i bs)

pub both_first : {A B : Type 0} (Are : List A → List B → Type 0) (xs : List A) (bs : List B) → BothSoFar Are xs bs 0
both_first Are xs bs = record { to = λ h. h; from = λ h. h }

pub too_few : {A B : Type 0} {Are : List A → List B → Type 0} {Is : A → B → Type 0} → Pairs Are Is → (xs : List A) (bs : List B) → length bs < length xs → Are xs bs → ⊥
too_few law [] bs lt h = absurd (omega (arith, lt))
too_few law (x ∷ xs) [] lt h = law.few x xs h
too_few law (x ∷ xs) (b ∷ bs) lt h = too_few law xs bs (omega (arith, lt)) (law.others x xs b bs h)

module _ {A B : Type 0} {Are : List A → List B → Type 0} {Is : A → B → Type 0} (law : Pairs Are Is) {xs : List A} {bs : List B} {i : ℕ} (so : BothSoFar Are xs bs i) (d : A) (e : B) (lt : i < length xs) (gt : i < length bs) where
  cut : Are (drop i xs) (drop i bs) ≡ Are (get_or xs i d ∷ drop (i + 1) xs) (get_or bs i e ∷ drop (i + 1) bs)
  cut = ap (λ (u : List A). Are u (drop i bs)) (drop_more xs i d lt) ∙ ap (λ (u : List B). Are (get_or xs i d ∷ drop (i + 1) xs) u) (drop_more bs i e gt)

  pub both_more : Is (get_or xs i d) (get_or bs i e) → BothSoFar Are xs bs (i + 1)
  both_more is = record {
    to = λ h. so.to (subst (λ (T : Type 0). T) (sym cut) (law.more (get_or xs i d) (drop (i + 1) xs) (get_or bs i e) (drop (i + 1) bs) is h));
    from = λ h. law.others (get_or xs i d) (drop (i + 1) xs) (get_or bs i e) (drop (i + 1) bs) (subst (λ (T : Type 0). T) cut (so.from h));
  }

  pub both_not : (Is (get_or xs i d) (get_or bs i e) → ⊥) → Are xs bs → ⊥
  both_not not h = not (law.first (get_or xs i d) (drop (i + 1) xs) (get_or bs i e) (drop (i + 1) bs) (subst (λ (T : Type 0). T) cut (so.from h)))

-- the first list has no more items
pub both_left : {A B : Type 0} {Are : List A → List B → Type 0} {xs : List A} {bs : List B} {i : ℕ} → BothSoFar Are xs bs i → length xs ≤ i → (Are [] (drop i bs) → Are xs bs) × (Are xs bs → Are [] (drop i bs))
both_left {A} {B} {Are} {xs} {bs} {i} so le =
    let none : drop i xs ≡ [] = drop_all i xs le in
    ((λ h. so.to (subst (λ (u : List A). Are u (drop i bs)) (sym none) h)), (λ h. subst (λ (u : List A). Are u (drop i bs)) none (so.from h)))
