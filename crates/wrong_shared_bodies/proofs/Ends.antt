-- The last element of a list, or of a prefix.
use Rattle.std.proofs.Common.{◌≡◌, ℕ, ◌+◌, List, [], ◌∷◌, ◌++◌, length, Some, slice_get, refl, ap, sym, ◌∙◌, subst, arith, append_assoc, length-append}

pub at_end : {A : Type 0} (front : List A) (x : A) (back : List A) → slice_get (front ++ x ∷ back) (length front) ≡ Some x
at_end [] x back = refl
at_end (y ∷ front) x back = at_end front x back

-- the last of a list
pub last_of : {A : Type 0} (xs front : List A) (x : A) → xs ≡ front ++ x ∷ [] → slice_get xs (length front) ≡ Some x
last_of {A} xs front x e = subst (λ (l : List A). slice_get l (length front) ≡ Some x) (sym e) (at_end front x [])

-- the last but one
pub before_last : {A : Type 0} (xs front : List A) (x y : A) → xs ≡ (front ++ x ∷ []) ++ y ∷ [] → slice_get xs (length front) ≡ Some x
before_last {A} xs front x y e =
    subst (λ (l : List A). slice_get l (length front) ≡ Some x) (sym (e ∙ append_assoc front (x ∷ []) (y ∷ []))) (at_end front x (y ∷ []))

-- and the last after it
pub behind_it : {A : Type 0} (xs front : List A) (x y : A) → xs ≡ (front ++ x ∷ []) ++ y ∷ [] → slice_get xs (length front + 1) ≡ Some y
behind_it {A} xs front x y e =
    subst (λ (i : ℕ). slice_get xs i ≡ Some y) (length-append front (x ∷ [])) (last_of xs (front ++ x ∷ []) y e)

-- the rests of two equal lists after prefixes of one length
pub behind : {A : Type 0} (front back xs ys : List A) → length front ≡ length back → front ++ xs ≡ back ++ ys → xs ≡ ys
behind [] [] xs ys n e = e
behind [] (b ∷ back) xs ys n e = absurd (omega arith)
behind (f ∷ front) [] xs ys n e = absurd (omega arith)
behind {A} (f ∷ front) (b ∷ back) xs ys n e =
    let tails : front ++ xs ≡ back ++ ys = cc (e) in
    behind front back xs ys (omega arith) tails

-- two equal lists end alike
pub same_last : {A : Type 0} (xs ys : List A) (x y : A) → xs ++ x ∷ [] ≡ ys ++ y ∷ [] → x ≡ y
same_last {A} xs ys x y e =
    let n : length xs ≡ length ys = omega (arith, ap (λ (l : List A). length l) e, length-append xs (x ∷ []), length-append ys (y ∷ [])) in
    let s : x ∷ [] ≡ y ∷ [] = behind xs ys (x ∷ []) (y ∷ []) n e in
    cc (s)

-- two steps at the end, one after the other
pub two_steps : {A : Type 0} (xs ys front : List A) (x y : A) → xs ≡ ys ++ y ∷ [] → ys ≡ front ++ x ∷ [] → xs ≡ (front ++ x ∷ []) ++ y ∷ []
two_steps {A} xs ys front x y e d = e ∙ ap (λ (l : List A). l ++ y ∷ []) d

-- one more at the end
pub one_more : {A : Type 0} (xs ys : List A) (x : A) → xs ≡ ys ++ x ∷ [] → length xs ≡ length ys + 1
one_more {A} xs ys x e = ap (λ (l : List A). length l) e ∙ length-append ys (x ∷ [])
