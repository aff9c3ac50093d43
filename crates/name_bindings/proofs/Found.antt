-- Which ring has a name, and which is free.
use Rattle.std.proofs.Common.{◌≡◌, ℕ, zero, suc, ◌<◌, Bool, true, false, List, [], ◌∷◌, ◌++◌, length, Option, None, Some, ◌⊎◌, inl, inr, refl, sym, ◌∙◌, ap, subst, arith}
use Rattle.std.specs.Prelude.{if◌then◌else◌, option_map, slice_get, is_some}
use Rattle.std.specs.Str.{bytes_eq}
use Rattle.std.proofs.lemmas.Bool.{both_ways, false≢true}
use Rattle.std.proofs.lemmas.Slice.Eq.{bytes_eq-Decides}
use Rattle.name_bindings.specs.Bindings.{Bound, found, further, free}

-- ---- names and options

pub same_name : (x y : List ℕ) → bytes_eq x y ≡ true → x ≡ y
same_name x y e = (bytes_eq-Decides x y).0 e

pub own_name : (x y : List ℕ) → x ≡ y → bytes_eq x y ≡ true
own_name x y e = (bytes_eq-Decides x y).1 e

pub some_same : {X : Type 0} (x y : X) → ◌≡◌ {A = Option X} (Some x) (Some y) → x ≡ y
some_same x y e = cc

pub none_some : {X : Type 0} (x : X) → ◌≡◌ {A = Option X} None (Some x) → ⊥
none_some x e = cc

pub not_some : {X : Type 0} (o : Option X) → is_some o ≡ false → o ≡ None
not_some None e = refl
not_some (Some x) e = absurd (false≢true (sym e))

-- what is at a place
pub there_is : {X : Type 0} (xs : List X) (i : ℕ) → i < length xs → (x : X) × (slice_get xs i ≡ Some x)
there_is [] i lt = absurd (omega (arith, lt))
there_is (x ∷ xs) zero lt = (x, refl)
there_is (x ∷ xs) (suc i) lt = there_is xs i (omega (arith, lt))

-- what is at a place after one more at the end
pub pushed : {X : Type 0} (xs : List X) (x : X) (i : ℕ) (y : X) → slice_get (xs ++ x ∷ []) i ≡ Some y → (slice_get xs i ≡ Some y) ⊎ ((i ≡ length xs) × (y ≡ x))
pushed [] x zero y e = inr (refl, sym (some_same x y e))
pushed [] x (suc i) y e = absurd (none_some y e)
pushed (z ∷ xs) x zero y e = inl e
pushed (z ∷ xs) x (suc i) y e = elim (pushed xs x i y e) [
  | inl p ↦ inl p
  | inr p ↦ inr (ap (λ (n : ℕ). suc n) p.0, p.1)
]

-- ---- the ring of a name

pub record FoundAt (x : List ℕ) (os : List (Option Bound)) (p : ℕ × Bound) : Type 0 where
  pub entry : slice_get os p.0 ≡ Some (Some p.1)
  pub name : x ≡ p.1.name

onward : (x : List ℕ) (o : Option Bound) (os : List (Option Bound)) (p : ℕ × Bound) → ((r : ℕ × Bound) → found x os ≡ Some r → FoundAt x os r) →
    (f : Option (ℕ × Bound)) → found x os ≡ f → further f ≡ Some p → FoundAt x (o ∷ os) p
onward x o os p rest None q e = absurd (none_some p e)
onward x o os p rest (Some r) q e =
    let h = rest r q in
    subst (λ (z : ℕ × Bound). FoundAt x (o ∷ os) z) (some_same (suc r.0, r.1) p e) (record { entry = h.entry; name = h.name })

here_or : (x : List ℕ) (b : Bound) (os : List (Option Bound)) (p : ℕ × Bound) → ((r : ℕ × Bound) → found x os ≡ Some r → FoundAt x os r) →
    (q : Bool) → bytes_eq x b.name ≡ q → (if q then Some (zero, b) else further (found x os)) ≡ Some p → FoundAt x (Some b ∷ os) p
here_or x b os p rest true q e = subst (λ (z : ℕ × Bound). FoundAt x (Some b ∷ os) z) (some_same (zero, b) p e) (record { entry = refl; name = same_name x b.name q })
here_or x b os p rest false q e = onward x (Some b) os p rest (found x os) refl e

pub found_at : (x : List ℕ) (os : List (Option Bound)) (p : ℕ × Bound) → found x os ≡ Some p → FoundAt x os p
found_at x [] p e = absurd (none_some p e)
found_at x (None ∷ os) p e = onward x None os p (λ r. found_at x os r) (found x os) refl e
found_at x (Some b ∷ os) p e = here_or x b os p (λ r. found_at x os r) (bytes_eq x b.name) refl e

further_none : (f : Option (ℕ × Bound)) → further f ≡ None → f ≡ None
further_none None e = refl
further_none (Some r) e = absurd (none_some (suc r.0, r.1) (sym e))

missing : (x : List ℕ) (d : Bound) (os : List (Option Bound)) (i : ℕ) (b : Bound) → ((j : ℕ) → found x os ≡ None → slice_get os j ≡ Some (Some b) → bytes_eq x b.name ≡ false) →
    (q : Bool) → bytes_eq x d.name ≡ q → (if q then Some (zero, d) else further (found x os)) ≡ None → slice_get (Some d ∷ os) i ≡ Some (Some b) → bytes_eq x b.name ≡ false
missing x d os i b rest true q e f = absurd (none_some (zero, d) (sym e))
missing x d os zero b rest false q e f = subst (λ (z : Bound). bytes_eq x z.name ≡ false) (some_same d b (some_same (Some d) (Some b) f)) q
missing x d os (suc i) b rest false q e f = rest i (further_none (found x os) e) f

-- a name that is not found is nowhere
pub not_found : (x : List ℕ) (os : List (Option Bound)) (i : ℕ) (b : Bound) → found x os ≡ None → slice_get os i ≡ Some (Some b) → bytes_eq x b.name ≡ false
not_found x [] i b e f = absurd (none_some (Some b) f)
not_found x (None ∷ os) zero b e f = absurd (none_some b (some_same None (Some b) f))
not_found x (None ∷ os) (suc i) b e f = not_found x os i b (further_none (found x os) e) f
not_found x (Some d ∷ os) i b e f = missing x d os i b (λ j. not_found x os j b) (bytes_eq x d.name) refl e f

pub unlike : (x : List ℕ) (os : List (Option Bound)) (i : ℕ) (b : Bound) → found x os ≡ None → slice_get os i ≡ Some (Some b) → b.name ≡ x → ⊥
unlike x os i b e f q = both_ways (bytes_eq x b.name) (not_found x os i b e f) (own_name x b.name (sym q))

-- no two rings have this name
abbrev pub OnlyAt : List (Option Bound) → ℕ → Bound → Type 0
OnlyAt os i b = (j : ℕ) (d : Bound) → slice_get os j ≡ Some (Some d) → d.name ≡ b.name → j ≡ i

there_by : (x : List ℕ) (os : List (Option Bound)) (i : ℕ) (b : Bound) → slice_get os i ≡ Some (Some b) → x ≡ b.name → OnlyAt os i b →
    (f : Option (ℕ × Bound)) → found x os ≡ f → f ≡ Some (i, b)
there_by x os i b e n only None q = absurd (unlike x os i b q e (sym n))
there_by x os i b e n only (Some p) q =
    let h = found_at x os p q in
    let at : p.0 ≡ i = only p.0 p.1 h.entry (sym h.name ∙ n) in
    let same : p.1 ≡ b = some_same p.1 b (some_same (Some p.1) (Some b) (sym h.entry ∙ ap (λ (k : ℕ). slice_get os k) at ∙ e)) in
    ap (λ (k : ℕ). Some (k, p.1)) at ∙ ap (λ (d : Bound). Some (i, d)) same

-- the only ring that has a name is found
pub found_there : (x : List ℕ) (os : List (Option Bound)) (i : ℕ) (b : Bound) → slice_get os i ≡ Some (Some b) → x ≡ b.name → OnlyAt os i b → found x os ≡ Some (i, b)
found_there x os i b e n only = there_by x os i b e n only (found x os) refl

-- nowhere, so not found
none_by : (x : List ℕ) (os : List (Option Bound)) → ((i : ℕ) (b : Bound) → slice_get os i ≡ Some (Some b) → b.name ≡ x → ⊥) → (f : Option (ℕ × Bound)) → found x os ≡ f → f ≡ None
none_by x os nope None q = refl
none_by x os nope (Some p) q = let h = found_at x os p q in absurd (nope p.0 p.1 h.entry (sym h.name))

pub found_nowhere : (x : List ℕ) (os : List (Option Bound)) → ((i : ℕ) (b : Bound) → slice_get os i ≡ Some (Some b) → b.name ≡ x → ⊥) → found x os ≡ None
found_nowhere x os nope = none_by x os nope (found x os) refl

-- a free ring more
pub found_more : (x : List ℕ) (os : List (Option Bound)) → found x (os ++ None ∷ []) ≡ found x os
found_more x [] = refl
found_more x (None ∷ os) = ap (λ (o : Option (ℕ × Bound)). further o) (found_more x os)
found_more x (Some b ∷ os) = ap (λ (o : Option (ℕ × Bound)). if bytes_eq x b.name then Some (zero, b) else further o) (found_more x os)

-- ---- free rings

free_on : (b : Bound) (os : List (Option Bound)) (i : ℕ) → ((j : ℕ) → free os ≡ Some j → slice_get os j ≡ Some None) → (f : Option ℕ) → free os ≡ f → option_map suc f ≡ Some i → slice_get (Some b ∷ os) i ≡ Some None
free_on b os i rest None q e = absurd (none_some i e)
free_on b os i rest (Some j) q e = subst (λ (k : ℕ). slice_get (Some b ∷ os) k ≡ Some None) (some_same (suc j) i e) (rest j q)

pub free_at : (os : List (Option Bound)) (i : ℕ) → free os ≡ Some i → slice_get os i ≡ Some None
free_at [] i e = absurd (none_some i e)
free_at (None ∷ os) i e = subst (λ (k : ℕ). slice_get (None ∷ os) k ≡ Some None) (some_same zero i e) refl
free_at (Some b ∷ os) i e = free_on b os i (λ j. free_at os j) (free os) refl e

map_none : (f : Option ℕ) → option_map suc f ≡ None → f ≡ None
map_none None e = refl
map_none (Some j) e = absurd (none_some (suc j) (sym e))

-- there is none, so each has a name
pub none_free : (os : List (Option Bound)) (i : ℕ) → free os ≡ None → slice_get os i ≡ Some None → ⊥
none_free [] i e f = none_some None f
none_free (None ∷ os) i e f = none_some zero (sym e)
none_free (Some b ∷ os) zero e f = none_some b (sym (some_same (Some b) None f))
none_free (Some b ∷ os) (suc i) e f = none_free os i (map_none (free os) e) f

pub free_last : (os : List (Option Bound)) → free os ≡ None → free (os ++ None ∷ []) ≡ Some (length os)
free_last [] e = refl
free_last (None ∷ os) e = absurd (none_some zero (sym e))
free_last (Some b ∷ os) e = ap (λ (o : Option ℕ). option_map suc o) (free_last os (map_none (free os) e))

free_by : (os : List (Option Bound)) (i : ℕ) → ((j : ℕ) → free os ≡ Some j → free (os ++ None ∷ []) ≡ Some j) → (f : Option ℕ) → free os ≡ f → option_map suc f ≡ Some i → option_map suc (free (os ++ None ∷ [])) ≡ Some i
free_by os i rest None q e = absurd (none_some i e)
free_by os i rest (Some j) q e = ap (λ (o : Option ℕ). option_map suc o) (rest j q) ∙ e

pub free_first : (os : List (Option Bound)) (i : ℕ) → free os ≡ Some i → free (os ++ None ∷ []) ≡ Some i
free_first [] i e = absurd (none_some i e)
free_first (None ∷ os) i e = e
free_first (Some b ∷ os) i e = free_by os i (λ j. free_first os j) (free os) refl e
