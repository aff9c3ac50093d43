-- Bindings whose numbers of grants do not fall.
use Rattle.std.proofs.Common.{◌≡◌, ℕ, ◌-◌, ◌<◌, Bool, true, List, [], ◌∷◌, ◌++◌, length, take, get_or, ap, sym, subst, ◌∙◌, arith}
use Rattle.std.specs.List.{filter}
use Rattle.std.specs.List.Sorted.{IsNonDecreasingBy}
use Rattle.std.proofs.lemmas.Bool.{ltb-true}
use Rattle.std.proofs.lemmas.List.Elements.{filter_passes}
use Rattle.std.proofs.lemmas.List.Sorted.{IsNonDecreasingBy-push, IsNonDecreasingBy-take}
use Rattle.name_remarks.specs.Remarks.{Binding}
use Rattle.name_history.specs.Kept.{is_older}

abbrev pub before : Binding → ℕ
before b = b.before

abbrev pub Rising : List Binding → Type 0
Rising bs = IsNonDecreasingBy before bs

-- the last of what passes a test passes it
last_passes : (p : Binding → Bool) (bs ys : List Binding) → ys ≡ filter p bs → (d : Binding) → 0 < length ys → p (get_or ys (length ys - 1) d) ≡ true
last_passes p bs ys is =
    subst (λ (zs : List Binding). (d : Binding) → 0 < length zs → p (get_or zs (length zs - 1) d) ≡ true) (sym is)
    (λ d some. filter_passes p bs (length (filter p bs) - 1) d (omega (arith, some)))

-- what is older than a binding, and then that
rising_more : (b : Binding) (bs : List Binding) (count : ℕ) → Rising bs → take count bs ≡ filter (is_older b.before) bs → Rising (take count bs ++ b ∷ [])
rising_more b bs count up is =
    IsNonDecreasingBy-push before (take count bs) b (IsNonDecreasingBy-take before count bs up)
    (λ d some. let low = ltb-true (get_or (take count bs) (length (take count bs) - 1) d).before b.before (last_passes (is_older b.before) bs (take count bs) is d some) in omega (arith, low))

pub still_rising : (b : Binding) (bs ds cut new : List Binding) (count grants : ℕ) → Rising bs → ds ≡ bs → grants ≡ b.before → take count ds ≡ filter (is_older grants) ds → cut ≡ take count bs → new ≡ cut ++ b ∷ []
    → Rising new
still_rising b bs ds cut new count grants up same is older fewer more =
    let here = subst (λ (xs : List Binding). take count xs ≡ filter (is_older b.before) xs) same (subst (λ (n : ℕ). take count ds ≡ filter (is_older n) ds) is older) in
    subst Rising (sym (more ∙ ap (λ (xs : List Binding). xs ++ b ∷ []) fewer)) (rising_more b bs count up here)
