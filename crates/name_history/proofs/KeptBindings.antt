-- Of what is kept of the bindings of a ring, each grant has the binding that it has of all.
use Rattle.std.proofs.Common.{◌≡◌, ℕ, Bool, true, false, List, [], ◌∷◌, ◌++◌, None, Some, refl, ap, sym, ◌∙◌, append_assoc, arith}
use Rattle.std.specs.List.{filter, fold, last_or}
use Rattle.std.proofs.lemmas.Bool.{lt-ltb, ltb-true, ltb-false}
use Rattle.std.proofs.lemmas.List.{append-nil}
use Rattle.std.proofs.lemmas.List.Elements.{filter-append}
use Rattle.name_remarks.specs.Remarks.{Binding}
use Rattle.name_history.specs.Kept.{is_older, binding_at, with_binding, KeptAreEnough}
use Rattle.name_history.proofs.Partitions.{one, filter_twice, last_over}

-- what is older than a grant that comes before a binding is older than that binding
still_older : (b : Binding) (grant : ℕ) → is_older grant b ≡ false → (x : Binding) → is_older grant x ≡ true → is_older b.before x ≡ true
still_older b grant later x older =
    let low = ltb-true x.before grant older in
    let high = ltb-false b.before grant later in
    lt-ltb x.before b.before (omega (arith, low, high))

parted : (grant : ℕ) (xs bs : List Binding) (b : Binding) → filter (is_older grant) (xs ++ b ∷ bs) ≡ filter (is_older grant) xs ++ one (is_older grant) b bs (is_older grant b)
parted grant xs bs b = filter-append (is_older grant) xs (b ∷ bs)

at_older : (grant : ℕ) (xs bs : List Binding) (b : Binding) → is_older grant b ≡ true → binding_at (xs ++ b ∷ bs) grant ≡ last_or (Some b) (filter (is_older grant) bs)
at_older grant xs bs b older =
    ap (last_or None) (parted grant xs bs b ∙ ap (λ (t : Bool). filter (is_older grant) xs ++ one (is_older grant) b bs t) older)
    ∙ last_over (filter (is_older grant) xs) (filter (is_older grant) bs) b None

past : (grant : ℕ) (xs bs : List Binding) (b : Binding) → is_older grant b ≡ false → filter (is_older grant) (xs ++ b ∷ bs) ≡ filter (is_older grant) xs ++ filter (is_older grant) bs
past grant xs bs b later = parted grant xs bs b ∙ ap (λ (t : Bool). filter (is_older grant) xs ++ one (is_older grant) b bs t) later

without : (grant : ℕ) (xs bs : List Binding) (b : Binding) (t : Bool) → is_older grant b ≡ t → binding_at (filter (is_older b.before) xs ++ b ∷ bs) grant ≡ binding_at (xs ++ b ∷ bs) grant
without grant xs bs b true older = at_older grant (filter (is_older b.before) xs) bs b older ∙ sym (at_older grant xs bs b older)
without grant xs bs b false later =
    let same = filter_twice (is_older grant) (is_older b.before) (still_older b grant later) xs in
    ap (last_or None)
    (past grant (filter (is_older b.before) xs) bs b later
    ∙ ap (λ (ys : List Binding). ys ++ filter (is_older grant) bs) same
    ∙ sym (past grant xs bs b later))

kept_from : (xs bs : List Binding) (grant : ℕ) → binding_at (fold with_binding xs bs) grant ≡ binding_at (xs ++ bs) grant
kept_from xs [] grant = ap (λ (ys : List Binding). binding_at ys grant) (sym (append-nil xs))
kept_from xs (b ∷ bs) grant =
    kept_from (with_binding xs b) bs grant
    ∙ ap (λ (ys : List Binding). binding_at ys grant) (append_assoc (filter (is_older b.before) xs) (b ∷ []) bs)
    ∙ without grant xs bs b (is_older grant b) refl

pub kept_are_enough : KeptAreEnough
kept_are_enough bs grant = kept_from [] bs grant
