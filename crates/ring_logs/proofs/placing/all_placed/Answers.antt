use Rattle.std.proofs.Common.{◌≡◌, true, false, All, List, [], ◌∷◌, map, sym, subst, ◌∙◌}
use Rattle.std.proofs.lemmas.List.Elements.{All-map, All-nil, All-cons, All-head, All-tail}
use Rattle.ring_logs.specs.LogView.{LogView}
use Rattle.ring_logs.specs.Walks.{Walked, walk_of, IsPlacedWalk}
use Rattle.ring_logs.proofs.placing.all_placed.Goals as goal

false_true : {A : Type 0} → false ≡ true → A
false_true e = cc

of_map : {A B : Type 0} (P : B → Type 0) (f : A → B) (xs : List A) → All P (map f xs) → All (λ (x : A). P (f x)) xs
of_map {A} {B} P f [] all = All-nil (λ (x : A). P (f x))
of_map {A} {B} P f (x ∷ xs) all = All-cons (λ (x : A). P (f x)) x xs (All-head P (f x) (map f xs) all) (of_map P f xs (All-tail P (f x) (map f xs) all))

pub returns-then-not-all_walk : goal.returns-then-not-all_walk
returns-then-not-all_walk g c =
    let walk : LogView → Walked = walk_of c.args.book.now.history in
    let at = λ (ws : List Walked). All IsPlacedWalk ws in (
      λ t. false_true t,
      λ h. absurd (c.all_walk.ensures.wrong c.if-not-all_walk.true (subst at (sym c.loop-block.invariant) (All-map IsPlacedWalk walk c.args.logs.now h))),
    )

pub returns : goal.returns
returns g c =
    let walk : LogView → Walked = walk_of c.args.book.now.history in
    let at = λ (ws : List Walked). All IsPlacedWalk ws in
    let same = c.as_slice.ensures.value ∙ c.loop-block.invariant in (
      λ t. of_map IsPlacedWalk walk c.args.logs.now (subst at same (c.all_end.ensures.0 t)),
      λ h. c.all_end.ensures.1 (subst at (sym same) (All-map IsPlacedWalk walk c.args.logs.now h)),
    )
