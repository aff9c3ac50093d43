-- Lines of one kind, one after the other.
use Rattle.std.proofs.Common.{◌≡◌, ℕ, ◌+◌, ◌<◌, List, [], ◌∷◌, ◌++◌, length, take, drop, get_or, map, Option, Some, None, refl, sym, ◌∙◌, ap}
use Rattle.std.proofs.lemmas.List.{take_more, drop_more, take-append-drop, map-append}
use Rattle.ring_check.specs.declared.answers.Kind.{Kind}
use Rattle.ring_check.specs.Lines.{Line}
use Rattle.ring_check.specs.Table.{Before, fault, after_line, after_lines}
use Rattle.ring_check.specs.Scan.{or_behind, first_fault}
use Rattle.ring_check.proofs.Scans.{or_else, fault_append, after_append}

module _ {X : Type 0} (f : X → Line) (b : Before) (xs : List X) (i : ℕ) (d : X) (lt : i < length xs) (at : Before)
    (none : first_fault b (map f (take i xs)) ≡ None) (here : after_lines b (map f (take i xs)) ≡ at) where
  parts : map f xs ≡ map f (take i xs) ++ f (get_or xs i d) ∷ map f (drop (i + 1) xs)
  parts =
      ap (λ (u : List X). map f u) (sym (take-append-drop i xs) ∙ ap (λ (u : List X). take i xs ++ u) (drop_more xs i d lt))
      ∙ map-append f (take i xs) (get_or xs i d ∷ drop (i + 1) xs)

  push : map f (take (i + 1) xs) ≡ map f (take i xs) ++ f (get_or xs i d) ∷ []
  push = ap (λ (u : List X). map f u) (take_more xs i d lt) ∙ map-append f (take i xs) (get_or xs i d ∷ [])

  pub walk_bad : (kind : Kind) → fault at (f (get_or xs i d)) ≡ Some kind → first_fault b (map f xs) ≡ Some (at.line + 1, kind)
  unfolding parts
  walk_bad kind h =
      let front = map f (take i xs) in
      let back = map f (drop (i + 1) xs) in
      let bad : fault (after_lines b front) (f (get_or xs i d)) ≡ Some kind = ap (λ (x : Before). fault x (f (get_or xs i d))) here ∙ h in
      let line : (after_lines b front).line ≡ at.line = ap (λ (x : Before). x.line) here in
      let one : or_behind (fault (after_lines b front) (f (get_or xs i d))) (after_lines b front).line (first_fault (after_line (after_lines b front) (f (get_or xs i d))) back) ≡ Some (at.line + 1, kind) =
      rw (bad, line) refl in
      ap (λ (u : List Line). first_fault b u) parts ∙ fault_append b front (f (get_or xs i d) ∷ back)
      ∙ ap (λ (u : Option (ℕ × Kind)). or_else u (first_fault (after_lines b front) (f (get_or xs i d) ∷ back))) none ∙ one

  pub walk_good : fault at (f (get_or xs i d)) ≡ None → first_fault b (map f (take (i + 1) xs)) ≡ None
  unfolding push
  walk_good h =
      let front = map f (take i xs) in
      let fine : fault (after_lines b front) (f (get_or xs i d)) ≡ None = ap (λ (x : Before). fault x (f (get_or xs i d))) here ∙ h in
      let one : or_behind (fault (after_lines b front) (f (get_or xs i d))) (after_lines b front).line None ≡ None = rw fine refl in
      ap (λ (u : List Line). first_fault b u) push ∙ fault_append b front (f (get_or xs i d) ∷ [])
      ∙ ap (λ (u : Option (ℕ × Kind)). or_else u (first_fault (after_lines b front) (f (get_or xs i d) ∷ []))) none ∙ one

  pub walk_on : after_lines b (map f (take (i + 1) xs)) ≡ after_line at (f (get_or xs i d))
  unfolding push
  walk_on =
      ap (λ (u : List Line). after_lines b u) push ∙ after_append b (map f (take i xs)) (f (get_or xs i d) ∷ [])
      ∙ ap (λ (x : Before). after_line x (f (get_or xs i d))) here
