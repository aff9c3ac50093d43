-- The lines of a file, one after the other, and whether one is of locks with a pool.
use Rattle.std.proofs.Common.{◌≡◌, ◌∙◌, ℕ, Bool, true, false, List, [], ◌∷◌, length, refl, ap, arith}
use Rattle.std.specs.Prelude.{◌||◌}
use Rattle.std.specs.List.{list_any}
use Rattle.segment_files.specs.Remarks.{lines_in}
use Rattle.serve_commands.specs.ServedFolder.{is_floor, has_floor}

none_left : (bytes : List ℕ) → length bytes ≡ 0 → bytes ≡ []
none_left [] e = refl
none_left (b ∷ bs) e = absurd (omega (arith, e))

no_lines : lines_in [] ≡ []
unfolding lines_in
no_lines = refl

any_here : (v w : Bool) → v ≡ true → (v || w) ≡ true
any_here true w e = refl
any_here false w e = absurd cc

any_on : (v w : Bool) → v ≡ false → (v || w) ≡ w
any_on true w e = absurd cc
any_on false w e = refl

module _ (rest line after : List ℕ) (is : lines_in rest ≡ line ∷ lines_in after) where
  pub floor_here : is_floor line ≡ true → has_floor rest ≡ true
  floor_here e = ap (list_any is_floor) is ∙ any_here (is_floor line) (list_any is_floor (lines_in after)) e

  pub floor_on : is_floor line ≡ false → has_floor rest ≡ has_floor after
  floor_on e = ap (list_any is_floor) is ∙ any_on (is_floor line) (list_any is_floor (lines_in after)) e

pub floor_none : (rest : List ℕ) → length rest ≡ 0 → has_floor rest ≡ false
floor_none rest e = ap (λ (bytes : List ℕ). list_any is_floor (lines_in bytes)) (none_left rest e) ∙ ap (list_any is_floor) no_lines
