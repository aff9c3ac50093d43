-- The picture of more sizes: how the numbers grow with n, on scales on which each doubling is as far
-- (this project's own).
use Rattle.std.specs.Prelude.{ℕ, zero, suc, ◌+◌, ◌-◌, ◌*◌, ◌/◌, ◌^◌, max, nat_lt, cond, List, [], ◌∷◌, ◌++◌, map, length, slice_index_or}
use Rattle.std.specs.List.{flat_map}
use Rattle.repair_texts.specs.declared.lines.Figures.{Figures}
use Rattle.repair_texts.specs.declared.columns.Row.{Row}
use Rattle.repair_picture.specs.Shapes.{point}
use Rattle.repair_picture.specs.Spread.{shapes_below}
use Rattle.repair_picture.specs.declared.shapes.Point.{Point}
use Rattle.repair_picture.specs.declared.shapes.Shape.{Shape}
use Rattle.repair_picture.specs.declared.shapes.Shape.TheVariants as shape
use Rattle.repair_picture.specs.declared.shapes.Style.{Style}
use Rattle.repair_picture.specs.declared.shapes.Style.TheVariants as style

-- how often a number can be halved until it is below 2, at most `most` times
abbrev pub halvings : ℕ → ℕ → ℕ
halvings zero v = 0
halvings (suc most) v = cond (nat_lt v 2) 0 (halvings most (v / 2) + 1)

-- how high a number is where each doubling is 64 steps and 1 is at 0: between two powers of 2 the
-- scale is even
abbrev pub level_over : ℕ → ℕ → ℕ
level_over e v = 64 * e + 64 * v / 2 ^ e - 64

abbrev pub level : ℕ → ℕ
level v = level_over (halvings 64 (max v 1)) (max v 1)

-- where a number of n machines is: from 2 machines to 1,024, and from 1 to the bound of these
abbrev pub place : ℕ → ℕ → Point
place n v = point (900 + 7700 * (level n - 64) / 576) (5700 - 5000 * level v / 1312)

-- the number that a curve shows
abbrev pub value : Style → Figures → ℕ
value style.Spread f = f.trials
value style.Greatest f = f.greatest
value style.NinetyNine f = f.p99
value style.Ninety f = f.p90
value style.Median f = f.median
value style.Least f = f.least
value style.Longest f = f.longest
value style.Bound f = f.bound

-- the points of a curve: one for each row
abbrev pub points : Style → List Row → List Point
points s rows = map (λ r. place r.head.n (value s r.figures)) rows

-- a mark at a point
abbrev pub dot : Style → Point → Shape
dot s p = shape.Box s (point (p.x - 25) (p.y - 25)) 50 50

-- a point of a list
abbrev pub point_at : List Point → ℕ → Point
point_at ps i = slice_index_or ps i (point 0 0)

-- a mark at each point, and a line from each to the next
abbrev pub curve_of : Style → List Point → List Shape
curve_of s ps =
    shapes_below (λ i. dot s (point_at ps i)) (length ps)
    ++ shapes_below (λ i. shape.Line s (point_at ps i) (point_at ps (i + 1))) (length ps - 1)

abbrev pub curve : List Row → Style → List Shape
curve rows s = curve_of s (points s rows)

-- what is shown
abbrev pub styles : List Style
styles =
    style.Bound
    ∷ style.Longest
    ∷ style.Greatest
    ∷ style.NinetyNine
    ∷ style.Ninety
    ∷ style.Median
    ∷ style.Least
    ∷ []

-- the shapes of the picture of these rows
abbrev pub growth_shapes : List Row → List Shape
growth_shapes rows = flat_map (curve rows) styles
