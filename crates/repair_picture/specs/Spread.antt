-- The picture of one size: how often each number occurred, as bars, and where these numbers are beside
-- the bounds that are proved (this project's own).
use Rattle.std.specs.Prelude.{ℕ, zero, suc, ◌+◌, ◌-◌, ◌*◌, ◌/◌, max, min, List, [], ◌∷◌, ◌++◌, slice_index}
use Rattle.ring_model.specs.Numbers.{sum_below}
use Rattle.repair_texts.specs.declared.lines.Figures.{Figures}
use Rattle.repair_picture.specs.Shapes.{point}
use Rattle.repair_picture.specs.declared.shapes.Shape.{Shape}
use Rattle.repair_picture.specs.declared.shapes.Shape.TheVariants as shape
use Rattle.repair_picture.specs.declared.shapes.Style.{Style}
use Rattle.repair_picture.specs.declared.shapes.Style.TheVariants as style

-- one shape for each number below n
abbrev pub shapes_below : (ℕ → Shape) → ℕ → List Shape
shapes_below f zero = []
shapes_below f (suc n) = shapes_below f n ++ f n ∷ []

-- how many trials had one of n numbers, from one on
abbrev pub counted_in : List ℕ → ℕ → ℕ → ℕ
counted_in h from many = sum_below (λ j. slice_index h (from + j)) many

-- how far it is from the least number to the greatest; numbers from 2 ^ 32 on have no bar
abbrev pub spread : Figures → ℕ
spread f = min f.greatest 4294967295 - f.least

-- how many numbers each bar has, so that there are at most 100 bars from the least number to the
-- greatest, and how many bars there are
abbrev pub bar_width : Figures → ℕ
bar_width f = spread f / 100 + 1

abbrev pub bar_count : Figures → ℕ
bar_count f = spread f / bar_width f + 1

-- how many trials a bar has
abbrev pub bar_trials : List ℕ → Figures → ℕ → ℕ
bar_trials h f i = counted_in h (f.least + i * bar_width f) (bar_width f)

-- the most trials of the first n bars
abbrev pub most_trials : List ℕ → Figures → ℕ → ℕ
most_trials h f zero = 0
most_trials h f (suc n) = max (most_trials h f n) (bar_trials h f n)

-- where a bar begins, of a number of bars
abbrev pub bar_left : ℕ → ℕ → ℕ
bar_left count i = 700 + 9000 * i / count

-- how high a bar is, where the highest has this number of trials
abbrev pub tall : ℕ → ℕ → ℕ
tall most trials = 3200 * trials / max most 1

-- a bar: as high as it has trials
abbrev pub bar_of : ℕ → ℕ → ℕ → ℕ → Shape
bar_of count most i trials =
    shape.Box style.Spread (point (bar_left count i) (4100 - tall most trials))
    (bar_left count (i + 1) - bar_left count i) (tall most trials)

abbrev pub bar : List ℕ → Figures → ℕ → Shape
bar h f i = bar_of (bar_count f) (most_trials h f (bar_count f)) i (bar_trials h f i)

-- where a number is on the line from 0 to the bound
abbrev pub along : Figures → ℕ → ℕ
along f v = 700 + 9000 * v / max f.bound 1

-- a mark on that line
abbrev pub mark : Style → Figures → ℕ → Shape
mark s f v = shape.Line s (point (along f v) 4550) (point (along f v) 4950)

-- the least number and the greatest under the bars, how many numbers each has, the trials of the
-- highest, and on the line from 0 to the bound: where the trials are, and what is proved
abbrev pub marks_of : ℕ → Figures → List Shape
marks_of most f =
    shape.Number (point 1000 4270) f.least
    ∷ shape.Number (point 9700 4270) f.greatest
    ∷ shape.Number (point 9700 860) (bar_width f)
    ∷ shape.Number (point 680 1000) most
    ∷ shape.Box style.Spread (point (along f f.least) 4600)
    (max (along f f.greatest - along f f.least) 20) 300
    ∷ mark style.Median f f.median
    ∷ mark style.Longest f f.longest
    ∷ mark style.Bound f f.bound
    ∷ shape.Number (point 9700 5090) f.bound
    ∷ []

-- the shapes of the picture of these counts
abbrev pub spread_shapes : List ℕ → Figures → List Shape
spread_shapes h f =
    shapes_below (bar h f) (bar_count f) ++ marks_of (most_trials h f (bar_count f)) f
