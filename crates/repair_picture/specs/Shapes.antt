-- The shapes of a picture as SVG, in tenths of a unit of the page (this project's own).
use Rattle.std.specs.Prelude.{ℕ, List, [], ◌++◌, codes, decimal}
use Rattle.repair_picture.specs.declared.shapes.Point.{Point}
use Rattle.repair_picture.specs.declared.shapes.Shape.{Shape}
use Rattle.repair_picture.specs.declared.shapes.Shape.TheVariants as shape
use Rattle.repair_picture.specs.declared.shapes.Style.{Style}
use Rattle.repair_picture.specs.declared.shapes.Style.TheVariants as style

abbrev pub point : ℕ → ℕ → Point
point x y = record { x = x; y = y }

-- the colour of what is shown
abbrev pub colour : Style → List ℕ
colour style.Spread = codes "#8fb0de"
colour style.Greatest = codes "#b3261e"
colour style.NinetyNine = codes "#d55e00"
colour style.Ninety = codes "#e69f00"
colour style.Median = codes "#111"
colour style.Least = codes "#0a7d4f"
colour style.Longest = codes "#6a3d9a"
colour style.Bound = codes "#555"

-- the dashes of its lines: those of what is proved have some
abbrev pub dashes : Style → List ℕ
dashes style.Longest = codes " stroke-dasharray=\"120 60\""
dashes style.Bound = codes " stroke-dasharray=\"30 50\""
dashes style.Spread = []
dashes style.Greatest = []
dashes style.NinetyNine = []
dashes style.Ninety = []
dashes style.Median = []
dashes style.Least = []

-- a rectangle, a line, or a number, which ends at a point
abbrev pub shape_text : Shape → List ℕ
shape_text (shape.Box s at width height) =
    codes "<rect x=\"" ++ (decimal at.x ++ (codes "\" y=\"" ++ (decimal at.y
    ++ (codes "\" width=\"" ++ (decimal width ++ (codes "\" height=\"" ++ (decimal height
    ++ (codes "\" fill=\"" ++ (colour s ++ codes "\"/>\n")))))))))
shape_text (shape.Line s from to) =
    codes "<path d=\"M" ++ (decimal from.x ++ (codes " " ++ (decimal from.y
    ++ (codes "L" ++ (decimal to.x ++ (codes " " ++ (decimal to.y
    ++ (codes "\" stroke=\"" ++ (colour s ++ (codes "\"" ++ (dashes s ++ codes "/>\n")))))))))))
shape_text (shape.Number at number) =
    codes "<text x=\"" ++ (decimal at.x ++ (codes "\" y=\"" ++ (decimal at.y
    ++ (codes "\">" ++ (decimal number ++ codes "</text>\n")))))
