-- The pages of the pictures (this project's own).
use Rattle.std.specs.Prelude.{ℕ, List, [], ◌∷◌, ◌++◌, codes, decimal}
use Rattle.std.specs.List.{flat_map}
use Rattle.repair_texts.specs.Lines.{start_text, figures_text}
use Rattle.repair_texts.specs.declared.columns.Row.{Row}
use Rattle.repair_picture.specs.Growth.{growth_shapes}
use Rattle.repair_picture.specs.Shapes.{shape_text}
use Rattle.repair_picture.specs.Spread.{spread_shapes}
use Rattle.repair_picture.specs.declared.shapes.Shape.{Shape}

-- the head of the picture of one size, a white page and the title
abbrev pub spread_opening : List ℕ
spread_opening =
    codes "<svg xmlns=\"http://www.w3.org/2000/svg\" viewBox=\"0 0 10000 5600\" font-family=\"sans-serif\" font-size=\"150\">\n<rect width=\"10000\" height=\"5600\" fill=\"#fff\"/>\n<text x=\"700\" y=\"380\" font-size=\"220\">granted passes until settled: how many trials took how many</text>\n<text x=\"700\" y=\"640\" font-size=\"112\">"

-- the axes of that picture
abbrev pub spread_frame : List ℕ
spread_frame =
    codes "</text>\n<path d=\"M700 900V4100H9700M700 4750H9700M700 4650V4850\" fill=\"none\" stroke=\"#555\" stroke-width=\"15\"/>\n<g text-anchor=\"end\">\n<text x=\"9100\" y=\"860\">passes in a bar:</text>\n<text x=\"680\" y=\"4100\">0</text>\n<text x=\"680\" y=\"4800\">0</text>\n<g stroke-width=\"30\">\n"

-- its end, with the meaning of each colour
abbrev pub spread_ending : List ℕ
spread_ending =
    codes "</g>\n</g>\n<text x=\"5200\" y=\"4270\" text-anchor=\"middle\">granted passes</text>\n<text x=\"700\" y=\"5090\">the same trials, from 0 to the bound that is proved:</text>\n<path d=\"M700 5350H1100\" stroke=\"#111\" stroke-width=\"30\"/>\n<text x=\"1180\" y=\"5400\">median</text>\n<path d=\"M2400 5350H2800\" stroke=\"#6a3d9a\" stroke-width=\"30\" stroke-dasharray=\"120 60\"/>\n<text x=\"2880\" y=\"5400\">proved: none is longer</text>\n<path d=\"M5200 5350H5600\" stroke=\"#555\" stroke-width=\"30\" stroke-dasharray=\"30 50\"/>\n<text x=\"5680\" y=\"5400\">proved: bound</text>\n</svg>\n"

-- the head of the picture of more sizes, a white page and the title
abbrev pub growth_opening : List ℕ
growth_opening =
    codes "<svg xmlns=\"http://www.w3.org/2000/svg\" viewBox=\"0 0 10000 6400\" font-family=\"sans-serif\" font-size=\"150\">\n<rect width=\"10000\" height=\"6400\" fill=\"#fff\"/>\n<text x=\"900\" y=\"380\" font-size=\"220\">granted passes until settled, by the number of machines</text>\n<text x=\"900\" y=\"600\">"

-- the axes of that picture: a line for each power of 10, and for each power of 2
abbrev pub growth_frame : List ℕ
growth_frame =
    codes "</text>\n<g stroke=\"#ddd\" stroke-width=\"12\">\n<path d=\"M900 5700H8600M900 4908H8600M900 4100H8600M900 3273H8600M900 2476H8600M900 1672H8600M900 845H8600\"/>\n<path d=\"M900 700V5700M1755 700V5700M2611 700V5700M3466 700V5700M4322 700V5700M5177 700V5700M6033 700V5700M6888 700V5700M7744 700V5700M8600 700V5700\"/>\n</g>\n<g text-anchor=\"end\">\n<text x=\"840\" y=\"5750\">1</text>\n<text x=\"840\" y=\"4958\">10</text>\n<text x=\"840\" y=\"4150\">100</text>\n<text x=\"840\" y=\"3323\">1000</text>\n<text x=\"840\" y=\"2526\">10000</text>\n<text x=\"840\" y=\"1722\">100000</text>\n<text x=\"840\" y=\"895\">1000000</text>\n</g>\n<g text-anchor=\"middle\">\n<text x=\"900\" y=\"5920\">2</text>\n<text x=\"1755\" y=\"5920\">4</text>\n<text x=\"2611\" y=\"5920\">8</text>\n<text x=\"3466\" y=\"5920\">16</text>\n<text x=\"4322\" y=\"5920\">32</text>\n<text x=\"5177\" y=\"5920\">64</text>\n<text x=\"6033\" y=\"5920\">128</text>\n<text x=\"6888\" y=\"5920\">256</text>\n<text x=\"7744\" y=\"5920\">512</text>\n<text x=\"8600\" y=\"5920\">1024</text>\n<text x=\"4750\" y=\"6200\">machines</text>\n</g>\n<g stroke-width=\"30\">\n"

-- its end, with the name of each curve
abbrev pub growth_ending : List ℕ
growth_ending =
    codes "</g>\n<path d=\"M8680 1000h260\" stroke=\"#555\" stroke-width=\"30\" stroke-dasharray=\"30 50\"/>\n<text x=\"8980\" y=\"1050\">bound</text>\n<path d=\"M8680 1300h260\" stroke=\"#6a3d9a\" stroke-width=\"30\" stroke-dasharray=\"120 60\"/>\n<text x=\"8980\" y=\"1350\">none longer</text>\n<path d=\"M8680 1600h260\" stroke=\"#b3261e\" stroke-width=\"30\"/>\n<text x=\"8980\" y=\"1650\">greatest</text>\n<path d=\"M8680 1900h260\" stroke=\"#d55e00\" stroke-width=\"30\"/>\n<text x=\"8980\" y=\"1950\">99 in 100</text>\n<path d=\"M8680 2200h260\" stroke=\"#e69f00\" stroke-width=\"30\"/>\n<text x=\"8980\" y=\"2250\">90 in 100</text>\n<path d=\"M8680 2500h260\" stroke=\"#111\" stroke-width=\"30\"/>\n<text x=\"8980\" y=\"2550\">median</text>\n<path d=\"M8680 2800h260\" stroke=\"#0a7d4f\" stroke-width=\"30\"/>\n<text x=\"8980\" y=\"2850\">least</text>\n</svg>\n"

-- the picture of one size, of these shapes
abbrev pub spread_page : Row → List Shape → List ℕ
spread_page r shapes =
    spread_opening ++ (figures_text r.head r.figures ++ (spread_frame
    ++ (flat_map shape_text shapes ++ spread_ending)))

-- which machines move, and where trials start
abbrev pub study_text : Row → List ℕ
study_text r =
    (codes "daemon " ++ (r.head.daemon.now ++ codes " from "))
    ++ start_text r.head.start.now r.head.faults

abbrev pub first_study : List Row → List ℕ
first_study [] = []
first_study (r ∷ rs) = study_text r

-- the picture of more sizes, of these shapes
abbrev pub growth_page : List Row → List Shape → List ℕ
growth_page rows shapes =
    growth_opening ++ (first_study rows ++ (growth_frame
    ++ (flat_map shape_text shapes ++ growth_ending)))
