-- A ring in motion, as a plain function of a block (this project's own): an SVG in which each place
-- of its history that is drawn is a column, which is seen for as long as each other.
use Rattle.std.specs.Prelude.{ℕ, zero, suc, ◌+◌, ◌*◌, ◌/◌, ◌==◌, Bool, false, List, [], ◌∷◌, ◌++◌, Option, None, Some, length, map, get_or, slice_get, codes, decimal}
use Rattle.text_lines.specs.Spelling.{numbers_text}
use Rattle.ring_model.specs.Numbers.{bit}
use Rattle.saved_history.specs.declared.saved.SavedEvent.{SavedEvent}
use Rattle.saved_history.specs.declared.saved.SavedEvent.TheVariants as saved
use Rattle.saved_history.specs.Content.{Block}
use Rattle.history_picture.specs.Picture.{privileged_in}
use Rattle.history_picture.specs.Stretches.{pieces}

-- whether an event is a corruption of a machine
abbrev pub corrupts : ℕ → Option SavedEvent → Bool
corrupts i None = false
corrupts i (Some (saved.Granted seat machine order number answer)) = false
corrupts i (Some (saved.Refused seat machine order)) = false
corrupts i (Some (saved.Member seat machine order left number answer)) = false
corrupts i (Some (saved.Corrupted seat machine value old)) = i == machine

-- whether the event before a column is; none is before the first
abbrev pub hit_in : Block → ℕ → ℕ → ℕ → Bool
hit_in b from machine zero = false
hit_in b from machine (suc c) = corrupts machine (slice_get b.events (from + c))

-- of each of n columns, whether a test holds there
abbrev pub flags : (ℕ → Bool) → ℕ → List Bool
flags p zero = []
flags p (suc c) = flags p c ++ p c ∷ []

-- for how many thousandths of a second n columns are seen
abbrev pub duration : ℕ → ℕ
duration columns = 400 * columns

-- at how many hundredths of a degree one of n machines is, to the right of machine 0, which is
-- at the top
abbrev pub angle : ℕ → ℕ → ℕ
angle n machine = 36000 * machine / n

-- ---- a circle that is seen in those columns where a flag holds, and in the first one where nothing
-- moves

abbrev pub circle_front : List ℕ → List Bool → List ℕ
circle_front circle fs =
    circle ++ (codes " opacity=\"" ++ (decimal (bit (get_or fs 0 false)) ++ (codes
    "\"><animate attributeName=\"opacity\" calcMode=\"discrete\" dur=\"" ++ (decimal
    (duration (length fs)) ++ codes "ms\" repeatCount=\"indefinite\" values=\""))))

abbrev pub circle_end : List ℕ
circle_end = codes "\"/></circle>\n"

abbrev pub seen_circle : List ℕ → List Bool → List ℕ
seen_circle circle fs =
    circle_front circle fs ++ (numbers_text (codes ";") [] (map bit fs) ++ circle_end)

-- the circle of a machine that is privileged, and the one around a machine that was hit
abbrev pub privileged_circle : List ℕ
privileged_circle = codes "<circle r=\"17\" fill=\"#15489f\""

abbrev pub corruption_circle : List ℕ
corruption_circle = codes "<circle r=\"24\" fill=\"none\" stroke=\"#e69f00\" stroke-width=\"6\""

-- ---- the machines

-- a machine at its angle, and after its circles its number, upright
abbrev pub machine_opening : ℕ → ℕ → List ℕ
machine_opening n machine =
    codes "<g transform=\"rotate(" ++ (decimal (angle n machine) ++ codes
    "e-2) translate(0 -200)\">\n<circle r=\"17\" fill=\"#fff\" stroke=\"#555\" stroke-width=\"2\"/>\n")

abbrev pub machine_ending : ℕ → ℕ → List ℕ
machine_ending n machine =
    codes "<text y=\"-34\" transform=\"rotate(-" ++ (decimal (angle n machine) ++ (codes
    "e-2 0 -40)\" text-anchor=\"middle\">" ++ (decimal machine ++ codes "</text>\n</g>\n")))

-- a machine: filled where it is privileged, and marked where it was hit
abbrev pub machine_circles : List Bool → List Bool → List ℕ
machine_circles privileged hit =
    seen_circle privileged_circle privileged ++ seen_circle corruption_circle hit

abbrev pub machine_with : ℕ → ℕ → List Bool → List Bool → List ℕ
machine_with n machine privileged hit =
    machine_opening n machine ++ (machine_circles privileged hit ++ machine_ending n machine)

abbrev pub machine_text : Block → ℕ → ℕ → ℕ → List ℕ
machine_text b from columns machine =
    machine_with b.n machine (flags (privileged_in b from machine) columns)
    (flags (hit_in b from machine) columns)

-- ---- the parts around them

-- the head of the file on a white page, the ring with n and K, which events are shown of how many,
-- and the circle
abbrev pub opening : Block → ℕ → ℕ → List ℕ
opening b from count =
    codes "<svg xmlns=\"http://www.w3.org/2000/svg\" viewBox=\"0 0 1000 680\" font-family=\"sans-serif\" font-size=\"15\">\n<rect width=\"1000\" height=\"680\" rx=\"8\" fill=\"#fff\"/>\n<text x=\"70\" y=\"36\" font-size=\"22\">ring "
    ++ (decimal b.index
    ++ (codes ": n "
    ++ (decimal b.n
    ++ (codes ", K "
    ++ (decimal b.k
    ++ (codes "</text>\n<text x=\"70\" y=\"62\">events "
    ++ (decimal from
    ++ (codes " to "
    ++ (decimal (from + count)
    ++ (codes " of "
    ++ (decimal (length b.events)
    ++ codes "</text>\n<g transform=\"translate(500 320)\">\n<circle r=\"200\" fill=\"none\" stroke=\"#ccc\" stroke-width=\"2\"/>\n")))))))))))

-- a bar that grows from the first column to the last, with the first and the last place
abbrev pub bar : ℕ → ℕ → List ℕ
bar from count =
    codes "</g>\n<rect x=\"70\" y=\"590\" width=\"860\" height=\"8\" fill=\"#ddd\"/>\n<rect x=\"70\" y=\"590\" width=\"0\" height=\"8\" fill=\"#555\"><animate attributeName=\"width\" dur=\""
    ++ (decimal (duration (count + 1))
    ++ (codes "ms\" repeatCount=\"indefinite\" from=\"0\" to=\"860\"/></rect>\n<text x=\"70\" y=\"618\">"
    ++ (decimal from
    ++ (codes "</text>\n<text x=\"500\" y=\"618\" text-anchor=\"middle\">events</text>\n<text x=\"930\" y=\"618\" text-anchor=\"end\">"
    ++ (decimal (from + count)
    ++ codes "</text>\n")))))

-- what the circles mean, and the end of the page
abbrev pub legend : List ℕ
legend =
    codes "<circle cx=\"78\" cy=\"648\" r=\"8\" fill=\"#15489f\"/>\n<text x=\"94\" y=\"653\">privileged</text>\n<circle cx=\"218\" cy=\"648\" r=\"8\" fill=\"none\" stroke=\"#e69f00\" stroke-width=\"4\"/>\n<text x=\"236\" y=\"653\">corruption</text>\n<text x=\"350\" y=\"653\">each event takes 0.4 s; then it begins anew</text>\n</svg>\n"

-- ---- the picture, for n events: a column before the first of them and one after each

abbrev pub motion : Block → ℕ → ℕ → List ℕ
motion b from count =
    opening b from count
    ++ (pieces (machine_text b from (count + 1)) b.n ++ (bar from count ++ legend))
