-- The picture of a ring's history, as a plain function of a block (this project's own).
use Rattle.std.specs.Prelude.{ℕ, zero, suc, ◌+◌, ◌-◌, ◌*◌, ◌/◌, max, min, nat_lt, ◌&&◌, Bool, true, false, cond, List, [], ◌++◌, Option, Some, None, take, length, slice_get, codes, decimal}
use Rattle.std.specs.List.{flat_map}
use Rattle.ring_model.specs.Ring.{Ring, is_privileged, rest, bound}
use Rattle.ring_model.specs.Groups.{left_after}
use Rattle.ring_model.specs.Surveys.{granted_count, corrupted_count}
use Rattle.saved_history.specs.declared.saved.SavedEvent.{SavedEvent}
use Rattle.saved_history.specs.declared.saved.SavedEvent.TheVariants as saved
use Rattle.saved_history.specs.Content.{Block}
use Rattle.ring_check.specs.Legal.{history}
use Rattle.history_steps.specs.Steps.{ring_at, calm_at}
use Rattle.history_picture.specs.Stretches.{Stretch, stretches, pieces}

-- the place that is shown for a place: itself, or, where that is inside a group's block, the place
-- before the block, since a group moves at once
abbrev pub shown : Block → ℕ → ℕ
shown b zero = 0
shown b (suc place) =
    cond (nat_lt 0 (left_after (take (suc place) (history b)))) (shown b place) (suc place)

-- the ring and the calm that are shown for a place
abbrev pub ring_shown : Block → ℕ → Ring
ring_shown b place = ring_at b (shown b place)

abbrev pub calm_shown : Block → ℕ → ℕ
calm_shown b place = calm_at b (shown b place)

-- whether a machine is privileged in a column: after the events before the first one drawn and this
-- many more
abbrev pub privileged_in : Block → ℕ → ℕ → ℕ → Bool
privileged_in b from machine column = is_privileged (ring_shown b (from + column)).values machine

-- the rest and the calm in a column
abbrev pub rest_in : Block → ℕ → ℕ → ℕ
rest_in b from column = rest (ring_shown b (from + column))

abbrev pub calm_in : Block → ℕ → ℕ → ℕ
calm_in b from column = calm_shown b (from + column)

-- ---- where columns and machines are: in hundredths of a unit of the page, so that no part of it is
-- stretched and each line is as thick as it says, in every viewer

-- where a column begins: 90,000 hundredths have all of them
abbrev pub across : ℕ → ℕ → ℕ
across columns column = 90000 * column / columns

-- the middle of a column
abbrev pub middle : ℕ → ℕ → ℕ
middle columns column = 45000 * (2 * column + 1) / columns

-- where the row of a machine begins: 30,000 hundredths have all n of them
abbrev pub down : ℕ → ℕ → ℕ
down n machine = 30000 * machine / n

-- three quarters of a row, which what is drawn in it fills, and one quarter
abbrev pub filled : ℕ → ℕ
filled n = 22500 / n

abbrev pub quarter : ℕ → ℕ
quarter n = 7500 / n

-- how high a number is over the curves' lower edge, where 16,000 hundredths are the number `height`;
-- what is more than twice as high is drawn there, which is cut off too
abbrev pub up : ℕ → ℕ → ℕ
up height number = 16000 * min number (2 * height) / max height 1

-- ---- the machines: each has a row

-- a rectangle over some of the columns, in the row of one of n machines
abbrev pub rectangle : ℕ → ℕ → ℕ → Stretch → List ℕ
rectangle n columns machine s =
    codes "<rect x=\"" ++ (decimal (across columns s.begin) ++ (codes "\" y=\"" ++ (decimal
    (down n machine) ++ (codes "\" width=\"" ++ (decimal
    (across columns s.end - across columns s.begin) ++ (codes "\" height=\"" ++ (decimal (filled n)
    ++ codes "\"/>\n")))))))

-- one rectangle for each stretch of columns in which a machine is privileged
abbrev pub row_text : Block → ℕ → ℕ → ℕ → List ℕ
row_text b from columns machine =
    flat_map (rectangle b.n columns machine) (stretches (privileged_in b from machine) columns)

-- the rows of all machines
abbrev pub rows_text : Block → ℕ → ℕ → List ℕ
rows_text b from columns = pieces (row_text b from columns) b.n

-- ---- the marks: of corruptions, and of passes that were refused

-- the machine at which an event has a mark: a corruption's where corruptions are marked, else that
-- of a refused pass
abbrev pub marked : Bool → SavedEvent → Option ℕ
marked corruptions (saved.Granted seat machine order number answer) = None
marked corruptions (saved.Refused seat machine order) = cond corruptions None (Some machine)
marked corruptions (saved.Member seat machine order left number answer) = None
marked corruptions (saved.Corrupted seat machine value old) = cond corruptions (Some machine) None

-- a mark between two columns, in the row of a machine: as high as the row for a corruption, and
-- shorter for a refused pass
abbrev pub mark : ℕ → Bool → ℕ → ℕ → List ℕ
mark n true x machine =
    codes "M" ++ (decimal x ++ (codes " " ++ (decimal (down n machine) ++ (codes "v" ++ decimal
    (filled n)))))
mark n false x machine =
    codes "M" ++ (decimal x ++ (codes " " ++ (decimal (down n machine + quarter n) ++ (codes "v"
    ++ decimal (quarter n)))))

abbrev pub mark_at : ℕ → Bool → ℕ → Option ℕ → List ℕ
mark_at n corruptions x None = []
mark_at n corruptions x (Some machine) = mark n corruptions x machine

-- the mark of an event, where it has one
abbrev pub mark_of : ℕ → Bool → ℕ → Option SavedEvent → List ℕ
mark_of n corruptions x None = []
mark_of n corruptions x (Some event) = mark_at n corruptions x (marked corruptions event)

-- the mark of the event that leads from a column to the next, between the two
abbrev pub mark_in : Block → Bool → ℕ → ℕ → ℕ → List ℕ
mark_in b corruptions from columns column =
    mark_of b.n corruptions (across columns (column + 1)) (slice_get b.events (from + column))

-- the marks of the events between the columns
abbrev pub marks_text : Block → Bool → ℕ → ℕ → List ℕ
marks_text b corruptions from count = pieces (mark_in b corruptions from (count + 1)) count

-- ---- the scale of the curves

-- the highest rest of n columns
abbrev pub highest_rest : Block → ℕ → ℕ → ℕ
highest_rest b from zero = 0
highest_rest b from (suc c) = max (highest_rest b from c) (rest_in b from c)

-- the number at the top of the curves: the bound, or the highest rest, if that is less than a
-- quarter of it
abbrev pub height_of : ℕ → ℕ → ℕ
height_of high limit = cond (nat_lt 0 high && nat_lt high (limit / 4)) high limit

abbrev pub curve_height : Block → ℕ → ℕ → ℕ
curve_height b from columns = height_of (highest_rest b from columns) (bound b.n)

-- ---- the curves: one point for each column, in its middle

abbrev pub point : ℕ → ℕ → ℕ → ℕ → List ℕ
point columns height column number =
    decimal (middle columns column) ++ (codes "," ++ (decimal (up height number) ++ codes " "))

abbrev pub rest_points : Block → ℕ → ℕ → List ℕ
rest_points b from columns =
    pieces (λ c. point columns (curve_height b from columns) c (rest_in b from c)) columns

abbrev pub calm_points : Block → ℕ → ℕ → List ℕ
calm_points b from columns =
    pieces (λ c. point columns (curve_height b from columns) c (calm_in b from c)) columns

-- ---- the parts around them

-- the head of the file, and a white page
abbrev pub page_opening : List ℕ
page_opening =
    codes "<svg xmlns=\"http://www.w3.org/2000/svg\" viewBox=\"0 0 1000 680\" font-family=\"sans-serif\" font-size=\"15\">\n"

abbrev pub white_page : List ℕ
white_page = codes "<rect width=\"1000\" height=\"680\" rx=\"8\" fill=\"#fff\"/>\n"

-- the title: the ring's place, n and K, which events are shown of how many, and the sums of its
-- block
abbrev pub title_text : Block → ℕ → ℕ → List ℕ
title_text b from count =
    page_opening
    ++ (white_page
    ++ (codes "<text x=\"70\" y=\"36\" font-size=\"22\">ring "
    ++ (decimal b.index
    ++ (codes ": n "
    ++ (decimal b.n
    ++ (codes ", K "
    ++ (decimal b.k
    ++ (codes "</text>\n<text x=\"70\" y=\"62\">events "
    ++ (decimal from
    ++ (codes " to "
    ++ (decimal (from + count)
    ++ (codes " of "
    ++ (decimal (length b.events)
    ++ (codes ", granted "
    ++ (decimal (granted_count (history b))
    ++ (codes ", corrupted "
    ++ (decimal (corrupted_count (history b))
    ++ (codes ", surveys "
    ++ (decimal (length b.surveys)
    ++ codes "</text>\n")))))))))))))))))))

-- five ticks of equal distance, and the names of the axes
abbrev pub ticks : List ℕ
ticks = codes "<path d=\"M70 380v5M295 380v5M520 380v5M745 380v5M970 380v5\" stroke=\"#555\"/>\n"

abbrev pub machine_axis : List ℕ
machine_axis =
    codes "<text x=\"24\" y=\"230\" text-anchor=\"middle\" transform=\"rotate(-90 24 230)\">machine</text>\n"

abbrev pub first_machine : List ℕ
first_machine = codes "<text x=\"62\" y=\"94\" text-anchor=\"end\">0</text>\n"

abbrev pub event_axis : List ℕ
event_axis =
    codes "<text x=\"520\" y=\"402\" text-anchor=\"middle\">granted passes and other events</text>\n"

-- the axes: with the ticks and the names, the first and the last machine, the first and the last
-- place, and the number at the top of the curves and 0
abbrev pub axes_text : ℕ → ℕ → ℕ → ℕ → List ℕ
axes_text n from count height =
    ticks
    ++ (machine_axis
    ++ (first_machine
    ++ (codes "<text x=\"62\" y=\"380\" text-anchor=\"end\">"
    ++ (decimal (n - 1)
    ++ (codes "</text>\n<text x=\"70\" y=\"402\">"
    ++ (decimal from
    ++ (codes "</text>\n"
    ++ (event_axis
    ++ (codes "<text x=\"970\" y=\"402\" text-anchor=\"end\">"
    ++ (decimal (from + count)
    ++ (codes "</text>\n<text x=\"62\" y=\"436\" text-anchor=\"end\">"
    ++ (decimal height
    ++ codes "</text>\n<text x=\"62\" y=\"590\" text-anchor=\"end\">0</text>\n"))))))))))))

-- the start of the rows
abbrev pub rows_opening : List ℕ
rows_opening =
    codes "<rect x=\"70\" y=\"80\" width=\"900\" height=\"300\" fill=\"#f3f3f3\"/>\n<svg x=\"70\" y=\"80\" width=\"900\" height=\"300\" viewBox=\"0 0 90000 30000\" fill=\"#15489f\" stroke=\"#15489f\" stroke-width=\"100\">\n"

-- the text between the rows and the marks of refused passes, between these and those of
-- corruptions, and after them
abbrev pub refusals_opening : List ℕ
refusals_opening = codes "<path stroke=\"#888\" stroke-width=\"150\" stroke-linecap=\"square\" d=\""

abbrev pub corruptions_opening : List ℕ
corruptions_opening =
    codes "\"/>\n<path stroke=\"#e69f00\" stroke-width=\"500\" stroke-linecap=\"round\" d=\""

-- the end of the rows, the bound by its name, and the start of the curves over the line of the
-- bound; what is above the height is cut off
abbrev pub curves_opening : ℕ → ℕ → List ℕ
curves_opening height limit =
    codes "\"/>\n</svg>\n<rect x=\"70\" y=\"430\" width=\"900\" height=\"160\" fill=\"#f3f3f3\"/>\n<text x=\"970\" y=\"424\" text-anchor=\"end\">bound "
    ++ (decimal limit
    ++ (codes "</text>\n<svg x=\"70\" y=\"430\" width=\"900\" height=\"160\" viewBox=\"0 0 90000 16000\" fill=\"none\">\n<g transform=\"translate(0 16000) scale(1 -1)\">\n<path d=\"M0 "
    ++ (decimal (up height limit)
    ++ codes "h90000\" stroke=\"#555\" stroke-width=\"150\" stroke-dasharray=\"200 300\"/>\n<polyline stroke=\"#111\" stroke-width=\"250\" points=\"")))

abbrev pub calm_opening : List ℕ
calm_opening =
    codes "\"/>\n<polyline stroke=\"#0a7d4f\" stroke-width=\"150\" stroke-dasharray=\"500 300\" points=\""

-- the end of the curves
abbrev pub curves_end : List ℕ
curves_end = codes "\"/>\n</g>\n</svg>\n<g font-size=\"14\">\n"

-- the meaning of each colour: a word beside a piece of it
abbrev pub privileged_key : List ℕ
privileged_key =
    codes "<rect x=\"70\" y=\"608\" width=\"16\" height=\"10\" fill=\"#15489f\"/>\n<text x=\"92\" y=\"618\">privileged</text>\n"

abbrev pub corruption_key : List ℕ
corruption_key =
    codes "<path d=\"M200 606v14\" stroke=\"#e69f00\" stroke-width=\"5\" stroke-linecap=\"round\"/>\n<text x=\"212\" y=\"618\">corruption</text>\n"

abbrev pub refusal_key : List ℕ
refusal_key =
    codes "<path d=\"M322 610v6\" stroke=\"#888\" stroke-width=\"1.5\" stroke-linecap=\"square\"/>\n<text x=\"332\" y=\"618\">refused pass</text>\n"

abbrev pub rest_key : List ℕ
rest_key =
    codes "<path d=\"M456 613h24\" stroke=\"#111\" stroke-width=\"2.5\"/>\n<text x=\"488\" y=\"618\">rest</text>\n"

abbrev pub calm_key : List ℕ
calm_key =
    codes "<path d=\"M556 613h24\" stroke=\"#0a7d4f\" stroke-width=\"1.5\" stroke-dasharray=\"5 3\"/>\n<text x=\"588\" y=\"618\">calm, cut off at the top</text>\n"

abbrev pub bound_key : List ℕ
bound_key =
    codes "<path d=\"M776 613h24\" stroke=\"#555\" stroke-width=\"1.5\" stroke-dasharray=\"2 3\"/>\n<text x=\"808\" y=\"618\">bound</text>\n"

-- what the two curves are
abbrev pub rest_meaning : List ℕ
rest_meaning =
    codes "<text x=\"70\" y=\"644\">rest: at most so many granted passes are left until one machine alone is privileged</text>\n"

abbrev pub calm_meaning : List ℕ
calm_meaning =
    codes "<text x=\"70\" y=\"664\">calm: so many passes were granted since the last corruption, or since the start</text>\n"

-- the end of the page
abbrev pub page_end : List ℕ
page_end = codes "</g>\n</svg>\n"

abbrev pub ending_text : List ℕ
ending_text =
    curves_end
    ++ (privileged_key
    ++ (corruption_key
    ++ (refusal_key
    ++ (rest_key
    ++ (calm_key ++ (bound_key ++ (rest_meaning ++ (calm_meaning ++ page_end))))))))

-- ---- the picture: the upper part, the marks over its rows, and the lower part

abbrev pub upper_part : Block → ℕ → ℕ → List ℕ
upper_part b from count =
    title_text b from count
    ++ (axes_text b.n from count (curve_height b from (count + 1))
    ++ (rows_opening ++ rows_text b from (count + 1)))

abbrev pub marks_part : Block → ℕ → ℕ → List ℕ
marks_part b from count =
    refusals_opening
    ++ (marks_text b false from count ++ (corruptions_opening ++ marks_text b true from count))

abbrev pub lower_part : Block → ℕ → ℕ → List ℕ
lower_part b from columns =
    curves_opening (curve_height b from columns) (bound b.n)
    ++ (rest_points b from columns ++ (calm_opening ++ (calm_points b from columns ++ ending_text)))

-- for n events: a column before the first of them and one after each
abbrev pub picture : Block → ℕ → ℕ → List ℕ
picture b from count =
    upper_part b from count ++ (marks_part b from count ++ lower_part b from (count + 1))
