-- Reports, one after the other.
use Rattle.std.proofs.Common.{◌≡◌, ℕ, List, [], ◌∷◌, ◌++◌, ◌+◌, ◌<◌, length, map, take, drop, get_or, Option, refl, sym, ◌∙◌, ap, subst, append_assoc, length-append, arith}
use Rattle.std.specs.Io.KnownBytes.{Appends, Keeps}
use Rattle.std.proofs.lemmas.List.{append-nil, take-append-drop, drop_more, take_more}
use Rattle.std.proofs.lemmas.List.Elements.{filter-append}
use Rattle.text_lines.proofs.Writing.{appends_nil, appends_then, keeps_then}
use Rattle.ring_repairs.specs.Studies.{StudyData}
use Rattle.repair_texts.specs.declared.columns.Row.{Row}
use Rattle.repair_report.specs.Reports.{IsReport, IsCutShort, AreCountsOf}
use Rattle.repair_report.specs.declared.writing.Lines.{Lines}
use Rattle.repair_picture.specs.Growth.{growth_shapes}
use Rattle.repair_picture.specs.Pages.{spread_page, growth_page}
use Rattle.repair_picture.specs.Spread.{spread_shapes}
use Rattle.repair_picture.specs.declared.shapes.Shape.{Shape}
use Rattle.repair_commands.specs.Repaired.{AreReports, HavePrinted, IsCut, AreCounts, is_of_passes, of_passes, shapes_of, page_of}

-- one report more
pub reports_more : (wanted : Lines) (ss : List StudyData) (rows : List Row) (text : List ℕ) (s : StudyData) (added : List Row) (line : List ℕ) →
    AreReports wanted ss rows text → IsReport s wanted added line → AreReports wanted (ss ++ s ∷ []) (rows ++ added) (text ++ line)
reports_more wanted [] rows text s added line (er, et) h = (
  added,
  [],
  line,
  [],
  h,
  (refl, refl),
  ap (λ (x : List Row). x ++ added) er ∙ sym (append-nil added),
  ap (λ (x : List ℕ). x ++ line) et ∙ sym (append-nil line),
)
reports_more wanted (s0 ∷ ss) rows text s added line (first, more, l0, ls, h0, rest, er, et) h = (
  first,
  more ++ added,
  l0,
  ls ++ line,
  h0,
  reports_more wanted ss more ls s added line rest h,
  ap (λ (x : List Row). x ++ added) er ∙ append_assoc first more added,
  ap (λ (x : List ℕ). x ++ line) et ∙ append_assoc l0 ls line,
)

pub printed_none : (wanted : Lines) (rows : List Row) (a : Option (List ℕ)) → rows ≡ [] → HavePrinted wanted [] rows a a
printed_none wanted rows a e = ([], (e, refl), appends_nil a)

pub printed_more : (wanted : Lines) (ss : List StudyData) (rows rows' : List Row) (a b c : Option (List ℕ)) (s : StudyData) (added : List Row) (line : List ℕ) →
    HavePrinted wanted ss rows a b → IsReport s wanted added line → rows' ≡ rows ++ added → Appends b c line → HavePrinted wanted (ss ++ s ∷ []) rows' a c
printed_more wanted ss rows rows' a b c s added line (text, are, at) h e al =
    (text ++ line, rw e (reports_more wanted ss rows text s added line are h), appends_then a b c text line at al)

pub printed_cut : (wanted : Lines) (all ss : List StudyData) (rows : List Row) (a b c : Option (List ℕ)) (s : StudyData) (back : List StudyData) (added : List Row) (line : List ℕ) →
    HavePrinted wanted ss rows a b → IsReport s wanted added line → IsCutShort b c line → all ≡ ss ++ s ∷ back → IsCut wanted all a c
printed_cut wanted all ss rows a b c s back added line (text, are, at) h (left, some, (front, split, af)) e = (
  ss ++ s ∷ [],
  back,
  rows ++ added,
  text ++ line,
  e ∙ sym (append_assoc ss (s ∷ []) back),
  reports_more wanted ss rows text s added line are h,
  (left, some, (text ++ front, ap (λ (x : List ℕ). text ++ x) split ∙ sym (append_assoc text front left), appends_then a b c text front at af)),
)

pub printed_kept : (wanted : Lines) (ss : List StudyData) (rows : List Row) (a b c : Option (List ℕ)) → HavePrinted wanted ss rows a b → Keeps b c →
    HavePrinted wanted ss rows a c
printed_kept wanted ss rows a b c (text, are, at) kept = (text, are, keeps_then a b c text at kept)

-- ---- studies, one after the other

map_same : (ss : List StudyData) → map (λ s. s) ss ≡ ss
map_same [] = refl
map_same (s ∷ ss) = ap (λ (x : List StudyData). s ∷ x) (map_same ss)

-- the studies are those so far, the next one and the rest
pub split_at_turn : (all ss : List StudyData) (s : StudyData) → map (λ x. x) ss ≡ take (length ss) all → length ss < length all → s ≡ get_or all (length ss) s →
    all ≡ ss ++ s ∷ drop (length ss + 1) all
split_at_turn all ss s far l here =
    sym (take-append-drop (length ss) all) ∙ ap (λ (x : List StudyData). x ++ drop (length ss) all) (sym far ∙ map_same ss)
    ∙ ap (λ (x : List StudyData). ss ++ x) (drop_more all (length ss) s l) ∙ ap (λ (x : StudyData). ss ++ x ∷ drop (length ss + 1) all) (sym here)

-- ---- the counts of the last study

last_is : (ss : List StudyData) (s t : StudyData) → ss ++ s ∷ [] ≡ t ∷ [] → s ≡ t
last_is [] s t e = ap (λ (l : List StudyData). get_or l 0 s) e
last_is (x ∷ ss) s t e =
    let long : length (x ∷ (ss ++ s ∷ [])) ≡ 1 = ap (λ (l : List StudyData). length l) e in
    let more = length-append ss (s ∷ []) in
    absurd (omega arith)

none_is_one : (s : StudyData) → [] ≡ s ∷ [] → ⊥
none_is_one s e = let long : length {A = StudyData} [] ≡ 1 = ap (λ (l : List StudyData). length l) e in omega (arith, long)

pub counts_none : (counts : List ℕ) → AreCounts [] counts
counts_none counts = λ s e. absurd (none_is_one s e)

pub counts_last : (ss : List StudyData) (s : StudyData) (counts : List ℕ) → AreCountsOf s counts → AreCounts (ss ++ s ∷ []) counts
counts_last ss s counts h = λ t e. subst (λ (x : StudyData). AreCountsOf x counts) (last_is ss s t e) h

-- ---- the rows of passes

pub passes_more : (rows : List Row) (i : ℕ) (d : Row) (now new : List Row) → i < length rows → now ≡ of_passes (take i rows) →
    new ≡ now ++ of_passes (get_or rows i d ∷ []) → new ≡ of_passes (take (i + 1) rows)
passes_more rows i d now new l was e =
    e ∙ ap (λ (x : List Row). x ++ of_passes (get_or rows i d ∷ [])) was ∙ sym (filter-append is_of_passes (take i rows) (get_or rows i d ∷ []))
    ∙ ap of_passes (sym (take_more rows i d l))

-- ---- the picture of one row, and of others

shorter : (P : Type 0) → length {A = Row} [] ≡ 1 → P
shorter P one = absurd (omega (arith, one))

longer : (r s : Row) (rows : List Row) (P : Type 0) → length (r ∷ s ∷ rows) ≡ 1 → P
longer r s rows P one = absurd (omega (arith, one))

pub shapes_of_one : (rows : List Row) (counts : List ℕ) (d : Row) → length rows ≡ 1 →
    spread_shapes counts (get_or rows 0 d).figures ≡ shapes_of rows counts
shapes_of_one [] counts d one = shorter _ one
shapes_of_one (r ∷ []) counts d one = refl
shapes_of_one (r ∷ s ∷ rows) counts d one = longer r s rows _ one

pub shapes_of_more : (rows : List Row) (counts : List ℕ) → (length rows ≡ 1 → ⊥) → growth_shapes rows ≡ shapes_of rows counts
shapes_of_more [] counts none = refl
shapes_of_more (r ∷ []) counts none = absurd (none refl)
shapes_of_more (r ∷ s ∷ rows) counts none = refl

pub page_of_one : (rows : List Row) (shapes : List Shape) (d : Row) → length rows ≡ 1 →
    spread_page (get_or rows 0 d) shapes ≡ page_of rows shapes
page_of_one [] shapes d one = shorter _ one
page_of_one (r ∷ []) shapes d one = refl
page_of_one (r ∷ s ∷ rows) shapes d one = longer r s rows _ one

pub page_of_more : (rows : List Row) (shapes : List Shape) → (length rows ≡ 1 → ⊥) → growth_page rows shapes ≡ page_of rows shapes
page_of_more [] shapes none = refl
page_of_more (r ∷ []) shapes none = absurd (none refl)
page_of_more (r ∷ s ∷ rows) shapes none = refl
