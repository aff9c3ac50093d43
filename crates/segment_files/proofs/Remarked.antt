-- The lines of a text, and what is left of it without its remarks.
use Rattle.std.proofs.Common.{◌≡◌, ℕ, ◌<◌, Bool, true, false, cond, eqb, List, [], ◌∷◌, ◌++◌, length, map, refl, sym, ap, subst, ◌∙◌, append_assoc, inl, inr, arith}
use Rattle.std.specs.Prelude.{not, ◌||◌}
use Rattle.std.specs.List.{filter, flat_map, list_any, AllByRecursion}
use Rattle.std.proofs.lemmas.List.{append-nil}
use Rattle.std.proofs.lemmas.List.Concat.{flat_map-append}
use Rattle.std.proofs.lemmas.List.Elements.{filter-append}
use Rattle.journal.specs.Recovery.{has_line_end}
use Rattle.segment_files.specs.Remarks.{with_byte, lines_in, is_remark, without_remarks, remarks_in, remark_of}
use Rattle.segment_files.specs.RemarkLaws.{AreLines, IsOneLine}

-- the lines of a text with a byte more in front
abbrev more : ℕ → List (List ℕ) → List (List ℕ)
more b lines = cond (eqb b 10) ((b ∷ []) ∷ lines) (with_byte b lines)

some : (v : Bool) (b : ℕ) (lines : List (List ℕ)) → 0 < length (cond v ((b ∷ []) ∷ lines) (with_byte b lines))
some true b lines = omega arith
some false b [] = omega arith
some false b (line ∷ lines) = omega arith

with_byte_append : (b : ℕ) (xs ys : List (List ℕ)) → 0 < length xs → with_byte b (xs ++ ys) ≡ with_byte b xs ++ ys
with_byte_append b [] ys lt = absurd (omega (arith, lt))
with_byte_append b (x ∷ xs) ys lt = refl

more_append : (v : Bool) (b : ℕ) (xs ys : List (List ℕ)) → 0 < length xs → cond v ((b ∷ []) ∷ (xs ++ ys)) (with_byte b (xs ++ ys)) ≡ cond v ((b ∷ []) ∷ xs) (with_byte b xs) ++ ys
more_append true b xs ys lt = refl
more_append false b xs ys lt = with_byte_append b xs ys lt

ended_some : (front : List ℕ) → 0 < length (lines_in (front ++ 10 ∷ []))
unfolding lines_in
ended_some [] = omega arith
ended_some (x ∷ front) = some (eqb x 10) x (lines_in (front ++ 10 ∷ []))

after_end : (front back : List ℕ) → lines_in ((front ++ 10 ∷ []) ++ back) ≡ lines_in (front ++ 10 ∷ []) ++ lines_in back
unfolding lines_in
after_end [] back = refl
after_end (x ∷ front) back = ap (more x) (after_end front back) ∙ more_append (eqb x 10) x (lines_in (front ++ 10 ∷ [])) (lines_in back) (ended_some front)

-- ---- texts one after the other

pub lines_append : (a b : List ℕ) → AreLines a → lines_in (a ++ b) ≡ lines_in a ++ lines_in b
unfolding lines_in
lines_append a b w = elim w [
  | inl e ↦ subst (λ (x : List ℕ). lines_in (x ++ b) ≡ lines_in x ++ lines_in b) (sym e) refl
  | inr e ↦ subst (λ (x : List ℕ). lines_in (x ++ b) ≡ lines_in x ++ lines_in b) (sym e.1) (after_end e.0 b)
]

abbrev is_kept : List ℕ → Bool
is_kept line = not (is_remark line)

abbrev same : List ℕ → List ℕ
same line = line

pub without_append : (a b : List ℕ) → AreLines a → without_remarks (a ++ b) ≡ without_remarks a ++ without_remarks b
unfolding without_remarks
without_append a b w =
    ap (λ (ls : List (List ℕ)). flat_map same (filter is_kept ls)) (lines_append a b w)
    ∙ ap (flat_map same) (filter-append is_kept (lines_in a) (lines_in b))
    ∙ flat_map-append same (filter is_kept (lines_in a)) (filter is_kept (lines_in b))

pub remarks_append : (a b : List ℕ) → AreLines a → remarks_in (a ++ b) ≡ remarks_in a ++ remarks_in b
unfolding remarks_in
remarks_append a b w = ap (filter is_remark) (lines_append a b w) ∙ filter-append is_remark (lines_in a) (lines_in b)

-- ---- a line, and what follows it

neither : (a b : Bool) → (a || b) ≡ false → (a ≡ false) × (b ≡ false)
neither true b e = absurd cc
neither false b e = (refl, e)

goes_on : (v : Bool) (b : ℕ) (line : List ℕ) (lines : List (List ℕ)) → v ≡ false → cond v ((b ∷ []) ∷ line ∷ lines) (with_byte b (line ∷ lines)) ≡ (b ∷ line) ∷ lines
goes_on true b line lines e = absurd cc
goes_on false b line lines e = refl

pub line_then : (body rest : List ℕ) → has_line_end body ≡ false → lines_in (body ++ 10 ∷ rest) ≡ (body ++ 10 ∷ []) ∷ lines_in rest
unfolding lines_in
line_then [] rest none = refl
line_then (x ∷ body) rest none =
    let n = neither (eqb x 10) (has_line_end body) none in
    ap (more x) (line_then body rest n.1) ∙ goes_on (eqb x 10) x (body ++ 10 ∷ []) (lines_in rest) n.0

either_same : (v : Bool) (lines : List (List ℕ)) → cond v lines lines ≡ lines
either_same true lines = refl
either_same false lines = refl

pub last_line : (b : ℕ) (bs : List ℕ) → has_line_end (b ∷ bs) ≡ false → lines_in (b ∷ bs) ≡ (b ∷ bs) ∷ []
unfolding lines_in
last_line b [] none = either_same (eqb b 10) ((b ∷ []) ∷ [])
last_line b (c ∷ bs) none =
    let n = neither (eqb b 10) (has_line_end (c ∷ bs)) none in
    ap (more b) (last_line c bs n.1) ∙ goes_on (eqb b 10) b (c ∷ bs) [] n.0

more_joined : (v : Bool) (b : ℕ) (lines : List (List ℕ)) → flat_map same (cond v ((b ∷ []) ∷ lines) (with_byte b lines)) ≡ b ∷ flat_map same lines
more_joined true b lines = refl
more_joined false b [] = refl
more_joined false b (line ∷ lines) = refl

-- the lines of a text are the text
pub lines_joined : (text : List ℕ) → flat_map (λ (line : List ℕ). line) (lines_in text) ≡ text
unfolding lines_in
lines_joined [] = refl
lines_joined (b ∷ bs) = more_joined (eqb b 10) b (lines_in bs) ∙ ap (λ (u : List ℕ). b ∷ u) (lines_joined bs)

-- ---- texts with no remark

kept_one : (v : Bool) (line : List ℕ) (lines kept : List (List ℕ)) → v ≡ false → kept ≡ lines → cond (not v) (line ∷ kept) kept ≡ line ∷ lines
kept_one true line lines kept e f = absurd cc
kept_one false line lines kept e f = ap (λ (ls : List (List ℕ)). line ∷ ls) f

all_kept : (lines : List (List ℕ)) → list_any is_remark lines ≡ false → filter is_kept lines ≡ lines
all_kept [] none = refl
all_kept (line ∷ lines) none =
    let n = neither (is_remark line) (list_any is_remark lines) none in
    kept_one (is_remark line) line lines (filter is_kept lines) n.0 (all_kept lines n.1)

none_one : (v : Bool) (line : List ℕ) (found : List (List ℕ)) → v ≡ false → found ≡ [] → cond v (line ∷ found) found ≡ []
none_one true line found e f = absurd cc
none_one false line found e f = f

none_found : (lines : List (List ℕ)) → list_any is_remark lines ≡ false → filter is_remark lines ≡ []
none_found [] none = refl
none_found (line ∷ lines) none =
    let n = neither (is_remark line) (list_any is_remark lines) none in
    none_one (is_remark line) line (filter is_remark lines) n.0 (none_found lines n.1)

pub plain_without : (text : List ℕ) → list_any is_remark (lines_in text) ≡ false → without_remarks text ≡ text
unfolding without_remarks
plain_without text none = ap (flat_map same) (all_kept (lines_in text) none) ∙ lines_joined text

pub plain_remarks : (text : List ℕ) → list_any is_remark (lines_in text) ≡ false → remarks_in text ≡ []
unfolding remarks_in
plain_remarks text none = none_found (lines_in text) none

-- no byte is a #
pub record HasNoHash (text : List ℕ) : Type 0 where
  pub none : list_any (λ b. eqb b 35) text ≡ false

both_false : (a b : Bool) → a ≡ false → b ≡ false → (a || b) ≡ false
both_false true b e f = absurd cc
both_false false b e f = f

more_plain : (v : Bool) (b : ℕ) (lines : List (List ℕ)) → eqb b 35 ≡ false → list_any is_remark lines ≡ false → list_any is_remark (cond v ((b ∷ []) ∷ lines) (with_byte b lines)) ≡ false
more_plain true b lines e f = both_false (eqb b 35) (list_any is_remark lines) e f
more_plain false b [] e f = both_false (eqb b 35) false e refl
more_plain false b (line ∷ lines) e f = both_false (eqb b 35) (list_any is_remark lines) e (neither (is_remark line) (list_any is_remark lines) f).1

pub no_hash_lines : (text : List ℕ) → list_any (λ b. eqb b 35) text ≡ false → list_any is_remark (lines_in text) ≡ false
unfolding lines_in
no_hash_lines [] none = refl
no_hash_lines (b ∷ bs) none =
    let n = neither (eqb b 35) (list_any (λ b. eqb b 35) bs) none in
    more_plain (eqb b 10) b (lines_in bs) n.0 (no_hash_lines bs n.1)

-- bytes with no # are all kept, and have no remark
pub no_hash_without : (text : List ℕ) → HasNoHash text → without_remarks text ≡ text
no_hash_without text none = plain_without text (no_hash_lines text none.none)

pub no_hash_remarks : (text : List ℕ) → HasNoHash text → remarks_in text ≡ []
no_hash_remarks text none = plain_remarks text (no_hash_lines text none.none)

pub plain_then : (a b : List ℕ) → AreLines a → HasNoHash a → without_remarks (a ++ b) ≡ a ++ without_remarks b
plain_then a b w none = without_append a b w ∙ ap (λ (u : List ℕ). u ++ without_remarks b) (no_hash_without a none)

pub plain_then_remarks : (a b : List ℕ) → AreLines a → HasNoHash a → remarks_in (a ++ b) ≡ remarks_in b
plain_then_remarks a b w none = remarks_append a b w ∙ ap (λ (u : List (List ℕ)). u ++ remarks_in b) (no_hash_remarks a none)

-- ---- remarks

remark_lines : (line rest : List ℕ) → IsOneLine line → lines_in (remark_of line ++ rest) ≡ remark_of line ∷ lines_in rest
remark_lines line rest l =
    let body : List ℕ = 35 ∷ 32 ∷ l.0 in
    let is : remark_of line ≡ body ++ 10 ∷ [] = ap remark_of l.1 in
    ap (λ (u : List ℕ). lines_in (u ++ rest)) is
    ∙ ap lines_in (append_assoc body (10 ∷ []) rest)
    ∙ line_then body rest l.2
    ∙ ap (λ (u : List ℕ). u ∷ lines_in rest) (sym is)

-- a remark is left out, and is there among the remarks
pub remark_then : (line rest : List ℕ) → IsOneLine line → without_remarks (remark_of line ++ rest) ≡ without_remarks rest
unfolding without_remarks
remark_then line rest l = ap (λ (ls : List (List ℕ)). flat_map same (filter is_kept ls)) (remark_lines line rest l)

pub remark_then_remarks : (line rest : List ℕ) → IsOneLine line → remarks_in (remark_of line ++ rest) ≡ remark_of line ∷ remarks_in rest
unfolding remarks_in
remark_then_remarks line rest l = ap (filter is_remark) (remark_lines line rest l)

-- so are several
pub remarks_then : (lines : List (List ℕ)) (rest : List ℕ) → AllByRecursion IsOneLine lines → without_remarks (flat_map remark_of lines ++ rest) ≡ without_remarks rest
remarks_then [] rest all = refl
remarks_then (line ∷ lines) rest all =
    ap without_remarks (append_assoc (remark_of line) (flat_map remark_of lines) rest)
    ∙ remark_then line (flat_map remark_of lines ++ rest) all.0
    ∙ remarks_then lines rest all.1

pub remarks_then_remarks : (lines : List (List ℕ)) (rest : List ℕ) → AllByRecursion IsOneLine lines → remarks_in (flat_map remark_of lines ++ rest) ≡ map remark_of lines ++ remarks_in rest
remarks_then_remarks [] rest all = refl
remarks_then_remarks (line ∷ lines) rest all =
    ap remarks_in (append_assoc (remark_of line) (flat_map remark_of lines) rest)
    ∙ remark_then_remarks line (flat_map remark_of lines ++ rest) all.0
    ∙ ap (λ (u : List (List ℕ)). remark_of line ∷ u) (remarks_then_remarks lines rest all.1)

-- only remarks
pub nothing_kept : without_remarks [] ≡ []
unfolding without_remarks lines_in
nothing_kept = refl

pub no_remarks : remarks_in [] ≡ []
unfolding remarks_in lines_in
no_remarks = refl

pub remarks_alone : (lines : List (List ℕ)) → AllByRecursion IsOneLine lines → without_remarks (flat_map remark_of lines) ≡ []
remarks_alone lines all = ap without_remarks (sym (append-nil (flat_map remark_of lines))) ∙ remarks_then lines [] all ∙ nothing_kept

pub remarks_told : (lines : List (List ℕ)) → AllByRecursion IsOneLine lines → remarks_in (flat_map remark_of lines) ≡ map remark_of lines
remarks_told lines all =
    ap remarks_in (sym (append-nil (flat_map remark_of lines)))
    ∙ remarks_then_remarks lines [] all
    ∙ ap (λ (u : List (List ℕ)). map remark_of lines ++ u) no_remarks
    ∙ append-nil (map remark_of lines)

-- a remark that has begun at the end of a text is left out
pub begun_remark : (begun : List ℕ) → has_line_end begun ≡ false → without_remarks (35 ∷ begun) ≡ []
unfolding without_remarks
begun_remark begun none = ap (λ (ls : List (List ℕ)). flat_map same (filter is_kept ls)) (last_line 35 begun none)

-- ---- texts of lines

pub lines_both : (a b : List ℕ) → AreLines a → AreLines b → AreLines (a ++ b)
lines_both a b v w = elim w [
  | inl e ↦ subst AreLines (sym (ap (λ (u : List ℕ). a ++ u) e ∙ append-nil a)) v
  | inr e ↦ inr (a ++ e.0, ap (λ (u : List ℕ). a ++ u) e.1 ∙ sym (append_assoc a e.0 (10 ∷ [])))
]

pub line_ended : (line : List ℕ) → IsOneLine line → AreLines line
line_ended line l = inr (l.0, l.1)

pub remark_ended : (line : List ℕ) → IsOneLine line → AreLines (remark_of line)
remark_ended line l = inr (remark_of l.0, ap remark_of l.1)
