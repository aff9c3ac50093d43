-- A text is gone through line by line.
use Rattle.std.proofs.Common.{◌≡◌, ℕ, zero, suc, ◌+◌, ◌-◌, ◌<◌, ◌≤◌, Bool, true, false, cond, List, [], ◌∷◌, ◌++◌, length, take, drop, get_or, refl, sym, ap, subst, ◌∙◌, length-append, arith}
use Rattle.std.specs.Prelude.{not, ◌||◌}
use Rattle.std.specs.List.{filter, flat_map, list_any}
use Rattle.std.proofs.lemmas.List.{take_all, take_more, take-append-drop, drop_more, drop_all}
use Rattle.journal.specs.Recovery.{has_line_end}
use Rattle.segment_files.specs.Remarks.{lines_in, is_remark, without_remarks, line_among}
use Rattle.segment_files.proofs.Remarked.{line_then, last_line, lines_joined}

-- ---- where the first line ends

-- the byte at i is the first LF
pub line_ends : (bytes : List ℕ) (i : ℕ) (d : ℕ) → i < length bytes → has_line_end (take i bytes) ≡ false → get_or bytes i d ≡ 10 → lines_in bytes ≡ take (i + 1) bytes ∷ lines_in (drop (i + 1) bytes)
line_ends bytes i d lt none is =
    let front : take (i + 1) bytes ≡ take i bytes ++ 10 ∷ [] = take_more bytes i d lt ∙ ap (λ (b : ℕ). take i bytes ++ b ∷ []) is in
    let parts : bytes ≡ take i bytes ++ 10 ∷ drop (i + 1) bytes =
    sym (take-append-drop i bytes) ∙ ap (λ (u : List ℕ). take i bytes ++ u) (drop_more bytes i d lt ∙ ap (λ (b : ℕ). b ∷ drop (i + 1) bytes) is) in
    ap lines_in parts ∙ line_then (take i bytes) (drop (i + 1) bytes) none ∙ ap (λ (u : List ℕ). u ∷ lines_in (drop (i + 1) bytes)) (sym front)

-- there is no LF
only_line : (bytes : List ℕ) → 0 < length bytes → has_line_end bytes ≡ false → lines_in bytes ≡ bytes ∷ []
only_line [] some none = absurd (omega (arith, some))
only_line (b ∷ bs) some none = last_line b bs none

no_lines : lines_in [] ≡ []
unfolding lines_in
no_lines = refl

pub line_all : (bytes : List ℕ) (i n : ℕ) → 0 < length bytes → length bytes ≤ i → length bytes ≤ n → has_line_end (take i bytes) ≡ false → lines_in bytes ≡ take n bytes ∷ lines_in (drop n bytes)
line_all bytes i n some le ge none =
    let all : take i bytes ≡ bytes = take_all i bytes le in
    only_line bytes some (ap has_line_end (sym all) ∙ none)
    ∙ ap (λ (u : List ℕ). u ∷ []) (sym (take_all n bytes ge))
    ∙ ap (λ (u : List (List ℕ)). take n bytes ∷ u) (sym no_lines ∙ ap lines_in (sym (drop_all n bytes ge)))

-- ---- the loops

none_left : (bytes : List ℕ) → length bytes ≡ 0 → bytes ≡ []
none_left [] e = refl
none_left (b ∷ bs) e = absurd (omega (arith, e))

pub empty_any : (rest : List ℕ) → length rest ≡ 0 → list_any is_remark (lines_in rest) ≡ false
empty_any rest e = ap (λ (u : List ℕ). list_any is_remark (lines_in u)) (none_left rest e) ∙ ap (list_any is_remark) no_lines

pub empty_without : (rest : List ℕ) → length rest ≡ 0 → without_remarks rest ≡ []
unfolding without_remarks
empty_without rest e = ap without_remarks (none_left rest e) ∙ ap (λ (ls : List (List ℕ)). flat_map (λ (line : List ℕ). line) (filter (λ (line : List ℕ). not (is_remark line)) ls)) no_lines

one_any : (v w : Bool) → v ≡ false → (v || w) ≡ w
one_any true w e = absurd cc
one_any false w e = refl

abbrev joined : List (List ℕ) → List ℕ
joined lines = flat_map (λ (line : List ℕ). line) lines

drop_one : (v : Bool) (line : List ℕ) (kept : List (List ℕ)) → v ≡ true → joined (cond (not v) (line ∷ kept) kept) ≡ joined kept
drop_one true line kept e = refl
drop_one false line kept e = absurd cc

keep_one : (v : Bool) (line : List ℕ) (kept : List (List ℕ)) → v ≡ false → joined (cond (not v) (line ∷ kept) kept) ≡ line ++ joined kept
keep_one true line kept e = absurd cc
keep_one false line kept e = refl

module _ (rest line after : List ℕ) (is : lines_in rest ≡ line ∷ lines_in after) where
  pub plain_any : is_remark line ≡ false → list_any is_remark (lines_in rest) ≡ list_any is_remark (lines_in after)
  plain_any e = ap (list_any is_remark) is ∙ one_any (is_remark line) (list_any is_remark (lines_in after)) e

  pub remark_any : is_remark line ≡ true → list_any is_remark (lines_in rest) ≡ true
  remark_any e = ap (list_any is_remark) is ∙ ap (λ (v : Bool). v || list_any is_remark (lines_in after)) e

  pub remark_without : is_remark line ≡ true → without_remarks rest ≡ without_remarks after
  unfolding without_remarks
  remark_without e =
      ap (λ (ls : List (List ℕ)). joined (filter (λ (l : List ℕ). not (is_remark l)) ls)) is
      ∙ drop_one (is_remark line) line (filter (λ (l : List ℕ). not (is_remark l)) (lines_in after)) e

  pub plain_without_more : is_remark line ≡ false → without_remarks rest ≡ line ++ without_remarks after
  unfolding without_remarks
  plain_without_more e =
      ap (λ (ls : List (List ℕ)). joined (filter (λ (l : List ℕ). not (is_remark l)) ls)) is
      ∙ keep_one (is_remark line) line (filter (λ (l : List ℕ). not (is_remark l)) (lines_in after)) e

-- ---- the number of a line

among_one : (v : Bool) (m n : ℕ) → v ≡ true → cond {A = ℕ} v m n ≡ m
among_one true m n e = refl
among_one false m n e = absurd cc

among_other : (v : Bool) (m n : ℕ) → v ≡ false → cond {A = ℕ} v m n ≡ n
among_other true m n e = absurd cc
among_other false m n e = refl

after_remark : (line : List ℕ) (lines : List (List ℕ)) (n : ℕ) → 0 < n → is_remark line ≡ true → line_among (line ∷ lines) n ≡ 1 + line_among lines n
unfolding line_among
after_remark line lines zero some e = absurd (omega (arith, some))
after_remark line lines (suc n) some e = among_one (is_remark line) (1 + line_among lines (suc n)) (1 + line_among lines n) e

after_other : (line : List ℕ) (lines : List (List ℕ)) (n : ℕ) → 0 < n → is_remark line ≡ false → line_among (line ∷ lines) n ≡ 1 + line_among lines (n - 1)
unfolding line_among
after_other line lines zero some e = absurd (omega (arith, some))
after_other line lines (suc n) some e =
    let less : n ≡ suc n - 1 = omega arith in
    among_other (is_remark line) (1 + line_among lines (suc n)) (1 + line_among lines n) e ∙ ap (λ (m : ℕ). 1 + line_among lines m) less

pub among_none : (lines : List (List ℕ)) → line_among lines 0 ≡ 0
unfolding line_among
among_none [] = refl
among_none (line ∷ lines) = refl

pub among_empty : (rest : List ℕ) (n : ℕ) → length rest ≡ 0 → line_among (lines_in rest) n ≡ n
unfolding line_among
among_empty rest n e = ap (λ (u : List ℕ). line_among (lines_in u) n) (none_left rest e) ∙ ap (λ (ls : List (List ℕ)). line_among ls n) no_lines

either_most : (v : Bool) (n a b : ℕ) → suc n ≤ a → n ≤ b → suc n ≤ cond {A = ℕ} v (1 + a) (1 + b)
either_most true n a b le ge = omega (arith, le)
either_most false n a b le ge = omega (arith, ge)

-- no line comes before its number among the others
pub among_most : (lines : List (List ℕ)) (n : ℕ) → n ≤ line_among lines n
unfolding line_among
among_most [] n = omega arith
among_most (line ∷ lines) zero = omega arith
among_most (line ∷ lines) (suc n) = either_most (is_remark line) n (line_among lines (suc n)) (line_among lines n) (among_most lines (suc n)) (among_most lines n)

module _ (rest line after : List ℕ) (n : ℕ) (is : lines_in rest ≡ line ∷ lines_in after) (some : 0 < n) where
  pub remark_among : is_remark line ≡ true → line_among (lines_in rest) n ≡ 1 + line_among (lines_in after) n
  remark_among e = ap (λ (ls : List (List ℕ)). line_among ls n) is ∙ after_remark line (lines_in after) n some e

  pub other_among : is_remark line ≡ false → line_among (lines_in rest) n ≡ 1 + line_among (lines_in after) (n - 1)
  other_among e = ap (λ (ls : List (List ℕ)). line_among ls n) is ∙ after_other line (lines_in after) n some e

-- ---- bounds

remarks_more : (v : Bool) (n a b r : ℕ) → a ≤ suc n + r → b ≤ n + r → cond {A = ℕ} v (1 + a) (1 + b) ≤ suc n + cond {A = ℕ} v (suc r) r
remarks_more true n a b r le ge = omega (arith, le)
remarks_more false n a b r le ge = omega (arith, ge)

found_many : (v : Bool) (line : List ℕ) (found : List (List ℕ)) → length (cond v (line ∷ found) found) ≡ cond {A = ℕ} v (suc (length found)) (length found)
found_many true line found = refl
found_many false line found = refl

among_few : (lines : List (List ℕ)) (n : ℕ) → line_among lines n ≤ n + length (filter is_remark lines)
unfolding line_among
among_few [] n = omega arith
among_few (line ∷ lines) zero = omega arith
among_few (line ∷ lines) (suc n) =
    let few = remarks_more (is_remark line) n (line_among lines (suc n)) (line_among lines n) (length (filter is_remark lines)) (among_few lines (suc n)) (among_few lines n) in
    subst (λ (m : ℕ). cond {A = ℕ} (is_remark line) (1 + line_among lines (suc n)) (1 + line_among lines n) ≤ suc n + m) (sym (found_many (is_remark line) line (filter is_remark lines))) few

remark_some : (line : List ℕ) → is_remark line ≡ true → 0 < length line
remark_some [] e = absurd cc
remark_some (b ∷ bs) e = omega arith

abbrev kept : List (List ℕ) → List (List ℕ)
kept lines = filter (λ (l : List ℕ). not (is_remark l)) lines

parts_room : (v : Bool) (line : List ℕ) (kept found : List (List ℕ)) (n : ℕ) → (v ≡ true → 0 < length line) → length (joined kept) + length found ≤ n → length (joined (cond (not v) (line ∷ kept) kept)) + length (cond v (line ∷ found) found) ≤ length line + n
parts_room true line kept found n some le = let one = some refl in omega (arith, le, one)
parts_room false line kept found n some le = let both = length-append line (joined kept) in omega (arith, le, both)

lines_room : (lines : List (List ℕ)) → length (joined (kept lines)) + length (filter is_remark lines) ≤ length (joined lines)
lines_room [] = omega arith
lines_room (line ∷ lines) =
    let one = parts_room (is_remark line) line (kept lines) (filter is_remark lines) (length (joined lines)) (remark_some line) (lines_room lines) in
    let all = length-append line (joined lines) in
    omega (arith, one, all)

pub without_within : (text : List ℕ) → length (without_remarks text) ≤ length text
unfolding without_remarks
without_within text =
    let room = lines_room (lines_in text) in
    let all : length (joined (lines_in text)) ≡ length text = ap length (lines_joined text) in
    omega (arith, room, all)

-- what is left out of a text has a byte for each remark
pub among_within : (text : List ℕ) (n : ℕ) → n ≤ length (without_remarks text) + 1 → line_among (lines_in text) n ≤ length text + 1
unfolding without_remarks
among_within text n within =
    let few = among_few (lines_in text) n in
    let room = lines_room (lines_in text) in
    let all : length (joined (lines_in text)) ≡ length text = ap length (lines_joined text) in
    omega (arith, few, room, all, within)

-- all the lines are counted if none is a remark
pub among_plain : (lines : List (List ℕ)) (n : ℕ) → list_any is_remark lines ≡ false → line_among lines n ≡ n
unfolding line_among
among_plain [] n none = refl
among_plain (line ∷ lines) zero none = refl
among_plain (line ∷ lines) (suc n) none =
    let e = first (is_remark line) (list_any is_remark lines) none in
    among_other (is_remark line) (1 + line_among lines (suc n)) (1 + line_among lines n) e.0
    ∙ ap (λ (m : ℕ). 1 + m) (among_plain lines n e.1)
    ∙ omega arith
  where
    first : (v w : Bool) → (v || w) ≡ false → (v ≡ false) × (w ≡ false)
    first true w e = absurd cc
    first false w e = (refl, e)
