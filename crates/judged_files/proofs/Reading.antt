-- A file is gone through line by line.
use Rattle.std.proofs.Common.{◌≡◌, ℕ, suc, ◌+◌, ◌-◌, ◌<◌, ◌≤◌, inl, inr, sym, Bool, true, false, List, [], ◌∷◌, ◌++◌, length, refl, ap, ◌∙◌, length-append, arith}
use Rattle.std.specs.Prelude.{◌&&◌, ◌||◌, nat_lt, if◌then◌else◌}
use Rattle.std.proofs.lemmas.Bool.{cases_Bool, ltb-true, ltb-false, lt-ltb, le-ltb}
use Rattle.std.specs.List.{filter, flat_map, list_any}
use Rattle.std.proofs.lemmas.List.{append-nil}
use Rattle.journal.specs.Recovery.{has_line_end}
use Rattle.segment_files.specs.Remarks.{lines_in}
use Rattle.judged_files.specs.Lines.{is_done, is_named, is_block, whole_lines, has_named, block_count}
use Rattle.judged_files.specs.Beginnings.{begun_lines, beginning}

none_left : (bytes : List ℕ) → length bytes ≡ 0 → bytes ≡ []
none_left [] e = refl
none_left (b ∷ bs) e = absurd (omega (arith, e))

no_lines : lines_in [] ≡ []
unfolding lines_in
no_lines = refl

pub lines_of_none : (rest : List ℕ) → length rest ≡ 0 → lines_in rest ≡ []
lines_of_none rest e = ap lines_in (none_left rest e) ∙ no_lines

-- ---- the beginning

abbrev joined : List (List ℕ) → List ℕ
joined lines = flat_map (λ (line : List ℕ). line) lines

begun_last : (v : Bool) (line : List ℕ) (lines : List (List ℕ)) → v ≡ true → joined (if v then line ∷ [] else line ∷ lines) ≡ line
begun_last true line lines e = append-nil line
begun_last false line lines e = absurd cc

begun_with : (v : Bool) (line : List ℕ) (lines : List (List ℕ)) → v ≡ false → joined (if v then line ∷ [] else line ∷ lines) ≡ line ++ joined lines
begun_with true line lines e = absurd cc
begun_with false line lines e = refl

pub begun_none : (rest : List ℕ) → length rest ≡ 0 → beginning rest ≡ []
unfolding beginning
begun_none rest e = ap (λ (ls : List (List ℕ)). joined (begun_lines ls)) (lines_of_none rest e)

-- ---- whole lines

kept_line : (v : Bool) (line : List ℕ) (lines : List (List ℕ)) → v ≡ true → (if v then line ∷ lines else lines) ≡ line ∷ lines
kept_line true line lines e = refl
kept_line false line lines e = absurd cc

left_line : (v : Bool) (line : List ℕ) (lines : List (List ℕ)) → v ≡ false → (if v then line ∷ lines else lines) ≡ lines
left_line true line lines e = absurd cc
left_line false line lines e = refl

pub whole_none : (rest : List ℕ) → length rest ≡ 0 → whole_lines rest ≡ []
whole_none rest e = ap (filter has_line_end) (lines_of_none rest e)

any_here : (v w : Bool) → v ≡ true → (v || w) ≡ true
any_here true w e = refl
any_here false w e = absurd cc

any_on : (v w : Bool) → v ≡ false → (v || w) ≡ w
any_on true w e = absurd cc
any_on false w e = refl

-- whether the line is whole, and such a one
whole_such : (v : Bool) (line : List ℕ) (lines : List (List ℕ)) → (v && is_named line) ≡ true → list_any is_named (if v then line ∷ lines else lines) ≡ true
whole_such true line lines e = any_here (is_named line) (list_any is_named lines) e
whole_such false line lines e = absurd cc

whole_other : (v : Bool) (line : List ℕ) (lines : List (List ℕ)) → (v && is_named line) ≡ false → list_any is_named (if v then line ∷ lines else lines) ≡ list_any is_named lines
whole_other true line lines e = any_on (is_named line) (list_any is_named lines) e
whole_other false line lines e = refl

-- whether the line is whole, and begins a block
count_such : (w : Bool) (line : List ℕ) (lines : List (List ℕ)) → w ≡ true → length (if w then line ∷ filter is_block lines else filter is_block lines) ≡ suc (length (filter is_block lines))
count_such true line lines e = refl
count_such false line lines e = absurd cc

count_other : (w : Bool) (line : List ℕ) (lines : List (List ℕ)) → w ≡ false → length (if w then line ∷ filter is_block lines else filter is_block lines) ≡ length (filter is_block lines)
count_other true line lines e = absurd cc
count_other false line lines e = refl

block_such : (v : Bool) (line : List ℕ) (lines : List (List ℕ)) → (v && is_block line) ≡ true → length (filter is_block (if v then line ∷ lines else lines)) ≡ suc (length (filter is_block lines))
block_such true line lines e = count_such (is_block line) line lines e
block_such false line lines e = absurd cc

block_other : (v : Bool) (line : List ℕ) (lines : List (List ℕ)) → (v && is_block line) ≡ false → length (filter is_block (if v then line ∷ lines else lines)) ≡ length (filter is_block lines)
block_other true line lines e = count_other (is_block line) line lines e
block_other false line lines e = refl

module _ (rest line after : List ℕ) (is : lines_in rest ≡ line ∷ lines_in after) where
  pub begun_done : is_done line ≡ true → beginning rest ≡ line
  unfolding beginning
  begun_done e = ap (λ (ls : List (List ℕ)). joined (begun_lines ls)) is ∙ begun_last (is_done line) line (begun_lines (lines_in after)) e

  pub begun_more : is_done line ≡ false → beginning rest ≡ line ++ beginning after
  unfolding beginning
  begun_more e = ap (λ (ls : List (List ℕ)). joined (begun_lines ls)) is ∙ begun_with (is_done line) line (begun_lines (lines_in after)) e

  pub whole_first : has_line_end line ≡ true → whole_lines rest ≡ line ∷ whole_lines after
  whole_first e = ap (filter has_line_end) is ∙ kept_line (has_line_end line) line (whole_lines after) e

  pub whole_left : has_line_end line ≡ false → whole_lines rest ≡ whole_lines after
  whole_left e = ap (filter has_line_end) is ∙ left_line (has_line_end line) line (whole_lines after) e

  pub named_here : (has_line_end line && is_named line) ≡ true → has_named rest ≡ true
  named_here e = ap (λ (ls : List (List ℕ)). list_any is_named (filter has_line_end ls)) is ∙ whole_such (has_line_end line) line (whole_lines after) e

  pub named_on : (has_line_end line && is_named line) ≡ false → has_named rest ≡ has_named after
  named_on e = ap (λ (ls : List (List ℕ)). list_any is_named (filter has_line_end ls)) is ∙ whole_other (has_line_end line) line (whole_lines after) e

  pub block_here : (has_line_end line && is_block line) ≡ true → block_count rest ≡ suc (block_count after)
  block_here e = ap (λ (ls : List (List ℕ)). length (filter is_block (filter has_line_end ls))) is ∙ block_such (has_line_end line) line (whole_lines after) e

  pub block_on : (has_line_end line && is_block line) ≡ false → block_count rest ≡ block_count after
  block_on e = ap (λ (ls : List (List ℕ)). length (filter is_block (filter has_line_end ls))) is ∙ block_other (has_line_end line) line (whole_lines after) e

pub named_none : (rest : List ℕ) → length rest ≡ 0 → has_named rest ≡ false
named_none rest e = ap (list_any is_named) (whole_none rest e)

pub blocks_none : (rest : List ℕ) → length rest ≡ 0 → block_count rest ≡ 0
blocks_none rest e = ap (λ (ls : List (List ℕ)). length (filter is_block ls)) (whole_none rest e)

-- as many more than one less
pub less_more : (left n : ℕ) → 0 < left → nat_lt left (suc n) ≡ nat_lt (left - 1) n
less_more left n some = elim (cases_Bool (nat_lt (left - 1) n)) [
  | inl p ↦ let lt : left - 1 < n = ltb-true (left - 1) n p in lt-ltb left (suc n) (omega (arith, lt, some)) ∙ sym p
  | inr p ↦ let le : n ≤ left - 1 = ltb-false (left - 1) n p in le-ltb left (suc n) (omega (arith, le, some)) ∙ sym p
]

-- what is left is shorter
pub shorter : (rest line after : List ℕ) → rest ≡ line ++ after → 0 < length line → length after < length rest
shorter rest line after e some = let n : length rest ≡ length line + length after = ap (λ (u : List ℕ). length u) e ∙ length-append line after in omega (arith, n, some)
