-- What is left of a replica's segment without its remarks.
use Rattle.std.proofs.Common.{◌≡◌, ℕ, Bool, true, false, List, [], ◌∷◌, ◌++◌, refl, sym, ◌∙◌, ap, subst, inl, inr, append_assoc, cond, eqb, append-nil, ◌⊎◌}
use Rattle.std.specs.Prelude.{not, ◌||◌, codes}
use Rattle.std.specs.List.{list_any, flat_map, AllByRecursion, filter}
use Rattle.std.proofs.lemmas.Bool.{ne_eqb}
use Rattle.std.proofs.lemmas.List.Folds.{list_any-append}
use Rattle.text_lines.specs.Spelling.{ended}
use Rattle.line_service.specs.Answering.{IsLine}
use Rattle.saved_history.specs.Content.{Content}
use Rattle.saved_history.specs.Spelling.{text, block_text, done_line}
use Rattle.journal.specs.declared.calls.JournalLine.{JournalLine}
use Rattle.journal.specs.Spelling.{journal_line, journal_head, JournalLineFits}
use Rattle.journal.specs.Recovery.{has_line_end}
use Rattle.segment_files.specs.RemarkLaws.{AreLines, IsOneLine}
use Rattle.segment_files.specs.Remarks.{without_remarks, lines_in, is_remark, remark_of, IsEnded}
use Rattle.segment_files.proofs.Remarked.{HasNoHash, last_line, plain_then, remarks_then, remark_ended}
use Rattle.segment_files.proofs.Hashless.{no_hash_append, no_hash_call}
use Rattle.line_replica.specs.Keys.{first_line}
use Rattle.line_replica.specs.Reading.{heard, Heard}
use Rattle.line_replica.specs.State.{remarks_of, did_text}
use Rattle.lock_journal.proofs.Heard.{IsReadSo, read_so}
use Rattle.lock_journal.proofs.WholeTexts.{of_both, ends_after, number_ends}
use Rattle.saved_history.specs.Spelling as saved

-- ---- the replica's own lines are lines

pub first_is_line : (first : List ℕ) → (first ≡ []) ⊎ IsLine first → IsLine (did_text first)
first_is_line [] f = refl
first_is_line (b ∷ bs) (inl e) = absurd cc
first_is_line (b ∷ bs) (inr f) = f

pub if_to_asker : (told : Bool) (first : List ℕ) → (first ≡ []) ⊎ IsLine first → (cond told first [] ≡ []) ⊎ IsLine (cond told first [])
if_to_asker true first e = e
if_to_asker false first e = inl refl

pub read_as : (line : List ℕ) (h : Heard) → heard line ≡ h → IsReadSo line h
read_as line h e = subst (λ (x : Heard). IsReadSo line x) e (read_so line)

-- a line ends once
one_more : (b : ℕ) (line : List ℕ) → eqb b 10 ≡ false → IsOneLine line → IsOneLine (b ∷ line)
one_more b line e l = (b ∷ l.0, ap (λ (u : List ℕ). b ∷ u) l.1, both (eqb b 10) (has_line_end l.0) e l.2)
  where
    both : (x y : Bool) → x ≡ false → y ≡ false → (x || y) ≡ false
    both true y p q = absurd cc
    both false y p q = q

pub ends_once : (line : List ℕ) → IsLine line → IsOneLine line
ends_once [] is = absurd is
ends_once (b ∷ []) is = ([], ap (λ (x : ℕ). x ∷ []) is, refl)
ends_once (b ∷ c ∷ bs) is = one_more b (c ∷ bs) (ne_eqb b 10 is.0) (ends_once (c ∷ bs) is.1)

pub all_end_once : (lines : List (List ℕ)) → AllByRecursion IsLine lines → AllByRecursion IsOneLine lines
all_end_once [] all = tt
all_end_once (line ∷ lines) all = (ends_once line all.0, all_end_once lines all.1)

-- ---- texts without a #, in parts

front_of : (a b : Bool) → (a || b) ≡ false → a ≡ false
front_of true b e = e
front_of false b e = refl

back_of : (a b : Bool) → (a || b) ≡ false → b ≡ false
back_of true b e = absurd cc
back_of false b e = e

pub parts : (xs ys : List ℕ) → HasNoHash (xs ++ ys) → HasNoHash xs × HasNoHash ys
parts xs ys h =
    let e = sym (list_any-append (λ b. eqb b 35) xs ys) ∙ h.none in
    (record { none = front_of (list_any (λ b. eqb b 35) xs) (list_any (λ b. eqb b 35) ys) e }, record { none = back_of (list_any (λ b. eqb b 35) xs) (list_any (λ b. eqb b 35) ys) e })

pub no_hash_calls : (version rings : ℕ) (rs : List JournalLine) → AllByRecursion (JournalLineFits version rings) rs → HasNoHash (flat_map journal_line rs)
no_hash_calls version rings [] fits = record { none = refl }
no_hash_calls version rings (r ∷ rs) fits = no_hash_append (journal_line r) (flat_map journal_line rs) (no_hash_call version rings r fits.0) (no_hash_calls version rings rs fits.1)

-- ---- the notes

-- after the notes of a line of the service inside come remarks, which go
pub one_goes : (notes rest : List ℕ) (own : List (List ℕ)) → AreLines notes → HasNoHash notes → AllByRecursion IsLine own → without_remarks ((notes ++ remarks_of own) ++ rest) ≡ notes ++ without_remarks rest
one_goes notes rest own ends none all =
    ap without_remarks (append_assoc notes (remarks_of own) rest)
    ∙ (plain_then notes (remarks_of own ++ rest) ends none ∙ ap (λ (u : List ℕ). notes ++ u) (remarks_then own rest (all_end_once own all)))

-- remarks are whole lines, and so are the notes of lines, with the remarks among them
pub remark_lines : (own : List (List ℕ)) → AllByRecursion IsLine own → AreLines (remarks_of own)
remark_lines [] all = inl refl
remark_lines (line ∷ own) all = of_both (remark_of line) (remarks_of own) (remark_ended line (ends_once line all.0)) (remark_lines own all.1)

-- ---- what is torn

pub torn_none : (torn : List ℕ) → has_line_end torn ≡ false → has_line_end (without_remarks torn) ≡ false
unfolding without_remarks lines_in
torn_none [] none = refl
torn_none (b ∷ bs) none = ap (λ (ls : List (List ℕ)). has_line_end (flat_map (λ (line : List ℕ). line) (filter (λ (line : List ℕ). not (is_remark line)) ls))) (last_line b bs none) ∙ by (eqb b 35)
  where
    by : (v : Bool) → has_line_end (flat_map (λ (line : List ℕ). line) (cond (not v) ((b ∷ bs) ∷ []) [])) ≡ false
    by true = refl
    by false = ap has_line_end (append-nil (b ∷ bs)) ∙ none

-- ---- the locks come back

pub head_ends : (c : Content) → IsEnded (journal_head c)
head_ends c =
    ends_after (codes "ringjournal 1\n") (text c)
    (ends_after (saved.first_line c.version) _ (ends_after (flat_map block_text c.rings) (done_line c.rings_said) (ends_after (codes "done ") (ended c.rings_said) (number_ends c.rings_said))))
