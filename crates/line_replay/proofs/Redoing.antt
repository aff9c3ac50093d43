-- Lines that are done again.
use Rattle.std.proofs.Common.{◌≡◌, ◌≢◌, ℕ, suc, ◌+◌, true, List, [], ◌∷◌, ◌++◌, refl, sym, ap, subst, ◌∙◌, append_assoc, arith, inl, inr}
use Rattle.std.proofs.lemmas.List.{append-nil}
use Rattle.noted_lines.specs.Notes.{note_text}
use Rattle.line_replay.specs.Machines.{Machine, after, trace_of, trace}
use Rattle.line_replay.specs.Following.{BeginsWithNote, BeginApart}
use Rattle.line_replay.specs.Redone.{AreRedone}
use Rattle.line_replay.proofs.Starting.{head_is, none_is_some}

pub same_counts : (n k : ℕ) → suc n + k ≡ n + suc k
same_counts n k = omega arith

-- what is missing is not there
pub not_there : (missing torn more : List ℕ) → BeginApart missing torn → missing ≢ [] → torn ≡ missing ++ more → ⊥
not_there [] torn more apart some e = some refl
not_there (a ∷ rest) [] more apart some e = none_is_some a (rest ++ more) e
not_there (a ∷ rest) (b ∷ torn) more apart some e = apart (sym (head_is b a torn (rest ++ more) e))

module _ (M : Machine) where
  -- ---- what was done, line by line, one after the other
  pub after_more : (s : M.State) (done : List (List ℕ)) (line : List ℕ) → after M s (done ++ line ∷ []) ≡ M.does (after M s done) line
  after_more s [] line = refl
  after_more s (d ∷ done) line = after_more (M.does s d) done line

  -- a line more, with all of its notes
  pub one_more : (n : ℕ) (s : M.State) (bytes line rest more : List ℕ) (lines : List (List ℕ)) (missing torn : List ℕ)
      → BeginsWithNote (suc n) line rest bytes → M.changes s line ≡ true → rest ≡ M.notes s line ++ more
      → AreRedone M (suc n) (M.does s line) more lines missing torn → AreRedone M n s bytes (line ∷ lines) missing torn
  one_more n s bytes line rest more lines missing torn note changed all then = (rest, note, changed, inl (more, all, then))

  -- the last one, with a part of its notes
  pub last_one : (n : ℕ) (s : M.State) (bytes line rest part missing torn : List ℕ)
      → BeginsWithNote (suc n) line rest bytes → M.changes s line ≡ true → missing ≢ [] → rest ≡ part ++ torn → M.notes s line ≡ part ++ missing
      → AreRedone M n s bytes (line ∷ []) missing torn
  last_one n s bytes line rest part missing torn note changed some here all = (rest, note, changed, inr (refl, some, part, here, all))

  -- ---- the text of what was done

  trace_one : (n : ℕ) (s : M.State) (line : List ℕ) (lines : List (List ℕ)) → M.changes s line ≡ true → trace M n s (line ∷ lines) ≡ trace_of M n s line ++ trace M (suc n) (M.does s line) lines
  trace_one n s line lines e = rw e refl

  -- what is kept and what is missing are what the lines leave; and with a part of what is missing, the lines are done again
  pub record Keeps (n : ℕ) (s : M.State) (bytes : List ℕ) (lines : List (List ℕ)) (missing torn : List ℕ) : Type 0 where
    pub kept : List ℕ
    pub split : bytes ≡ kept ++ torn
    pub text : kept ++ missing ≡ trace M n s lines
    pub mended : (part rest : List ℕ) → missing ≡ part ++ rest → AreRedone M n s (kept ++ part) lines rest []

  noted : (n : ℕ) (line rest more bytes torn : List ℕ) → bytes ≡ note_text n line ++ rest → rest ≡ more ++ torn → bytes ≡ (note_text n line ++ more) ++ torn
  noted n line rest more bytes torn e f = e ∙ ap (λ (x : List ℕ). note_text n line ++ x) f ∙ sym (append_assoc (note_text n line) more torn)

  pub keeps : (lines : List (List ℕ)) (n : ℕ) (s : M.State) (bytes missing torn : List ℕ) → AreRedone M n s bytes lines missing torn → Keeps n s bytes lines missing torn
  keeps [] n s bytes missing torn r = record {
    kept = [];
    split = r.1;
    text = r.0;
    mended = λ part rest e. nothing part rest (sym r.0 ∙ e);
  }
    where
      nothing : (part rest : List ℕ) → ◌≡◌ {A = List ℕ} [] (part ++ rest) → (rest ≡ []) × (part ≡ [])
      nothing [] rest e = (sym e, refl)
      nothing (a ∷ part) rest e = absurd (none_is_some a (part ++ rest) e)
  keeps (line ∷ lines) n s bytes missing torn (rest, note, changed, inl (more, all, then)) =
      let k = keeps lines (suc n) (M.does s line) more missing torn then in
      let text : List ℕ = note_text (suc n) line ++ M.notes s line in
      record {
        kept = text ++ k.kept;
        split = note.is ∙ ap (λ (x : List ℕ). note_text (suc n) line ++ x) (all ∙ ap (λ (x : List ℕ). M.notes s line ++ x) k.split)
            ∙ sym (append_assoc (note_text (suc n) line) (M.notes s line) (k.kept ++ torn)) ∙ sym (append_assoc text k.kept torn);
        text = append_assoc text k.kept missing ∙ ap (λ (x : List ℕ). text ++ x) k.text ∙ sym (trace_one n s line lines changed);
        mended = λ part others e.
            one_more n s ((text ++ k.kept) ++ part) line (M.notes s line ++ (k.kept ++ part)) (k.kept ++ part) lines others []
            (record {
              fits = note.fits;
              whole = note.whole;
              is = append_assoc text k.kept part ∙ append_assoc (note_text (suc n) line) (M.notes s line) (k.kept ++ part);
            })
            changed refl (k.mended part others e);
      }
  keeps (line ∷ lines) n s bytes missing torn (rest, note, changed, inr (none, some, part, here, all)) =
      let text : List ℕ = note_text (suc n) line ++ part in
      record {
        kept = text;
        split = noted (suc n) line rest part bytes torn note.is here;
        text = append_assoc (note_text (suc n) line) part missing ∙ ap (λ (x : List ℕ). note_text (suc n) line ++ x) (sym all)
            ∙ sym (append-nil (trace_of M n s line)) ∙ sym (trace_one n s line [] changed) ∙ ap (λ (ls : List (List ℕ)). trace M n s (line ∷ ls)) (sym none);
        mended = λ more others e. mend more others e;
      }
    where
      mend : (more others : List ℕ) → missing ≡ more ++ others → AreRedone M n s ((note_text (suc n) line ++ part) ++ more) (line ∷ lines) others []
      mend more [] e = (
        part ++ more,
        record { fits = note.fits; whole = note.whole; is = append_assoc (note_text (suc n) line) part more },
        changed,
        inl (
          [],
          ap (λ (x : List ℕ). x) (sym (append-nil (part ++ more)) ∙ sym (ap (λ (x : List ℕ). x ++ []) (all ∙ ap (λ (x : List ℕ). part ++ x) (e ∙ append-nil more)))),
          subst (λ (ls : List (List ℕ)). AreRedone M (suc n) (M.does s line) [] ls [] []) (sym none) (refl, refl),
        ),
      )
      mend more (o ∷ others) e = (
        part ++ more,
        record { fits = note.fits; whole = note.whole; is = append_assoc (note_text (suc n) line) part more },
        changed,
        inr (none, (λ q. none_is_some o others (sym q)), part ++ more, sym (append-nil (part ++ more)), all ∙ ap (λ (x : List ℕ). part ++ x) e ∙ sym (append_assoc part more (o ∷ others))),
      )
