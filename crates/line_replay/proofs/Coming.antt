-- The lines that come back at a start.
use Rattle.std.proofs.Common.{◌≡◌, ◌≢◌, ◌⊎◌, ℕ, suc, ◌+◌, ◌<◌, ◌≤◌, ◌^◌, Bool, true, false, cond, List, [], ◌∷◌, ◌++◌, length, refl, sym, ap, subst, ◌∙◌, append_assoc, arith, inl, inr}
use Rattle.std.specs.List.{AllByRecursion}
use Rattle.std.proofs.lemmas.List.{append_cancel_left}
use Rattle.line_service.specs.Answering.{IsLine}
use Rattle.noted_lines.specs.Notes.{note_text}
use Rattle.line_replay.specs.Machines.{Machine, StaysUnchanged, after, counted, trace}
use Rattle.line_replay.specs.Following.{BeginsWithNote, CanFollow, BeginApart}
use Rattle.line_replay.specs.Redone.{AreRedone}
use Rattle.line_replay.specs.Replays.{IsFirstOf}
use Rattle.line_replay.proofs.Starting.{none_is_some, same_note, note_more, no_note, next_follows}
use Rattle.line_replay.proofs.Redoing.{same_counts, not_there}

abbrev pub Lines : Type 0
Lines = List (List ℕ)

module _ (M : Machine) (quiet : StaysUnchanged M) where
  -- These lines and more of the others are those that are done again.
  abbrev Come : ℕ → M.State → Lines → Lines → Lines → Type 0
  Come n s told others lines =
      (more : Lines) × (later : Lines) × (others ≡ more ++ later) × (after M s (told ++ more) ≡ after M s lines) × (counted M n s (told ++ more) ≡ n + length lines) × (trace M n s (told ++ more) ≡ trace M n s lines)

  -- ---- a line that changes nothing

  pub counts_quiet : (n : ℕ) (s : M.State) (line : List ℕ) (lines : Lines) → M.changes s line ≡ false → counted M n s (line ∷ lines) ≡ counted M n s lines
  counts_quiet n s line lines e = rw e (ap (λ (t : M.State). counted M n t lines) (quiet s line e))

  pub trace_quiet : (n : ℕ) (s : M.State) (line : List ℕ) (lines : Lines) → M.changes s line ≡ false → trace M n s (line ∷ lines) ≡ trace M n s lines
  trace_quiet n s line lines e = rw e (ap (λ (t : M.State). trace M n t lines) (quiet s line e))

  after_quiet : (s : M.State) (line : List ℕ) (lines : Lines) → M.changes s line ≡ false → after M s (line ∷ lines) ≡ after M s lines
  after_quiet s line lines e = ap (λ (t : M.State). after M t lines) (quiet s line e)

  -- ---- a line that changes something

  pub counts_one : (n : ℕ) (s : M.State) (line : List ℕ) (lines : Lines) → M.changes s line ≡ true → counted M n s (line ∷ lines) ≡ counted M (suc n) (M.does s line) lines
  counts_one n s line lines e = rw e refl

  pub trace_one : (n : ℕ) (s : M.State) (line : List ℕ) (lines : Lines) → M.changes s line ≡ true → trace M n s (line ∷ lines) ≡ note_text (suc n) line ++ (M.notes s line ++ trace M (suc n) (M.does s line) lines)
  trace_one n s line lines e = rw e (append_assoc (note_text (suc n) line) (M.notes s line) (trace M (suc n) (M.does s line) lines))

  counts_next : (b : Bool) (lines : Lines) (n : ℕ) (s : M.State) → ((k : ℕ) → k ≤ counted M k s lines) → n ≤ counted M (cond b (suc n) n) s lines
  counts_next true lines n s ih = let le = ih (suc n) in omega (arith, le)
  counts_next false lines n s ih = ih n

  counts_up : (lines : Lines) (n : ℕ) (s : M.State) → n ≤ counted M n s lines
  counts_up [] n s = omega arith
  counts_up (line ∷ lines) n s = counts_next (M.changes s line) lines n (M.does s line) (λ k. counts_up lines k (M.does s line))

  pub small : (n : ℕ) (s : M.State) (line : List ℕ) (lines : Lines) → M.changes s line ≡ true → counted M n s (line ∷ lines) < 2 ^ 64 → suc n < 2 ^ 64
  small n s line lines e lt =
      let le = counts_up lines (suc n) (M.does s line) in
      let lt2 : counted M (suc n) (M.does s line) lines < 2 ^ 64 = subst (λ (k : ℕ). k < 2 ^ 64) (counts_one n s line lines e) lt in
      omega (arith, le, lt2)

  -- a note of a line of a list, before what comes after it
  note_at : (n : ℕ) (s : M.State) (line : List ℕ) (lines : Lines) (rest : List ℕ) → IsLine line → M.changes s line ≡ true → counted M n s (line ∷ lines) < 2 ^ 64
      → BeginsWithNote (suc n) line rest (note_text (suc n) line ++ rest)
  note_at n s line lines rest whole e lt = record { fits = small n s line lines e lt; whole = whole; is = refl }

  -- ---- of what lines leave, cut anywhere

  come_one : (n : ℕ) (s : M.State) (line : List ℕ) (others lines : Lines) → M.changes s line ≡ true → Come (suc n) (M.does s line) [] others lines → Come n s [] (line ∷ others) (line ∷ lines)
  come_one n s line others lines e c = (
    line ∷ c.0,
    c.1,
    ap (λ (ls : Lines). line ∷ ls) c.2,
    c.3,
    counts_one n s line c.0 e ∙ (c.4 ∙ same_counts n (length lines)),
    trace_one n s line c.0 e ∙ (ap (λ (x : List ℕ). note_text (suc n) line ++ (M.notes s line ++ x)) c.5 ∙ sym (trace_one n s line lines e)),
  )

  come_quiet : (n : ℕ) (s : M.State) (line : List ℕ) (others lines : Lines) → M.changes s line ≡ false → Come n s [] others lines → Come n s [] (line ∷ others) lines
  come_quiet n s line others lines e c =
      (line ∷ c.0, c.1, ap (λ (ls : Lines). line ∷ ls) c.2, after_quiet s line c.0 e ∙ c.3, counts_quiet n s line c.0 e ∙ c.4, trace_quiet n s line c.0 e ∙ c.5)

  abbrev Comes : Lines → Lines → Type 0
  Comes others lines =
      (n : ℕ) (s : M.State) (bytes missing torn : List ℕ) → AllByRecursion IsLine others → counted M n s others < 2 ^ 64
      → IsFirstOf bytes (trace M n s others) → AreRedone M n s bytes lines missing torn → Come n s [] others lines

  come_step : (o : List ℕ) (others : Lines) → ((ls : Lines) → Comes others ls) → (line : List ℕ) (lines : Lines) → Comes (o ∷ others) (line ∷ lines)
  come_step o others ih line lines n s bytes missing torn each lt f (rest, note, changed, how) = go (M.changes s o) refl
    where
      here : M.changes s o ≡ true → (o ≡ line) × (rest ++ f.0 ≡ M.notes s o ++ trace M (suc n) (M.does s o) others)
      here e =
          let all : bytes ++ f.0 ≡ note_text (suc n) o ++ (M.notes s o ++ trace M (suc n) (M.does s o) others) = sym f.1 ∙ trace_one n s o others e in
          let there = note_at n s o others (M.notes s o ++ trace M (suc n) (M.does s o) others) each.0 e lt in
          let same = same_note (suc n) (suc n) o line (M.notes s o ++ trace M (suc n) (M.does s o) others) (rest ++ f.0) (bytes ++ f.0)
          (subst (λ (x : List ℕ). BeginsWithNote (suc n) o (M.notes s o ++ trace M (suc n) (M.does s o) others) x) (sym all) there)
          (note_more (suc n) line rest bytes f.0 note) in
          (same.1, sym same.2)

      by : (how : ((more : List ℕ) × (rest ≡ M.notes s line ++ more) × AreRedone M (suc n) (M.does s line) more lines missing torn)
          ⊎ ((lines ≡ []) × (missing ≢ []) × (part : List ℕ) × (rest ≡ part ++ torn) × (M.notes s line ≡ part ++ missing))) → M.changes s o ≡ true → o ≡ line → rest ++ f.0 ≡ M.notes s o ++ trace M (suc n) (M.does s o) others → Come n s [] (o ∷ others) (line ∷ lines)
      by (inl (more, all, then)) e same tail =
          let behind : more ++ f.0 ≡ trace M (suc n) (M.does s o) others =
          append_cancel_left (M.notes s o) (more ++ f.0) (trace M (suc n) (M.does s o) others)
          (sym (append_assoc (M.notes s o) more f.0) ∙ ap (λ (x : List ℕ). (M.notes s x ++ more) ++ f.0) same ∙ ap (λ (x : List ℕ). x ++ f.0) (sym all) ∙ tail) in
          let again : AreRedone M (suc n) (M.does s o) more lines missing torn = subst (λ (x : List ℕ). AreRedone M (suc n) (M.does s x) more lines missing torn) (sym same) then in
          let lt2 : counted M (suc n) (M.does s o) others < 2 ^ 64 = subst (λ (k : ℕ). k < 2 ^ 64) (counts_one n s o others e) lt in
          subst (λ (x : List ℕ). Come n s [] (o ∷ others) (x ∷ lines)) same
          (come_one n s o others lines e (ih lines (suc n) (M.does s o) more missing torn each.1 lt2 (f.0, sym behind) again))
      by (inr (none, some, part, part_is, all)) e same tail =
          subst (λ (ls : Lines). Come n s [] (o ∷ others) (line ∷ ls)) (sym none)
          (subst (λ (x : List ℕ). Come n s [] (o ∷ others) (x ∷ [])) same
          (come_one n s o others [] e ([], others, refl, refl, plus (suc n), refl)))
        where
          plus : (k : ℕ) → k ≡ k + 0
          plus k = omega arith

      go : (b : Bool) → M.changes s o ≡ b → Come n s [] (o ∷ others) (line ∷ lines)
      go true e = let h = here e in by how e h.0 h.1
      go false e =
          come_quiet n s o others (line ∷ lines) e
          (ih (line ∷ lines) n s bytes missing torn each.1 (subst (λ (k : ℕ). k < 2 ^ 64) (counts_quiet n s o others e) lt)
          (f.0, sym (trace_quiet n s o others e) ∙ f.1) (rest, note, changed, how))

  pub come : (others lines : Lines) → Comes others lines
  come others [] n s bytes missing torn each lt f r = ([], others, refl, refl, sym (plus n), refl)
    where
      plus : (n : ℕ) → n + 0 ≡ n
      plus n = omega arith
  come [] (line ∷ lines) n s [] missing torn each lt f (rest, note, changed, how) = absurd (no_note (suc n) line rest note)
  come [] (line ∷ lines) n s (b ∷ bytes) missing torn each lt f r = absurd (none_is_some b (bytes ++ f.0) f.1)
  come (o ∷ others) (line ∷ lines) n s bytes missing torn each lt f r =
      come_step o others (λ ls m t bs mi to ea lo fi re. come others ls m t bs mi to ea lo fi re) line lines n s bytes missing torn each lt f r

  -- ---- of which all that the reported lines leave is there

  told_one : (n : ℕ) (s : M.State) (line : List ℕ) (told others lines : Lines) → M.changes s line ≡ true → Come (suc n) (M.does s line) told others lines → Come n s (line ∷ told) others (line ∷ lines)
  told_one n s line told others lines e c = (
    c.0,
    c.1,
    c.2,
    c.3,
    counts_one n s line (told ++ c.0) e ∙ (c.4 ∙ same_counts n (length lines)),
    trace_one n s line (told ++ c.0) e ∙ (ap (λ (x : List ℕ). note_text (suc n) line ++ (M.notes s line ++ x)) c.5 ∙ sym (trace_one n s line lines e)),
  )

  told_quiet : (n : ℕ) (s : M.State) (line : List ℕ) (told others lines : Lines) → M.changes s line ≡ false → Come n s told others lines → Come n s (line ∷ told) others lines
  told_quiet n s line told others lines e c =
      (c.0, c.1, c.2, after_quiet s line (told ++ c.0) e ∙ c.3, counts_quiet n s line (told ++ c.0) e ∙ c.4, trace_quiet n s line (told ++ c.0) e ∙ c.5)

  abbrev NoneLeft : ℕ → Lines → List ℕ → Type 0
  NoneLeft n lines torn = ¬ CanFollow (n + length lines) torn

  fewer_left : (n : ℕ) (line : List ℕ) (lines : Lines) (torn : List ℕ) → NoneLeft n (line ∷ lines) torn → NoneLeft (suc n) lines torn
  fewer_left n line lines torn none = subst (λ (k : ℕ). ¬ CanFollow k torn) (sym (same_counts n (length lines))) none

  abbrev ToldComes : Lines → Lines → Lines → Type 0
  ToldComes told others lines =
      (n : ℕ) (s : M.State) (bytes missing torn : List ℕ) → AllByRecursion IsLine (told ++ others) → counted M n s (told ++ others) < 2 ^ 64
      → IsFirstOf (trace M n s told) bytes → IsFirstOf bytes (trace M n s (told ++ others)) → AreRedone M n s bytes lines missing torn
      → BeginApart missing torn → NoneLeft n lines torn → Come n s told others lines

  told_step : (o : List ℕ) (told others : Lines) → ((ls : Lines) → ToldComes told others ls) → (lines : Lines) → ToldComes (o ∷ told) others lines
  told_step o told others ih lines n s bytes missing torn each lt p f r apart none = go (M.changes s o) refl lines r none
    where
      all : List ℕ
      all = trace M (suc n) (M.does s o) told

      there : M.changes s o ≡ true → BeginsWithNote (suc n) o (M.notes s o ++ (all ++ p.0)) bytes
      there e =
          record {
            fits = small n s o (told ++ others) e lt;
            whole = each.0;
            is = p.1 ∙ ap (λ (x : List ℕ). x ++ p.0) (trace_one n s o told e) ∙ append_assoc (note_text (suc n) o) (M.notes s o ++ all) p.0
                ∙ ap (λ (x : List ℕ). note_text (suc n) o ++ x) (append_assoc (M.notes s o) all p.0);
          }

      next : (e : M.changes s o ≡ true) → (line : List ℕ) (more : List ℕ) (lines : Lines) → o ≡ line → more ≡ all ++ p.0 → AreRedone M (suc n) (M.does s line) more lines missing torn → NoneLeft n (line ∷ lines) torn → Come n s (o ∷ told) others (line ∷ lines)
      next e line more lines same is then none =
          let again : AreRedone M (suc n) (M.does s o) more lines missing torn = subst (λ (x : List ℕ). AreRedone M (suc n) (M.does s x) more lines missing torn) (sym same) then in
          let lt2 : counted M (suc n) (M.does s o) (told ++ others) < 2 ^ 64 = subst (λ (k : ℕ). k < 2 ^ 64) (counts_one n s o (told ++ others) e) lt in
          let behind : trace M (suc n) (M.does s o) (told ++ others) ≡ more ++ f.0 =
          append_cancel_left (M.notes s o) (trace M (suc n) (M.does s o) (told ++ others)) (more ++ f.0)
          (append_cancel_left (note_text (suc n) o) (M.notes s o ++ trace M (suc n) (M.does s o) (told ++ others)) (M.notes s o ++ (more ++ f.0))
          (sym (trace_one n s o (told ++ others) e) ∙ f.1 ∙ ap (λ (x : List ℕ). x ++ f.0) ((there e).is ∙ ap (λ (x : List ℕ). note_text (suc n) o ++ (M.notes s o ++ x)) (sym is))
          ∙ append_assoc (note_text (suc n) o) (M.notes s o ++ more) f.0 ∙ ap (λ (x : List ℕ). note_text (suc n) o ++ x) (append_assoc (M.notes s o) more f.0))) in
          subst (λ (x : List ℕ). Come n s (o ∷ told) others (x ∷ lines)) same
          (told_one n s o told others lines e
          (ih lines (suc n) (M.does s o) more missing torn each.1 lt2 (p.0, is) (f.0, behind) again apart (fewer_left n line lines torn none)))

      by : M.changes s o ≡ true → (lines : Lines) → AreRedone M n s bytes lines missing torn → NoneLeft n lines torn → Come n s (o ∷ told) others lines
      by e [] (nothing, is) none =
          absurd (none (subst (λ (k : ℕ). CanFollow k torn) (plus n) (next_follows n o (M.notes s o ++ (all ++ p.0)) torn (subst (λ (x : List ℕ). BeginsWithNote (suc n) o (M.notes s o ++ (all ++ p.0)) x) is (there e)))))
        where
          plus : (k : ℕ) → k ≡ k + 0
          plus k = omega arith
      by e (line ∷ lines) (rest, note, changed, inl (more, whole, then)) none =
          let same = same_note (suc n) (suc n) o line (M.notes s o ++ (all ++ p.0)) rest bytes (there e) note in
          let is : more ≡ all ++ p.0 = append_cancel_left (M.notes s o) more (all ++ p.0) (ap (λ (x : List ℕ). M.notes s x ++ more) same.1 ∙ sym whole ∙ sym same.2) in
          next e line more lines same.1 is then none
      by e (line ∷ lines) (rest, note, changed, inr (nothing, some, part, part_is, whole)) none =
          let same = same_note (suc n) (suc n) o line (M.notes s o ++ (all ++ p.0)) rest bytes (there e) note in
          let behind : torn ≡ missing ++ (all ++ p.0) =
          append_cancel_left part torn (missing ++ (all ++ p.0))
          (sym part_is ∙ sym same.2 ∙ ap (λ (x : List ℕ). M.notes s x ++ (all ++ p.0)) same.1 ∙ ap (λ (x : List ℕ). x ++ (all ++ p.0)) whole ∙ append_assoc part missing (all ++ p.0)) in
          absurd (not_there missing torn (all ++ p.0) apart some behind)

      go : (b : Bool) → M.changes s o ≡ b → (lines : Lines) → AreRedone M n s bytes lines missing torn → NoneLeft n lines torn → Come n s (o ∷ told) others lines
      go true e lines r none = by e lines r none
      go false e lines r none =
          told_quiet n s o told others lines e
          (ih lines n s bytes missing torn each.1 (subst (λ (k : ℕ). k < 2 ^ 64) (counts_quiet n s o (told ++ others) e) lt)
          (p.0, p.1 ∙ ap (λ (x : List ℕ). x ++ p.0) (trace_quiet n s o told e)) (f.0, sym (trace_quiet n s o (told ++ others) e) ∙ f.1) r apart none)

  pub told_come : (told others lines : Lines) → ToldComes told others lines
  told_come [] others lines n s bytes missing torn each lt p f r apart none = come others lines n s bytes missing torn each lt f r
  told_come (o ∷ told) others lines n s bytes missing torn each lt p f r apart none =
      told_step o told others (λ ls m t bs mi to ea lo pa fi re ap ne. told_come told others ls m t bs mi to ea lo pa fi re ap ne) lines n s bytes missing torn each lt p f r apart none
