-- A line is done again, and what it notes is compared with the bytes.
use Rattle.std.proofs.Common.{◌≡◌, ◌≢◌, ℕ, suc, ◌+◌, ◌<◌, ◌≤◌, true, List, [], ◌++◌, length, take, drop, Result, Ok, Err, sym, ap, subst, ◌∙◌, append_assoc, arith}
use Rattle.std.specs.Prelude.{IfOk, IfErr}
use Rattle.std.proofs.lemmas.List.{take-append-drop, take_all, length-drop}
use Rattle.noted_lines.specs.Notes.{note_text}
use Rattle.line_replay.specs.declared.replaying.Replay.{Replay}
use Rattle.line_replay.specs.declared.replaying.ReplayError.{ReplayError}
use Rattle.line_replay.specs.Machines.{Machine}
use Rattle.line_replay.specs.Following.{BeginsWithNote, BeginApart}
use Rattle.line_replay.specs.Redone.{IsReplayed, IsRefused, EndsSo, EndIsRefused}
use Rattle.line_replay.proofs.Going.{Reached, goes_on, ends_amid, refused_amid}

some_left : (k : ℕ) (notes : List ℕ) → k < length notes → drop k notes ≢ []
some_left k notes lt e =
    let none : length (drop k notes) ≡ 0 = ap (λ (x : List ℕ). length x) e in
    let some = length-drop k notes in
    omega (arith, none, some, lt)

-- of a result
pub ok_so : {A E : Type 0} {P Q : A → Type 0} (r : Result A E) → ((x : A) → P x → Q x) → IfOk r P → IfOk r Q
ok_so (Ok x) f p = f x p
ok_so (Err e) f p = p

pub err_so : {A E : Type 0} {P Q : E → Type 0} (r : Result A E) → ((e : E) → P e → Q e) → IfErr r P → IfErr r Q
err_so (Ok x) f p = p
err_so (Err e) f p = f e p

module _ (M : Machine) (n : ℕ) (s : M.State) (bytes : List ℕ) (count : ℕ) (now : M.State) (rest : List ℕ) (h : Reached M n s bytes count now rest) where
  -- what a line notes that is done next, and the bytes after its note
  module _ (line tail notes : List ℕ) (note : BeginsWithNote (suc count) line tail rest) (changed : M.changes now line ≡ true) (text : notes ≡ M.notes now line) (next : M.State) (is : next ≡ M.does now line) where
    -- what comes after the part that is compared
    pub torn_after : (k : ℕ) (torn : List ℕ) → torn ≡ drop k tail → (front : List ℕ) × (bytes ≡ front ++ torn)
    torn_after k torn torn_is =
        let first : List ℕ = note_text (suc count) line in (
          h.front ++ (first ++ take k tail),
          h.split
              ∙ ap (λ (x : List ℕ). h.front ++ x)
              (note.is ∙ ap (λ (x : List ℕ). first ++ x) (sym (take-append-drop k tail) ∙ ap (λ (x : List ℕ). take k tail ++ x) (sym torn_is)) ∙ sym (append_assoc first (take k tail) torn))
              ∙ sym (append_assoc h.front (first ++ take k tail) torn),
        )

    pub all_there : (k : ℕ) (more : List ℕ) → k ≤ length notes → ¬ (k < length notes) → take k notes ≡ take k tail → more ≡ drop k tail → (final : ℕ) → final ≡ suc count → Reached M n s bytes final next more
    all_there k more within over same more_is final plus =
        let whole : take k notes ≡ notes = take_all k notes (omega (arith, over)) in
        let split : tail ≡ M.notes now line ++ more =
        sym (take-append-drop k tail) ∙ ap (λ (x : List ℕ). x ++ drop k tail) (sym same ∙ whole ∙ text) ∙ ap (λ (x : List ℕ). M.notes now line ++ x) (sym more_is) in
        subst (λ (m : ℕ). Reached M n s bytes m next more) (sym plus) (goes_on M n s bytes count now rest h line tail more note changed split next is)

    -- the end of it is missing
    module _ (k : ℕ) (lt : k < length notes) (same : take k notes ≡ take k tail) (apart : BeginApart (drop k notes) (drop k tail)) (torn missing : List ℕ) (torn_is : torn ≡ drop k tail) (missing_is : missing ≡ drop k notes) where
      here : tail ≡ take k notes ++ torn
      here = sym (take-append-drop k tail) ∙ ap (λ (x : List ℕ). x ++ drop k tail) (sym same) ∙ ap (λ (x : List ℕ). take k notes ++ x) (sym torn_is)

      all : M.notes now line ≡ take k notes ++ missing
      all = sym text ∙ sym (take-append-drop k notes) ∙ ap (λ (x : List ℕ). take k notes ++ x) (sym missing_is)

      some : missing ≢ []
      some e = some_left k notes lt (sym missing_is ∙ e)

      begin : BeginApart missing torn
      begin = subst (λ (x : List ℕ). BeginApart x torn) (sym missing_is) (subst (λ (x : List ℕ). BeginApart (drop k notes) x) (sym torn_is) apart)

      pub is_cut : (r : Replay) (final : ℕ) → final ≡ suc count → EndsSo final bytes torn missing r → IsReplayed M n s bytes r next
      is_cut r final plus e =
          ends_amid M n s bytes count now rest h line tail (take k notes) missing torn note changed some here all begin r next is (subst (λ (m : ℕ). EndsSo m bytes torn missing r) plus e)

      pub is_damaged : (e : ReplayError) (final : ℕ) → final ≡ suc count → EndIsRefused final bytes torn e → IsRefused M n s bytes e
      is_damaged e final plus refused =
          refused_amid M n s bytes count now rest h line tail (take k notes) missing torn note changed some here all begin e (subst (λ (m : ℕ). EndIsRefused m bytes torn e) plus refused)
