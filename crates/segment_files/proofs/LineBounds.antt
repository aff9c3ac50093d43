-- A refusal names a line that is there, or the one after the last.
use Rattle.std.proofs.Common.{◌≡◌, ℕ, zero, suc, ◌+◌, ◌-◌, ◌<◌, ◌≤◌, Bool, true, false, cond, eqb, List, [], ◌∷◌, ◌++◌, length, take, Err, refl, sym, ap, subst, ◌∙◌, length-append, inl, inr, arith}
use Rattle.std.specs.List.{flat_map}
use Rattle.std.proofs.lemmas.Bool.{cases_lt}
use Rattle.std.proofs.lemmas.List.{length-take}
use Rattle.std.proofs.lemmas.List.Sums.{count_by-le-length}
use Rattle.text_lines.specs.Texts.{Begins, first_lines, IsFirstBadLine}
use Rattle.saved_history.specs.Spelling.{text}
use Rattle.ring_check.specs.Lines.{lines}
use Rattle.ring_check.proofs.SavedLines.{lines_some}
use Rattle.journal.specs.declared.errors.RecoverError.{RecoverError}
use Rattle.journal.specs.declared.errors.RecoverError.TheVariants as recovery
use Rattle.journal.specs.Spelling.{Journal, first_line, journal_head, journal_line, journal_text}
use Rattle.journal.specs.Recovery.{call_line_number, IsNoCall, IsBadBeginning, IsBadCall, IsRightRecovery}
use Rattle.journal.proofs.Heads.{calls_some, bad_within}
use Rattle.segment_files.specs.Chain.{line_in}

either_all : (v : Bool) (b : ℕ) (bs ls ms : List ℕ) → ls ≡ bs → ms ≡ bs → b ∷ cond v ls ms ≡ b ∷ bs
either_all true b bs ls ms e f = ap (λ (u : List ℕ). b ∷ u) e
either_all false b bs ls ms e f = ap (λ (u : List ℕ). b ∷ u) f

lines_all : (n : ℕ) (bs : List ℕ) → length bs < n → first_lines n bs ≡ bs
lines_all zero bs lt = absurd (omega (arith, lt))
lines_all (suc n) [] lt = refl
lines_all (suc n) (b ∷ bs) lt = either_all (eqb b 10) b bs (first_lines n bs) (first_lines (suc n) bs) (lines_all n bs (omega (arith, lt))) (lines_all (suc n) bs (omega (arith, lt)))

first_bad_within : (P : List ℕ → Type 0) (bytes : List ℕ) (line : ℕ) → IsFirstBadLine P bytes line → line ≤ length bytes + 1
first_bad_within P bytes line h =
    elim (cases_lt (length bytes + 1) line) [
      | inl lt ↦
          let all : first_lines line bytes ≡ bytes = lines_all line bytes (omega (arith, lt)) in
          let before : first_lines (line - 1) bytes ≡ bytes = lines_all (line - 1) bytes (omega (arith, lt)) in
          absurd (h.bad (subst (λ (u : List ℕ). Begins P u) (before ∙ sym all) (h.good (line - 1) (omega (arith, lt)))))
      | inr le ↦ le
    ]

-- the line of a call, among as many as there are
call_within : (bytes : List ℕ) (j : Journal) (tail : List ℕ) (call : ℕ) → bytes ≡ journal_text j ++ tail → call ≤ length j.calls → call_line_number bytes j.began call ≤ length bytes + 1
call_within bytes j tail call e le =
    let some = calls_some j.calls in
    let few = count_by-le-length (λ (b : ℕ). eqb b 10) (take (length (journal_head j.began)) bytes) in
    let cut = length-take (length (journal_head j.began)) bytes in
    let long : length bytes ≡ length (journal_text j ++ tail) = ap length e in
    let a = length-append (journal_text j) tail in
    let b = length-append (journal_head j.began) (flat_map journal_line j.calls) in
    omega (arith, some, few, cut, long, a, b, le)

beginning_within : (bytes : List ℕ) (line : ℕ) (kind : _) → IsBadBeginning bytes line kind → line ≤ length bytes + 1
beginning_within bytes line kind h =
    let c = h.began in
    let within = bad_within c.version (lines c) h.said kind h.bad in
    let some = lines_some c in
    let long : length bytes ≡ length (journal_head c ++ h.rest) = ap length h.spelled in
    let a = length-append (journal_head c) h.rest in
    let b = length-append first_line (text c) in
    let n = h.number in
    omega (arith, within, some, long, a, b, n)

pub recovery_within : (bytes : List ℕ) (e : RecoverError) → IsRightRecovery bytes (Err e) → line_in e ≤ length bytes + 1
recovery_within bytes recovery.Truncated h = omega arith
recovery_within bytes (recovery.Syntax line) h = elim h [ inl a ↦ first_bad_within _ bytes line a.first | inr b ↦ no_call b ]
  where
    no_call : IsNoCall bytes line → line ≤ length bytes + 1
    no_call b = let n = b.number in let le = call_within bytes b.journal b.tail (length b.journal.calls) b.lines.spelled (omega arith) in omega (arith, n, le)
recovery_within bytes (recovery.Bad line kind) h = elim h [ inl a ↦ beginning_within bytes line kind a | inr b ↦ bad_call b ]
  where
    bad_call : IsBadCall bytes line kind → line ≤ length bytes + 1
    bad_call b = let n = b.number in let w = b.wrong.within in let le = call_within bytes b.journal b.tail b.call b.lines.spelled (omega (arith, w)) in omega (arith, n, le)
recovery_within bytes recovery.OutOfMemory h = omega arith
