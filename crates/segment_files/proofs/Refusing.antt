-- The refusals of a segment's parts.
use Rattle.std.proofs.Common.{◌≡◌, ℕ, ◌+◌, ◌≤◌, Bool, List, [], ◌∷◌, ◌++◌, length, Option, Err, ap, length-append, inr, arith}
use Rattle.std.specs.List.{flat_map}
use Rattle.ring_model.specs.declared.bases.Base.{Base}
use Rattle.journal.specs.declared.errors.RecoverError.{RecoverError}
use Rattle.journal.specs.declared.errors.RecoverError.TheVariants as recovery
use Rattle.journal.specs.Recovery.{IsRightRecovery}
use Rattle.segment_files.specs.Spelling.{Head, number_line, behind_line, base_line, HeadFits, head_text}
use Rattle.segment_files.specs.Remarks.{lines_in, without_remarks, line_among}
use Rattle.segment_files.specs.Chain.{State, head_lines, refused_journal, line_in, IsRightRefusal}
use Rattle.segment_files.proofs.LineBounds.{recovery_within}
use Rattle.segment_files.proofs.RemarkSteps.{among_within}

bases_some : (bs : List Base) → length bs ≤ length (flat_map base_line bs)
bases_some [] = omega arith
bases_some (b ∷ bs) = let more = bases_some bs in let cut = length-append (base_line b) (flat_map base_line bs) in omega (arith, more, cut)

-- a head has more bytes than lines
head_long : (h : Head) → head_lines h + 1 ≤ length (head_text h)
head_long h =
    let some = bases_some h.bases in
    let a = length-append (number_line h.number (length h.bases)) (behind_line h.behind ++ flat_map base_line h.bases) in
    let b = length-append (behind_line h.behind) (flat_map base_line h.bases) in
    omega (arith, some, a, b)

module _ (bytes : List ℕ) (h : Head) (rest : List ℕ) (fits : HeadFits h) (spelled : bytes ≡ head_text h ++ rest) where
  pub journal_refused : (lines : ℕ) (e : RecoverError) → lines ≡ head_lines h → IsRightRecovery (without_remarks rest) (Err e) → (l : Option State) (last : Bool) → IsRightRefusal l bytes last (refused_journal (λ m. line_among (lines_in rest) m + lines) e)
  journal_refused lines recovery.Truncated n r l last = inr (record { head = h; rest = rest; fits = fits; spelled = spelled; holds = r })
  journal_refused lines (recovery.Syntax m) n r l last = inr (record { head = h; rest = rest; fits = fits; spelled = spelled; holds = (m, ap (λ (x : ℕ). line_among (lines_in rest) m + x) n, r) })
  journal_refused lines (recovery.Bad m kind) n r l last = record { head = h; rest = rest; fits = fits; spelled = spelled; holds = (m, ap (λ (x : ℕ). line_among (lines_in rest) m + x) n, r) }
  journal_refused lines recovery.OutOfMemory n r l last = tt

  pub number_room : (m : ℕ) → m ≤ length (without_remarks rest) + 1 → line_among (lines_in rest) m + head_lines h ≤ length bytes
  number_room m le =
      let within = among_within rest m le in
      let long = head_long h in
      let all : length bytes ≡ length (head_text h ++ rest) = ap length spelled in
      let cut = length-append (head_text h) rest in
      omega (arith, within, long, all, cut)

  pub line_room : (e : RecoverError) → IsRightRecovery (without_remarks rest) (Err e) → line_among (lines_in rest) (line_in e) + head_lines h ≤ length bytes
  line_room e r = number_room (line_in e) (recovery_within (without_remarks rest) e r)
