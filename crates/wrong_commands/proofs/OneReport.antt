-- A saved text has one report, which is not empty.
use Rattle.std.proofs.Common.{◌≡◌, ℕ, ◌+◌, ◌<◌, List, length, length-append, Option, sym, ap, subst, ◌∙◌, arith}
use Rattle.std.specs.Prelude.{IsSome}
use Rattle.std.specs.Io.KnownBytes.{Appends}
use Rattle.std.specs.List.{flat_map}
use Rattle.saved_history.specs.Content.{Content}
use Rattle.ring_check.specs.Legal.{summary_of}
use Rattle.ring_text.specs.Report.{total_line}
use Rattle.ring_text.specs.SavedReport.{block_lines, totals, report_of}
use Rattle.text_commands.specs.Reported.{IsReportOf}
use Rattle.wrong_commands.proofs.Written.{one_value, not_twice}

pub one_report : (bytes a b : List ℕ) → IsReportOf bytes a → IsReportOf bytes b → a ≡ b
one_report bytes a b r s =
    r.2 ∙ ap report_of (one_value r.1.content s.1.content r.1.fits s.1.fits (sym r.1.spelled ∙ s.1.spelled)) ∙ sym s.2

some_report : (c : Content) → 0 < length (report_of c)
some_report c =
    let last : 0 < length (total_line (length c.rings) (totals (summary_of c))) = omega arith in
    let both : length (report_of c) ≡ length (flat_map block_lines c.rings) + length (total_line (length c.rings) (totals (summary_of c))) = length-append (flat_map block_lines c.rings) (total_line (length c.rings) (totals (summary_of c))) in
    omega (arith, last, both)

pub not_printed_twice : (bytes a b c : List ℕ) (old mid new : Option (List ℕ)) → IsSome old → IsReportOf bytes a → IsReportOf bytes b → IsReportOf bytes c → Appends old mid a → Appends mid new b → Appends old new c → ⊥
not_printed_twice bytes a b c old mid new known r s t one two both =
    let some : 0 < length a = subst (λ (x : List ℕ). 0 < length x) (sym r.2) (some_report r.1.content) in
    not_twice old mid new a known some one (subst (λ (x : List ℕ). Appends mid new x) (one_report bytes b a s r) two)
    (subst (λ (x : List ℕ). Appends old new x) (one_report bytes c a t r) both)
