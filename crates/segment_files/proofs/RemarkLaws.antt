-- Remarks change nothing of what is recovered.
use Rattle.std.proofs.Common.{ℕ, List, ◌++◌, sym, ap, ◌∙◌}
use Rattle.journal.specs.Spelling.{journal_text}
use Rattle.segment_files.specs.Remarks.{without_remarks, remarks_in, remark_of}
use Rattle.segment_files.specs.RemarkLaws.{RemarksAreLeftOut, JournalsAreKept}
use Rattle.segment_files.proofs.Remarked.{without_append, remarks_append, remark_then, remark_then_remarks, no_hash_remarks}
use Rattle.segment_files.proofs.Hashless.{no_hash_journal, journal_without}

pub left_out : RemarksAreLeftOut
left_out front line back w l = (
  without_append front (remark_of line ++ back) w
      ∙ ap (λ (u : List ℕ). without_remarks front ++ u) (remark_then line back l)
      ∙ sym (without_append front back w),
  remarks_append front (remark_of line ++ back) w
      ∙ ap (λ (u : List (List ℕ)). remarks_in front ++ u) (remark_then_remarks line back l),
)

pub kept : JournalsAreKept
kept j f = (journal_without j f, no_hash_remarks (journal_text j) (no_hash_journal j f))
