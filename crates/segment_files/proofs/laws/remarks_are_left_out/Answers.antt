use Rattle.segment_files.proofs.RemarkLaws.{left_out, kept}
use Rattle.segment_files.proofs.laws.remarks_are_left_out.Goals as goal

pub returns-clause-left_out : goal.returns-clause-left_out
returns-clause-left_out c = left_out

pub returns-clause-kept : goal.returns-clause-kept
returns-clause-kept c = kept
