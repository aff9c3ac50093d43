use Rattle.std.proofs.Common.{ℕ, List, Bor}
use Rattle.segment_files.specs.declared.heads.SegmentHead.{SegmentHead}
use Rattle.segment_files.specs.Spelling.{head_of}
use Rattle.segment_files.proofs.HeadLaws.{head_is_right, refusal_is_right}
use Rattle.segment_files.proofs.read.read_head.Goals as goal

pub returns-in-Ok : goal.returns-in-Ok
returns-in-Ok c = head_is_right (λ (x : SegmentHead × Bor (List ℕ)). (head_of x.0, x.1.now)) c.args.bytes.now c.in-Ok.found c.in-Ok.ensures

pub returns-in-Err : goal.returns-in-Err
returns-in-Err c = rw c.refusal.ensures (refusal_is_right (λ (x : SegmentHead × Bor (List ℕ)). (head_of x.0, x.1.now)) c.args.bytes.now c.in-Err.stop c.in-Err.ensures)
