use Rattle.std.proofs.Common.{Ok, Err}
use Rattle.text_lines.proofs.Answering.{answer_is_right}
use Rattle.saved_history.specs.Content.{content}
use Rattle.saved_history.proofs.TextLaws.{text_reads}
use Rattle.saved_history.proofs.read.read_saved.Goals as goal

pub returns-in-Ok : goal.returns-in-Ok
returns-in-Ok c = answer_is_right text_reads content c.args.bytes.now (Ok c.in-Ok.saved) c.in-Ok.ensures

pub returns-in-Err : goal.returns-in-Err
returns-in-Err c = rw c.refusal.ensures (answer_is_right text_reads content c.args.bytes.now (Err c.in-Err.stop) c.in-Err.ensures)
