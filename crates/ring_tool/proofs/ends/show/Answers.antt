use Rattle.std.proofs.Common.{ℕ, List, subst}
use Rattle.std.specs.Io.Buffered.{writer_contents}
use Rattle.std.specs.Io.KnownBytes.{append_known}
use Rattle.ring_tool.specs.Left.{HasEndedAnswered}
use Rattle.ring_tool.proofs.CutTexts.{ended_cut}
use Rattle.ring_tool.proofs.ends.show.Goals as goal

pub returns-in-Err-clause-ended : goal.returns-in-Err-clause-ended
returns-in-Err-clause-ended g c =
    let was = writer_contents g.O.Write.contents c.args.out in
    let out = g.O.Write.contents c.fail.result.out in
    let said = g.E.Write.contents c.args.err.now in
    let err = g.E.Write.contents c.fail.new.err in
    subst (λ (text : List ℕ). HasEndedAnswered c.fail.result.status c.fail.result.told (append_known was text) out said err) c.as_bytes.ensures.value
    (ended_cut c.fail.result.status c.fail.result.told was (writer_contents g.O.Write.contents c.put.new.out) out said err c.put.result c.in-Err.field-0 c.as_bytes.result.now c.fail.ensures.status c.in-Err.is c.put.ensures c.fail.ensures.front c.fail.ensures.told)
