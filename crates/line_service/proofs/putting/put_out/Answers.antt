use Rattle.std.proofs.Common.{[], sym}
use Rattle.std.proofs.lemmas.List.{append-nil}
use Rattle.text_lines.proofs.Writing.{keeps_then}
use Rattle.line_service.proofs.putting.put_out.Goals as goal

pub returns-clause-part : goal.returns-clause-part
returns-clause-part g c =
    let bytes = c.args.bytes.now in (
      [],
      (bytes, sym (append-nil bytes), keeps_then (g.W.Write.contents c.args.out.now) (g.W.Write.contents c.put.new.out) (g.W.Write.contents c.flush.new.self) bytes c.in-Ok.ensures c.flush.ensures.bytes),
    )
