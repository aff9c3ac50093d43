use Rattle.text_lines.proofs.Writing.{pieces_fault}
use Rattle.text_lines.proofs.write.put_all.Goals as goal

pub returns-in-Err : goal.returns-in-Err
returns-in-Err g c = pieces_fault _ (λ p. p.now) c.args.pieces.now c.loop-piece.piece-index _ c.loop-piece-test.true _ _ _ c.loop-piece.invariant c.in-Err.fault c.in-Err.ensures
