use Rattle.std.proofs.Common.{◌+◌, List, map, sym, subst, arith}
use Rattle.saved_history.specs.Content.{block_of}
use Rattle.name_check.specs.declared.lines.Ring.{Ring}
use Rattle.judged_files.specs.declared.faults.JudgeError.{JudgeError}
use Rattle.judged_files.specs.Beginnings.{AreUnheld}
use Rattle.judged_files.proofs.Ringing.{AreFound, ring_found, ring_unheld, rings_found}
use Rattle.judged_files.proofs.rings.rings_at.Goals as goal

pub returns-in-Err-clause-err : goal.returns-in-Err-clause-err
returns-in-Err-clause-err c =
    subst (λ (e : JudgeError). AreUnheld c.args.bases.now (map block_of c.args.rings.now) e) (sym c.refused_at.ensures)
    (ring_unheld c.args.bases.now c.args.rings.now c.loop-i.i _ _ c.index-rings-i.result c.in-Err.error (omega arith) (omega arith) c.index-rings-i.is c.in-Err.ensures)

pub loop-i-preserved : goal.loop-i-preserved
loop-i-preserved c =
    subst (λ (u : List Ring). AreFound c.args.bases.now (map block_of c.args.rings.now) (c.loop-i.i + 1) u) (sym c.in-Ok-push.ensures.items)
    (ring_found c.args.bases.now c.args.rings.now c.loop-i.i c.loop-i.found.items _ _ c.index-rings-i.result c.in-Ok.ring (omega arith) (omega arith) c.index-rings-i.is c.in-Ok.ensures c.loop-i.invariant)

pub returns-clause-ok : goal.returns-clause-ok
returns-clause-ok c = rings_found c.args.bases.now c.args.rings.now c.loop-i.i c.loop-i.found.items (omega arith) c.loop-i.invariant
