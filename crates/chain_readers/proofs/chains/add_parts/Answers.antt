use Rattle.std.proofs.Common.{length, arith}
use Rattle.ring_model.specs.Bases.{no_base}
use Rattle.chain_readers.specs.Known.{known}
use Rattle.chain_readers.proofs.Parts.{reads_more, reads_no_more, reads_all, some_least}
use Rattle.chain_readers.proofs.chains.add_parts.Goals as goal

pub loop-i-preserved : goal.loop-i-preserved
loop-i-preserved c =
    let l = c.loop-i in
    let lt = c.loop-i-test.true in
    let ok = l.locks.ok in
    let same = l.invariant.0 in (
      same,
      reads_more c.args.locks.now.items c.args.bases.now c.args.rings.now l.i l.locks.items l.invariant.1 c.index_mut.result.now c.index-rings-i.result no_base
          (omega (arith, lt, ok, same, c.min-count.ensures, c.min.ensures, c.len.ensures)) (omega (arith, lt, c.min-count.ensures, c.min.ensures)) (omega (arith, lt, c.min-count.ensures)) c.index_mut.ensures.value c.index-rings-i.is c.add.new.self c.in-Ok.ensures,
    )

pub returns-in-Err : goal.returns-in-Err
returns-in-Err c =
    let l = c.loop-i in
    let lt = c.loop-i-test.true in
    let ok = l.locks.ok in
    let same = l.invariant.0 in
    rw c.refused_at.ensures
    (reads_no_more c.args.locks.now.items c.args.bases.now c.args.rings.now l.i l.locks.items l.invariant.1 c.index_mut.result.now c.index-rings-i.result no_base
    (omega (arith, lt, ok, same, c.min-count.ensures, c.min.ensures, c.len.ensures)) (omega (arith, lt, c.min-count.ensures, c.min.ensures)) (omega (arith, lt, c.min-count.ensures)) c.index_mut.ensures.value c.index-rings-i.is c.in-Err.error (known c.add.new.self) _ c.in-Err.ensures)

pub returns : goal.returns
returns c =
    let l = c.loop-i in
    let end = c.loop-i-test.false in
    let ok = l.locks.ok in
    let same = l.invariant.0 in
    reads_all c.args.locks.now.items c.args.bases.now c.args.rings.now l.i l.locks.items l.invariant.1 (some_least (length l.locks.items) (length c.args.bases.now) (length c.args.rings.now) l.i (omega (arith, end, ok, same, c.min-count.ensures, c.min.ensures, c.len.ensures)))
