use Rattle.std.proofs.Common.{◌≤◌, length, vec_len, arith}
use Rattle.ring_model.specs.Bases.{no_base}
use Rattle.chain_readers.proofs.Extending.{extends_more, extends_all, some_least}
use Rattle.chain_readers.proofs.rings.extend_all.Goals as goal

pub loop-i-preserved : goal.loop-i-preserved
loop-i-preserved c =
    let l = c.loop-i in
    let lt = c.loop-i-test.true in
    let ok = l.rings.ok in
    let same = l.invariant.0 in (
      same,
      extends_more c.args.rings.now.items c.args.bases.now c.args.next.now l.i l.rings.items l.invariant.1 c.extend.new.ring c.index_mut.result.now c.index-next-i.result no_base
          (omega (arith, lt, ok, same, c.min-count.ensures, c.min.ensures, c.len.ensures)) (omega (arith, lt, c.min-count.ensures, c.min.ensures)) (omega (arith, lt, c.min-count.ensures)) c.index_mut.ensures.value c.index-next-i.is c.in_ok-extend.ensures,
    )

pub returns : goal.returns
returns c =
    let l = c.loop-i in
    let end = c.loop-i-test.false in
    let ok = l.rings.ok in
    let same = l.invariant.0 in
    extends_all c.args.rings.now.items c.args.bases.now c.args.next.now l.i l.rings.items l.invariant.1 (some_least (length l.rings.items) (length c.args.bases.now) (length c.args.next.now) l.i (omega (arith, end, ok, same, c.min-count.ensures, c.min.ensures, c.len.ensures)))
