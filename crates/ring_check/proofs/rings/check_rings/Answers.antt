use Rattle.std.proofs.Common.{◌≡◌, length, arith, ℕ}
use Rattle.ring_check.proofs.Blocks.{finds_handed_on}
use Rattle.ring_check.proofs.BlockLines.{ring_room, ring_stop, ring_good}
use Rattle.ring_check.proofs.rings.check_rings.Goals as goal

pub check_ring-requires : goal.check_ring-requires
check_ring-requires c =
    omega (arith, ring_room c.args.version c.args.rings.now c.loop-i.i c.loop-i.line c.index-rings-i.result c.loop-i-test.true c.index-rings-i.is c.loop-i.invariant, c.requires)

pub returns-in_err-check_ring-clause-finds : goal.returns-in_err-check_ring-clause-finds
returns-in_err-check_ring-clause-finds c =
    let error = c.in_err-check_ring.field-0.0 in
    finds_handed_on _ c.from_residual.result error c.from_residual.ensures
    (ring_stop c.args.version c.args.rings.now c.loop-i.i c.loop-i.line c.index-rings-i.result c.loop-i-test.true c.index-rings-i.is c.loop-i.invariant (Unit {0}) ℕ error c.in_err-check_ring.ensures)

pub overflow_add-line-in-loop-i : goal.overflow_add-line-in-loop-i
overflow_add-line-in-loop-i c =
    omega (
      arith,
      ring_room c.args.version c.args.rings.now c.loop-i.i c.loop-i.line c.index-rings-i.result c.loop-i-test.true c.index-rings-i.is c.loop-i.invariant,
      c.requires,
      c.len.ensures,
      c.len-in-loop-i.ensures,
      c.index-rings-i.result.events.ok.0,
      c.index-rings-i.result.surveys.ok.0,
    )

pub overflow_add-line-in-loop-i-2 : goal.overflow_add-line-in-loop-i-2
overflow_add-line-in-loop-i-2 c =
    omega (
      arith,
      ring_room c.args.version c.args.rings.now c.loop-i.i c.loop-i.line c.index-rings-i.result c.loop-i-test.true c.index-rings-i.is c.loop-i.invariant,
      c.requires,
      c.len.ensures,
      c.len-in-loop-i.ensures,
      c.index-rings-i.result.events.ok.0,
      c.index-rings-i.result.surveys.ok.0,
    )

pub loop-i-preserved : goal.loop-i-preserved
loop-i-preserved c =
    let e : c.len.result ≡ length c.index-rings-i.result.events.items = omega (arith, c.len.ensures, c.index-rings-i.result.events.ok.0) in
    let s : c.len-in-loop-i.result ≡ length c.index-rings-i.result.surveys.items = omega (arith, c.len-in-loop-i.ensures, c.index-rings-i.result.surveys.ok.0) in
    rw (e, s) (ring_good c.args.version c.args.rings.now c.loop-i.i c.loop-i.line c.index-rings-i.result c.loop-i-test.true c.index-rings-i.is c.loop-i.invariant (Unit {0}) c.in_ok-check_ring.field-0 c.in_ok-check_ring.ensures)
