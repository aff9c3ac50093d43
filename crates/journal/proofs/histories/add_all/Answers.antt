use Rattle.std.proofs.Common.{◌≡◌, ◌∙◌, length, vec_len, arith}
use Rattle.journal.proofs.Placings.{placed_more}
use Rattle.journal.proofs.histories.add_all.Goals as goal

pub loop-recorded-preserved : goal.loop-recorded-preserved
loop-recorded-preserved c =
    let same = c.loop-recorded.invariant.0 in
    let ok = c.loop-recorded.rings.ok in
    let many : vec_len c.args.rings.now ≡ length c.loop-recorded.rings.items = omega arith in (
      same,
      placed_more c.loop-recorded.rings.items c.args.calls.now c.loop-recorded.recorded-index _ _ c.index_mut.result.now (vec_len c.args.rings.now) c.loop-recorded-test.true c.requires many c.index_mut.ensures.value c.in_ok-add.ensures
          ∙ c.loop-recorded.invariant.1,
    )
