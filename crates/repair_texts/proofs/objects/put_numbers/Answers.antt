use Rattle.repair_texts.proofs.Rows.{numbers_more}
use Rattle.repair_texts.proofs.objects.put_numbers.Goals as goal

pub loop-number-preserved : goal.loop-number-preserved
loop-number-preserved c =
    numbers_more c.args.numbers.now c.loop-number.number-index _ _ _ _ _ c.loop-number-test.true c.in_ok-put.ensures.ok c.from.ensures
    c.loop-number.invariant
