use Rattle.std.proofs.Common.{arith}
use Rattle.line_service.proofs.Ranges.{gap, all, some}
use Rattle.line_service.proofs.segment_numbers.range_of.Goals as goal

pub returns-then-number-last-gt1 : goal.returns-then-number-last-gt1
returns-then-number-last-gt1 c =
    let h = c.loop-number.invariant in
    gap c.args.numbers.now c.requires.sorted c.requires.each _ c.loop-number.last c.loop-number.number-index h.begins h.ends h.there (omega arith) (omega arith) (omega arith)

pub returns : goal.returns
returns c =
    let h = c.loop-number.invariant in
    all c.args.numbers.now c.requires.sorted c.requires.each _ c.loop-number.last c.loop-number.number-index h.begins h.ends h.there (omega arith) (some _ c.if-is_empty.ensures) (omega arith)
