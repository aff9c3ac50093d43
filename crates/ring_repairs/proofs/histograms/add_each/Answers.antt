use Rattle.std.proofs.Common.{◌≡◌, ◌+◌, ◌<◌, ◌≤◌, length, get_or, arith}
use Rattle.ring_repairs.specs.Parts.{IsJoined}
use Rattle.ring_repairs.proofs.Joining.{joined_counted, entry_le}
use Rattle.ring_repairs.proofs.histograms.add_each.Goals as goal

pub overflow_add-counts : goal.overflow_add-counts
overflow_add-counts c =
    let old = c.args.counts.now in
    let more = c.args.more.now in
    let i = c.loop-number.number in
    let same = c.loop-number.invariant.numbers in
    let long = c.requires.length in
    let room = c.requires.room in
    let is : get_or c.loop-number.counts i 0 ≡ get_or old i 0 = c.loop-number.invariant.left i (omega arith) in
    let within = c.loop-number-test.true in
    let one = entry_le old i (omega arith) in
    let two = entry_le more i (omega arith) in
    omega arith

pub returns-clause-counted : goal.returns-clause-counted
returns-clause-counted c =
    let all' = c.loop-number-test.false in
    let same = c.loop-number.invariant.numbers in
    let joined : IsJoined c.args.counts.now c.args.more.now c.loop-number.counts = record {
      numbers = same;
      each = λ v l. c.loop-number.invariant.done v (omega arith);
    } in
    joined_counted c.args.counts.now c.args.more.now c.loop-number.counts joined c.requires.length
