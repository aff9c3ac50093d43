use Rattle.std.proofs.Common.{length, map, ap, ◌∙◌, arith}
use Rattle.std.specs.List.{flat_map}
use Rattle.std.proofs.lemmas.List.{take_all, length-map}
use Rattle.saved_history.specs.Content.{block_of}
use Rattle.ring_check.specs.Lines.{block_lines}
use Rattle.segment_files.proofs.Wholeness.{block_more, block_room}
use Rattle.segment_files.proofs.segments.lines_of.Goals as goal

pub overflow_add-lines-in-loop-ring : goal.overflow_add-lines-in-loop-ring
overflow_add-lines-in-loop-ring c =
    let x = c.ring-item.result in
    let more = block_more c.args.rings.now c.loop-ring.ring-index x c.loop-ring-test.true c.ring-item.is in
    let room = block_room c.args.rings.now c.loop-ring.ring-index x c.loop-ring-test.true c.ring-item.is in
    omega (arith, more, room, c.requires, c.len.ensures, c.len-in-loop-ring.ensures, x.events.ok.0, x.surveys.ok.0)

pub overflow_add-lines-in-loop-ring-2 : goal.overflow_add-lines-in-loop-ring-2
overflow_add-lines-in-loop-ring-2 c =
    let x = c.ring-item.result in
    let more = block_more c.args.rings.now c.loop-ring.ring-index x c.loop-ring-test.true c.ring-item.is in
    let room = block_room c.args.rings.now c.loop-ring.ring-index x c.loop-ring-test.true c.ring-item.is in
    omega (arith, more, room, c.requires, c.loop-ring.invariant, c.len.ensures, c.len-in-loop-ring.ensures, x.events.ok.0, x.surveys.ok.0)

pub loop-ring-preserved : goal.loop-ring-preserved
loop-ring-preserved c =
    let x = c.ring-item.result in
    let more = block_more c.args.rings.now c.loop-ring.ring-index x c.loop-ring-test.true c.ring-item.is in
    omega (arith, more, c.loop-ring.invariant, c.len.ensures, c.len-in-loop-ring.ensures, x.events.ok.0, x.surveys.ok.0)

pub returns : goal.returns
returns c =
    let many = length-map c.args.rings.now block_of in
    c.loop-ring.invariant ∙ ap (λ (u : _). length (flat_map block_lines u)) (take_all c.loop-ring.ring-index (map block_of c.args.rings.now) (omega (arith, many, c.loop-ring-test.false)))
