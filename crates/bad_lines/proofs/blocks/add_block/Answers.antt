use Rattle.std.proofs.Common.{◌≡◌, ◌+◌, ◌∙◌, length, sym, arith}
use Rattle.saved_history.specs.Content.{block_of}
use Rattle.bad_lines.proofs.BlockLines.{block_none, block_start, block_tail}
use Rattle.bad_lines.proofs.blocks.add_block.Goals as goal

pub returns-then-not-are_parameters : goal.returns-then-not-are_parameters
returns-then-not-are_parameters c = λ k v l p.
    block_none (block_of c.args.ring.now) c.args.version c.args.line c.args.place k v l p c.args.out.now.items c.tell.new.out.items c.ring_fault.result
    (c.ring_fault.ensures k.before v p) c.in_ok-tell.ensures (sym c.are_parameters.ensures ∙ c.if-not-are_parameters.true)

pub returns-in-Some : goal.returns-in-Some
returns-in-Some c = λ k v l p.
    let over = rw c.deref.ensures.value at c.in-Some.ensures.some in
    block_start (block_of c.args.ring.now) c.args.version c.args.line c.args.place k v l p c.args.out.now.items c.tell.new.out.items c.ring_fault.result
    (c.ring_fault.ensures k.before v p) c.in_ok-tell.ensures (sym c.are_parameters.ensures ∙ c.if-not-are_parameters.false)
    c.tell-in-Some.new.out.items over.1 (rw over.0 at c.in_ok-tell-2.ensures)

pub returns : goal.returns
returns c = λ k v l p.
    let n : length c.args.ring.now.start.items ≡ c.args.ring.now.n = omega (arith, c.args.ring.now.has_n, c.args.ring.now.start.ok.0) in
    let all = rw c.deref.ensures.value at c.in_default.ensures.none in
    let tail = rw (c.in_ok-start.ensures, c.deref-2.ensures.value) at (c.in_ok-add_tail.ensures c.args.version (c.args.place + 1)) in
    block_tail (block_of c.args.ring.now) c.args.version c.args.line c.args.place k v l p c.args.out.now.items c.tell.new.out.items c.ring_fault.result
    (c.ring_fault.ensures k.before v p) c.in_ok-tell.ensures (sym c.are_parameters.ensures ∙ c.if-not-are_parameters.false)
    c.add_tail.new.out.items all n tail
