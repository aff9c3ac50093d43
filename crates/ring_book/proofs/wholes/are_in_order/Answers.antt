use Rattle.std.proofs.Common.{◌≡◌, ◌<◌, ◌∙◌, suc, length, get_or, sym, arith}
use Rattle.ring_book.specs.BookHistory.{machines_of}
use Rattle.ring_book.proofs.Pieces.{is_so, not_so, named_at, named_length, order_of_turns, turns_of_order, down_on, down_from_here, back_on, back_from_here, in_turn_end}
use Rattle.ring_book.proofs.wholes.are_in_order.Goals as goal
use Rattle.ring_book.proofs.wholes.are_in_order.Goals.{then-turn-least+else-machine-least, else-turn-least+else-machine-high+else-machine-least-2, then-machine-high-via-then-machine-high, then-machine-high-via-else-machine-high+then-machine-least-2}

pub returns-then-machine-least : goal.returns-then-machine-least
returns-then-machine-least c =
    let ms = machines_of c.args.block.now in
    let found = c.least_left_out-least.result in
    let n = named_length c.args.block.now in
    let test = c.loop-turn-test.true in
    let m : c.machine_of-machine.result ≡ get_or ms c.loop-turn.turn 0 = c.machine_of-machine.ensures ∙ sym (named_at c.args.block.now c.loop-turn.turn _ (omega (arith, test))) in
    let l : c.loop-turn.turn < length ms = omega (arith, n, test) in
    not_so (λ o.
    let h = c.loop-turn.invariant.rest (turns_of_order c.args.n found ms c.least_left_out-least.ensures.is o).1 in
    c.if-machine-least.true (m ∙ (down_on (suc found) c.loop-turn.high found c.loop-turn.turn ms l c.if-turn-least.true h).0))

pub returns-then-machine-high : goal.returns-then-machine-high
returns-then-machine-high c =
    let ms = machines_of c.args.block.now in
    let found = c.least_left_out-least.result in
    let n = named_length c.args.block.now in
    let test = c.loop-turn-test.true in
    let m : c.machine_of-machine.result ≡ get_or ms c.loop-turn.turn 0 = c.machine_of-machine.ensures ∙ sym (named_at c.args.block.now c.loop-turn.turn _ (omega (arith, test))) in
    let l : c.loop-turn.turn < length ms = omega (arith, n, test) in
    not_so (λ o.
    let h = c.loop-turn.invariant.rest (turns_of_order c.args.n found ms c.least_left_out-least.ensures.is o).1 in
    let b = back_on (suc found) c.loop-turn.high found c.loop-turn.turn ms l c.if-turn-least.false h in
    let below = b.0 in
    let above = b.1 in
    elim c.then-machine-high.branch [
      | then-machine-high-via-then-machine-high w ↦ let t = w.if-machine-high.true in omega (arith, m, below, t)
      | then-machine-high-via-else-machine-high+then-machine-least-2 w ↦ let t = w.if-machine-least-2.true in omega (arith, m, above, t)
    ])

pub loop-turn-preserved : goal.loop-turn-preserved
loop-turn-preserved c =
    let ms = machines_of c.args.block.now in
    let found = c.least_left_out-least.result in
    let n = named_length c.args.block.now in
    let test = c.loop-turn-test.true in
    let m : c.machine_of-machine.result ≡ get_or ms c.loop-turn.turn 0 = c.machine_of-machine.ensures ∙ sym (named_at c.args.block.now c.loop-turn.turn _ (omega (arith, test))) in
    let l : c.loop-turn.turn < length ms = omega (arith, n, test) in
    elim c.if-turn-least.branch [
      | then-turn-least+else-machine-least w ↦
          rw w.high-is (record {
            whole = λ h. c.loop-turn.invariant.whole
                (down_from_here (suc found) c.loop-turn.high found c.loop-turn.turn ms l w.if-turn-least.true (sym m ∙ w.if-machine-least.false) h);
            rest = λ h. (down_on (suc found) c.loop-turn.high found c.loop-turn.turn ms l w.if-turn-least.true (c.loop-turn.invariant.rest h)).1;
          })
      | else-turn-least+else-machine-high+else-machine-least-2 w ↦
          let high = w.if-machine-high.false in
          let low = w.if-machine-least-2.false in
          rw (w.high-is, m) (record {
            whole = λ h. c.loop-turn.invariant.whole
                (back_from_here (suc found) c.loop-turn.high found c.loop-turn.turn ms l w.if-turn-least.false (omega (arith, high, m)) (omega (arith, low, m)) h);
            rest = λ h. (back_on (suc found) c.loop-turn.high found c.loop-turn.turn ms l w.if-turn-least.false (c.loop-turn.invariant.rest h)).2;
          })
    ]

pub returns : goal.returns
returns c =
    let ms = machines_of c.args.block.now in
    let found = c.least_left_out-least.result in
    let n = named_length c.args.block.now in
    let test = c.loop-turn-test.false in
    let end = c.loop-turn.auto.turn-end in
    let few = c.least_left_out-least.ensures.few in
    let some = c.requires.some in
    is_so (order_of_turns c.args.n found ms (let t = c.if-least-n.false in omega (arith, t)) (omega (arith, some, n))
    (c.loop-turn.invariant.whole (in_turn_end (suc found) c.loop-turn.high found c.loop-turn.turn ms (omega (arith, n, test, end)) (omega (arith, n, test, end, few)))))
