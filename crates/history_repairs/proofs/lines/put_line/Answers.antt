use Rattle.std.proofs.Common.{◌++◌, length, Ok, Err, ap}
use Rattle.text_lines.proofs.Writing.{writes_same, writes_then, writes_err}
use Rattle.saved_history.specs.Content.{block_of}
use Rattle.history_repairs.specs.Lines.{repairs_of, spread_if, some_words, ring_words, end_words}
use Rattle.history_repairs.proofs.lines.put_line.Goals as goal

pub returns-in-Ok-put_some : goal.returns-in-Ok-put_some
returns-in-Ok-put_some g c =
    let b = block_of c.args.ring.now in
    let front = ring_words b (length (repairs_of b)) in
    let some = some_words (spread_if (repairs_of b)) in
    let last = end_words b.n in
    let r = c.put_bound.result in
    let one = writes_same _ _ (Ok c.in-Ok.field-0) (ring_words b c.args.ended) front (ap (ring_words b) c.requires.ended) c.in-Ok.ensures in
    let two = writes_same _ _ (Ok c.in-Ok-put_some.field-0) (some_words c.args.spread) some (ap some_words c.requires.spread) c.in-Ok-put_some.ensures in
    writes_then _ _ _ r front (some ++ last) one (writes_then _ _ _ r some last two c.put_bound.ensures)

pub returns-in-Err-put_some : goal.returns-in-Err-put_some
returns-in-Err-put_some g c =
    let b = block_of c.args.ring.now in
    let front = ring_words b (length (repairs_of b)) in
    let some = some_words (spread_if (repairs_of b)) in
    let last = end_words b.n in
    let e = c.in-Err-put_some.fault in
    let one = writes_same _ _ (Ok c.in-Ok.field-0) (ring_words b c.args.ended) front (ap (ring_words b) c.requires.ended) c.in-Ok.ensures in
    let two = writes_same _ _ (Err e) (some_words c.args.spread) some (ap some_words c.requires.spread) c.in-Err-put_some.ensures in
    writes_then _ _ _ (Err e) front (some ++ last) one (writes_err _ _ e some last two)

pub returns-in-Err : goal.returns-in-Err
returns-in-Err g c =
    let b = block_of c.args.ring.now in
    let front = ring_words b (length (repairs_of b)) in
    let one = writes_same _ _ (Err c.in-Err.fault) (ring_words b c.args.ended) front (ap (ring_words b) c.requires.ended) c.in-Err.ensures in
    writes_err _ _ c.in-Err.fault front (some_words (spread_if (repairs_of b)) ++ end_words b.n) one
