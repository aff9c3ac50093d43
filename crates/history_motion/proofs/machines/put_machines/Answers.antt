use Rattle.std.proofs.Common.{◌∙◌, Ok, Err}
use Rattle.text_lines.proofs.Writing.{writes_same}
use Rattle.saved_history.specs.Content.{block_of}
use Rattle.history_picture.specs.Picture.{privileged_in}
use Rattle.history_picture.proofs.Texts.{piece_more, piece_fault}
use Rattle.history_motion.specs.Motion.{hit_in, machine_text}
use Rattle.history_motion.proofs.Flags.{seen_at, some_flags, text_is}
use Rattle.history_motion.proofs.machines.put_machines.Goals as goal

pub put_machine-requires-clause-privileged : goal.put_machine-requires-clause-privileged
put_machine-requires-clause-privileged g c =
    let b = block_of c.args.ring.now in
    let i = c.loop-machine.machine in
    let seen = seen_at b c.args.from c.args.columns c.args.seen.now i c.index-seen-machine.result c.requires.seen c.loop-machine-test.true c.index-seen-machine.is in
    some_flags (privileged_in b c.args.from i) c.args.columns c.deref.result.now c.requires.columns (c.deref.ensures.value ∙ seen.privileged)

pub put_machine-requires-clause-hit : goal.put_machine-requires-clause-hit
put_machine-requires-clause-hit g c =
    let b = block_of c.args.ring.now in
    let i = c.loop-machine.machine in
    let seen = seen_at b c.args.from c.args.columns c.args.seen.now i c.index-seen-machine.result c.requires.seen c.loop-machine-test.true c.index-seen-machine.is in
    some_flags (hit_in b c.args.from i) c.args.columns c.deref-in-loop-machine.result.now c.requires.columns (c.deref-in-loop-machine.ensures.value ∙ seen.hit)

pub returns-in-Err : goal.returns-in-Err
returns-in-Err g c =
    let b = block_of c.args.ring.now in
    let i = c.loop-machine.machine in
    let seen = seen_at b c.args.from c.args.columns c.args.seen.now i c.index-seen-machine.result c.requires.seen c.loop-machine-test.true c.index-seen-machine.is in
    let same = text_is b c.args.from c.args.columns i c.deref.result.now c.deref-in-loop-machine.result.now (c.deref.ensures.value ∙ seen.privileged) (c.deref-in-loop-machine.ensures.value ∙ seen.hit) in
    let piece = writes_same _ _ (Err c.in-Err.fault) _ _ same c.in-Err.ensures in
    piece_fault (machine_text b c.args.from c.args.columns) i b.n _ _ _ c.in-Err.fault c.loop-machine-test.true c.loop-machine.invariant piece

pub loop-machine-preserved : goal.loop-machine-preserved
loop-machine-preserved g c =
    let b = block_of c.args.ring.now in
    let i = c.loop-machine.machine in
    let seen = seen_at b c.args.from c.args.columns c.args.seen.now i c.index-seen-machine.result c.requires.seen c.loop-machine-test.true c.index-seen-machine.is in
    let same = text_is b c.args.from c.args.columns i c.deref.result.now c.deref-in-loop-machine.result.now (c.deref.ensures.value ∙ seen.privileged) (c.deref-in-loop-machine.ensures.value ∙ seen.hit) in
    let piece = writes_same _ _ (Ok c.in-Ok.field-0) _ _ same c.in-Ok.ensures in
    piece_more (machine_text b c.args.from c.args.columns) i _ _ _ c.loop-machine.invariant piece
