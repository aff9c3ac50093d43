use Rattle.std.proofs.Common.{◌<◌, length, arith}
use Rattle.bad_lines.proofs.SurveyLines.{call_at, room_at, stands_next}
use Rattle.bad_lines.proofs.surveys.follow.Goals as goal

pub step-requires-clause-call : goal.step-requires-clause-call
step-requires-clause-call c =
    let lt : c.loop-i.i < length c.args.events.now = omega arith in
    call_at c.args.start.now c.args.events.now c.loop-i.i _ c.loop-i.replay lt c.requires.callable c.loop-i.invariant

pub step-requires-clause-room : goal.step-requires-clause-room
step-requires-clause-room c =
    let room = room_at c.args.start.now c.args.events.now c.loop-i.i c.loop-i.replay c.loop-i.invariant in
    let grants = room.0 in
    let calm = room.1 in
    (omega (arith, grants, c.requires.room, c.requires.within), omega (arith, calm, c.requires.room, c.requires.within))

pub loop-i-preserved : goal.loop-i-preserved
loop-i-preserved c =
    let lt : c.loop-i.i < length c.args.events.now = omega arith in
    stands_next c.args.start.now c.args.events.now c.loop-i.i _ c.loop-i.replay c.step.new.self lt c.loop-i.invariant
    (record { state = c.step.ensures.state; calm = c.step.ensures.calm })
