use Rattle.std.proofs.Common.{◌≡◌, ◌<◌, ◌∙◌, arith, sym, true, false}
use Rattle.std.specs.Prelude.{map}
use Rattle.ring_model.specs.Ring.{is_settled}
use Rattle.held_locks.specs.Locks.{Call, repairs}
use Rattle.held_locks.specs.Kept.{state_of}
use Rattle.held_locks.proofs.Calls.{over, repairing, repairs_none}
use Rattle.held_locks.proofs.marks.repair.Goals as goal

pub returns-then-is_settled-clause-made : goal.returns-then-is_settled-clause-made
returns-then-is_settled-clause-made c =
    let settled : is_settled (state_of c.loop-more.ring).ring.values ≡ true = sym c.is_settled.ensures ∙ c.if-is_settled.true in
    let made = c.loop-more.invariant.made in
    over c.args.ring.now c.loop-more.ring made.0 (map Call (repairs c.args.most (state_of c.args.ring.now))) (repairs c.loop-more.more (state_of c.loop-more.ring)) (repairs_none c.loop-more.more (state_of c.loop-more.ring) settled) made.1 made.2

pub returns-then-is_settled-clause-room : goal.returns-then-is_settled-clause-room
returns-then-is_settled-clause-room c =
    let spent = c.loop-more.invariant.spent in
    omega arith

pub returns-clause-room : goal.returns-clause-room
returns-clause-room c =
    let spent = c.loop-more.invariant.spent in
    omega arith

pub pass-requires-clause-room : goal.pass-requires-clause-room
pass-requires-clause-room c =
    let room = c.loop-more.invariant.room in
    omega arith

pub loop-more-preserved : goal.loop-more-preserved
loop-more-preserved c =
    let settled : is_settled (state_of c.loop-more.ring).ring.values ≡ false = sym c.is_settled.ensures ∙ c.if-is_settled.false in
    let made = c.loop-more.invariant.made in
    let some : 0 < c.loop-more.more = omega arith in
    let go = repairing c.args.ring.now c.loop-more.ring c.pass.new.ring c.loop-more.more made.0 (map Call (repairs c.args.most (state_of c.args.ring.now))) some settled made.1 made.2 c.pass.ensures.made in
    let room = c.pass.ensures.room in
    let before = c.loop-more.invariant.room in
    let fewer = c.loop-more.invariant.fewer in
    let spent = c.loop-more.invariant.spent in
    record { kept = c.pass.ensures.kept; room = omega arith; fewer = omega arith; spent = omega arith; made = (go.ms, go.made, go.all) }
