use Rattle.std.proofs.Common.{◌<◌, length, arith}
use Rattle.ring_check.proofs.Replaying.{step_at, stands_on}
use Rattle.ring_check.proofs.surveys.Reading.follow.Goals as goal

pub apply-requires-clause-step : goal.apply-requires-clause-step
apply-requires-clause-step c =
    let lt : c.loop-i.i < length c.args.events.now = omega arith in
    step_at c.args.self.now.replay.k c.args.start.now c.args.events.now c.loop-i.i _ c.loop-i.self.replay lt c.requires.legal c.loop-i.invariant.stands

pub loop-i-preserved : goal.loop-i-preserved
loop-i-preserved c =
    let lt : c.loop-i.i < length c.args.events.now = omega arith in
    record {
      stands = stands_on c.args.self.now.replay.k c.args.start.now c.args.events.now c.loop-i.i _ c.loop-i.self.replay c.apply.new.self.replay lt c.loop-i.invariant.stands
          (step_at c.args.self.now.replay.k c.args.start.now c.args.events.now c.loop-i.i _ c.loop-i.self.replay lt c.requires.legal c.loop-i.invariant.stands)
          (record { state = c.apply.ensures.state; calm = c.apply.ensures.calm });
      measured = c.apply.ensures.measured;
      tells = c.apply.ensures.tells c.loop-i.invariant.tells;
    }
