use Rattle.ring_model.specs.Ring.{ring_with}
use Rattle.ring_check.specs.Replays.{Measures, TellsStill, StandsAt}
use Rattle.ring_check.proofs.surveys.Reading.follow.Given as goal

abbrev pub invariant-loop-i : goal.invariant-loop-i
invariant-loop-i l = record {
  stands : StandsAt (ring_with l.fn.self.replay.k l.start) l.events l.i l.self.replay;
  measured : Measures l.self.gauge l.self.replay;
  tells : TellsStill l.self;
}
