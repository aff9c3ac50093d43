use Rattle.wrong_commands.proofs.Traced.{another_ring}
use Rattle.wrong_commands.proofs.lines.exchanges_the_rings.Goals as goal

pub returns-in-Survey-Survey : goal.returns-in-Survey-Survey
returns-in-Survey-Survey c = record {
  wrong = λ h.
      let t = c.answer_line-ring.result in
      another_ring c.args.faults c.args.served.now c.answer_line-ring.new.served c.args.line.now t.ring c.args.other t.call c.in-Survey-Survey.seat-1 c.in-Survey-Survey.survey-1 c.answer_line-ring.ensures.turn h c.in-Survey-Survey.is-1 c.if-ring-other.true;
}
