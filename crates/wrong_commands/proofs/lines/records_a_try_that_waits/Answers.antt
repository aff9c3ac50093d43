use Rattle.wrong_commands.proofs.Traced.{recorded_though_none}
use Rattle.wrong_commands.proofs.lines.records_a_try_that_waits.Goals as goal

pub returns-in-Waits-Nothing : goal.returns-in-Waits-Nothing
returns-in-Waits-Nothing c = record {
  wrong = λ h.
      let t = c.answer_line-ring.result in
      recorded_though_none c.args.faults c.args.served.now c.answer_line-ring.new.served c.args.line.now t.ring c.args.from t.call c.answer_line-ring.ensures.turn h c.in-Waits-Nothing.is-1 c.in-Waits-Nothing.is-0;
}
