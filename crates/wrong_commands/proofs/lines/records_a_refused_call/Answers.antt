use Rattle.std.proofs.Common.{◌≡◌}
use Rattle.ring_service.specs.declared.answers.Answer.TheVariants as answer
use Rattle.ring_service.specs.declared.answers.Refusal.TheVariants as refusal
use Rattle.wrong_commands.proofs.Traced.{no_trace}
use Rattle.wrong_commands.proofs.lines.records_a_refused_call.Goals as goal

pub returns-in-NoMachine : goal.returns-in-NoMachine
returns-in-NoMachine c =
    let t = c.answer_line-ring.result in
    let is = c.in-Refused-Nothing.is-0 in
    let why = c.in-NoMachine.is in
    let same = c.in-Refused-Nothing.why-is in
    let a : t.call.answer ≡ answer.Refused refusal.NoMachine = cc in
    record {
      wrong = λ h. no_trace c.args.faults c.args.served.now c.answer_line-ring.new.served c.args.line.now t.ring t.call c.args.seat c.args.survey c.answer_line-ring.ensures.turn h c.in-Refused-Nothing.is-1 a;
    }
