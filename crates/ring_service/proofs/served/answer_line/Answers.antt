use Rattle.ring_service.proofs.Dues.{still_due}
use Rattle.ring_service.proofs.Lines.{long_line, bad_line, order_line, command_line_turn}
use Rattle.ring_service.specs.Turns.{turn_seen_among}
use Rattle.ring_service.proofs.served.answer_line.Goals as goal

pub returns-then-line-gt-LINE_LIMIT-clause-turn : goal.returns-then-line-gt-LINE_LIMIT-clause-turn
returns-then-line-gt-LINE_LIMIT-clause-turn c = long_line c.args.faults c.args.served.now c.args.line.now c.no_call.result c.no_call.ensures c.if-line-gt-LINE_LIMIT.true

pub returns-then-line-gt-LINE_LIMIT-clause-due : goal.returns-then-line-gt-LINE_LIMIT-clause-due
returns-then-line-gt-LINE_LIMIT-clause-due c = λ limit e. still_due limit c.args.served.now c.no_call.result.ring e

pub returns-in-Ok-Some-clause-turn : goal.returns-in-Ok-Some-clause-turn
returns-in-Ok-Some-clause-turn c =
    let read = rw c.in-Ok-Some.field-0-is at c.in-Ok-Some.ensures in
    let t = c.answer_command.result in
    command_line_turn c.args.faults c.args.served.now c.args.line.now c.in-Ok-Some.command (turn_seen_among t.ring c.answer_command.new.served t.call) c.if-line-gt-LINE_LIMIT.false read c.answer_command.ensures.turn

pub returns-in-Ok-None-clause-turn : goal.returns-in-Ok-None-clause-turn
returns-in-Ok-None-clause-turn c =
    let read = rw c.in-Ok-None.field-0-is at c.in-Ok-None.ensures in
    order_line c.args.faults c.args.served.now c.args.line.now c.no_call-in-Ok-None.result c.no_call-in-Ok-None.ensures c.if-line-gt-LINE_LIMIT.false read

pub returns-in-Ok-None-clause-due : goal.returns-in-Ok-None-clause-due
returns-in-Ok-None-clause-due c = λ limit e. still_due limit c.args.served.now c.no_call-in-Ok-None.result.ring e

pub returns-in-Err-Fault-clause-turn : goal.returns-in-Err-Fault-clause-turn
returns-in-Err-Fault-clause-turn c =
    let read = rw c.in-Err-Fault.field-0-is at c.in-Err-Fault.ensures in
    bad_line c.args.faults c.args.served.now c.args.line.now c.no_call-in-Err-Fault.result c.no_call-in-Err-Fault.ensures read

pub returns-in-Err-Fault-clause-due : goal.returns-in-Err-Fault-clause-due
returns-in-Err-Fault-clause-due c = λ limit e. still_due limit c.args.served.now c.no_call-in-Err-Fault.result.ring e

pub returns-in-Err-Memory-clause-due : goal.returns-in-Err-Memory-clause-due
returns-in-Err-Memory-clause-due c = λ limit e. still_due limit c.args.served.now c.no_call-in-Err-Memory.result.ring e
