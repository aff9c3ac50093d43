use Rattle.std.proofs.Common.{List, ℕ, Some, None, subst}
use Rattle.lock_protocol.specs.Views.{input_of}
use Rattle.lock_protocol.specs.Readers.{IsUnread}
use Rattle.lock_protocol.proofs.Whole.{number_is, asked_whole, nobody_whole, unread_whole, unread_long}
use Rattle.lock_protocol.proofs.reading.read_input.Goals as goal

pub returns-then-line-gt-LINE_LIMIT : goal.returns-then-line-gt-LINE_LIMIT
returns-then-line-gt-LINE_LIMIT c =
    unread_long c.args.line.now (input_of c.unread.result) c.if-line-gt-LINE_LIMIT.true (subst (λ (u : List ℕ). IsUnread u (input_of c.unread.result)) c.front.ensures c.unread.ensures)

pub returns-in-Ok-Some-default : goal.returns-in-Ok-Some-default
returns-in-Ok-Some-default c = asked_whole c.args.line.now c.in-Ok-Some-default.client c.in-Ok-Some-default.rest.now (input_of c.asked.result) c.if-line-gt-LINE_LIMIT.false (number_is c.args.line.now c.in-Ok-Some-default.field-0-0 (Some c.in-Ok-Some-default.client) c.in-Ok-Some-default.rest.now c.in-Ok-Some-default.field-0-0-is c.in-Ok-Some-default.ensures) c.asked.ensures

pub returns-in-Ok-None-default : goal.returns-in-Ok-None-default
returns-in-Ok-None-default c = nobody_whole c.args.line.now c.in-Ok-None-default.field-0-1.now c.if-line-gt-LINE_LIMIT.false (number_is c.args.line.now c.in-Ok-None-default.field-0-0 None c.in-Ok-None-default.field-0-1.now c.in-Ok-None-default.field-0-0-is c.in-Ok-None-default.ensures)

pub returns-in-Err : goal.returns-in-Err
returns-in-Err c = unread_whole c.args.line.now c.in-Err.field-0 (input_of c.unread-in-Err.result) c.if-line-gt-LINE_LIMIT.false c.in-Err.ensures c.unread-in-Err.ensures
