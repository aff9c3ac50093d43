use Rattle.lock_protocol.proofs.Fronts.{found_spaced, found_ended, none_spaced, none_ended, none_at_all}
use Rattle.lock_protocol.proofs.reading.connection.Goals as goal

pub returns-in-Ok-clause-some : goal.returns-in-Ok-clause-some
returns-in-Ok-clause-some c = found_spaced c.args.bytes.now c.in-Ok.client c.in-Ok.field-0-1.now c.in-Ok.ensures

pub returns-in-Ok-clause-none : goal.returns-in-Ok-clause-none
returns-in-Ok-clause-none c = none_spaced c.args.bytes.now c.in-Ok.client c.in-Ok.field-0-1.now c.in-Ok.ensures

pub returns-in-Ok-number-clause-some : goal.returns-in-Ok-number-clause-some
returns-in-Ok-number-clause-some c = found_ended c.args.bytes.now c.in-Ok-number.client c.in-Ok-number.field-0-1.now c.in-Ok-number.ensures

pub returns-in-Ok-number-clause-none : goal.returns-in-Ok-number-clause-none
returns-in-Ok-number-clause-none c = none_ended c.args.bytes.now c.in-Err.field-0 c.in-Ok-number.client c.in-Ok-number.field-0-1.now c.in-Err.ensures c.in-Ok-number.ensures

pub returns-in-Err-number-clause-none : goal.returns-in-Err-number-clause-none
returns-in-Err-number-clause-none c = λ e. none_at_all c.args.bytes.now c.in-Err.field-0 c.in-Err-number.field-0 c.in-Err.ensures c.in-Err-number.ensures
