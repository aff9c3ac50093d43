use Rattle.noted_lines.proofs.NotedReads.{beginning_read, beginning_refused}
use Rattle.noted_lines.proofs.beginnings.beginning_of.Goals as goal

pub returns-in-Ok : goal.returns-in-Ok
returns-in-Ok c = beginning_read c.args.rest.now c.in-Ok.version c.in-Ok.count c.in-Ok.ensures

pub returns-in-Err : goal.returns-in-Err
returns-in-Err c = beginning_refused c.args.rest.now c.in-Err.field-0 c.in-Err.ensures
