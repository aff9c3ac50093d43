use Rattle.std.proofs.Common.{inl, inr, refl}
use Rattle.name_remarks.specs.Views.{seen}
use Rattle.name_remarks.proofs.Spelled.{free_read, free_refused}
use Rattle.name_remarks.proofs.reading.free_line.Goals as goal

pub returns-in-Ok : goal.returns-in-Ok
returns-in-Ok c = free_read c.args.rest.now (seen c.in-Ok.remark) c.in-Ok.ensures

pub returns-in-Err : goal.returns-in-Err
returns-in-Err c = (inr (inl (c.args.rest.now, refl)), λ r is. free_refused c.args.rest.now c.in-Err.field-0 c.in-Err.ensures r is)
