use Rattle.std.proofs.Common.{inl, refl}
use Rattle.name_remarks.specs.Views.{seen}
use Rattle.name_remarks.proofs.Spelled.{bind_read, bind_refused}
use Rattle.name_remarks.proofs.reading.bind_line.Goals as goal

pub returns-in-Ok : goal.returns-in-Ok
returns-in-Ok c = bind_read c.args.rest.now (seen c.in-Ok.remark) c.in-Ok.ensures

pub returns-in-Err : goal.returns-in-Err
returns-in-Err c = (inl (c.args.rest.now, refl), λ r is. bind_refused c.args.rest.now c.in-Err.field-0 c.in-Err.ensures r is)
