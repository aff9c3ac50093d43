use Rattle.std.proofs.Common.{◌≡◌, ap, subst}
use Rattle.std.specs.Prelude.{IfErr}
use Rattle.name_remarks.specs.Remarks.{Binding}
use Rattle.name_remarks.specs.Bindings.{Bindings, IsNotHeard}
use Rattle.name_remarks.specs.Views.{seen}
use Rattle.name_remarks.proofs.Taken.{not_bound}
use Rattle.name_remarks.proofs.recorded.Recorded.hear.Goals as goal

pub returns-in-Bind-clause-err : goal.returns-in-Bind-clause-err
returns-in-Bind-clause-err c =
    let old : Bindings = record { top = c.self.inside.top; rings = c.self.inside.rings.items } in
    let new : Bindings = record { top = c.self.inside.top; rings = c.bind_among.new.rings.items } in
    let b : Binding = record { before = c.in-Bind.before; floor = c.in-Bind.floor; name = c.in-Bind.name.now } in
    subst (λ (t : Bindings). IfErr c.bind_among.result (λ why. (new ≡ t) × IsNotHeard (seen c.args.remark) t why)) c.self.view_is
    (not_bound c.bind_among.result old c.bind_among.new.rings.items c.in-Bind.ring b (seen c.args.remark) (ap seen c.in-Bind.is) c.bind_among.ensures.err)
