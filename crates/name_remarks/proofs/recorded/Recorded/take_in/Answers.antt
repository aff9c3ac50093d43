use Rattle.std.proofs.Common.{Option, Ok, inr, refl, subst}
use Rattle.name_remarks.specs.declared.remarks.NameRemark.{NameRemark}
use Rattle.name_remarks.specs.Views.{seen, heard, IsHeardAs}
use Rattle.name_remarks.proofs.Taken.{heard_ok, heard_err}
use Rattle.name_remarks.proofs.recorded.Recorded.take_in.Goals as goal

pub returns-in-Ok-Some-clause-ok : goal.returns-in-Ok-Some-clause-ok
returns-in-Ok-Some-clause-ok c =
    let is = subst (λ (o : Option NameRemark). IsHeardAs c.args.line.now (heard (Ok o))) c.in-Ok-Some.field-0-is c.in-Ok-Some.ensures in
    heard_ok c.hear.result c.args.line.now c.args.self.now c.hear.new.self (seen c.in-Ok-Some.remark) is c.hear.ensures.ok

pub returns-in-Ok-Some-clause-err : goal.returns-in-Ok-Some-clause-err
returns-in-Ok-Some-clause-err c =
    let is = subst (λ (o : Option NameRemark). IsHeardAs c.args.line.now (heard (Ok o))) c.in-Ok-Some.field-0-is c.in-Ok-Some.ensures in
    heard_err c.hear.result c.args.line.now c.args.self.now c.hear.new.self (seen c.in-Ok-Some.remark) is c.hear.ensures.err

pub returns-in-Ok-None-clause-ok : goal.returns-in-Ok-None-clause-ok
returns-in-Ok-None-clause-ok c = inr (subst (λ (o : Option NameRemark). IsHeardAs c.args.line.now (heard (Ok o))) c.in-Ok-None.field-0-is c.in-Ok-None.ensures, refl)
