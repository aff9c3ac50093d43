use Rattle.std.proofs.Common.{ap}
use Rattle.name_remarks.specs.declared.remarks.NameRemark.{NameRemark as Read}
use Rattle.name_remarks.specs.Views.{seen}
use Rattle.folder_of_locks.proofs.TornBindings.{binds, held_said, other_said, unread}
use Rattle.folder_of_locks.proofs.kept_lines.is_torn_binding.Goals as goal

pub returns-in-Ok-Some-Bind-clause-no : goal.returns-in-Ok-Some-Bind-clause-no
returns-in-Ok-Some-Bind-clause-no c =
    let x = c.in-Ok-Some-Bind in
    λ no. held_said c.args.locks.now c.args.line.now x.field-0 x.field-0-0 x.ring _ _ _ x.field-0-is x.field-0-0-is x.ensures (c.is_unheld.ensures.no no)

pub returns-in-Ok-Some-Free-clause-no : goal.returns-in-Ok-Some-Free-clause-no
returns-in-Ok-Some-Free-clause-no c =
    let x = c.in-Ok-Some-Free in
    λ no. other_said c.args.locks.now c.args.line.now x.field-0 x.field-0-0 x.field-0-is (ap (λ (z : Read). binds (seen z)) x.field-0-0-is) x.ensures

pub returns-in-Ok-Some-Top-clause-no : goal.returns-in-Ok-Some-Top-clause-no
returns-in-Ok-Some-Top-clause-no c =
    let x = c.in-Ok-Some-Top in
    λ no. other_said c.args.locks.now c.args.line.now x.field-0 x.field-0-0 x.field-0-is (ap (λ (z : Read). binds (seen z)) x.field-0-0-is) x.ensures

pub returns-in-Err-clause-no : goal.returns-in-Err-clause-no
returns-in-Err-clause-no c = λ no. unread c.args.locks.now c.args.line.now c.in-Err.field-0 c.in-Err.ensures
