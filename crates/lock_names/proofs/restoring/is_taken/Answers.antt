use Rattle.std.specs.Prelude.{string_bytes}
use Rattle.lock_names.proofs.Restores.{taken}
use Rattle.lock_names.proofs.restoring.is_taken.Goals as goal

pub returns-in-Some-clause-yes : goal.returns-in-Some-clause-yes
returns-in-Some-clause-yes c = λ so.
    (c.in-Some.binding, c.in-Some.is, taken (string_bytes c.in-Some.binding.name) c.as_str.result.now c.args.table.now c.find.result c.is_some.result c.as_str.ensures.value c.find.ensures c.is_some.ensures so)
