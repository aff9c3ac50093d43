use Rattle.std.proofs.Common.{sym, ◌∙◌, rules}
use Rattle.folder_of_locks.proofs.Named.{none_seen, seen_more, seen_twice, all_apart}
use Rattle.folder_of_locks.proofs.checks.check_names.Goals as goal

pub loop-place-init : goal.loop-place-init
loop-place-init c = none_seen c.new-places.result (search rules)

pub returns-in-Ok-Some-clause-err : goal.returns-in-Ok-Some-clause-err
returns-in-Ok-Some-clause-err c =
    seen_twice c.loop-place.places c.args.locks.now c.loop-place.place _ _ c.loop-place-test.true c.loop-place.invariant (sym c.in-Ok-Some.field-0-is ∙ c.in-Ok-Some.ensures.old)

pub loop-place-preserved : goal.loop-place-preserved
loop-place-preserved c =
    seen_more c.loop-place.places c.insert.new.self c.args.locks.now c.loop-place.place _ _ c.loop-place-test.true c.loop-place.invariant (sym c.in-Ok-None.field-0-is ∙ c.in-Ok-None.ensures.old) c.in-Ok-None.ensures.updates

pub returns-clause-ok : goal.returns-clause-ok
returns-clause-ok c = all_apart c.args.locks.now c.loop-place.place c.loop-place-test.false c.loop-place.invariant.1
