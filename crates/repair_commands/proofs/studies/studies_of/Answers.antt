use Rattle.repair_commands.specs.Wanted.{study_given}
use Rattle.repair_commands.proofs.Refusing.{one_made, first_refused, words_refused}
use Rattle.repair_commands.proofs.studies.studies_of.Goals as goal

pub loop-place-preserved : goal.loop-place-preserved
loop-place-preserved c =
    let ok = c.in-Ok.ensures.ok in
    one_made (study_given c.args.words.now) c.deref-size-items.result.now c.args.words.now.sizes.items c.loop-place.place _ c.in-Ok.study
    c.loop-place.studies.items c.push.new.self.items c.deref-size-items.ensures.value c.loop-place-test.true c.loop-place.invariant ok.0 ok.1
    c.in-Ok-push.ensures.items

pub returns-in-Err-clause-err : goal.returns-in-Err-clause-err
returns-in-Err-clause-err c =
    let e = c.in-Err.refusal in
    words_refused c.args.words.now e
    (first_refused (study_given c.args.words.now) c.deref-size-items.result.now c.args.words.now.sizes.items c.loop-place.place _ c.loop-place.studies.items e
    c.deref-size-items.ensures.value c.loop-place-test.true c.loop-place.invariant c.in-Err.ensures.err)
