use Rattle.saved_history.specs.Content.{content}
use Rattle.history_commands.proofs.Told.{all_chosen, one_chosen}
use Rattle.history_commands.proofs.states.write_chosen.Goals as goal

pub returns-in-None-clause-ok : goal.returns-in-None-clause-ok
returns-in-None-clause-ok g c = all_chosen c.args.words.now (content c.args.saved.now).rings _ _ c.write_all.result c.in-None.is (rw c.form_of.ensures at c.write_all.ensures.ok)

pub returns-in-None-clause-err : goal.returns-in-None-clause-err
returns-in-None-clause-err g c = rw (c.in-None.is, ← c.form_of.ensures) c.write_all.ensures.err

pub returns-in-Some-clause-ok : goal.returns-in-Some-clause-ok
returns-in-Some-clause-ok g c = one_chosen c.args.words.now c.in-Some.place (content c.args.saved.now).rings _ _ c.write_one.result c.in-Some.is (rw c.form_of-in-Some.ensures at c.write_one.ensures.ok)

pub returns-in-Some-clause-err : goal.returns-in-Some-clause-err
returns-in-Some-clause-err g c = rw (c.in-Some.is, ← c.form_of-in-Some.ensures) c.write_one.ensures.err
