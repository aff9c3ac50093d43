use Rattle.name_check.specs.Kept.{seen}
use Rattle.name_check.proofs.Sounding.{may_put}
use Rattle.name_check.proofs.judge.bind_name.Goals as goal

pub put_name-requires-clause-fits : goal.put_name-requires-clause-fits
put_name-requires-clause-fits c =
    may_put (seen c.args.notes.now) c.args.ring (record { name = c.args.name.now; before = c.args.counts.before; floor = c.args.counts.floor }) c.args.known c.requires.sound c.requires.there c.requires.right
