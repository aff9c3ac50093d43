use Rattle.name_check.specs.Kept.{seen}
use Rattle.name_check.proofs.Sounding.{handed_within, file_noted}
use Rattle.name_check.proofs.judge.begin_file.Goals as goal

pub close_hold-requires : goal.close_hold-requires
close_hold-requires c = handed_within (seen c.args.notes.now) c.requires.sound

pub returns-clause-ok : goal.returns-clause-ok
returns-clause-ok c =
    file_noted (seen c.args.notes.now) c.args.count c.add_rings.new.rings.items c.close_hold.new.names c.add_pool.new.table c.requires.sound c.requires.right c.close_hold.ensures c.in-Ok.ensures c.in-Ok-add_rings.ensures
