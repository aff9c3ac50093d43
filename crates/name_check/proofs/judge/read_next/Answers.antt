use Rattle.name_check.specs.Entries.{File}
use Rattle.name_check.specs.Kept.{seen}
use Rattle.name_check.proofs.Sounding.{file_sound}
use Rattle.name_check.proofs.judge.read_next.Goals as goal

pub returns-clause-sound : goal.returns-clause-sound
returns-clause-sound c = file_sound (seen c.args.notes.now) (File c.args.count) (seen c.read_file.new.notes) c.read_file.result c.requires c.read_file.ensures.ok
