use Rattle.name_check.specs.Kept.{seen, entry_of}
use Rattle.name_check.proofs.Sounding.{line_sound}
use Rattle.name_check.proofs.judge.read_sound.Goals as goal

pub returns-clause-sound : goal.returns-clause-sound
returns-clause-sound c = line_sound (seen c.args.notes.now) (entry_of c.args.line) (seen c.read_line.new.notes) c.read_line.result c.requires c.read_line.ensures.ok c.read_line.ensures.err
