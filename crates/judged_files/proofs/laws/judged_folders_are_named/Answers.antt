use Rattle.judged_files.proofs.Lawful.{folders_are_named}
use Rattle.judged_files.proofs.laws.judged_folders_are_named.Goals as goal

pub returns : goal.returns
returns c = folders_are_named c.judged_are_named.ensures c.sound_stays.ensures.begins
