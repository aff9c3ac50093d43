use Rattle.segment_files.proofs.Chained.{files_tell, later_files_tell}
use Rattle.segment_files.proofs.laws.files_tell_histories.Goals as goal

pub returns : goal.returns
returns c = record { first = files_tell; later = later_files_tell }
