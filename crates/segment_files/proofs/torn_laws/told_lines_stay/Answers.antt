use Rattle.segment_files.proofs.TornStaying.{told_stay, whole_stay}
use Rattle.segment_files.proofs.torn_laws.told_lines_stay.Goals as goal

pub returns : goal.returns
returns c = record { front = told_stay; whole = whole_stay }
