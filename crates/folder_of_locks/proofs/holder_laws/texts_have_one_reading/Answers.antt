use Rattle.folder_of_locks.proofs.OneReading.{one_text, no_bad_line, one_bad_line}
use Rattle.folder_of_locks.proofs.holder_laws.texts_have_one_reading.Goals as goal

pub returns : goal.returns
returns c = record { text = one_text; none = no_bad_line; one = one_bad_line }
