use Rattle.c_calls.proofs.FilesBack.{files_back}
use Rattle.c_calls.proofs.laws.files_come_back.Goals as goal

pub returns : goal.returns
returns c = files_back
