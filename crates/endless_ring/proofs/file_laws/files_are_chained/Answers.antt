use Rattle.endless_ring.proofs.Chained.{files_are_whole, files_follow}
use Rattle.endless_ring.proofs.file_laws.files_are_chained.Goals as goal

pub returns-clause-whole : goal.returns-clause-whole
returns-clause-whole c = files_are_whole

pub returns-clause-follow : goal.returns-clause-follow
returns-clause-follow c = files_follow
