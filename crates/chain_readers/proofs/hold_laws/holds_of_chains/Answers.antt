use Rattle.chain_readers.proofs.ChainHolds.{files_tell_holds, blocks_tell_holds}
use Rattle.chain_readers.proofs.Files.{read_files_tell}
use Rattle.chain_readers.proofs.hold_laws.holds_of_chains.Goals as goal

pub returns : goal.returns
returns c = record { chain = read_files_tell; files = files_tell_holds; blocks = blocks_tell_holds }
