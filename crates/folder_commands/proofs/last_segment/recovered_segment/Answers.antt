use Rattle.std.proofs.Common.{arith}
use Rattle.folder_commands.specs.SegmentRecovered.{file_of_parts}
use Rattle.folder_commands.proofs.Keeping.{file_lines, file_saved}
use Rattle.folder_commands.proofs.last_segment.recovered_segment.Goals as goal

pub check_saved-requires : goal.check_saved-requires
check_saved-requires c =
    let x = c.in-Ok.found in
    let few = file_lines c.args.words.now.salvage (file_of_parts c.args.bytes.now x.head x.saved) c.in-Ok.ensures.ok.0 in
    omega (arith, few)

pub returns-in-Ok-check_saved-clause-saved : goal.returns-in-Ok-check_saved-clause-saved
returns-in-Ok-check_saved-clause-saved c =
    let x = c.in-Ok.found in
    file_saved c.args.words.now.salvage (file_of_parts c.args.bytes.now x.head x.saved) c.in-Ok.ensures.ok.0
