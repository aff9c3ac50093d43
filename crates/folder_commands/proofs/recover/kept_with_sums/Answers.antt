use Rattle.std.proofs.Common.{arith}
use Rattle.saved_history.specs.Content.{content}
use Rattle.folder_commands.proofs.Keeping.{kept_lines_within, kept_saved}
use Rattle.folder_commands.proofs.recover.kept_with_sums.Goals as goal

pub check_saved-requires : goal.check_saved-requires
check_saved-requires c =
    let k = c.in_ok-saved.ensures.ok in
    let few = kept_lines_within c.args.salvage c.args.bytes.now (content c.in_ok-saved.saved) k.0 c.in_ok-saved.left.bad k.1 in
    omega (arith, few)

pub returns-in-Ok-clause-saved : goal.returns-in-Ok-clause-saved
returns-in-Ok-clause-saved c =
    let k = c.in_ok-saved.ensures.ok in
    kept_saved c.args.salvage c.args.bytes.now (content c.in_ok-saved.saved) k.0 c.in_ok-saved.left.bad k.1
