use Rattle.std.proofs.Common.{map, inl, inr, ◌∙◌}
use Rattle.lock_commands.specs.HoldsAnswer.{has_locks}
use Rattle.lock_commands.specs.ToldHolds.{called}
use Rattle.lock_commands.proofs.FolderNames.{items, names_of_folder, no_names_of_folder}
use Rattle.lock_commands.proofs.held_folder.folder_holds.Goals as goal

pub returns-in-Err-chain_holds-clause-err : goal.returns-in-Err-chain_holds-clause-err
returns-in-Err-chain_holds-clause-err g c =
    (c.args.entries.now, c.requires, inr (c.in-Ok.numbers, c.in-Ok.ensures.ok, inl c.in-Err-chain_holds.ensures.err))

pub returns-in-Ok-names_in-clause-ok : goal.returns-in-Ok-names_in-clause-ok
returns-in-Ok-names_in-clause-ok g c =
    let found = c.in-Ok-chain_holds.found in
    record {
      entries = c.args.entries.now;
      r = c.in-Ok.numbers;
      listed = c.requires;
      numbers = c.in-Ok.ensures.ok;
      said = found.said.items;
      held = c.in-Ok-chain_holds.ensures.ok;
      named = names_of_folder (g.D.Disk.holds c.args.disk.now) c.args.folder.now c.has_list.result (has_locks c.args.entries.now) found.locks.items c.len.result found.said.items (called c.in-Ok-names_in.names) c.has_list.ensures (c.len.ensures ∙ found.locks.ok.0) c.in-Ok-names_in.ensures.ok;
    }

pub returns-clause-err : goal.returns-clause-err
returns-clause-err g c =
    let found = c.in-Ok-chain_holds.found in
    let unnamed = no_names_of_folder (g.D.Disk.holds c.args.disk.now) c.args.folder.now c.has_list.result (has_locks c.args.entries.now) found.locks.items c.len.result c.in-Err-names_in.fault c.has_list.ensures (c.len.ensures ∙ found.locks.ok.0) c.in-Err-names_in.ensures.err in
    (c.args.entries.now, c.requires, inr (c.in-Ok.numbers, c.in-Ok.ensures.ok, inr (map items found.locks.items, found.said.items, c.in-Ok-chain_holds.ensures.ok, unnamed)))
