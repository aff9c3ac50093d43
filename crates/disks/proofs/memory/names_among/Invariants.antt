use Rattle.std.proofs.Common.{take}
use Rattle.disks.specs.Entries.{held_of}
use Rattle.disks.specs.Folders.{names_of, ListsNames, SaysKinds}
use Rattle.disks.proofs.memory.names_among.Given as goal

abbrev pub invariant-loop-entry : goal.invariant-loop-entry
invariant-loop-entry l =
    ListsNames (held_of (take l.entry-index l.entries)) l.folder (names_of l.names.items)
    × SaysKinds (held_of l.entries) l.folder l.names.items
