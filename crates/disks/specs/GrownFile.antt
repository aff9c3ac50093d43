-- What a `GrownFile` shows.
use Rattle.std.specs.Prelude.{Bool}
use Rattle.disks.specs.declared.grown.GrownFile.{GrownFile}
use Rattle.disks.specs.declared.grown.EndFile as calls

-- the file that is written
abbrev pub file_of : {F : Type 0} {g : calls.Ghosts F} → GrownFile F g → F
file_of g = g.file

-- whether all that is added is put on the disk
abbrev pub is_synced : {F : Type 0} {g : calls.Ghosts F} → GrownFile F g → Bool
is_synced g = g.synced
