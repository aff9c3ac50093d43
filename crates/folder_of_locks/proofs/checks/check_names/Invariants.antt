use Rattle.std.proofs.Common.{take, map}
use Rattle.std.specs.List.{IsDistinct}
use Rattle.std.specs.Str.{bytes_eq}
use Rattle.folder_of_locks.specs.Lists.{listed, names_of}
use Rattle.folder_of_locks.proofs.Named.{HasNames}
use Rattle.folder_of_locks.proofs.checks.check_names.Given as goal

abbrev pub invariant-loop-place : goal.invariant-loop-place
invariant-loop-place l = HasNames l.places (map listed (take l.place l.locks)) × IsDistinct bytes_eq (names_of (map listed (take l.place l.locks)))
