-- What a loss of power leaves of files in memory.
use Rattle.std.specs.Prelude.{ℕ, List, cond, false, string_bytes}
use Rattle.std.specs.Str.{bytes_eq}
use Rattle.disks.specs.Held.{Held, Thing, File, Nothing, is_a_file}
use Rattle.disks.specs.Entries.{found}
use Rattle.disks.specs.declared.losing.Left.{Left}
use Rattle.disks.specs.declared.losing.Left.TheVariants.{Start, Over'}

-- what has a name: the file that was left there last, or what was there at first
abbrev pub left_at : Left → List ℕ → Thing
left_at (Start entries) name = found Nothing entries.items name
left_at (Over' p before place bytes) name =
    cond (bytes_eq (string_bytes place) name) (File bytes.items) (left_at before name)

-- the files and folders that are left: each name leads to a place of its own, and none is locked
abbrev pub held_left : Left → Held
held_left files = record {
  place = λ name. name;
  at = left_at files;
  locked = λ place. false;
  regular = λ name. is_a_file (left_at files name);
}
