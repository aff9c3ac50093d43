-- The names of rings that come back of a segment's journal (this project's own).
use Rattle.std.specs.Prelude.{◌≡◌, ℕ, ◌+◌, ◌-◌, ◌≤◌, ◌<◌, ◌^◌, List, ◌++◌, length, Some}
use Rattle.segment_files.specs.Remarks.{lines_in}
use Rattle.held_locks.specs.Kept.{locks_of}
use Rattle.name_remarks.specs.Bindings.{nothing, AreTakenIn}
use Rattle.lock_names.specs.Names.{total}
use Rattle.lock_names.specs.Kept.{NamedView}
use Rattle.lock_journal.specs.Begun.{HaveBegun}
use Rattle.name_service.specs.declared.service.NameTerms.{NameTerms}
use Rattle.name_service.specs.Naming.{NamingView}
use Rattle.name_service.specs.NamesText.{pool_bindings}
use Rattle.name_service.specs.RightNames.{AreRightNames}
use Rattle.name_service.specs.NameLines.{AreNamesAnswered, begun_names}

-- What the lines of the text record is how the rings of the pool are bound now, and how many grants
-- there were of all rings before; since then there were those of the rings.
pub record NamesComeBackOf (old new : NamedView) (text : List ℕ) : Type 0 where
  pub recorded : AreTakenIn (lines_in text) (nothing (length old.locks))
      (record { top = Some old.top; rings = pool_bindings new.fixed new.names })
  pub more : total (locks_of old.locks) ≤ total (locks_of new.locks)
  pub grants : new.top ≡ old.top + (total (locks_of new.locks) - total (locks_of old.locks))

-- A law: the names after some lines, and the number of grants, come back of the segment's beginning
-- and the notes of the lines.
abbrev pub NamesComeBackOfJournals : Type 0
NamesComeBackOfJournals =
    (terms : NameTerms) (old new : NamingView) (lines : List (List ℕ)) (said noted : List ℕ)
    → HaveBegun old.named.locks → AreRightNames old.named
    → AreNamesAnswered terms old lines said noted new → new.named.top < 2 ^ 64
    → NamesComeBackOf old.named new.named (begun_names old.named ++ noted)
