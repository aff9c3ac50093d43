-- The files that are made, one after the other.
use Rattle.std.proofs.Common.{◌≡◌, ℕ, List, Option, Some, Bor, inl, inr, refl}
use Rattle.disks.specs.Held.{Held, Replaces}
use Rattle.tool_parts.specs.Worlds.{World}
use Rattle.repair_texts.specs.Columns.{table_of}
use Rattle.repair_texts.specs.declared.columns.Row.{Row}
use Rattle.repair_requests.specs.declared.words.Made.TheVariants as made
use Rattle.repair_requests.specs.declared.words.RepairsWords.{RepairsWords}
use Rattle.repair_requests.specs.declared.refusals.Refusal.{Refusal}
use Rattle.repair_commands.specs.Wanted.{studies_given}
use Rattle.repair_commands.specs.Repaired.{AreStored, HavePrinted, IsFileRefusal, IsFilesRefusal, IsUnsaved, of_passes, picture_of}

pub nothing_stored : (rows : List Row) (counts : List ℕ) (was : Option Held) → AreStored made.Nothing rows counts was was
nothing_stored rows counts was = (was, refl, refl)

pub table_stored : (name : Bor (List ℕ)) (rows : List Row) (counts : List ℕ) (was is : Option Held) → Replaces was is name.now (Some (table_of rows)) →
    AreStored (made.Table name) rows counts was is
table_stored name rows counts was is h = (is, h, refl)

pub picture_stored : (name : Bor (List ℕ)) (rows : List Row) (counts : List ℕ) (was is : Option Held) →
    Replaces was is name.now (Some (picture_of (of_passes rows) counts)) → AreStored (made.Picture name) rows counts was is
picture_stored name rows counts was is h = (was, refl, h)

pub both_stored : (table picture : Bor (List ℕ)) (rows : List Row) (counts : List ℕ) (was between is : Option Held) →
    Replaces was between table.now (Some (table_of rows)) → Replaces between is picture.now (Some (picture_of (of_passes rows) counts)) →
    AreStored (made.Both table picture) rows counts was is
both_stored table picture rows counts was between is h k = (between, h, k)

pub table_refused : (name : Bor (List ℕ)) (rows : List Row) (was is : Option Held) (e : Refusal) → IsFileRefusal (Some name.now) e → is ≡ was →
    IsFilesRefusal (made.Table name) rows was is e
table_refused name rows was is e h same = inl (h, same)

pub picture_refused : (name : Bor (List ℕ)) (rows : List Row) (was is : Option Held) (e : Refusal) → IsFileRefusal (Some name.now) e → is ≡ was →
    IsFilesRefusal (made.Picture name) rows was is e
picture_refused name rows was is e h same = inr (h, same)

pub both_table_refused : (table picture : Bor (List ℕ)) (rows : List Row) (was is : Option Held) (e : Refusal) → IsFileRefusal (Some table.now) e →
    is ≡ was → IsFilesRefusal (made.Both table picture) rows was is e
both_table_refused table picture rows was is e h same = inl (h, same)

pub both_picture_refused : (table picture : Bor (List ℕ)) (rows : List Row) (was between is : Option Held) (e : Refusal) →
    IsFileRefusal (Some picture.now) e → Replaces was between table.now (Some (table_of rows)) → is ≡ between →
    IsFilesRefusal (made.Both table picture) rows was is e
both_picture_refused table picture rows was between is e h stored same = inr (h, rw same stored)

pub unsaved : (words : RepairsWords) (was is : World) (e : Refusal) (rows : List Row) →
    HavePrinted words.lines (studies_given words) rows was.out is.out → IsFilesRefusal words.made rows was.files is.files e → IsUnsaved words was is e
unsaved words was is e rows h k = (rows, h, k)
