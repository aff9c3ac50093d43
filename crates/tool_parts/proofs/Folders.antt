-- What is known of names that lead to folders.
use Rattle.std.proofs.Common.{◌≡◌, ℕ, List, true, false, Option, None, Some, Result, Ok, Err, IfOk, refl, ap}
use Rattle.std.specs.Option.{is_some}
use Rattle.std.specs.Result.{is_ok}
use Rattle.std.proofs.lemmas.Bool.{false≢true}
use Rattle.disks.specs.Held.{Held, Thing, Nothing, Folder, File, file_bytes, is_a_folder, LeadsToFolder, LeadsToNoFolder, IsHeld}
use Rattle.disks.specs.Folders.{Lists}
use Rattle.disks.specs.declared.disk.FolderEntry.{FolderEntry}
use Rattle.tool_parts.specs.Chained.{IsFolder}

-- what has bytes is not a folder
no_folder : (t : Thing) (bytes : List ℕ) → file_bytes t ≡ Some bytes → is_a_folder t ≡ false
no_folder Nothing bytes h = refl
no_folder (File b) bytes h = refl
no_folder Folder bytes h = absurd (false≢true (ap (λ (o : Option (List ℕ)). is_some o) h))

pub held_no_folder : (files : Option Held) (name bytes : List ℕ) → IsHeld files name bytes → LeadsToNoFolder files name
held_no_folder None name bytes h = tt
held_no_folder (Some held) name bytes h = no_folder (held.at (held.place name)) bytes h

-- what is listed is a folder
listed : (files : Option Held) (folder : List ℕ) (entries : List FolderEntry) → Lists files folder entries → LeadsToFolder files folder
listed None folder entries h = tt
listed (Some held) folder entries h = h.0

pub entered : (files : Option Held) (folder : List ℕ) (entries : List FolderEntry) → IsFolder files folder entries → LeadsToFolder files folder
entered files folder entries h = listed files folder _ h.listed

pub listed_ok : {A E : Type 0} (r : Result A E) (entries : A → List FolderEntry) (files : Option Held) (folder : List ℕ) → is_ok r ≡ true → IfOk r (λ a. Lists files folder (entries a)) → LeadsToFolder files folder
listed_ok (Ok a) entries files folder ok h = listed files folder (entries a) h
listed_ok (Err e) entries files folder ok h = absurd (false≢true ok)
