-- A file that lies elsewhere is not refused as one in the folder.
use Rattle.std.proofs.Common.{◌≡◌, ℕ, ◌+◌, ◌==◌, Bool, true, false, List, length, Option, None, Some, ◌⊎◌, refl, inl, inr, codes}
use Rattle.std.specs.Prelude.{IsSome}
use Rattle.std.proofs.lemmas.Bool.{false≢true}
use Rattle.disks.specs.Held.{Held}
use Rattle.disks.specs.declared.disk.FolderEntry.{FolderEntry}
use Rattle.line_service.specs.declared.folder_errors.FolderError.{FolderError}
use Rattle.line_service.specs.declared.folder_errors.FolderError.TheVariants as names
use Rattle.line_service.specs.declared.segment_numbers.SegmentNumbers.{SegmentNumbers}
use Rattle.tool_parts.specs.Chained.{IsFolderFault, AreNamesRefused}
use Rattle.tool_parts.specs.Handed.{IsHandRefusal}
use Rattle.folder_commands.specs.JoinedFolder.{AreUnjoined, IsJoinRefusal}
use Rattle.disks.specs.Folders.{LeadsInto}
use Rattle.tool_parts.specs.Outside.{LiesIn, LiesElsewhere, IsOutsideRefusal}
use Rattle.tool_parts.specs.Handed.{file_of}
use Rattle.tool_parts.specs.Reading.{names_stream}
use Rattle.tool_parts.specs.Worlds.{World}
use Rattle.tool_parts.specs.declared.faults.ToolError.{ToolError}
use Rattle.tool_parts.specs.declared.faults.ToolError.TheVariants as tool
use Rattle.tool_parts.specs.declared.requests.JoinWords.{JoinWords}
use Rattle.std.specs.Borrow.{Bor}

module _ (made : Bor (List ℕ)) where
  of_names : (folder : List ℕ) (error : FolderError) → IsFolderFault folder error (tool.InFolder made) → ⊥
  of_names folder names.Unlisted h = h
  of_names folder (names.Foreign entry) h = h
  of_names folder (names.Irregular n) h = h
  of_names folder (names.Missing n) h = h
  of_names folder names.OutOfMemory h = h

  of_folder : (folder : List ℕ) (entries : List FolderEntry) → AreNamesRefused folder entries (tool.InFolder made) → ⊥
  of_folder folder entries (inl h) = of_names folder h.0 h.2
  of_folder folder entries (inr h) = h.1

  of_place : (files : Option Held) (folder : List ℕ) → IsSome files → LiesElsewhere files folder (Some made.now) → (LeadsInto files folder made.now → ⊥) → LiesIn files folder made.now ⊎ LeadsInto files folder made.now → ⊥
  of_place None folder known apart unlinked h = false≢true known
  of_place (Some held) folder known apart unlinked (inl h) = apart h
  of_place (Some held) folder known apart unlinked (inr h) = unlinked h

  of_files : (files : Option Held) (folder : List ℕ) (r : SegmentNumbers) → AreUnjoined files folder r (tool.InFolder made) → ⊥
  of_files files folder r (inl h) = h.5
  of_files files folder r (inr (inl h)) = h
  of_files files folder r (inr (inr h)) = not_memory h
    where
      not_memory : tool.InFolder made ≡ tool.OutOfMemory → ⊥
      not_memory p = cc

  of_word : (b : Bool) (word text line : List ℕ) (was is : World) → names_stream word ≡ b → IsHandRefusal word text line was is (tool.InFolder made) → ⊥
  of_word false word text line was is e h = h.to_file e
  of_word true word text line was is e h = h.to_output e

  pub not_in_folder : (words : JoinWords) (was is : World) → IsSome was.files → LiesElsewhere was.files words.folder.now (Some made.now) → (LeadsInto was.files words.folder.now made.now → ⊥) → IsJoinRefusal words was is (tool.InFolder made) → ⊥
  not_in_folder words was is known apart unlinked (inl h) = h
  not_in_folder words was is known apart unlinked (inr (entries, folder, inl h)) = of_folder words.folder.now entries h
  not_in_folder words was is known apart unlinked (inr (entries, folder, inr (r, right, inl h))) = h
  not_in_folder words was is known apart unlinked (inr (entries, folder, inr (r, right, inr (inl h)))) = of_place was.files words.folder.now known apart unlinked h.1
  not_in_folder words was is known apart unlinked (inr (entries, folder, inr (r, right, inr (inr (inl h))))) = of_files was.files words.folder.now r h
  not_in_folder words was is known apart unlinked (inr (entries, folder, inr (r, right, inr (inr (inr (fs, chain, h)))))) = of_word (names_stream words.new.now) words.new.now _ _ was is refl h
