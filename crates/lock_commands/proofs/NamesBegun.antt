-- The first segment whose lines are served.
use Rattle.std.proofs.Common.{◌≡◌, ℕ, List, Bool, Option, None, Some, refl, sym, subst, ◌∙◌}
use Rattle.std.specs.Prelude.{is_some, IsSome}
use Rattle.std.specs.Option.{option_map}
use Rattle.disks.specs.Held.{Held}
use Rattle.line_service.specs.SegmentNames.{segment_file}
use Rattle.line_service.specs.Segments.{Moment}
use Rattle.line_service.proofs.SegmentLasting.{replaced_known, if_some}
use Rattle.folder_of_locks.specs.NameFolders.{NamePlace}
use Rattle.tool_parts.specs.declared.requests.LocksWords.{LocksWords}
use Rattle.lock_commands.specs.Locks.{folder_of}
use Rattle.lock_commands.specs.NamesStarted.{NamesService, names_answering, names_by_segments, NamesBeginWith, names_begin, IsPutAgain, HasBegunAfter, HasBegunFrom, NamesHaveStarted}
use Rattle.lock_commands.proofs.ServedLocked as served
use Rattle.lock_commands.proofs.NamesUnderLock.{names_line_same}

mapped_some : {A B : Type 0} (f : A → B) (o : Option A) → is_some (option_map f o) ≡ is_some o
mapped_some f None = refl
mapped_some f (Some x) = refl

-- the service begins so, by the lines that are put there again
pub begins_with_lines : {A : Type 0} (items : A → List ℕ) (words : LocksWords) (start : NamePlace) (lines : Option A) (due : Bool) (service : NamesService) → due ≡ is_some lines → NamesBeginWith words due start.names start.size service
    → NamesBeginWith words (is_some (option_map items lines)) start.names start.size service
begins_with_lines items words start lines due service is begins = subst (λ (b : Bool). NamesBeginWith words b start.names start.size service) (is ∙ sym (mapped_some items lines)) begins

pub names_have_started : {A : Type 0} (items : A → List ℕ) (words : LocksWords) (start : NamePlace) (files : Option Held) (first : Moment NamesService) (lines : Option A) (due : Bool) (service : NamesService) → IsPutAgain (names_begin start.number start.behind start.names) start.front (option_map items lines)
    → due ≡ is_some lines → NamesBeginWith words due start.names start.size service → HasBegunFrom (folder_of words) start.number start.behind (option_map items lines) service files first → NamesHaveStarted words start files first
names_have_started items words start files first lines due service again is begins begun = record {
  lines = option_map items lines;
  again = again;
  service = service;
  begins = begins_with_lines items words start lines due service is begins;
  begun = begun;
}

-- where the content of files was known, it is known when the segment after those lines has begun
pub begun_after_known : (folder : List ℕ) (number : ℕ) (lines : List ℕ) (service : NamesService) (files : Option Held) (first : Moment NamesService) → HasBegunAfter folder number lines service files first → IsSome files → IsSome first.files
begun_after_known folder number lines service files first begun some =
    let mid = begun.mid in
    let known = replaced_known files mid.files (segment_file folder number) (Some lines) begun.put.put some in
    (served.parts_know names_answering names_by_segments names_line_same folder mid first begun.ended.2.parts begun.ended.2.served known lines (if_some files (mid.journal ≡ Some lines) some begun.put.journal)).0
