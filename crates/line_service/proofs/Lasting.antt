-- What lasts of notes that were added.
use Rattle.std.proofs.Common.{◌≡◌, ℕ, List, [], take, drop, Option, Some, None, Result, Ok, Err, sym}
use Rattle.std.specs.Io.KnownBytes.{Appends}
use Rattle.std.proofs.lemmas.List.{append-nil, take-append-drop}
use Rattle.text_lines.specs.Writing.{Wrote}
use Rattle.text_lines.proofs.Writing.{wrote_none, wrote_kept}
use Rattle.disks.specs.Lasting.{Adds, Lasts}
use Rattle.line_service.specs.Loop.{AllLasts}

pub lasts_wrote : {T E : Type 0} (r : Result T E) (old new : Option (List ℕ)) (bytes : List ℕ) → Lasts r old new bytes → (left : List ℕ) × Wrote old new bytes left
lasts_wrote (Ok u) old new bytes h = ([], (bytes, sym (append-nil bytes), h))
lasts_wrote (Err e) old new bytes h = (bytes, wrote_kept old old new bytes bytes (wrote_none old bytes) h)

pub adds_wrote : {T : Type 0} (r : Result T ℕ) (old new : Option (List ℕ)) (bytes : List ℕ) → Adds r old new bytes → (left : List ℕ) × Wrote old new bytes left
adds_wrote (Ok u) old new bytes h = ([], (bytes, sym (append-nil bytes), h))
adds_wrote (Err n) old new bytes h = (drop n bytes, (take n bytes, sym (take-append-drop n bytes), h.1))

pub all_last : (was is old new : Option (List ℕ)) (bytes : List ℕ) → Appends was is bytes → Appends old new bytes → AllLasts was old → AllLasts is new
all_last None is old new bytes p q h = absurd h
all_last (Some a) None old new bytes p q h = absurd p
all_last (Some a) (Some b) None new bytes p q h = absurd (none_some h)
  where
    none_some : None ≡ Some a → ⊥
    none_some e = cc
all_last (Some a) (Some b) (Some c) None bytes p q h = absurd q
all_last (Some a) (Some b) (Some c) (Some d) bytes p q h = cc
