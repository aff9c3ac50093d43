use Rattle.std.proofs.Common.{◌≡◌, ℕ, List, Option, true, None, Some, subst}
use Rattle.disks.specs.Held.{Held, bytes_of, is_folder, IsOneFile, Replaces}
use Rattle.line_service.specs.SegmentNames.{segment_file}
use Rattle.wrong_commands.proofs.Cuts.{if_some}
use Rattle.wrong_commands.proofs.Places.{known_of, folder_is_no_file, elsewhere}
use Rattle.wrong_commands.proofs.kept.serves_an_empty_folder_as_a_file.Goals as goal

pub returns-in-Ok : goal.returns-in-Ok
returns-in-Ok g c = record {
  wrong = λ saved end was is old new h.
      let before = g.D.Disk.holds c.args.disk.now in
      let after = g.D.Disk.holds c.replace.new.disk in
      let name = c.args._folder.now in
      let file = c.args.file.now in
      let bytes = g.C.Contents.bytes c.args.journal.now in
      let known = known_of before c.requires.known in
      let folder = if_some before known.0 (λ (held : Held). is_folder held name ≡ true) known.1 c.requires.folder in
      let empty = if_some before known.0 (λ (held : Held). (n : ℕ) → bytes_of held (segment_file name n) ≡ None) known.1 c.requires.empty in
      let apart = if_some before known.0 (λ (held : Held). (n : ℕ) → IsOneFile held file (segment_file name n) → ⊥) known.1 c.requires.apart in
      let put = subst (λ (x : Option Held). Replaces x after file (Some bytes)) known.1 c.in-Ok.ensures.replaced in
      folder_is_no_file c.args._words.now name known.0 before after saved end was is old new c.requires.named known.1 folder
      (λ then n at. elsewhere known.0 after file (segment_file name n) bytes put (apart n) (empty n) then at) h;
}
