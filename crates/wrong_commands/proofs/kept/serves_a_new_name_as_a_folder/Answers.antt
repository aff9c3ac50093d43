use Rattle.std.proofs.Common.{◌≡◌, ℕ, List, false}
use Rattle.disks.specs.Held.{Held, is_there, IsOneFile}
use Rattle.line_service.specs.SegmentNames.{segment_file}
use Rattle.wrong_commands.proofs.Cuts.{if_some}
use Rattle.wrong_commands.proofs.Places.{known_of, new_name_is_no_folder, begun_and_closed}
use Rattle.wrong_commands.proofs.kept.serves_a_new_name_as_a_folder.Goals as goal

pub returns-in-Ok-close_segment : goal.returns-in-Ok-close_segment
returns-in-Ok-close_segment g c = record {
  wrong = λ saved end was is old new h.
      let before = g.D.Disk.holds c.args.disk.now in
      let after = g.D.Disk.holds c.close_segment.new.disk in
      let name = c.args.rules.files.folder.now in
      let known = known_of before c.requires.known in
      let nothing = if_some before known.0 (λ (held : Held). is_there held name ≡ false) known.1 c.requires.new in
      let apart = if_some before known.0 (λ (held : Held). IsOneFile held (segment_file name 1) name → ⊥) known.1 c.requires.apart in
      new_name_is_no_folder c.args._words.now name known.0 before after saved end was is old new c.requires.named known.1 nothing
      (begun_and_closed name c.in_segment-service.result c.args.behind known.0 before after _ _ known.1 c.in-Ok.ensures.ok c.in-Ok.ensures.named c.in-Ok-close_segment.ensures.ok nothing apart) h;
}
