use Rattle.std.proofs.Common.{List, ℕ, Some, inl, inr, refl, sym, subst}
use Rattle.disks.specs.Held.{IsHeld}
use Rattle.disks.specs.declared.disk.FolderEntry.{FolderEntry}
use Rattle.line_service.specs.SegmentNames.{segment_file}
use Rattle.tool_parts.specs.Handed.{file_of}
use Rattle.tool_parts.specs.Outside.{IsOutside}
use Rattle.folder_commands.specs.SegmentRecovered.{file_as, IsSegmentFault}
use Rattle.tool_parts.specs.Worlds.{world}
use Rattle.tool_parts.proofs.Folders.{entered}
use Rattle.folder_commands.proofs.SegmentLines.{handed_same, unhanded_same}
use Rattle.folder_commands.proofs.last_segment.recover_folder.Goals as goal

pub keep_outside-requires : goal.keep_outside-requires
keep_outside-requires g c = record { folder = entered (g.D.Disk.holds c.args.disk.now) c.args.words.now.file.now c.in-Ok.found.entries.items c.in-Ok.ensures.ok.1 }

pub returns-in-Err-clause-err : goal.returns-in-Err-clause-err
returns-in-Err-clause-err g c early late =
    let x = c.in-Err.ensures.err in
    elim x.2 [
      | inl h ↦ (x.0, x.1, inl h)
      | inr y ↦ (x.0, x.1, inr (y.0, y.1, inl y.2))
    ]

pub returns-in-Err-keep_outside-clause-err : goal.returns-in-Err-keep_outside-clause-err
returns-in-Err-keep_outside-clause-err g c early late =
    let x = c.in-Ok.ensures.ok in
    (c.in-Ok.found.entries.items, x.1, inr (x.0, x.2, inr (c.in-Ok.found.bytes.items, x.4, inl c.in-Err-keep_outside.ensures.err)))

pub returns-in-Err-recovered_segment-clause-err : goal.returns-in-Err-recovered_segment-clause-err
returns-in-Err-recovered_segment-clause-err g c early late =
    let x = c.in-Ok.ensures.ok in
    let held = subst (λ (t : List ℕ). IsHeld (g.D.Disk.holds c.args.disk.now) (segment_file c.args.words.now.file.now x.0.last) t) (sym c.as_slice.ensures.value) x.4 in
    let fault = subst (λ (n : ℕ). IsSegmentFault c.args.words.now.salvage c.args.words.now.file.now n c.as_slice.result.now c.in-Err-recovered_segment.fault) x.3 c.in-Err-recovered_segment.ensures.err in
    (c.in-Ok.found.entries.items, x.1, inr (x.0, x.2, inr (c.as_slice.result.now, held, inr (inl fault))))

pub returns-in-Ok-hand_out_segment-clause-ok : goal.returns-in-Ok-hand_out_segment-clause-ok
returns-in-Ok-hand_out_segment-clause-ok g c early late =
    let x = c.in-Ok.ensures.ok in
    let held = subst (λ (t : List ℕ). IsHeld (g.D.Disk.holds c.args.disk.now) (segment_file c.args.words.now.file.now x.0.last) t) (sym c.as_slice.ensures.value) x.4 in
    let outside = subst (λ (es : List FolderEntry). IsOutside (g.D.Disk.holds c.args.disk.now) c.args.words.now.file.now es (file_of (Some c.args.words.now.new.now))) c.deref.ensures.value c.in-Ok-keep_outside.ensures.ok in (
      c.in-Ok.found.entries.items,
      x.0,
      file_as c.as_slice.result.now c.in-Ok-recovered_segment.recovered,
      c.in-Ok-recovered_segment.ensures.file.0,
      x.1,
      x.2,
      held,
      outside,
      handed_same c.args.words.now.new.now (file_as c.as_slice.result.now c.in-Ok-recovered_segment.recovered) _ _ _ _
          (world (g.D.Disk.holds c.args.disk.now) early (g.W.Write.contents c.args.out.now) (g.E.Write.contents c.args.err.now))
          (world (g.D.Disk.holds c.hand_out_segment.new.disk) late (g.W.Write.contents c.hand_out_segment.new.out) (g.E.Write.contents c.hand_out_segment.new.err))
          c.in-Ok-recovered_segment.ensures.file.1 c.in-Ok-recovered_segment.ensures.file.2 (c.in-Ok-hand_out_segment.ensures.ok c.as_slice.result.now early late),
    )

pub returns-clause-err : goal.returns-clause-err
returns-clause-err g c early late =
    let x = c.in-Ok.ensures.ok in
    let held = subst (λ (t : List ℕ). IsHeld (g.D.Disk.holds c.args.disk.now) (segment_file c.args.words.now.file.now x.0.last) t) (sym c.as_slice.ensures.value) x.4 in (
      c.in-Ok.found.entries.items,
      x.1,
      inr (
        x.0,
        x.2,
        inr (
          c.as_slice.result.now,
          held,
          inr
              (inr (
                file_as c.as_slice.result.now c.in-Ok-recovered_segment.recovered,
                c.in-Ok-recovered_segment.ensures.file.0,
                refl,
                unhanded_same c.args.words.now.new.now (file_as c.as_slice.result.now c.in-Ok-recovered_segment.recovered) _ _ _ _
                    (world (g.D.Disk.holds c.args.disk.now) early (g.W.Write.contents c.args.out.now) (g.E.Write.contents c.args.err.now))
                    (world (g.D.Disk.holds c.hand_out_segment.new.disk) late (g.W.Write.contents c.hand_out_segment.new.out) (g.E.Write.contents c.hand_out_segment.new.err)) c.in-Err-hand_out_segment.fault
                    c.in-Ok-recovered_segment.ensures.file.1 c.in-Ok-recovered_segment.ensures.file.2 (c.in-Err-hand_out_segment.ensures.err c.as_slice.result.now early late),
              )),
        ),
      ),
    )

pub returns-in-Ok-hand_out_segment-clause-unmade : goal.returns-in-Ok-hand_out_segment-clause-unmade
returns-in-Ok-hand_out_segment-clause-unmade g c =
    let x = c.in-Ok.ensures.ok in
    let held = subst (λ (t : List ℕ). IsHeld (g.D.Disk.holds c.args.disk.now) (segment_file c.args.words.now.file.now x.0.last) t) (sym c.as_slice.ensures.value) x.4 in
    inr (c.in-Ok.found.entries.items, x.0, file_as c.as_slice.result.now c.in-Ok-recovered_segment.recovered, x.1, x.2, held, c.in-Ok-recovered_segment.ensures.file.0)

pub returns-clause-unmade : goal.returns-clause-unmade
returns-clause-unmade g c =
    let x = c.in-Ok.ensures.ok in
    let held = subst (λ (t : List ℕ). IsHeld (g.D.Disk.holds c.args.disk.now) (segment_file c.args.words.now.file.now x.0.last) t) (sym c.as_slice.ensures.value) x.4 in
    inr (c.in-Ok.found.entries.items, x.0, file_as c.as_slice.result.now c.in-Ok-recovered_segment.recovered, x.1, x.2, held, c.in-Ok-recovered_segment.ensures.file.0)
