use Rattle.std.proofs.Common.{List, Ok, Some, inl, inr, refl, subst}
use Rattle.disks.specs.declared.disk.FolderEntry.{FolderEntry}
use Rattle.line_service.specs.SegmentNumbers.{IsRightNumbers}
use Rattle.tool_parts.specs.Chained.{AreNamesRefused}
use Rattle.folder_commands.proofs.last_file.file_among.Goals as goal

pub returns-in-Err-clause-err : goal.returns-in-Err-clause-err
returns-in-Err-clause-err g c =
    let names = subst (λ (es : List FolderEntry). AreNamesRefused c.args.folder.now es c.in-Err.fault) c.deref.ensures.value c.in-Err.ensures.err in
    (c.args.entries.items, c.requires, inl names)

pub returns-in-Ok-segment_bytes-clause-ok : goal.returns-in-Ok-segment_bytes-clause-ok
returns-in-Ok-segment_bytes-clause-ok g c =
    let right = subst (λ (es : List FolderEntry). IsRightNumbers es (Ok (Some c.in-Ok.numbers))) c.deref.ensures.value c.in-Ok.ensures.ok in
    (c.in-Ok.numbers, c.requires, right, refl, c.in-Ok-segment_bytes.ensures.ok)

pub returns-clause-err : goal.returns-clause-err
returns-clause-err g c =
    let right = subst (λ (es : List FolderEntry). IsRightNumbers es (Ok (Some c.in-Ok.numbers))) c.deref.ensures.value c.in-Ok.ensures.ok in
    (c.args.entries.items, c.requires, inr (c.in-Ok.numbers, right, c.in-Err-segment_bytes.ensures.err))
