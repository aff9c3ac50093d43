use Rattle.std.proofs.Common.{◌≤◌, List, Some, length, subst, arith}
use Rattle.std.specs.Prelude.{string_bytes}
use Rattle.std.specs.List.{All}
use Rattle.std.proofs.lemmas.List.{take_all}
use Rattle.std.proofs.lemmas.List.Elements.{All-more}
use Rattle.disks.specs.Folders.{path_in}
use Rattle.disks.specs.declared.disk.FolderEntry.{FolderEntry}
use Rattle.tool_parts.specs.Named.{IsApart}
use Rattle.tool_parts.proofs.outside.keep_entries_apart.Goals as goal

pub loop-entry-preserved : goal.loop-entry-preserved
loop-entry-preserved g c =
    let entry = c.entry-item.result in
    let apart = subst (λ (e : FolderEntry). IsApart (g.D.Disk.holds c.args.disk.now) (path_in c.args.folder.now (string_bytes e.name)) (Some c.args.made.now)) c.entry-item.is c.in-Ok.ensures.ok in
    All-more (λ (e : FolderEntry). IsApart (g.D.Disk.holds c.args.disk.now) (path_in c.args.folder.now (string_bytes e.name)) (Some c.args.made.now)) c.args.entries.now c.loop-entry.entry-index entry c.loop-entry-test.true c.loop-entry.invariant apart

pub returns-clause-ok : goal.returns-clause-ok
returns-clause-ok g c =
    let past = c.loop-entry-test.false in
    let end = c.loop-entry.auto.entry-index-end in
    let all : length c.args.entries.now ≤ c.loop-entry.entry-index = omega (arith, past, end) in
    subst (λ (es : List FolderEntry). All (λ (e : FolderEntry). IsApart (g.D.Disk.holds c.args.disk.now) (path_in c.args.folder.now (string_bytes e.name)) (Some c.args.made.now)) es) (take_all c.loop-entry.entry-index c.args.entries.now all) c.loop-entry.invariant
