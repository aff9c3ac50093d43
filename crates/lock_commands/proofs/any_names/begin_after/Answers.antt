use Rattle.std.proofs.Common.{Some, refl}
use Rattle.line_service.specs.SegmentNames.{segment_file}
use Rattle.line_service.specs.Segments.{moment_at}
use Rattle.line_service.proofs.SegmentLasting.{begun_lasts, replaced_known}
use Rattle.lock_commands.specs.NamesStarted.{HasBegunAfter}
use Rattle.lock_commands.proofs.NamesBegun.{begun_after_known}
use Rattle.lock_commands.proofs.any_names.begin_after.Goals as goal

pub returns-in-Ok-end_first-clause-ok : goal.returns-in-Ok-end_first-clause-ok
returns-in-Ok-end_first-clause-ok g c = record {
  mid = _;
  service_is = refl;
  number_is = c.in-Ok.ensures.number;
  put = c.in-Ok.ensures.begun;
  ended = c.in-Ok-end_first.ensures.ok;
  open_is = c.in-Ok-end_first.ensures.open;
}

pub returns-in-Ok-end_first-clause-whole : goal.returns-in-Ok-end_first-clause-whole
returns-in-Ok-end_first-clause-whole g c = λ synced some.
    let folder = c.args.rules.folder.now in
    let w = c.in-Ok.first.writer in
    let was = g.D.Disk.holds c.args.disk.now in
    let known = replaced_known was (g.D.Disk.holds c.begin_file.new.disk) (segment_file folder c.args.number) (Some c.args.front.now) c.in-Ok.ensures.begun.put some in
    let all = begun_lasts was (g.D.Grown.Grow.contents w.inner) (g.D.Grown.Grow.lasting w.inner) w.hasher c.args.front.now c.in-Ok.ensures.begun.journal some (c.in-Ok.ensures.lasts synced) in
    let begun : HasBegunAfter folder c.args.number c.args.front.now c.args.service.now was (moment_at g.D.Grown.Grow.contents c.end_first.new.service (g.D.Disk.holds c.end_first.new.disk) c.in-Ok-end_first.next) = record {
      mid = _;
      service_is = refl;
      number_is = c.in-Ok.ensures.number;
      put = c.in-Ok.ensures.begun;
      ended = c.in-Ok-end_first.ensures.ok;
      open_is = c.in-Ok-end_first.ensures.open;
    } in
    (begun_after_known folder c.args.number c.args.front.now c.args.service.now was _ begun some, c.in-Ok-end_first.ensures.whole synced known all)
