use Rattle.std.proofs.Common.{Some, refl, inr}
use Rattle.line_service.specs.SegmentNames.{segment_file}
use Rattle.line_service.proofs.SegmentLasting.{begun_lasts, replaced_known}
use Rattle.folder_of_locks.specs.Folders.{place_of}
use Rattle.lock_life.specs.Runs.{by_segments}
use Rattle.lock_commands.specs.Locks.{folder_of}
use Rattle.lock_commands.proofs.Living.{has_started, lived}
use Rattle.lock_commands.proofs.locks.serve_from.Goals as goal

-- ---- all was served, or not

pub returns-in-Ok-serve_all-clause-ok : goal.returns-in-Ok-serve_all-clause-ok
returns-in-Ok-serve_all-clause-ok g c =
    let all = c.in-Ok-serve_all.ensures.ok in record {
      first = _;
      last = all.last;
      started = has_started c.args.words.now (place_of c.args.start) (g.D.Disk.holds c.args.disk.now) _ c.in-Ok.service c.in-Ok.ensures.ok c.in-Ok-begin_segment.ensures.ok c.are_kept.ensures c.requires.begin;
      served = all.served;
      end_is = all.end_is;
      settled = all.settled;
    }

pub returns-clause-err : goal.returns-clause-err
returns-clause-err g c =
    inr (_, has_started c.args.words.now (place_of c.args.start) (g.D.Disk.holds c.args.disk.now) _ c.in-Ok.service c.in-Ok.ensures.ok c.in-Ok-begin_segment.ensures.ok c.are_kept.ensures c.requires.begin, c.in-Err-serve_all.ensures.err)

-- ---- what a loss of power leaves

pub returns-in-Ok-serve_all-clause-lasts : goal.returns-in-Ok-serve_all-clause-lasts
returns-in-Ok-serve_all-clause-lasts g c = λ synced some.
    let begun = c.in-Ok-begin_segment.ensures.ok in
    let w = c.in-Ok-begin_segment.first.writer in
    let was = g.D.Disk.holds c.args.disk.now in
    let text = by_segments.text c.in-Ok.service c.args.start.number c.args.start.behind in
    let known = replaced_known was (g.D.Disk.holds c.begin_segment.new.disk) (segment_file (folder_of c.args.words.now) c.args.start.number) (Some text) begun.file.put some in
    let all = begun_lasts was (g.D.Grown.Grow.contents w.inner) (g.D.Grown.Grow.lasting w.inner) w.hasher text begun.file.journal some (c.in-Ok-begin_segment.ensures.lasts synced) in
    inr (_, _, has_started c.args.words.now (place_of c.args.start) (g.D.Disk.holds c.args.disk.now) _ c.in-Ok.service c.in-Ok.ensures.ok begun c.are_kept.ensures c.requires.begin, c.serve_all.ensures.lasts refl synced known all)

pub returns-clause-lasts : goal.returns-clause-lasts
returns-clause-lasts g c = λ synced some.
    let begun = c.in-Ok-begin_segment.ensures.ok in
    let w = c.in-Ok-begin_segment.first.writer in
    let was = g.D.Disk.holds c.args.disk.now in
    let text = by_segments.text c.in-Ok.service c.args.start.number c.args.start.behind in
    let known = replaced_known was (g.D.Disk.holds c.begin_segment.new.disk) (segment_file (folder_of c.args.words.now) c.args.start.number) (Some text) begun.file.put some in
    let all = begun_lasts was (g.D.Grown.Grow.contents w.inner) (g.D.Grown.Grow.lasting w.inner) w.hasher text begun.file.journal some (c.in-Ok-begin_segment.ensures.lasts synced) in
    inr (_, _, has_started c.args.words.now (place_of c.args.start) (g.D.Disk.holds c.args.disk.now) _ c.in-Ok.service c.in-Ok.ensures.ok begun c.are_kept.ensures c.requires.begin, c.serve_all.ensures.lasts refl synced known all)

-- ---- part of a life

pub returns-in-Ok-serve_all-clause-life : goal.returns-in-Ok-serve_all-clause-life
returns-in-Ok-serve_all-clause-life g c = λ off.
    let h = has_started c.args.words.now (place_of c.args.start) (g.D.Disk.holds c.args.disk.now) _ c.in-Ok.service c.in-Ok.ensures.ok c.in-Ok-begin_segment.ensures.ok c.are_kept.ensures c.requires.begin in
    let noted = c.serve_all.ensures.noted in
    inr (lived c.args.words.now (place_of c.args.start) (g.D.Disk.holds c.args.disk.now) _ h _ _ _ _ _ noted.0 off noted.1)

pub returns-clause-life : goal.returns-clause-life
returns-clause-life g c = λ off.
    let h = has_started c.args.words.now (place_of c.args.start) (g.D.Disk.holds c.args.disk.now) _ c.in-Ok.service c.in-Ok.ensures.ok c.in-Ok-begin_segment.ensures.ok c.are_kept.ensures c.requires.begin in
    let noted = c.serve_all.ensures.noted in
    inr (lived c.args.words.now (place_of c.args.start) (g.D.Disk.holds c.args.disk.now) _ h _ _ _ _ _ noted.0 off noted.1)
