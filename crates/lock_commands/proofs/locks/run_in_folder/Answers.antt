use Rattle.std.proofs.Common.{inr, map}
use Rattle.folder_of_locks.specs.Folders.{place_of}
use Rattle.folder_of_locks.specs.Holders.{hold_of}
use Rattle.tool_parts.proofs.LockedFolders.{locked_known}
use Rattle.lock_commands.specs.Locks.{folder_of, list_of}
use Rattle.lock_life.proofs.StartedBegin.{started_locks_begin}
use Rattle.lock_commands.proofs.StartedLocks.{started_known}
use Rattle.lock_commands.proofs.UnderLock.{under_lock, still_locked, refused_locked}
use Rattle.lock_commands.proofs.locks.run_in_folder.Goals as goal

pub returns-in-Ok-serve_from-clause-ok : goal.returns-in-Ok-serve_from-clause-ok
returns-in-Ok-serve_from-clause-ok g c =
    let words = c.args.words.now in
    let before = g.D.Disk.holds c.args.disk.now in
    let there = g.D.Disk.holds c.lock_folder.new.disk in
    let listed = g.D.Disk.holds c.start_locks.new.disk in
    let start = place_of c.in-Ok-start_locks.start in
    let locked = c.in-Ok.ensures.locked in
    let started = c.in-Ok-start_locks.ensures.ok in
    let run = c.in-Ok-serve_from.ensures.ok in record {
      there = there;
      locked = locked;
      listed = listed;
      start = start;
      started = started;
      run = run;
      held = under_lock words (map hold_of c.args.holders.now) start c.in-Ok-serve_from.end before there listed _ _ _ _ _ locked started run;
    }

-- ---- what a loss of power leaves

pub returns-in-Ok-serve_from-clause-lasts : goal.returns-in-Ok-serve_from-clause-lasts
returns-in-Ok-serve_from-clause-lasts g c = λ synced some.
    let words = c.args.words.now in
    let there = g.D.Disk.holds c.lock_folder.new.disk in
    let listed = g.D.Disk.holds c.start_locks.new.disk in
    let start = place_of c.in-Ok-start_locks.start in
    let locked = c.in-Ok.ensures.locked in
    let started = c.in-Ok-start_locks.ensures.ok in
    let known = started_known (folder_of words) (list_of words) (map hold_of c.args.holders.now) there listed start started (locked_known (g.D.Disk.holds c.args.disk.now) there (folder_of words) locked some) in
    inr (there, listed, start, locked, started, c.serve_from.ensures.lasts synced known)

pub returns-in-Err-serve_from-clause-lasts : goal.returns-in-Err-serve_from-clause-lasts
returns-in-Err-serve_from-clause-lasts g c = λ synced some.
    let words = c.args.words.now in
    let there = g.D.Disk.holds c.lock_folder.new.disk in
    let listed = g.D.Disk.holds c.start_locks.new.disk in
    let start = place_of c.in-Ok-start_locks.start in
    let locked = c.in-Ok.ensures.locked in
    let started = c.in-Ok-start_locks.ensures.ok in
    let known = started_known (folder_of words) (list_of words) (map hold_of c.args.holders.now) there listed start started (locked_known (g.D.Disk.holds c.args.disk.now) there (folder_of words) locked some) in
    inr (there, listed, start, locked, started, c.serve_from.ensures.lasts synced known)

-- ---- the folder stays locked

pub returns-in-Ok-serve_from-clause-held : goal.returns-in-Ok-serve_from-clause-held
returns-in-Ok-serve_from-clause-held g c = λ some.
    let listed = g.D.Disk.holds c.start_locks.new.disk in
    inr (still_locked c.args.words.now (map hold_of c.args.holders.now) (place_of c.in-Ok-start_locks.start) c.in-Ok-serve_from.end (g.D.Disk.holds c.args.disk.now) (g.D.Disk.holds c.lock_folder.new.disk) listed _ _ _ _ _ c.in-Ok.ensures.locked c.in-Ok-start_locks.ensures.ok c.in-Ok-serve_from.ensures.ok some)

pub returns-in-Err-serve_from-clause-held : goal.returns-in-Err-serve_from-clause-held
returns-in-Err-serve_from-clause-held g c = λ some.
    let listed = g.D.Disk.holds c.start_locks.new.disk in
    refused_locked c.args.words.now (map hold_of c.args.holders.now) (place_of c.in-Ok-start_locks.start) (g.D.Disk.holds c.args.disk.now) (g.D.Disk.holds c.lock_folder.new.disk) listed _ _ _ _ _ _ c.in-Ok.ensures.locked c.in-Ok-start_locks.ensures.ok some c.in-Err-serve_from.ensures.err

-- ---- the locks begin a segment

pub serve_from-requires-clause-begin : goal.serve_from-requires-clause-begin
serve_from-requires-clause-begin g c = λ entries kept fits.
    let words = c.args.words.now in
    started_locks_begin (folder_of words) (list_of words) (map hold_of c.args.holders.now) (g.D.Disk.holds c.lock_folder.new.disk) (g.D.Disk.holds c.start_locks.new.disk) (place_of c.in-Ok-start_locks.start) entries c.in-Ok-start_locks.ensures.ok kept fits

-- ---- part of a life

pub returns-in-Ok-serve_from-clause-life : goal.returns-in-Ok-serve_from-clause-life
returns-in-Ok-serve_from-clause-life g c = λ off.
    inr (g.D.Disk.holds c.lock_folder.new.disk, g.D.Disk.holds c.start_locks.new.disk, place_of c.in-Ok-start_locks.start, c.in-Ok.ensures.locked, c.in-Ok-start_locks.ensures.ok, c.serve_from.ensures.life off)

pub returns-in-Err-serve_from-clause-life : goal.returns-in-Err-serve_from-clause-life
returns-in-Err-serve_from-clause-life g c = λ off.
    inr (g.D.Disk.holds c.lock_folder.new.disk, g.D.Disk.holds c.start_locks.new.disk, place_of c.in-Ok-start_locks.start, c.in-Ok.ensures.locked, c.in-Ok-start_locks.ensures.ok, c.serve_from.ensures.life off)
