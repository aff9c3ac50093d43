use Rattle.std.proofs.Common.{inr, map}
use Rattle.folder_of_locks.specs.NameFolders.{name_place_of}
use Rattle.folder_of_locks.specs.Holders.{hold_of}
use Rattle.lock_commands.proofs.NamesUnderLock.{names_under_lock, names_still_locked, names_refused_locked, names_started_known}
use Rattle.lock_commands.proofs.any_names.run_in_folder.Goals as goal

pub returns-in-Ok-serve_from-clause-ok : goal.returns-in-Ok-serve_from-clause-ok
returns-in-Ok-serve_from-clause-ok g c =
    let words = c.args.words.now in
    let before = g.D.Disk.holds c.args.disk.now in
    let there = g.D.Disk.holds c.lock_folder.new.disk in
    let listed = g.D.Disk.holds c.start_names.new.disk in
    let start = name_place_of c.in-Ok-start_names.start in
    let locked = c.in-Ok.ensures.locked in
    let started = c.in-Ok-start_names.ensures.ok in
    let run = c.in-Ok-serve_from.ensures.ok in record {
      there = there;
      locked = locked;
      listed = listed;
      start = start;
      started = started;
      run = run;
      held = names_under_lock words (map hold_of c.args.holders.now) start c.in-Ok-serve_from.end before there listed _ _ _ _ _ locked started run;
    }

-- ---- what a loss of power leaves

pub returns-in-Ok-serve_from-clause-lasts : goal.returns-in-Ok-serve_from-clause-lasts
returns-in-Ok-serve_from-clause-lasts g c = λ synced some.
    let words = c.args.words.now in
    let there = g.D.Disk.holds c.lock_folder.new.disk in
    let listed = g.D.Disk.holds c.start_names.new.disk in
    let start = name_place_of c.in-Ok-start_names.start in
    let locked = c.in-Ok.ensures.locked in
    let started = c.in-Ok-start_names.ensures.ok in
    let known = names_started_known words (map hold_of c.args.holders.now) (g.D.Disk.holds c.args.disk.now) there listed start locked started some in
    inr (there, listed, start, locked, started, c.serve_from.ensures.lasts synced known)

pub returns-in-Err-serve_from-clause-lasts : goal.returns-in-Err-serve_from-clause-lasts
returns-in-Err-serve_from-clause-lasts g c = λ synced some.
    let words = c.args.words.now in
    let there = g.D.Disk.holds c.lock_folder.new.disk in
    let listed = g.D.Disk.holds c.start_names.new.disk in
    let start = name_place_of c.in-Ok-start_names.start in
    let locked = c.in-Ok.ensures.locked in
    let started = c.in-Ok-start_names.ensures.ok in
    let known = names_started_known words (map hold_of c.args.holders.now) (g.D.Disk.holds c.args.disk.now) there listed start locked started some in
    inr (there, listed, start, locked, started, c.serve_from.ensures.lasts synced known)

-- ---- the folder stays locked

pub returns-in-Ok-serve_from-clause-held : goal.returns-in-Ok-serve_from-clause-held
returns-in-Ok-serve_from-clause-held g c = λ some.
    let listed = g.D.Disk.holds c.start_names.new.disk in
    inr (names_still_locked c.args.words.now (map hold_of c.args.holders.now) (name_place_of c.in-Ok-start_names.start) c.in-Ok-serve_from.end (g.D.Disk.holds c.args.disk.now) (g.D.Disk.holds c.lock_folder.new.disk) listed _ _ _ _ _ c.in-Ok.ensures.locked c.in-Ok-start_names.ensures.ok c.in-Ok-serve_from.ensures.ok some)

pub returns-in-Err-serve_from-clause-held : goal.returns-in-Err-serve_from-clause-held
returns-in-Err-serve_from-clause-held g c = λ some.
    let listed = g.D.Disk.holds c.start_names.new.disk in
    names_refused_locked c.args.words.now (map hold_of c.args.holders.now) (name_place_of c.in-Ok-start_names.start) (g.D.Disk.holds c.args.disk.now) (g.D.Disk.holds c.lock_folder.new.disk) listed _ _ _ _ _ _ c.in-Ok.ensures.locked c.in-Ok-start_names.ensures.ok some c.in-Err-serve_from.ensures.err

-- ---- what one machine with names answered

pub returns-in-Ok-serve_from-clause-life : goal.returns-in-Ok-serve_from-clause-life
returns-in-Ok-serve_from-clause-life g c =
    inr (g.D.Disk.holds c.lock_folder.new.disk, g.D.Disk.holds c.start_names.new.disk, name_place_of c.in-Ok-start_names.start, c.in-Ok.ensures.locked, c.in-Ok-start_names.ensures.ok, c.serve_from.ensures.life)

pub returns-in-Err-serve_from-clause-life : goal.returns-in-Err-serve_from-clause-life
returns-in-Err-serve_from-clause-life g c =
    inr (g.D.Disk.holds c.lock_folder.new.disk, g.D.Disk.holds c.start_names.new.disk, name_place_of c.in-Ok-start_names.start, c.in-Ok.ensures.locked, c.in-Ok-start_names.ensures.ok, c.serve_from.ensures.life)
