use Rattle.std.proofs.Common.{refl, inl, inr}
use Rattle.ring_service.specs.declared.chain_segments.ChainRules.{ChainRules}
use Rattle.tool_parts.proofs.LockedFolders.{locked_known}
use Rattle.serve_commands.specs.ServedFolder.{place_of}
use Rattle.serve_commands.proofs.UnderLock.{under_lock}
use Rattle.serve_commands.proofs.serve_folder.run_in_folder.Goals as goal

pub returns-in-Err-place_in-clause-err : goal.returns-in-Err-place_in-clause-err
returns-in-Err-place_in-clause-err g c =
    inr (g.D.Disk.holds c.lock_folder.new.disk, c.in-Ok-lock_folder.ensures.locked, inl ((refl, refl), refl, c.in-Err-place_in.ensures.err))

pub returns-in-Ok-serve_from-clause-ok : goal.returns-in-Ok-serve_from-clause-ok
returns-in-Ok-serve_from-clause-ok g c =
    let folder = c.args.folder.now in
    let before = g.D.Disk.holds c.args.disk.now in
    let there = g.D.Disk.holds c.lock_folder.new.disk in
    let start = place_of c.in-Ok-place_in.place in
    let locked = c.in-Ok-lock_folder.ensures.locked in
    let rules : ChainRules = record {
      files = record { folder = c.args.folder; synced = c.args.words.now.synced };
      limit = c.max.result;
      permits = c.permits_of.result;
    } in
    let served = c.in-Ok-serve_from.ensures.ok in record {
      rules = rules;
      by_words = (refl, c.max.ensures, refl, c.permits_of.ensures);
      apart = c.in-Ok.ensures.ok;
      there = there;
      locked = locked;
      start = start;
      stands = c.in-Ok-place_in.ensures.ok;
      first = served.0;
      last = served.1;
      run = served.2;
      held = under_lock rules folder start served.0 served.1 c.in-Ok-serve_from.end before there _ _ _ _ _ locked served.2;
    }

-- ---- what a loss of power leaves

pub returns-in-Ok-serve_from-clause-lasts : goal.returns-in-Ok-serve_from-clause-lasts
returns-in-Ok-serve_from-clause-lasts g c = λ synced some.
    let folder = c.args.folder.now in
    let there = g.D.Disk.holds c.lock_folder.new.disk in
    let locked = c.in-Ok-lock_folder.ensures.locked in
    let known = locked_known (g.D.Disk.holds c.args.disk.now) there folder locked some in
    let rules : ChainRules = record {
      files = record { folder = c.args.folder; synced = c.args.words.now.synced };
      limit = c.max.result;
      permits = c.permits_of.result;
    } in
    inr (
      rules,
      there,
      place_of c.in-Ok-place_in.place,
      (refl, c.max.ensures, refl, c.permits_of.ensures),
      locked,
      c.in-Ok-place_in.ensures.ok,
      c.serve_from.ensures.lasts synced known,
    )

pub returns-in-Err-serve_from-clause-lasts : goal.returns-in-Err-serve_from-clause-lasts
returns-in-Err-serve_from-clause-lasts g c = λ synced some.
    let folder = c.args.folder.now in
    let there = g.D.Disk.holds c.lock_folder.new.disk in
    let locked = c.in-Ok-lock_folder.ensures.locked in
    let known = locked_known (g.D.Disk.holds c.args.disk.now) there folder locked some in
    let rules : ChainRules = record {
      files = record { folder = c.args.folder; synced = c.args.words.now.synced };
      limit = c.max.result;
      permits = c.permits_of.result;
    } in
    inr (
      rules,
      there,
      place_of c.in-Ok-place_in.place,
      (refl, c.max.ensures, refl, c.permits_of.ensures),
      locked,
      c.in-Ok-place_in.ensures.ok,
      c.serve_from.ensures.lasts synced known,
    )
