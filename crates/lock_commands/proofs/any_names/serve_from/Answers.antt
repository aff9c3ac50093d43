use Rattle.std.proofs.Common.{refl, sym, subst, inl, inr}
use Rattle.folder_of_locks.specs.NameFolders.{name_place_of}
use Rattle.line_service.specs.declared.segmented.EndFault.TheVariants as end
use Rattle.tool_parts.specs.declared.faults.ToolError.{ToolError}
use Rattle.lock_commands.specs.Refusals.{IsBeginName}
use Rattle.lock_commands.specs.Locks.{folder_of}
use Rattle.lock_commands.proofs.NamesBegun.{names_have_started, begins_with_lines}
use Rattle.lock_commands.proofs.NamesLiving.{names_lived}
use Rattle.lock_commands.proofs.any_names.serve_from.Goals as goal

pub returns-in-Err-service_of-clause-err : goal.returns-in-Err-service_of-clause-err
returns-in-Err-service_of-clause-err g c =
    inl ((refl, refl), inl (refl, (end.OutOfMemory, subst (λ (e : ToolError). IsBeginName (folder_of c.args.words.now) end.OutOfMemory e) (sym c.in-Err-service_of.ensures.err) tt)))

pub returns-in-Err-begin-clause-err : goal.returns-in-Err-begin-clause-err
returns-in-Err-begin-clause-err g c =
    inl ((refl, refl), inr (_, c.in-Ok-service_of.service, c.in-Ok.ensures, begins_with_lines (λ bytes. bytes.items) c.args.words.now (name_place_of c.args.start) c.in-Ok.front _ _ c.is_some.ensures c.in-Ok-service_of.ensures.ok, c.in-Err-begin.ensures.err))

-- ---- all was served, or not

pub returns-in-Ok-serve_all-clause-ok : goal.returns-in-Ok-serve_all-clause-ok
returns-in-Ok-serve_all-clause-ok g c =
    let all = c.in-Ok-serve_all.ensures.ok in record {
      first = _;
      last = all.last;
      started = names_have_started (λ bytes. bytes.items) c.args.words.now (name_place_of c.args.start) (g.D.Disk.holds c.args.disk.now) _ c.in-Ok.front _ _ c.in-Ok.ensures c.is_some.ensures c.in-Ok-service_of.ensures.ok c.in-Ok-begin.ensures.ok;
      served = all.served;
      end_is = all.end_is;
      settled = all.settled;
    }

pub returns-clause-err : goal.returns-clause-err
returns-clause-err g c =
    inr (_, names_have_started (λ bytes. bytes.items) c.args.words.now (name_place_of c.args.start) (g.D.Disk.holds c.args.disk.now) _ c.in-Ok.front _ _ c.in-Ok.ensures c.is_some.ensures c.in-Ok-service_of.ensures.ok c.in-Ok-begin.ensures.ok, c.in-Err-serve_all.ensures.err)

-- ---- what a loss of power leaves

pub returns-in-Ok-serve_all-clause-lasts : goal.returns-in-Ok-serve_all-clause-lasts
returns-in-Ok-serve_all-clause-lasts g c = λ synced some.
    let whole = c.in-Ok-begin.ensures.whole synced some in
    inr (_, _, names_have_started (λ bytes. bytes.items) c.args.words.now (name_place_of c.args.start) (g.D.Disk.holds c.args.disk.now) _ c.in-Ok.front _ _ c.in-Ok.ensures c.is_some.ensures c.in-Ok-service_of.ensures.ok c.in-Ok-begin.ensures.ok, c.serve_all.ensures.lasts refl synced whole.0 whole.1)

pub returns-clause-lasts : goal.returns-clause-lasts
returns-clause-lasts g c = λ synced some.
    let whole = c.in-Ok-begin.ensures.whole synced some in
    inr (_, _, names_have_started (λ bytes. bytes.items) c.args.words.now (name_place_of c.args.start) (g.D.Disk.holds c.args.disk.now) _ c.in-Ok.front _ _ c.in-Ok.ensures c.is_some.ensures c.in-Ok-service_of.ensures.ok c.in-Ok-begin.ensures.ok, c.serve_all.ensures.lasts refl synced whole.0 whole.1)

-- ---- what one machine with names answered

pub returns-in-Ok-serve_all-clause-life : goal.returns-in-Ok-serve_all-clause-life
returns-in-Ok-serve_all-clause-life g c =
    let h = names_have_started (λ bytes. bytes.items) c.args.words.now (name_place_of c.args.start) (g.D.Disk.holds c.args.disk.now) _ c.in-Ok.front _ _ c.in-Ok.ensures c.is_some.ensures c.in-Ok-service_of.ensures.ok c.in-Ok-begin.ensures.ok in
    let noted = c.serve_all.ensures.noted in
    inr (names_lived c.args.words.now (name_place_of c.args.start) (g.D.Disk.holds c.args.disk.now) _ h c.are_kept.ensures _ _ _ _ _ noted.0 noted.1)

pub returns-clause-life : goal.returns-clause-life
returns-clause-life g c =
    let h = names_have_started (λ bytes. bytes.items) c.args.words.now (name_place_of c.args.start) (g.D.Disk.holds c.args.disk.now) _ c.in-Ok.front _ _ c.in-Ok.ensures c.is_some.ensures c.in-Ok-service_of.ensures.ok c.in-Ok-begin.ensures.ok in
    let noted = c.serve_all.ensures.noted in
    inr (names_lived c.args.words.now (name_place_of c.args.start) (g.D.Disk.holds c.args.disk.now) _ h c.are_kept.ensures _ _ _ _ _ noted.0 noted.1)
