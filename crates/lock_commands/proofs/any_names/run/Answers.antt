use Rattle.std.proofs.Common.{List, map, subst, refl, inl, inr, ap, ◌∙◌}
use Rattle.std.specs.Io.KnownBytes.{Appends}
use Rattle.folder_of_locks.specs.Holders.{hold_of}
use Rattle.line_replica.specs.declared.replica.Replica.{Replica}
use Rattle.lock_names.specs.Kept.{NamedView}
use Rattle.name_service.specs.declared.service.NameService.{NameService}
use Rattle.held_locks.specs.Kept.{LockView}
use Rattle.lock_commands.specs.Totals.{total_line, IsUntold}
use Rattle.lock_commands.proofs.any_names.run.Goals as goal

pub returns-in-Ok-tell_totals-clause-ok : goal.returns-in-Ok-tell_totals-clause-ok
returns-in-Ok-tell_totals-clause-ok g c = record {
  holders = map hold_of c.in-Ok-holders_of.holders.items;
  given = c.in-Ok-holders_of.ensures.ok;
  end = c.in-Ok-run_in_folder.end;
  served = rw c.as_slice.ensures.value at c.in-Ok-run_in_folder.ensures.ok;
  told = subst (λ (vs : List LockView). Appends (g.E.Write.contents c.args.err.now) (g.E.Write.contents c.tell_totals.new.err) (total_line vs)) (c.locks.ensures ∙ ap (λ (v : NamedView). v.locks) (c.names.ensures ∙ ap (λ (s : NameService). s.segment.named) (c.inner-2.ensures ∙ ap (λ (r : Replica NameService). r.numbered.inner) c.inner.ensures))) c.in-Ok-tell_totals.ensures.ok;
}

pub returns-in-Err-run_in_folder-clause-err : goal.returns-in-Err-run_in_folder-clause-err
returns-in-Err-run_in_folder-clause-err g c =
    inr (c.in-Ok.ensures.ok, inr (map hold_of c.in-Ok-holders_of.holders.items, c.in-Ok-holders_of.ensures.ok, inl (refl, rw c.as_slice.ensures.value at c.in-Err-run_in_folder.ensures.err)))

pub returns-clause-err : goal.returns-clause-err
returns-clause-err g c =
    inr (
      c.in-Ok.ensures.ok,
      inr (
        map hold_of c.in-Ok-holders_of.holders.items,
        c.in-Ok-holders_of.ensures.ok,
        inr (c.in-Ok-run_in_folder.end, rw c.as_slice.ensures.value at c.in-Ok-run_in_folder.ensures.ok, subst (λ (vs : List LockView). IsUntold vs (g.E.Write.contents c.args.err.now) (g.E.Write.contents c.tell_totals.new.err) c.in-Err-tell_totals.fault) (c.locks.ensures ∙ ap (λ (v : NamedView). v.locks) (c.names.ensures ∙ ap (λ (s : NameService). s.segment.named) (c.inner-2.ensures ∙ ap (λ (r : Replica NameService). r.numbered.inner) c.inner.ensures))) c.in-Err-tell_totals.ensures.err),
      ),
    )

-- ---- what a loss of power leaves

pub returns-in-Err-run_in_folder-clause-lasts : goal.returns-in-Err-run_in_folder-clause-lasts
returns-in-Err-run_in_folder-clause-lasts g c = λ synced some.
    inr (map hold_of c.in-Ok-holders_of.holders.items, c.in-Ok-holders_of.ensures.ok, rw c.as_slice.ensures.value at (c.run_in_folder.ensures.lasts synced some))

pub returns-in-Ok-tell_totals-clause-lasts : goal.returns-in-Ok-tell_totals-clause-lasts
returns-in-Ok-tell_totals-clause-lasts g c = λ synced some.
    inr (map hold_of c.in-Ok-holders_of.holders.items, c.in-Ok-holders_of.ensures.ok, rw c.as_slice.ensures.value at (c.run_in_folder.ensures.lasts synced some))

pub returns-clause-lasts : goal.returns-clause-lasts
returns-clause-lasts g c = λ synced some.
    inr (map hold_of c.in-Ok-holders_of.holders.items, c.in-Ok-holders_of.ensures.ok, rw c.as_slice.ensures.value at (c.run_in_folder.ensures.lasts synced some))

-- ---- what one machine with names answered

pub returns-in-Err-run_in_folder-clause-life : goal.returns-in-Err-run_in_folder-clause-life
returns-in-Err-run_in_folder-clause-life g c =
    inr (map hold_of c.in-Ok-holders_of.holders.items, c.in-Ok-holders_of.ensures.ok, rw c.as_slice.ensures.value at c.run_in_folder.ensures.life)

pub returns-in-Ok-tell_totals-clause-life : goal.returns-in-Ok-tell_totals-clause-life
returns-in-Ok-tell_totals-clause-life g c =
    inr (map hold_of c.in-Ok-holders_of.holders.items, c.in-Ok-holders_of.ensures.ok, rw c.as_slice.ensures.value at c.run_in_folder.ensures.life)

pub returns-clause-life : goal.returns-clause-life
returns-clause-life g c =
    inr (map hold_of c.in-Ok-holders_of.holders.items, c.in-Ok-holders_of.ensures.ok, rw c.as_slice.ensures.value at c.run_in_folder.ensures.life)
