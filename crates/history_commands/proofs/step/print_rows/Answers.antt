use Rattle.std.proofs.Common.{◌≡◌, ◌∙◌, ◌<◌, ℕ, List, inl, inr, refl, sym, ap, subst, length, None}
use Rattle.std.specs.Prelude.{slice_index}
use Rattle.std.specs.Io.KnownBytes.{Appends}
use Rattle.ring_model.specs.Ring.{Ring, ring_with}
use Rattle.run_commands.proofs.FirstFaults.{choices_allowed}
use Rattle.step_states.specs.Rows.{rows}
use Rattle.tool_parts.specs.Faults.{fault_of}
use Rattle.tool_parts.specs.declared.faults.ToolError.{ToolError}
use Rattle.history_commands.specs.Stated.{told_by, IsTableFault}
use Rattle.history_commands.specs.Stepped.{IsRowsRefusal}
use Rattle.history_commands.proofs.Told.{on_ok_map, if_err_map, table_ok, table_err}
use Rattle.history_commands.proofs.step.print_rows.Goals as goal

pub write_rows-requires : goal.write_rows-requires
write_rows-requires g c = λ i lt.
    let machines : length c.in-Ok.ring.values ≡ c.args.n = ap (λ (r : Ring). length r.values) c.in-Ok.ensures.ok.0 ∙ c.in-Ok.ensures.ok.1 in
    subst (λ (n : ℕ). slice_index c.args.choices.now i < n) (sym machines) (choices_allowed c.args.n c.args.k c.args.states.now c.args.choices.now i c.in-Ok.ensures.ok.2 lt)

pub returns-in-Err-clause-err : goal.returns-in-Err-clause-err
returns-in-Err-clause-err g c = inl (c.in-Err.ensures.err, refl)

pub returns-clause-ok : goal.returns-clause-ok
returns-clause-ok g c =
    let fault = c.in-Ok.ensures.ok.2 in
    rw (c.told.ensures, ← c.in-Ok.ensures.ok.0) (on_ok_map (told_by c.write_rows.result) _ _ (λ h. (fault, h)) (table_ok _ _ c.write_rows.result _ c.write_rows.ensures))

pub returns-clause-err : goal.returns-clause-err
returns-clause-err g c =
    let fault = c.in-Ok.ensures.ok.2 in
    rw (c.told.ensures, ← c.in-Ok.ensures.ok.0) (if_err_map (told_by c.write_rows.result) _ _ (λ e h. inr (fault, h)) (table_err _ _ c.write_rows.result _ c.write_rows.ensures))
