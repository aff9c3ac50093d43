use Rattle.std.proofs.Common.{◌∙◌, ◌++◌, ℕ, List, sym, ap, subst}
use Rattle.saved_history.specs.Content.{content}
use Rattle.ring_check.specs.Meaning.{IsRightText}
use Rattle.history_repairs.specs.Lines.{repairs_lines}
use Rattle.history_commands.specs.WithRepairs.{repairs_report, IsRepairsReportOf, IsRepairsTextRefusal}
use Rattle.history_commands.proofs.Told.{if_ok_map, if_err_map}
use Rattle.history_commands.proofs.Bounded.{all_bounded, report_refused}
use Rattle.history_commands.proofs.repairs.report_of_bytes.Goals as goal

pub add_repairs-requires : goal.add_repairs-requires
add_repairs-requires c = let legal = c.in_ok-saved.ensures.ok in subst IsRightText legal.1 legal.0.right

pub returns-in-Ok-clause-ok : goal.returns-in-Ok-clause-ok
returns-in-Ok-clause-ok c =
    let legal = c.in_ok-saved.ensures.ok in
    let saved = content c.in_ok-saved.saved in
    if_ok_map c.add_repairs.result _ (λ text. IsRepairsReportOf c.args.bytes.now text.items) (λ text h. (c.in_ok-saved.sums, legal.0, h ∙ ap (λ (t : List ℕ). t ++ repairs_lines saved) c.in-Ok.ensures.ok ∙ ap repairs_report (sym legal.1), all_bounded c.repairs_are_bounded.ensures legal.0.content legal.0.fits legal.0.right))
    c.add_repairs.ensures.ok

pub returns-in-Ok-clause-err : goal.returns-in-Ok-clause-err
returns-in-Ok-clause-err c = if_err_map c.add_repairs.result _ (IsRepairsTextRefusal c.args.bytes.now) (λ e h. rw h tt) c.add_repairs.ensures.err

pub returns-clause-err : goal.returns-clause-err
returns-clause-err c =
    let legal = c.in_ok-saved.ensures.ok in
    rw c.report_fault.ensures (report_refused c.args.bytes.now c.in_ok-saved.sums legal.0 (content c.in_ok-saved.saved) c.in-Err.fault legal.1 c.in-Err.ensures.err)
