use Rattle.std.proofs.Common.{◌++◌, ℕ, ap, ◌∙◌}
use Rattle.name_remarks.specs.Remarks.{top, remark_text}
use Rattle.lock_journal.proofs.Telling.{on_ok}
use Rattle.name_service.proofs.NamedStates.{many_names}
use Rattle.name_service.proofs.NamedTexts.{all_names}
use Rattle.name_service.proofs.texts.put_names.Goals as goal

pub put_bindings-requires : goal.put_bindings-requires
put_bindings-requires c = many_names c.args.names.now c.are_kept.ensures

pub returns-in-Ok : goal.returns-in-Ok
returns-in-Ok c =
    let old = c.args.text.now.items in
    on_ok c.put_bindings.result _ _ c.put_bindings.ensures
    (all_names old c.put_name_remark.new.text.items c.put_bindings.new.text.items c.args.names.now (c.in-Ok.ensures.ok ∙ ap (λ (n : ℕ). old ++ remark_text (top n)) c.top.ensures))
