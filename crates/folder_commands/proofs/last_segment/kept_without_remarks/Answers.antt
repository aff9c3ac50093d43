use Rattle.std.proofs.Common.{◌≡◌, ℕ, ◌-◌, List, length, sym, subst, ◌∙◌}
use Rattle.std.specs.Prelude.{IfOk, IfErr}
use Rattle.saved_history.specs.declared.saved.Saved.{Saved}
use Rattle.saved_history.specs.Content.{content}
use Rattle.journal.specs.declared.errors.RecoverError.{RecoverError}
use Rattle.segment_files.proofs.Remarked.{plain_without}
use Rattle.tool_parts.specs.Kept.{IsKept, IsUnkept}
use Rattle.tool_parts.specs.declared.left.LeftOut.{LeftOut}
use Rattle.folder_commands.proofs.last_segment.kept_without_remarks.Goals as goal

pub returns-then-not-has_remark-clause-ok : goal.returns-then-not-has_remark-clause-ok
returns-then-not-has_remark-clause-ok c =
    subst (λ (u : List ℕ). IfOk c.kept_of.result (λ (x : Saved × LeftOut). (many : ℕ) × IsKept c.args.salvage u (content x.0) many x.1.bad × (x.1.bytes ≡ length u - many)))
    (sym (plain_without c.args.text.now (sym c.has_remark.ensures ∙ c.if-not-has_remark.true))) c.kept_of.ensures.ok

pub returns-then-not-has_remark-clause-err : goal.returns-then-not-has_remark-clause-err
returns-then-not-has_remark-clause-err c =
    subst (λ (u : List ℕ). IfErr c.kept_of.result (λ (e : RecoverError). IsUnkept c.args.salvage u e))
    (sym (plain_without c.args.text.now (sym c.has_remark.ensures ∙ c.if-not-has_remark.true))) c.kept_of.ensures.err
