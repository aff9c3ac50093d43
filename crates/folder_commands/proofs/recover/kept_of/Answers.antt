use Rattle.std.proofs.Common.{◌≡◌, ℕ, ◌-◌, length, sym, ap, ◌∙◌, subst, arith}
use Rattle.saved_history.specs.Content.{content}
use Rattle.tool_parts.specs.Kept.{IsKept}
use Rattle.tool_parts.specs.declared.left.LeftOut.{LeftOut}
use Rattle.folder_commands.proofs.Keeping.{kept_plain}
use Rattle.folder_commands.proofs.recover.kept_of.Goals as goal

pub returns-in-Ok-clause-ok : goal.returns-in-Ok-clause-ok
returns-in-Ok-clause-ok c =
    let n : ℕ = length c.args.bytes.now in
    let none : 0 ≡ n - n = omega arith in (
      n,
      subst (λ (l : LeftOut). IsKept c.args.salvage c.args.bytes.now (content c.in-Ok.saved) n l.bad) (sym c.none.ensures) (kept_plain c.args.salvage c.args.bytes.now (content c.in-Ok.saved) c.if-not-salvage.true c.in-Ok.ensures),
      ap (λ (l : LeftOut). l.bytes) c.none.ensures ∙ none,
    )
