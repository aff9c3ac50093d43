use Rattle.std.proofs.Common.{List, ℕ, sym, subst, ◌∙◌}
use Rattle.segment_files.specs.Chain.{IsReadJournal}
use Rattle.segment_files.proofs.Remarked.{plain_without}
use Rattle.segment_files.proofs.segments.read_rest.Goals as goal

pub returns-then-not-has_remark : goal.returns-then-not-has_remark
returns-then-not-has_remark c =
    subst (λ (u : List ℕ). IsReadJournal u c.read_journal.result)
    (sym (plain_without c.args.rest.now (sym c.has_remark.ensures ∙ c.if-not-has_remark.true))) c.read_journal.ensures
