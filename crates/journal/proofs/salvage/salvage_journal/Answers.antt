use Rattle.std.proofs.Common.{Err, sym, subst}
use Rattle.journal.specs.declared.errors.RecoverError.{RecoverError}
use Rattle.journal.specs.Recovery.{IsRightRecovery}
use Rattle.journal.specs.Salvaging.{IsRightSalvage}
use Rattle.journal.proofs.Losses.{lost_answer, left_more, first_more}
use Rattle.journal.proofs.salvage.salvage_journal.Goals as goal

pub returns-in_default : goal.returns-in_default
returns-in_default c =
    let h = c.cuts.invariant in
    subst (λ (e : RecoverError). IsRightSalvage c.args.bytes.now (Err e)) (sym c.lost.ensures)
    (lost_answer c.args.bytes.now c.cuts.kept c.cuts.bad h.left_out c.cuts.first c.in-Err.error h.first c.in-Err.ensures (sym c.in_default.ensures))

pub cuts-preserved : goal.cuts-preserved
cuts-preserved c =
    let h = c.cuts.invariant in
    let s = c.in-Some-bad_start.ensures in
    record {
      left_out = left_more c.args.bytes.now c.cuts.kept c.cuts.bad h.left_out c.in-Some-bad_start.start c.in-Some.line c.in-Err.error s.0 s.1 s.2 c.in-Err.ensures (sym c.in-Some.ensures);
      first = subst (λ (e : RecoverError). IsRightRecovery c.args.bytes.now (Err e)) (sym c.first_of.ensures) (first_more c.args.bytes.now c.cuts.kept c.cuts.bad h.left_out c.cuts.first c.in-Err.error h.first c.in-Err.ensures);
    }
