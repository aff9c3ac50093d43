use Rattle.std.proofs.Common.{[], ◌∷◌}
use Rattle.std.specs.Prelude.{map}
use Rattle.std.proofs.lemmas.Result.{IfErr-weaker, on_ok_weaker}
use Rattle.repair_report.specs.Reports.{row_of, report_text}
use Rattle.repair_report.proofs.Reporting.{some_done, turn_report, rounds_are}
use Rattle.repair_report.proofs.report.report_in_turn.Goals as goal

pub unreachable-requires : goal.unreachable-requires
unreachable-requires g c =
    let r = c.args.repairs.now in
    let are = c.passes.ensures.counted in
    some_done r r.passes are c.requires.done are.counted.all c.in_default.ensures

pub unreachable-requires-in_default-rounds_of : goal.unreachable-requires-in_default-rounds_of
unreachable-requires-in_default-rounds_of g c =
    let r = c.args.repairs.now in
    let are = c.passes.ensures.counted in
    some_done r c.args.counts.now are c.requires.done c.requires.counts.all c.in_default-rounds_of.ensures

pub returns-clause-ok : goal.returns-clause-ok
returns-clause-ok g c =
    let r = c.args.repairs.now in
    let p = c.in-Some.passes in
    let q = c.in-Some-rounds_of.rounds in
    let report =
    turn_report r c.args.lines p q c.passes.ensures.counted c.requires.done c.requires.turn c.in-Some.ensures
    (rounds_are r c.args.counts.now q c.study.result.now c.study.ensures c.requires.counts c.in-Some-rounds_of.ensures) in
    on_ok_weaker c.put_report.result (λ h. (map row_of (p ∷ q ∷ []), report_text c.args.lines (p ∷ q ∷ []), report, h.0, h.1)) c.put_report.ensures.ok

pub returns-clause-err : goal.returns-clause-err
returns-clause-err g c =
    let r = c.args.repairs.now in
    let p = c.in-Some.passes in
    let q = c.in-Some-rounds_of.rounds in
    let report =
    turn_report r c.args.lines p q c.passes.ensures.counted c.requires.done c.requires.turn c.in-Some.ensures
    (rounds_are r c.args.counts.now q c.study.result.now c.study.ensures c.requires.counts c.in-Some-rounds_of.ensures) in
    IfErr-weaker c.put_report.result _ _ (λ e h w. (map row_of (p ∷ q ∷ []), report_text c.args.lines (p ∷ q ∷ []), report, h w)) c.put_report.ensures.err
