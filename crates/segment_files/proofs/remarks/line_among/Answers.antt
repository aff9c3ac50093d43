use Rattle.std.proofs.Common.{◌≡◌, length, sym, ◌∙◌, ap, arith}
use Rattle.std.proofs.lemmas.Bool.{eqb-true}
use Rattle.segment_files.specs.Remarks.{lines_in, line_among}
use Rattle.segment_files.proofs.RemarkSteps.{remark_among, other_among, among_most, among_none, among_empty}
use Rattle.segment_files.proofs.remarks.line_among.Goals as goal
use Rattle.segment_files.proofs.remarks.line_among.Goals.{then-loop-left-test+else-not-is_empty, else-loop-left-test}

pub overflow_add-line : goal.overflow_add-line
overflow_add-line c =
    let most = among_most (lines_in c.loop-left.rest.now) c.loop-left.left in
    omega (arith, most, c.loop-left.invariant, c.requires, c.loop-left-test.true)

pub loop-left-preserved-then-not-is_remark : goal.loop-left-preserved-then-not-is_remark
loop-left-preserved-then-not-is_remark c =
    let one = other_among c.loop-left.rest.now c.split_line.result.0.now c.split_line.result.1.now c.loop-left.left c.split_line.ensures.lines (omega (arith, c.loop-left-test.true)) (sym c.is_remark.ensures ∙ c.if-not-is_remark.true) in
    omega (arith, one, c.loop-left.invariant)

pub loop-left-preserved : goal.loop-left-preserved
loop-left-preserved c =
    let one = remark_among c.loop-left.rest.now c.split_line.result.0.now c.split_line.result.1.now c.loop-left.left c.split_line.ensures.lines (omega (arith, c.loop-left-test.true)) (sym c.is_remark.ensures ∙ c.if-not-is_remark.false) in
    omega (arith, one, c.loop-left.invariant)

pub overflow_add-result : goal.overflow_add-result
overflow_add-result c =
    let most = among_most (lines_in c.loop-left.rest.now) c.loop-left.left in
    omega (arith, most, c.loop-left.invariant, c.requires)

pub returns : goal.returns
returns c = elim c.loop-left-test.branch [
  | then-loop-left-test+else-not-is_empty w ↦
      let all = among_empty c.loop-left.rest.now c.loop-left.left (eqb-true (length c.loop-left.rest.now) 0 (sym w.is_empty.ensures ∙ w.if-not-is_empty.false)) in
      omega (arith, all, c.loop-left.invariant)
  | else-loop-left-test w ↦
      let zero : c.loop-left.left ≡ 0 = omega (arith, w.loop-left-test.false) in
      let none : line_among (lines_in c.loop-left.rest.now) c.loop-left.left ≡ 0 = ap (line_among (lines_in c.loop-left.rest.now)) zero ∙ among_none (lines_in c.loop-left.rest.now) in
      omega (arith, zero, none, c.loop-left.invariant)
]
