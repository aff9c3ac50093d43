use Rattle.std.proofs.Common.{◌≡◌, ◌+◌, length, sym, ◌∙◌, ap, length-append, arith}
use Rattle.std.proofs.lemmas.Bool.{eqb-true}
use Rattle.segment_files.specs.Remarks.{lines_in}
use Rattle.name_remarks.specs.Bindings.{nothing}
use Rattle.folder_of_locks.proofs.TakenLines.{taken_next, all_taken, empty_lines}
use Rattle.folder_of_locks.proofs.kept_lines.recorded_of.Goals as goal

pub loop-rest-preserved : goal.loop-rest-preserved
loop-rest-preserved c =
    let rest = c.loop-rest.rest.now in
    let line = c.split_line.result.0.now in
    let after = c.split_line.result.1.now in
    let inv = c.loop-rest.invariant in
    let long : length rest ≡ length line + length after = ap length c.split_line.ensures.split ∙ length-append line after in
    record {
      lines = taken_next (lines_in c.args.lines.now) (nothing c.args.rings) c.loop-rest.recorded c.take_line.new.recorded c.loop-rest.place line (lines_in rest) (lines_in after) inv.lines c.split_line.ensures.lines c.in-Ok-take_line.ensures.ok;
      few = omega (arith, long, inv.few, c.split_line.ensures.some);
    }

pub returns-clause-ok : goal.returns-clause-ok
returns-clause-ok c =
    all_taken (lines_in c.args.lines.now) (nothing c.args.rings) c.loop-rest.recorded c.loop-rest.place (lines_in c.loop-rest.rest.now) c.loop-rest.invariant.lines
    (empty_lines c.loop-rest.rest.now (eqb-true (length c.loop-rest.rest.now) 0 (sym c.is_empty.ensures ∙ c.loop-rest-test.false)))
