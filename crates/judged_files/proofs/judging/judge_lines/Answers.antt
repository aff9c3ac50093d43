use Rattle.std.proofs.Common.{◌+◌, ◌<◌, ◌≤◌, Bool, length, sym, subst, ◌∙◌, arith}
use Rattle.std.proofs.lemmas.Bool.{eqb-true}
use Rattle.judged_files.specs.Lines.{whole_lines}
use Rattle.judged_files.proofs.Reading.{whole_first, whole_none, shorter}
use Rattle.judged_files.proofs.Stepping.{Reached, reached_more, reached_all, reached_same}
use Rattle.judged_files.proofs.judging.judge_lines.Goals as goal

pub loop-rest-preserved : goal.loop-rest-preserved
loop-rest-preserved c =
    let start = c.args.judge.now in
    let lines = whole_lines c.args.bytes.now in
    let now = c.loop-rest.judge in
    let done = c.loop-rest.done in
    let count = c.loop-rest.count in
    let rest = c.loop-rest.rest.now in
    let line = c.split_line.result.0.now in
    let after = c.split_line.result.1.now in
    let next = c.judge_line.new.judge in
    let noted = c.in-Ok.ensures.ok in
    let whole = whole_first rest line after c.split_line.ensures.lines (sym c.is_whole.ensures ∙ c.if-not-is_whole.false) in
    let here = reached_same start lines now done count (whole_lines rest) _ whole c.loop-rest.invariant.reached in
    record {
      reached = subst (λ (v : Bool). Reached start lines next v (count + 1) (whole_lines after)) (sym c.is_ended-done.ensures) (reached_more start lines now done count line (whole_lines after) noted.0 next here noted.1 noted.2);
      few = let less : length after < length rest = shorter rest line after c.split_line.ensures.split c.split_line.ensures.some in let few : count + length rest ≤ length c.args.bytes.now = c.loop-rest.invariant.few in omega (arith, less, few);
    }

pub returns-clause-count : goal.returns-clause-count
returns-clause-count c =
    (reached_all c.args.judge.now (whole_lines c.args.bytes.now) c.loop-rest.judge c.loop-rest.done c.loop-rest.count (whole_lines c.loop-rest.rest.now)
    (whole_none c.loop-rest.rest.now (eqb-true (length c.loop-rest.rest.now) 0 (sym c.is_empty.ensures ∙ c.loop-rest-test.false))) c.loop-rest.invariant.reached).0

pub returns-clause-ok : goal.returns-clause-ok
returns-clause-ok c =
    (reached_all c.args.judge.now (whole_lines c.args.bytes.now) c.loop-rest.judge c.loop-rest.done c.loop-rest.count (whole_lines c.loop-rest.rest.now)
    (whole_none c.loop-rest.rest.now (eqb-true (length c.loop-rest.rest.now) 0 (sym c.is_empty.ensures ∙ c.loop-rest-test.false))) c.loop-rest.invariant.reached).1
