use Rattle.std.proofs.Common.{◌≤◌, length, take, sym, subst, arith}
use Rattle.std.proofs.lemmas.Bool.{eqb-true}
use Rattle.line_service.specs.Answering.{IsLine, HasNoEnd}
use Rattle.line_service.proofs.Telling.{no_end_before, no_end_all, line_at}
use Rattle.line_replay.proofs.following.first_line.Goals as goal

pub returns-in-Some-clause-line : goal.returns-in-Some-clause-line
returns-in-Some-clause-line c =
    let first = c.in-Some.ensures in
    let below = first.0.high in
    let within : c.in-Some.place ≤ length c.args.bytes.now = omega (arith, below) in
    let before : HasNoEnd (take c.in-Some.place c.args.bytes.now) = no_end_before c.args.bytes.now c.in-Some.place within first.0.before in
    subst IsLine (sym c.split_at.ensures.front) (line_at c.args.bytes.now c.in-Some.place below before (eqb-true _ 10 first.1))

pub returns-in-None-clause-none : goal.returns-in-None-clause-none
returns-in-None-clause-none c = λ e.
    no_end_all c.args.bytes.now (length c.args.bytes.now) (omega arith) (no_end_before c.args.bytes.now (length c.args.bytes.now) (omega arith) c.in-None.ensures)
