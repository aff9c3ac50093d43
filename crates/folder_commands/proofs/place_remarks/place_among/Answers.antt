use Rattle.std.proofs.Common.{◌≡◌, ◌-◌, length, sym, ◌∙◌, arith}
use Rattle.std.proofs.lemmas.Bool.{eqb-true}
use Rattle.folder_commands.proofs.PlacesFound.{goes_on, found_all, found_none}
use Rattle.folder_commands.proofs.place_remarks.place_among.Goals as goal

pub loop-preserved : goal.loop-preserved
loop-preserved c =
    rw c.place_or-found.ensures (goes_on c.args.many c.loop.counter c.loop.found.now c.split_line.result.0.now c.loop.rest.now c.split_line.result.1.now _ c.loop-test.true c.split_line.ensures.lines c.loop.invariant)

pub returns-after-loop : goal.returns-after-loop
returns-after-loop c =
    let none : c.args.many - c.loop.counter ≡ 0 = omega (arith, c.loop-test.false) in
    sym (found_all (c.args.many - c.loop.counter) c.loop.found.now c.loop.rest.now none) ∙ c.loop.invariant

pub returns-then-is_empty : goal.returns-then-is_empty
returns-then-is_empty c =
    let none = eqb-true (length c.loop.rest.now) 0 (sym c.is_empty.ensures ∙ c.if-is_empty.true) in
    sym (found_none (c.args.many - c.loop.counter) c.loop.found.now c.loop.rest.now none) ∙ c.loop.invariant
