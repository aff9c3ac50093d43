use Rattle.std.proofs.Common.{◌∙◌, ◌<◌, length, refl, sym, arith}
use Rattle.std.proofs.lemmas.Bool.{eqb-false}
use Rattle.wrong_commands.proofs.Cuts.{starts, not_granted}
use Rattle.wrong_commands.proofs.chains.answers_in_a_segment_that_is_due.Goals as goal

pub returns : goal.returns
returns g c =
    let out = c.serve.new.out.items in
    let y = c.index.result.now in
    let full = c.serve.new.out.ok in
    let many = eqb-false c.serve.new.out.len 0 (sym c.is_empty.ensures ∙ c.if-is_empty.false) in
    let some : 0 < length out = omega (arith, many, full) in
    let letter = c.if-index-ne103.false in
    record { wrong = λ service rings h. not_granted h c.requires refl (starts out y c.index.ensures some (omega (arith, letter))) }
