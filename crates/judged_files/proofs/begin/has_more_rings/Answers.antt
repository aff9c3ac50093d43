use Rattle.std.proofs.Common.{◌≡◌, length, sym, ◌∙◌, arith}
use Rattle.std.proofs.lemmas.Bool.{eqb-true, le-ltb}
use Rattle.judged_files.specs.Lines.{block_count}
use Rattle.judged_files.proofs.Reading.{blocks_none}
use Rattle.judged_files.proofs.begin.has_more_rings.Goals as goal

pub returns : goal.returns
returns c =
    let rest = c.loop-rest.rest.now in
    let none : block_count rest ≡ 0 = blocks_none rest (eqb-true (length rest) 0 (sym c.is_empty.ensures ∙ c.loop-rest-test.false)) in
    sym (le-ltb c.loop-rest.left (block_count rest) (omega (arith, none))) ∙ c.loop-rest.invariant
