use Rattle.std.proofs.Common.{List, ℕ, ◌∷◌, ◌++◌, ap, ◌∙◌}
use Rattle.std.specs.Fmt.{decimal}
use Rattle.text_lines.specs.Spelling.{ended}
use Rattle.endless_ring.proofs.Filled.{fills_then, fills_same}
use Rattle.endless_ring.proofs.fills.put_word.Goals as goal

pub returns : goal.returns
returns c =
    let end = c.byte.ensures ∙ ap (λ (t : List ℕ). 10 ∷ t) c.new-line.ensures in
    let told = c.as_bytes.ensures ∙ (c.number.ensures.is ∙ ap (λ (t : List ℕ). decimal c.args.number ++ t) end) in
    let line = fills_same _ (ended c.args.number) told c.put.ensures in
    fills_then c.args.word.now (ended c.args.number) c.put-behind.ensures line
