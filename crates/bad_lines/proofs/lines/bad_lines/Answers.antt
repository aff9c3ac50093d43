use Rattle.std.proofs.Common.{◌≡◌, ◌++◌, ◌∙◌, List, length, map, ap, arith}
use Rattle.std.specs.Prelude.{Option}
use Rattle.std.specs.List.{flat_map}
use Rattle.std.proofs.lemmas.List.{length-map}
use Rattle.saved_history.specs.Content.{content, block_of}
use Rattle.ring_check.specs.Lines.{block_lines}
use Rattle.ring_check.specs.Table.{nothing}
use Rattle.bad_lines.specs.declared.wrongs.Bad.{Bad}
use Rattle.bad_lines.specs.declared.wrongs.BadLine.{BadLine}
use Rattle.bad_lines.specs.BadLines.{known, told, bad_among}
use Rattle.bad_lines.proofs.BlockLines.{text_told}
use Rattle.bad_lines.proofs.lines.bad_lines.Goals as goal

pub returns : goal.returns
returns c =
    let s = content c.args.saved.now in
    let blocks = bad_among (known (nothing s.version)) (flat_map block_lines s.rings) in
    let front = rw c.deref.ensures.value at c.in_ok-line.ensures.told in
    let first : c.add_blocks.new.out.items ≡ blocks = front ∙ ap (λ (u : List BadLine). u ++ blocks) c.new-out.ensures.items in
    let line = rw c.deref.ensures.value at c.in_ok-line.ensures.lines in
    let n : length (map block_of c.args.saved.now.rings.items) ≡ length c.args.saved.now.rings.items = length-map c.args.saved.now.rings.items block_of in
    let count : c.len.result ≡ length (map block_of c.args.saved.now.rings.items) = omega (arith, n, c.len.ensures, c.args.saved.now.rings.ok.0) in
    text_told s c.in_ok-line.line c.len.result c.add_blocks.new.out.items c.tell.new.out.items first line count
    (c.in_ok-tell.ensures ∙ ap (λ (x : Option Bad). c.add_blocks.new.out.items ++ told c.in_ok-line.line x) c.done_fault.ensures)
