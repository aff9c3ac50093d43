use Rattle.std.proofs.Common.{◌≡◌, ◌+◌, ◌≤◌, ℕ, List, length, drop, ap, arith, length-drop, length-append}
use Rattle.std.specs.Fmt.{decimal}
use Rattle.std.proofs.lemmas.Fmt.{length-decimal-le}
use Rattle.text_lines.proofs.line.Line.number.Goals as goal

pub write_digits-self-inside-requires : goal.write_digits-self-inside-requires
write_digits-self-inside-requires c =
    let most : length (decimal c.args.number) ≤ 20 = length-decimal-le 20 c.args.number (omega arith) (omega arith) (omega arith) in
    let so_far : length (drop c.self.inside.start c.self.inside.bytes) ≡ length c.args.self.now = ap (λ (u : List ℕ). length u) c.self.view_is in
    let left = length-drop c.self.inside.start c.self.inside.bytes in
    (omega (arith, most, so_far, left, c.requires), omega arith)

pub returns-clause-short : goal.returns-clause-short
returns-clause-short c =
    let most : length (decimal c.args.number) ≤ 20 = length-decimal-le 20 c.args.number (omega arith) (omega arith) (omega arith) in
    let so_far : length (drop c.self.inside.start c.self.inside.bytes) ≡ length c.args.self.now = ap (λ (u : List ℕ). length u) c.self.view_is in
    let w = c.write_digits-self-inside in
    let grown : length (drop w.result w.new.buf) ≡ length (decimal c.args.number) + length (drop c.self.inside.start c.self.inside.bytes) = rw (w.ensures.written, length-append (decimal c.args.number) (drop c.self.inside.start c.self.inside.bytes)) in
    omega (arith, most, so_far, grown)
