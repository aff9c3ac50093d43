use Rattle.std.proofs.Common.{◌≡◌, ℕ, ◌+◌, ◌-◌, List, ◌++◌, length, take, ◌∙◌, ap, arith}
use Rattle.text_lines.specs.Limits.{line_limit}
use Rattle.line_service.proofs.LongLines.{kept_piece}
use Rattle.line_service.proofs.taking.keep.Goals as goal

pub returns : goal.returns
returns c = λ begun e.
    let line = c.args.line.now.items in
    let piece = c.args.piece.now in
    let n = c.len.ensures in
    let k = c.args.line.now.ok.0 in
    let size : c.len.result ≡ length line = omega (arith, n, k) in
    c.in_ok-extend_from_slice.ensures.items
    ∙ (ap (λ (x : List ℕ). line ++ x) (c.kept_part-kept.ensures ∙ ap (λ (m : ℕ). take (line_limit + 1 - m) piece) size) ∙ kept_piece piece begun line e)
