use Rattle.std.proofs.Common.{◌≡◌, length, ◌++◌, ap, ◌∙◌, refl}
use Rattle.std.specs.Prelude.{codes}
use Rattle.text_lines.specs.Spelling.{spaced, ended}
use Rattle.ring_state.specs.Sizes.{Size}
use Rattle.endless_ring.proofs.Filled.{fills_then, fills_same}
use Rattle.endless_ring.proofs.fills.put_size.Goals as goal

pub returns-clause-written : goal.returns-clause-written
returns-clause-written c =
    let numbers = spaced c.args.index ++ (spaced (length c.args.start.now.values) ++ ended c.args.start.now.k) in
    let n : c.n.result ≡ length c.args.start.now.values = c.n.ensures.is ∙ ap (λ (s : Size). s.n) c.params-size.ensures.is in
    let k : c.k.result ≡ c.args.start.now.k = c.k.ensures.is ∙ ap (λ (s : Size). s.k) c.params-size.ensures.is in
    let line = fills_same _ numbers (c.as_bytes.ensures ∙ (c.size_line.ensures ∙ rw (n, k) refl)) c.put.ensures in
    fills_then (codes "ring ") numbers c.put-behind.ensures line
