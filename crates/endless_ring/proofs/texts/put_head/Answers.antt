use Rattle.std.proofs.Common.{List, ℕ, [], ◌∷◌, ◌++◌, ◌∙◌}
use Rattle.std.specs.Prelude.{codes}
use Rattle.text_lines.specs.Spelling.{spaced, ended}
use Rattle.endless_ring.proofs.Filled.{fills_same, fills_then}
use Rattle.endless_ring.proofs.Texted.{head_filled}
use Rattle.endless_ring.proofs.texts.put_head.Goals as goal

pub returns-clause-written : goal.returns-clause-written
returns-clause-written c =
    let b = c.args.base in
    let digits : List ℕ = c.args.file.now.behind in
    let first : List ℕ = spaced c.args.file.now.number ++ ended 1 in
    let last : List ℕ = spaced b.events ++ (spaced b.grants ++ (spaced b.amount ++ ended b.calm)) in
    let numbers = fills_same _ first (c.as_bytes.ensures ∙ (rw c.number.ensures.is at c.last_two.ensures.is)) c.put-numbered.ensures in
    let digest = rw c.behind-digits.ensures.is at c.put-told.ensures in
    let sums = fills_same _ last (c.as_bytes-2.ensures ∙ c.base_numbers.ensures.is) c.put.ensures in
    let number = fills_then (codes "ringsegment 1 ") first c.put-begun.ensures numbers in
    let behind = fills_then (codes "behind ") (digits ++ 10 ∷ []) c.put-linked.ensures (fills_then digits (10 ∷ []) digest c.put-ended.ensures) in
    head_filled c.args.file.now b number behind (fills_then (codes "base ") last c.put-named.ensures sums)
