use Rattle.std.proofs.Common.{◌≡◌, ◌++◌, List, ℕ, codes, decimal, ap, ◌∙◌}
use mathlib.Core.List.{append-nil}
use Rattle.text_lines.proofs.Writing.{writes_same}
use Rattle.tool_parts.proofs.chain.put_count.Goals as goal

pub returns : goal.returns
returns g c =
    let n : c.as_bytes.result.now ≡ decimal c.args.segments = c.as_bytes.ensures.value ∙ c.format.ensures.text in
    writes_same _ _ c.put_all.result _ (codes "legal segments " ++ decimal c.args.segments) (ap (λ (t : List ℕ). codes "legal segments " ++ t) (append-nil c.as_bytes.result.now ∙ n)) c.put_all.ensures
