use Rattle.std.proofs.Common.{List, ℕ, ◌∷◌, ◌++◌, codes, ap, ◌∙◌}
use Rattle.std.proofs.Output.{has_written_of_eq}
use Rattle.std.specs.Fmt.{styled_decimal}
use Rattle.tool_parts.proofs.PaddedNumbers.{padded_number}
use Rattle.tool_parts.specs.OneLine.{one_line}
use Rattle.tool_parts.proofs.one_line.SegmentFileDisplay.fmt.Goals as goal

pub returns-clause-writes : goal.returns-clause-writes
returns-clause-writes g c = λ plain ok.
    let n = c.args.self.now.1 in
    let digits = ap (λ s. styled_decimal s n) c.laid_out.ensures ∙ padded_number n in
    has_written_of_eq _ _ _ _ _
    (ap (λ (ds : List ℕ). one_line c.args.self.now.0.now ++ 47 ∷ (ds ++ codes ".ring")) digits)
    (c.write.ensures.writes plain ok)
