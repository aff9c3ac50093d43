use Rattle.std.proofs.Common.{◌++◌, encode_utf8, encode_utf8_all, sym, ap, ◌∙◌, append_assoc, rules}
use Rattle.std.proofs.Output.{has_written_append}
use Rattle.tool_parts.proofs.one_line.put_char.Goals as goal

pub loop-part-preserved : goal.loop-part-preserved
loop-part-preserved g c = (
  search rules,
  λ plain.
      let now = c.loop-part.invariant.1 plain in
      let ch = c.in-Some.part in (
        now.0 ++ encode_utf8 ch,
        has_written_append _ _ _ _ _ _ now.1 (search rules),
        append_assoc now.0 (encode_utf8 ch) _
            ∙ ap (λ l. now.0 ++ encode_utf8_all l) (sym c.in-Some.ensures.steps.1.0)
            ∙ now.2,
      ),
)
