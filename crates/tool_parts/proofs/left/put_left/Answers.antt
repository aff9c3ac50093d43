use Rattle.std.proofs.Common.{◌≡◌, ◌∙◌}
use Rattle.std.specs.Prelude.{decimal}
use Rattle.ring_check.specs.Names.{kind_name}
use Rattle.tool_parts.proofs.left.put_left.Goals as goal

pub returns-in-Syntax : goal.returns-in-Syntax
returns-in-Syntax g c =
    let left : c.as_bytes-left.result.now ≡ decimal c.args.bytes = c.as_bytes-left.ensures.value ∙ c.format.ensures.text in
    let line : c.as_bytes-line.result.now ≡ decimal c.in-Syntax.line = c.as_bytes-line.ensures.value ∙ c.format-in-Syntax.ensures.text in
    rw (c.in-Syntax.is, ← left, ← line) c.put_all.ensures

pub returns-in-Bad : goal.returns-in-Bad
returns-in-Bad g c =
    let left : c.as_bytes-left.result.now ≡ decimal c.args.bytes = c.as_bytes-left.ensures.value ∙ c.format.ensures.text in
    let line : c.as_bytes-line-in-Bad.result.now ≡ decimal c.in-Bad.line = c.as_bytes-line-in-Bad.ensures.value ∙ c.format-in-Bad.ensures.text in
    let kind : c.kind_word.result.now ≡ kind_name c.in-Bad.kind = c.kind_word.ensures in
    rw (c.in-Bad.is, ← left, ← line, ← kind) c.put_all-in-Bad.ensures
