use Rattle.std.proofs.Common.{◌≡◌, ◌∙◌}
use Rattle.std.specs.Prelude.{decimal}
use Rattle.tool_parts.proofs.left.put_unnamed.Goals as goal

pub returns : goal.returns
returns g c =
    let left : c.as_bytes.result.now ≡ decimal c.args.bytes = c.as_bytes.ensures.value ∙ c.format.ensures.text in
    rw (← left) c.put_all.ensures
