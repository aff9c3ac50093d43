use Rattle.std.proofs.Common.{◌≡◌, ◌∙◌}
use Rattle.std.specs.Prelude.{decimal}
use Rattle.tool_parts.proofs.legal.tell_sums.Goals as goal

pub returns : goal.returns
returns g c =
    let rings : c.as_bytes-rings.result.now ≡ decimal c.args.sums.now.rings = c.as_bytes-rings.ensures.value ∙ c.format.ensures.text in
    let events : c.as_bytes-events.result.now ≡ decimal c.args.sums.now.events = c.as_bytes-events.ensures.value ∙ c.format-2.ensures.text in
    let granted : c.as_bytes-granted.result.now ≡ decimal c.args.sums.now.granted = c.as_bytes-granted.ensures.value ∙ c.format-3.ensures.text in
    let corrupted : c.as_bytes-corrupted.result.now ≡ decimal c.args.sums.now.corrupted = c.as_bytes-corrupted.ensures.value ∙ c.format-4.ensures.text in
    let surveys : c.as_bytes-surveys.result.now ≡ decimal c.args.sums.now.surveys = c.as_bytes-surveys.ensures.value ∙ c.format-5.ensures.text in
    rw (← rings, ← events, ← granted, ← corrupted, ← surveys) c.put_all.ensures
