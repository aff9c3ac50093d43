use Rattle.std.proofs.Common.{Some, ap, ◌∙◌}
use Rattle.strict_settings.proofs.FoundNames.{unread_is}
use Rattle.strict_settings.proofs.reading.unread_of.Goals as goal

pub returns-in-Some : goal.returns-in-Some
returns-in-Some c = unread_is c.args.bytes.now _ _ c.in-Ok.ensures.ok.0 c.in-Ok.ensures.ok.1 (ap Some c.in_ok-from_str-in-Some.ensures.ok ∙ c.in-Some.ensures)
