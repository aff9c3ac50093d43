use Rattle.std.proofs.Common.{None, refl, ◌∙◌}
use Rattle.tool_parts.proofs.Parents.{no_slash, last_slash}
use Rattle.tool_parts.proofs.outside.parent_of.Goals as goal

pub returns-in-Some : goal.returns-in-Some
returns-in-Some c = c.before_slash.ensures ∙ last_slash c.args.name.now (c.in-Some.front, c.in-Some.field-0-1) c.in-Some.ensures.cases

pub returns-in-None : goal.returns-in-None
returns-in-None c = no_slash c.args.name.now None refl c.in-None.ensures.cases
