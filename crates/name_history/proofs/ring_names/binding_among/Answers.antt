use Rattle.std.proofs.Common.{None, ap, ◌∙◌}
use Rattle.std.specs.List.{last_or}
use Rattle.name_history.proofs.ring_names.binding_among.Goals as goal

pub returns : goal.returns
returns c = c.last_of.ensures ∙ ap (last_or None) c.older-count.ensures.older
