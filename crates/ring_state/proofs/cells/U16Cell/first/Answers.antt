use Rattle.std.proofs.Common.{sym, ap, ◌∙◌, ℕ, List}
use Rattle.std.proofs.lemmas.List.{map-id}
use Rattle.ring_model.specs.Ring.{first_privileged}
use Rattle.ring_state.proofs.cells.U16Cell.first.Goals as goal

pub returns-clause-least : goal.returns-clause-least
returns-clause-least c = c.wide_first.ensures.least ∙ ap (λ (s : List ℕ). first_privileged s) (sym (map-id c.args.cells.now))
