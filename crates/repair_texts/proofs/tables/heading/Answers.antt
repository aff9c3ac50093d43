use Rattle.repair_texts.specs.Columns.{heading}
use Rattle.repair_texts.proofs.tables.heading.Goals as goal

pub returns-in-Ok : goal.returns-in-Ok
unfolding heading
returns-in-Ok c = c.in-Ok.ensures
