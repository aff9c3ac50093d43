use Rattle.ring_model.proofs.FirstPasses.{first_passes_count, passes_left_means, first_passes_settle, first_passes_are_sharp}
use Rattle.ring_model.proofs.repair_laws.first_passes.Goals as goal

pub returns-clause-count : goal.returns-clause-count
returns-clause-count c = first_passes_count

pub returns-clause-means : goal.returns-clause-means
returns-clause-means c = passes_left_means

pub returns-clause-settle : goal.returns-clause-settle
returns-clause-settle c = first_passes_settle

pub returns-clause-sharp : goal.returns-clause-sharp
returns-clause-sharp c = first_passes_are_sharp
