-- Lines are answered as long as the segment is not to end.
use Rattle.std.proofs.Common.{◌≡◌, false, refl}
use Rattle.name_service.specs.declared.service.NameService.{NameService}
use Rattle.lock_journal.specs.declared.stages.Stage.{Stage}
use Rattle.lock_journal.specs.declared.stages.Stage.TheVariants as stage
use Rattle.lock_journal.specs.Stages.{is_to_end, is_over}

of_stage : (s : Stage) → is_to_end s ≡ false → is_over s ≡ false
of_stage stage.Open e = refl
of_stage stage.Due e = e
of_stage stage.KeptOn e = refl

pub goes : (s : NameService) → is_to_end s.stage ≡ false → is_over s.stage ≡ false
goes s e = of_stage s.stage e
