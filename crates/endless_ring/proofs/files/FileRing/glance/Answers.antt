use Rattle.std.proofs.Common.{◌∙◌, ap}
use Rattle.endless_ring.specs.Endless.{survey_now}
use Rattle.endless_ring.specs.Files.{FilesView}
use Rattle.endless_ring.proofs.files.FileRing.glance.Goals as goal

pub returns : goal.returns
returns c = c.glance.ensures ∙ ap (λ (x : FilesView). survey_now x.ring) c.self.view_is
