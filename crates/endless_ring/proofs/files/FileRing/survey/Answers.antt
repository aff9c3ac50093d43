use Rattle.std.proofs.Common.{subst}
use Rattle.endless_ring.specs.Files.{FilesView}
use Rattle.endless_ring.specs.Calls.{IsSurveyedBy}
use Rattle.endless_ring.proofs.Surveyed.{view, surveyed}
use Rattle.endless_ring.proofs.files.FileRing.survey.Goals as goal

pub returns : goal.returns
returns c =
    let i = c.self.inside in
    let s = c.survey_noted in
    subst (λ (x : FilesView). IsSurveyedBy x (view s.new.ring i.place i.kept i.events s.new.looked.items) c.args.seat s.result) c.self.view_is
    (surveyed i.ring s.new.ring i.place i.kept i.events i.looked.items s.new.looked.items c.args.seat s.result s.ensures.ok s.ensures.noted s.ensures.endless s.ensures.same s.ensures.unnoted s.ensures.refused c.self.invariant.place)
