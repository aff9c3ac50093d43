use Rattle.std.proofs.Common.{ℕ, List, [], ◌∷◌, ◌++◌, cond, ap, ◌∙◌}
use Rattle.ring_model.specs.declared.events.Survey.{Survey}
use Rattle.one_thread_ring.specs.Rings.{RingView}
use Rattle.endless_ring.specs.Endless.{local_survey}
use Rattle.endless_ring.specs.declared.files.Looked.{Looked}
use Rattle.endless_ring.proofs.files.survey_noted.Goals as goal

pub returns-clause-noted : goal.returns-clause-noted
returns-clause-noted c =
    let one : Survey → List Looked → List Looked = λ x ls. cond c.args.kept (ls ++ record { seat = c.args.seat; survey = x } ∷ []) ls in
    let at = c.glance-survey.ensures ∙ ap (λ (x : RingView ℕ). local_survey x) c.segment-2.ensures.is in
    c.note.ensures ∙ (ap (λ (x : Survey). one x c.reserve.new.self.items) at ∙ ap (λ (ls : List Looked). one (local_survey c.args.ring.now.ring) ls) c.reserve.ensures.items)
