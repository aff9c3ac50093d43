use Rattle.std.proofs.Common.{◌≡◌, ◌∙◌, [], ◌∷◌, ◌++◌, ℕ, List, length, sym, ap}
use Rattle.ring_model.specs.History.{opening}
use Rattle.ring_model.specs.Surveys.{survey_at}
use Rattle.ring_model.specs.declared.events.Entry.TheVariants as entry
use Rattle.ring_model.specs.declared.events.Event.{Event}
use Rattle.ring_model.specs.declared.events.Survey.{Survey}
use Rattle.ring_turns.proofs.desks.Desk.ask.Goals as goal

pub returns-clause-logged : goal.returns-clause-logged
returns-clause-logged g c =
    let a = opening g.N.Name.start g.R.Resource.first in
    let n : length c.survey.new.seat.seen ≡ c.len.result = ap (λ (x : List Event). length x) (sym c.seen-seen.ensures) ∙ sym c.len.ensures.length in
    c.in_ok-survey.ensures.logged
    ∙ ap (λ (s : Survey). c.args.seat.now.log ++ entry.Survey s ∷ []) (c.in_ok-survey.ensures.told ∙ ap (λ (p : ℕ). survey_at g.R.Resource.works a c.survey.new.seat.seen p) n)
