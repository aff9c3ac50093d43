use Rattle.std.proofs.Common.{rules, ◌<◌, ◌∙◌, List, length, subst, sym, ap}
use Rattle.one_thread_ring.specs.Clients.{ClientView, told_all}
use Rattle.one_thread_ring.specs.Rings.{IsKeptBy}
use Rattle.one_thread_ring.proofs.Kept.{surveyed_kept, surveyed_told}
use Rattle.one_thread_ring.proofs.rings.OneThreadRing.survey.Goals as goal

pub invariant_of-self-2 : goal.invariant_of-self-2
invariant_of-self-2 g c =
    let within : c.args.seat < length c.self.inside.clients.items = search rules in
    subst (λ (cs : List ClientView). IsKeptBy g.R.Resource.works g.R.Resource.first c.self.inside.book cs) (sym c.in_ok-tell_at.ensures.told)
    (surveyed_kept g.R.Resource.works g.R.Resource.first c.self.inside.book c.self.inside.clients.items c.args.seat c.survey-survey.result c.self.invariant within c.survey-survey.ensures.is)

pub returns-clause-ring : goal.returns-clause-ring
returns-clause-ring g c = (invariant_of-self-2 g c).ring

pub returns-clause-told : goal.returns-clause-told
returns-clause-told g c =
    let within : c.args.seat < length c.self.inside.clients.items = search rules in
    rw (← c.self.view_is) (ap (λ (cs : List ClientView). told_all c.self.inside.book.history cs) c.in_ok-tell_at.ensures.told
    ∙ surveyed_told g.R.Resource.works g.R.Resource.first c.self.inside.book c.self.inside.clients.items c.args.seat c.survey-survey.result c.self.invariant within c.survey-survey.ensures.is)

pub returns-clause-ok : goal.returns-clause-ok
returns-clause-ok g c = rw (← c.self.view_is) c.survey-survey.ensures.is
