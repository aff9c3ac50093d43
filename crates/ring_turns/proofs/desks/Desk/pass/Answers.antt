use Rattle.std.proofs.Common.{◌≡◌, [], ◌∷◌, ◌++◌, List, sym, ◌∙◌, subst}
use Rattle.ring_model.specs.History.{opening, IsLegal}
use Rattle.ring_model.specs.declared.events.Event.{Event}
use Rattle.ring_turns.proofs.Waits.{granted_first}
use Rattle.ring_turns.proofs.desks.Desk.pass.Goals as goal

pub returns-clause-told : goal.returns-clause-told
returns-clause-told g c =
    let works = g.R.Resource.works in
    let a = opening g.N.Name.start g.R.Resource.first in
    let told = c.in-Ok.ensures.told in
    let event = c.in-Ok.receipt.event in
    let one : c.pass.new.seat.seen ≡ c.args.self.now.last ++ event ∷ [] = sym c.seen-seen.ensures ∙ c.surely_one_more.ensures in
    let legal : IsLegal works a (c.args.self.now.last ++ event ∷ []) = subst (λ (h : List Event). IsLegal works a h) one told.legal_and_whole.0 in
    record {
      told = told;
      granted = granted_first works a c.args.self.now.last event c.args.machine c.args.order c.requires.start legal told.of_call c.requires.first;
    }
