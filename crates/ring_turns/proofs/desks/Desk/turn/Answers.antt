use Rattle.std.proofs.Common.{◌≡◌, ◌∷◌, [], ◌++◌, ℕ, List, drop, ap, sym, ◌∙◌}
use Rattle.ring_model.specs.Grants.{grants_of}
use Rattle.ring_model.specs.History.{opening}
use Rattle.ring_model.specs.declared.events.Event.{Event}
use Rattle.ring_turns.proofs.Waits.{has_waited}
use Rattle.ring_turns.proofs.desks.Desk.turn.Goals as goal

pub returns-clause-waited : goal.returns-clause-waited
returns-clause-waited g c =
    let works = g.R.Resource.works in
    let a = opening g.N.Name.start g.R.Resource.first in
    let last = c.args.self.now.last in
    let receipt = c.in_ok-receipt.receipt in
    let told = c.in_ok-receipt.ensures.told.told in
    let one : c.pass.new.seat.seen ≡ last ++ receipt.event ∷ [] = c.in_ok-receipt.ensures.place ∙ ap (λ (h : List Event). h ++ receipt.event ∷ []) c.end_wait.ensures.last in
    let none : grants_of c.args.seat.now.number (drop c.args.asked_at last) ≡ 0 =
    ap (λ (i : ℕ). grants_of i (drop c.args.asked_at last)) (sym c.number-me.ensures.is) ∙ c.end_wait.ensures.none in
    has_waited works a last receipt.event c.pass.new.seat.seen c.args.seat.now.number c.args.asked_at receipt.position c.requires.start told.legal_and_whole.0 c.requires.machine one told.last c.end_wait.ensures.waited none
