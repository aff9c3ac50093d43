use Rattle.std.proofs.Common.{◌≡◌, ℕ, List, length, ap, subst, arith}
use Rattle.std.proofs.lemmas.List.{take_rest}
use Rattle.ring_model.specs.declared.events.Survey.{Survey}
use Rattle.saved_history.specs.declared.saved.SavedSurvey.{SavedSurvey}
use Rattle.one_thread_ring.specs.Resuming.{IsToldFirst}
use Rattle.one_thread_ring.proofs.Gathering.{AreToldTo, told_on, none_left}
use Rattle.one_thread_ring.proofs.resuming.surveys.clients_of.Goals as goal

pub loop-number-preserved : goal.loop-number-preserved
loop-number-preserved c =
    let lines = c.args.lines.now in
    let place = c.loop-number.place in
    let cap = c.push_reserved.ensures.capacity in
    let room = c.loop-number.invariant.room in
    record {
      told = told_on lines c.loop-number.clients.items c.push_reserved.new.self.items c.in-Ok-client_of.client c.loop-number.number place (length c.surveys.result.now)
          c.loop-number.invariant.told
          (subst (λ (u : List SavedSurvey). IsToldFirst c.loop-number.number u c.in-Ok-client_of.client) (take_rest lines place) c.in-Ok-client_of.ensures.told)
          (ap (λ (u : List Survey). length u) c.surveys.ensures) c.push_reserved.ensures.items;
      room = omega (arith, cap, room);
    }

pub returns-then-place-lines-clause-legal : goal.returns-then-place-lines-clause-legal
returns-then-place-lines-clause-legal c = λ o all.
    let past = c.loop-number-test.false in
    let end = c.loop-number.auto.number-end in
    let last : c.loop-number.number ≡ c.args.seats = omega (arith, past, end) in
    let any : SavedSurvey = record { seat = 0; position = 0; privileged = 0; first = 0; calm = 0; rest = 0 } in
    absurd (none_left c.args.lines.now c.loop-number.clients.items c.args.seats c.loop-number.place any
    (subst (λ (n : ℕ). AreToldTo c.args.lines.now c.loop-number.clients.items n c.loop-number.place) last c.loop-number.invariant.told) o all c.if-place-lines.true)
