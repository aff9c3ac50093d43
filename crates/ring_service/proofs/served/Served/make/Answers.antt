use Rattle.std.proofs.Common.{◌≡◌, ◌∙◌, ◌-◌, ◌^◌, List, Some, map, ap}
use Rattle.ring_service.specs.Commands.{seen, ring_of}
use Rattle.ring_service.specs.Standings.{Standing, standing_of}
use Rattle.ring_service.specs.Turns.{recorded_among}
use Rattle.ring_service.specs.Due.{is_due, lines_recorded}
use Rattle.ring_service.proofs.Dues.{call_counted, call_due}
use Rattle.ring_service.proofs.served.Served.make.Goals as goal

pub invariant_of-self : goal.invariant_of-self
invariant_of-self c =
    let old = c.self.inside.rings.items in
    let new = c.make_among-answer.new.rings.items in
    let command = seen c.args.command.now in
    let trace = c.make_among-answer.result.trace in
    let noted : c.lines_left-more.result ≡ lines_recorded (recorded_among (ring_of command) (map standing_of new) trace) =
    c.lines_left-more.ensures ∙ (λ i. lines_recorded (recorded_among (c.ring_of.ensures i) (map standing_of (c.as_slice.ensures.value i)) trace)) in
    record {
      right = c.make_among-answer.ensures.right;
      lines = c.saturating_add-self-inside.ensures
          ∙ call_counted (2 ^ 64 - 1) old new command c.make_among-answer.result c.self.inside.lines c.lines_left-more.result c.self.invariant.right c.self.invariant.lines c.make_among-answer.ensures.turn noted;
    }

pub returns-clause-due : goal.returns-clause-due
returns-clause-due c = λ limit e.
    call_due limit (map standing_of c.self.inside.rings.items) (seen c.args.command.now) (map standing_of c.make_among-answer.new.rings.items) c.make_among-answer.result c.make_among-answer.ensures.turn
    (ap (λ (x : List Standing). is_due (Some limit) x) c.self.view_is ∙ e)
