use Rattle.std.proofs.Common.{◌≡◌, ℕ, Some, sym, subst, ◌∙◌}
use Rattle.ring_service.specs.Commands.{seen}
use Rattle.ring_service.specs.Due.{is_due, is_due_at}
use Rattle.ring_service.proofs.Dues.{still_due}
use Rattle.ring_service.proofs.Lines.{command_turn, off_turn}
use Rattle.ring_service.proofs.served.answer_command.Goals as goal

pub returns-then-is_off-clause-turn : goal.returns-then-is_off-clause-turn
returns-then-is_off-clause-turn c = off_turn c.args.faults c.args.served.now (seen c.args.command.now) c.no_call.result c.no_call.ensures (sym c.is_off.ensures ∙ c.if-is_off.true)

pub returns-then-is_off-clause-due : goal.returns-then-is_off-clause-due
returns-then-is_off-clause-due c = λ limit e. still_due limit c.args.served.now c.no_call.result.ring e

pub returns-clause-turn : goal.returns-clause-turn
returns-clause-turn c = command_turn c.args.faults c.args.served.now c.make.new.self (seen c.args.command.now) c.ring_of.result c.make.result (sym c.is_off.ensures ∙ c.if-is_off.false) c.ring_of.ensures c.make.ensures.turn

pub returns-clause-due : goal.returns-clause-due
returns-clause-due c = λ limit e.
    subst (λ (n : ℕ). is_due (Some limit) c.make.new.self ≡ is_due_at (Some limit) c.make.new.self n) (sym c.ring_of.ensures) (c.make.ensures.due limit e)
