use Rattle.ring_service.proofs.Dues.{still_due}
use Rattle.ring_service.proofs.serving.turn_on.Goals as goal

pub returns-in-Some-clause-due : goal.returns-in-Some-clause-due
returns-in-Some-clause-due c = λ limit e. still_due limit c.args.served.now c.no_call.result.ring e
