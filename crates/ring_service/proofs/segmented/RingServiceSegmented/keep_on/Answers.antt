use Rattle.std.proofs.Common.{ap}
use Rattle.ring_service.specs.Services.{may_save}
use Rattle.ring_service.proofs.Known.{due_known, known_kept, kept_is, kept_open}
use Rattle.ring_service.proofs.segmented.RingServiceSegmented.keep_on.Goals as goal

pub invariant_of-self : goal.invariant_of-self
invariant_of-self c =
    let s = c.self.inside in
    known_kept s.rules s.served c.refusal_of.result s.shut c.self.invariant (due_known s.rules s.served c.args.self.now c.self.view_is c.requires)

pub returns-clause-kept : goal.returns-clause-kept
returns-clause-kept c =
    let s = c.self.inside in
    kept_is s.rules s.served c.args.self.now c.refusal_of.result c.args.why c.self.view_is c.refusal_of.ensures

pub returns-clause-open : goal.returns-clause-open
returns-clause-open c = let s = c.self.inside in kept_open s.rules s.served c.refusal_of.result

pub returns-clause-files : goal.returns-clause-files
returns-clause-files c = ap may_save c.self.view_is
