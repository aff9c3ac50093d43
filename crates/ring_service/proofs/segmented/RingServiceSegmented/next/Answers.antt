use Rattle.std.proofs.Common.{ap}
use Rattle.ring_service.proofs.Known.{next_is, next_open, next_limit, next_saves, no_next, no_number}
use Rattle.ring_service.specs.declared.rules.Rules.{Rules}
use Rattle.ring_service.proofs.segmented.RingServiceSegmented.next.Goals as goal

pub new-next-requires-clause-limit : goal.new-next-requires-clause-limit
new-next-requires-clause-limit c = let s = c.self.inside in next_limit s.rules c.in-Ok-next.rules c.in-Ok-next.ensures.ok c.self.invariant.limit

pub new-next-requires-clause-open : goal.new-next-requires-clause-open
new-next-requires-clause-open c = ap (λ (x : Rules). x.refusing) c.in-Ok-next.ensures.ok

pub returns-clause-next : goal.returns-clause-next
returns-clause-next c =
    let s = c.self.inside in
    next_is s.rules c.in-Ok-next.rules s.served c.in-Ok.served c.args.self.now c.new-next.result c.self.view_is c.new-next.ensures.is c.in-Ok-next.ensures.ok c.in-Ok.ensures.next c.new-next.ensures.right

pub returns-clause-open : goal.returns-clause-open
returns-clause-open c =
    let s = c.self.inside in
    next_open s.rules c.in-Ok-next.rules s.served c.in-Ok.served c.new-next.result c.new-next.ensures.is c.in-Ok-next.ensures.ok c.self.invariant.limit c.in-Ok.ensures.next

pub returns-clause-files : goal.returns-clause-files
returns-clause-files c =
    let s = c.self.inside in
    next_saves s.rules c.in-Ok-next.rules s.served c.in-Ok.served c.args.self.now c.new-next.result c.self.view_is c.new-next.ensures.is c.in-Ok-next.ensures.ok

pub returns-in-Err-clause-why : goal.returns-in-Err-clause-why
returns-in-Err-clause-why c =
    let s = c.self.inside in
    no_next s.rules s.served c.args.self.now c.in-Err.why c.self.view_is c.in-Err.ensures.why

pub returns-in-Err-next-clause-why : goal.returns-in-Err-next-clause-why
returns-in-Err-next-clause-why c =
    let s = c.self.inside in
    no_number s.rules s.served c.args.self.now c.in-Err-next.why c.self.view_is c.in-Err-next.ensures.full.0 c.in-Err-next.ensures.full.1
