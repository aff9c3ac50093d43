use Rattle.std.proofs.Common.{◌≡◌, ℕ, ◌+◌, ◌-◌, ◌<◌, take, subst, arith}
use Rattle.ring_model.proofs.Tallied.{IsLastGrant, last_number, last_before}
use Rattle.ring_model.proofs.tallies.last_grant.Goals as goal

pub returns-in-Granted-clause-number : goal.returns-in-Granted-clause-number
returns-in-Granted-clause-number c =
    let some : 0 < c.loop-left.left = c.loop-left-test.true in
    let few = c.loop-left.invariant.few in
    let up : c.loop-left.left ≡ c.loop-left.left - 1 + 1 = omega arith in
    let last : IsLastGrant (take (c.loop-left.left - 1 + 1) c.args.events.now) c.args.events.now =
    subst (λ (n : ℕ). IsLastGrant (take n c.args.events.now) c.args.events.now) up c.loop-left.invariant.last in
    (last_number c.args.events.now (c.loop-left.left - 1) _ c.in-Granted.number c.in-Granted.result (omega arith) last c.in-Granted.is).0

pub returns-in-Granted-clause-result : goal.returns-in-Granted-clause-result
returns-in-Granted-clause-result c =
    let some : 0 < c.loop-left.left = c.loop-left-test.true in
    let few = c.loop-left.invariant.few in
    let up : c.loop-left.left ≡ c.loop-left.left - 1 + 1 = omega arith in
    let last : IsLastGrant (take (c.loop-left.left - 1 + 1) c.args.events.now) c.args.events.now =
    subst (λ (n : ℕ). IsLastGrant (take n c.args.events.now) c.args.events.now) up c.loop-left.invariant.last in
    (last_number c.args.events.now (c.loop-left.left - 1) _ c.in-Granted.number c.in-Granted.result (omega arith) last c.in-Granted.is).1

pub loop-left-preserved : goal.loop-left-preserved
loop-left-preserved c =
    let some : 0 < c.loop-left.left = c.loop-left-test.true in
    let few = c.loop-left.invariant.few in
    let up : c.loop-left.left ≡ c.loop-left.left - 1 + 1 = omega arith in
    let last : IsLastGrant (take (c.loop-left.left - 1 + 1) c.args.events.now) c.args.events.now =
    subst (λ (n : ℕ). IsLastGrant (take n c.args.events.now) c.args.events.now) up c.loop-left.invariant.last in
    record { few = omega arith; last = last_before c.args.events.now (c.loop-left.left - 1) _ (omega arith) c.in_default.not-Granted last }
