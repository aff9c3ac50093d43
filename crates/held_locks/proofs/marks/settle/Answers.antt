use Rattle.std.proofs.Common.{ℕ, ◌∙◌, ap, map, length}
use Rattle.held_locks.specs.Grants.{most_passes}
use Rattle.ring_model.specs.History.{State}
use Rattle.held_locks.specs.Locks.{Call, repairs}
use Rattle.held_locks.specs.Kept.{state_of}
use Rattle.held_locks.proofs.Calls.{made_of_same, made_is, same_state, repaired_settled}
use Rattle.held_locks.proofs.marks.settle.Goals as goal

pub returns-clause-made : goal.returns-clause-made
returns-clause-made c =
    let state = same_state c.args.ring.now c.reserve.new.ring c.in-Ok.ensures.same in
    made_of_same c.args.ring.now c.reserve.new.ring c.repair.new.ring (map Call (repairs (most_passes (length (state_of c.args.ring.now).ring.values)) (state_of c.args.ring.now))) c.in-Ok.ensures.same
    (made_is c.reserve.new.ring c.repair.new.ring (map Call (repairs c.most_repairs-most.result (state_of c.reserve.new.ring))) (map Call (repairs (most_passes (length (state_of c.args.ring.now).ring.values)) (state_of c.args.ring.now)))
    (ap (λ (n : ℕ). map Call (repairs n (state_of c.reserve.new.ring))) c.most_repairs-most.ensures.is ∙ ap (λ (a : State ℕ). map Call (repairs (most_passes (length (state_of c.args.ring.now).ring.values)) a)) state) c.repair.ensures.made)

pub returns-clause-settled : goal.returns-clause-settled
returns-clause-settled c = repaired_settled c.args.ring.now c.repair.new.ring c.requires (returns-clause-made c)
