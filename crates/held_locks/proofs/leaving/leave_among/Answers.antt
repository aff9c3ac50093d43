use Rattle.std.proofs.Common.{◌≡◌, refl, ◌∙◌, ap, Some, List, []}
use Rattle.std.specs.Prelude.{slice_get, slice_set}
use Rattle.held_locks.specs.declared.parts.LockParts.{LockParts}
use Rattle.held_locks.specs.Locks.{Leave, turn}
use Rattle.held_locks.specs.Kept.{lock_of}
use Rattle.held_locks.specs.Parts.{view_of}
use Rattle.held_locks.proofs.Lifting.{lifted_done, part_at, lock_kept, lock_settled, holder_out}
use Rattle.held_locks.proofs.leaving.leave_among.Goals as goal

pub leave-requires-clause-kept : goal.leave-requires-clause-kept
leave-requires-clause-kept c =
    let below = c.requires.lock in
    let at = part_at c.args.locks.now.items c.args.lock c.index_mut.result.now below c.index_mut.ensures.value in
    lock_kept c.args.locks.now.items c.args.waits.now c.args.lock c.index_mut.result.now c.requires.kept at

pub leave-requires-clause-settled : goal.leave-requires-clause-settled
leave-requires-clause-settled c =
    let below = c.requires.lock in
    let at = part_at c.args.locks.now.items c.args.lock c.index_mut.result.now below c.index_mut.ensures.value in
    lock_settled c.args.locks.now.items c.args.waits.now c.args.lock c.index_mut.result.now c.requires.kept at

pub leave-requires-clause-waiting : goal.leave-requires-clause-waiting
leave-requires-clause-waiting c =
    let below = c.requires.lock in
    let at = part_at c.args.locks.now.items c.args.lock c.index_mut.result.now below c.index_mut.ensures.value in
    let there : slice_get c.deref.result.now c.args.lock ≡ Some c.index_mut.result.now = ap (λ (x : List LockParts). slice_get x c.args.lock) c.deref.ensures.value ∙ at in
    c.stands_at-waiting.ensures c.index_mut.result.now there

pub leave-requires-clause-either : goal.leave-requires-clause-either
leave-requires-clause-either c = λ held.
    let below = c.requires.lock in
    let at = part_at c.args.locks.now.items c.args.lock c.index_mut.result.now below c.index_mut.ensures.value in
    let there : slice_get c.deref.result.now c.args.lock ≡ Some c.index_mut.result.now = ap (λ (x : List LockParts). slice_get x c.args.lock) c.deref.ensures.value ∙ at in
    c.stands_at-waiting.ensures c.index_mut.result.now there ∙ holder_out c.args.locks.now.items c.args.waits.now c.args.lock c.index_mut.result.now c.args.client c.requires.kept at held

pub returns-clause-done : goal.returns-clause-done
returns-clause-done c =
    let below = c.requires.lock in
    let at = part_at c.args.locks.now.items c.args.lock c.index_mut.result.now below c.index_mut.ensures.value in
    lifted_done c.args.locks.now.items (slice_set c.args.locks.now.items c.args.lock c.leave.new.lock) c.args.waits.now c.leave.new.waits c.args.client c.args.lock (Leave) c.index_mut.result.now c.leave.new.lock
    (turn [] (lock_of (view_of c.index_mut.result.now)) c.args.client Leave) c.leave.result c.requires.kept at refl refl c.leave.ensures.turned
