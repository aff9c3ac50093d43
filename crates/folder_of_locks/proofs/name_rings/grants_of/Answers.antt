use Rattle.std.proofs.Common.{◌≡◌, ◌+◌, ◌^◌, ◌<◌, ◌≤◌, length, refl, ◌∙◌, ap, arith}
use Rattle.endless_ring.specs.Endless.{EndlessView}
use Rattle.held_locks.specs.Kept.{lock_of, locks_of}
use Rattle.lock_names.specs.Names.{total}
use Rattle.lock_names.proofs.Found.{there_is}
use Rattle.lock_names.proofs.Asking.{view_lock}
use Rattle.lock_names.proofs.Begins.{total_before, counted, counted_most, counted_all}
use Rattle.folder_of_locks.proofs.name_rings.grants_of.Goals as goal

pub returns-then-more-room : goal.returns-then-more-room
returns-then-more-room c =
    let below : c.loop-lock.lock < length c.args.locks.now = let t = c.loop-lock-test.true in let n = c.count-lock-end.ensures in omega arith in
    let w = there_is c.args.locks.now c.loop-lock.lock below in
    let more : c.grants-more.result ≡ (lock_of w.0).ring.grants = c.grants-more.ensures ∙ ap (λ (e : EndlessView). e.base.grants + e.ring.book.now.grants) (c.ring.ensures w.0 w.1) in
    let sum : c.loop-lock.sum ≡ total_before c.loop-lock.lock (locks_of c.args.locks.now) = c.loop-lock.invariant.sum in
    let most : total_before c.loop-lock.lock (locks_of c.args.locks.now) + (lock_of w.0).ring.grants ≤ total (locks_of c.args.locks.now) = counted_most (locks_of c.args.locks.now) c.loop-lock.lock (lock_of w.0) (view_lock c.args.locks.now c.loop-lock.lock w.0 w.1) in
    let great = c.if-more-room.true in
    let few : c.loop-lock.sum < 2 ^ 63 = c.loop-lock.invariant.few in
    let full : 2 ^ 63 ≤ total (locks_of c.args.locks.now) = omega arith in
    full

pub loop-lock-preserved : goal.loop-lock-preserved
loop-lock-preserved c =
    let below : c.loop-lock.lock < length c.args.locks.now = let t = c.loop-lock-test.true in let n = c.count-lock-end.ensures in omega arith in
    let w = there_is c.args.locks.now c.loop-lock.lock below in
    let more : c.grants-more.result ≡ (lock_of w.0).ring.grants = c.grants-more.ensures ∙ ap (λ (e : EndlessView). e.base.grants + e.ring.book.now.grants) (c.ring.ensures w.0 w.1) in
    let sum : c.loop-lock.sum ≡ total_before c.loop-lock.lock (locks_of c.args.locks.now) = c.loop-lock.invariant.sum in
    let next : total_before (c.loop-lock.lock + 1) (locks_of c.args.locks.now) ≡ total_before c.loop-lock.lock (locks_of c.args.locks.now) + (lock_of w.0).ring.grants =
    counted (locks_of c.args.locks.now) c.loop-lock.lock (c.loop-lock.lock + 1) (lock_of w.0) refl (view_lock c.args.locks.now c.loop-lock.lock w.0 w.1) in
    let few : c.loop-lock.sum < 2 ^ 63 = c.loop-lock.invariant.few in
    let less = c.if-more-room.false in
    let below_limit : c.loop-lock.sum + c.grants-more.result < 2 ^ 63 = omega arith in
    record {
      sum = omega arith;
      few = below_limit;
    }

pub returns : goal.returns
returns c =
    let all : c.loop-lock.lock ≡ length c.args.locks.now = let past = c.loop-lock-test.false in let end = c.loop-lock.auto.lock-end in let n = c.count-lock-end.ensures in omega arith in
    (c.loop-lock.invariant.sum ∙ counted_all c.args.locks.now c.loop-lock.lock all, c.loop-lock.invariant.few)
