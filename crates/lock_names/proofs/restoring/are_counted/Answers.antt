use Rattle.std.proofs.Common.{◌≡◌, ◌+◌, ◌<◌, ◌≤◌, length, refl, ◌∙◌, ap, arith}
use Rattle.endless_ring.specs.Endless.{EndlessView}
use Rattle.held_locks.specs.Kept.{lock_of, locks_of}
use Rattle.lock_names.specs.Names.{total}
use Rattle.name_bindings.proofs.Found.{there_is}
use Rattle.lock_names.proofs.Asking.{view_lock}
use Rattle.lock_names.proofs.Begins.{total_before, counted, counted_most, counted_all}
use Rattle.lock_names.proofs.restoring.are_counted.Goals as goal

pub returns-then-more-room-clause-no : goal.returns-then-more-room-clause-no
returns-then-more-room-clause-no c = λ no.
    let below : c.loop-lock.lock < length c.args.locks.now = let t = c.loop-lock-test.true in let n = c.count-lock-end.ensures in omega arith in
    let w = there_is c.args.locks.now c.loop-lock.lock below in
    let more : c.grants-more.result ≡ (lock_of w.0).ring.grants = c.grants-more.ensures ∙ ap (λ (e : EndlessView). e.base.grants + e.ring.book.now.grants) (c.ring.ensures w.0 w.1) in
    let sum : c.loop-lock.room + total_before c.loop-lock.lock (locks_of c.args.locks.now) ≡ c.args.top = c.loop-lock.invariant in
    let most : total_before c.loop-lock.lock (locks_of c.args.locks.now) + (lock_of w.0).ring.grants ≤ total (locks_of c.args.locks.now) = counted_most (locks_of c.args.locks.now) c.loop-lock.lock (lock_of w.0) (view_lock c.args.locks.now c.loop-lock.lock w.0 w.1) in
    let great = c.if-more-room.true in
    let less : c.args.top < total (locks_of c.args.locks.now) = omega arith in
    less

pub loop-lock-preserved : goal.loop-lock-preserved
loop-lock-preserved c =
    let below : c.loop-lock.lock < length c.args.locks.now = let t = c.loop-lock-test.true in let n = c.count-lock-end.ensures in omega arith in
    let w = there_is c.args.locks.now c.loop-lock.lock below in
    let more : c.grants-more.result ≡ (lock_of w.0).ring.grants = c.grants-more.ensures ∙ ap (λ (e : EndlessView). e.base.grants + e.ring.book.now.grants) (c.ring.ensures w.0 w.1) in
    let sum : c.loop-lock.room + total_before c.loop-lock.lock (locks_of c.args.locks.now) ≡ c.args.top = c.loop-lock.invariant in
    let next : total_before (c.loop-lock.lock + 1) (locks_of c.args.locks.now) ≡ total_before c.loop-lock.lock (locks_of c.args.locks.now) + (lock_of w.0).ring.grants =
    counted (locks_of c.args.locks.now) c.loop-lock.lock (c.loop-lock.lock + 1) (lock_of w.0) refl (view_lock c.args.locks.now c.loop-lock.lock w.0 w.1) in
    let less = c.if-more-room.false in
    omega arith

pub returns-clause-yes : goal.returns-clause-yes
returns-clause-yes c = λ yes.
    let all : c.loop-lock.lock ≡ length c.args.locks.now = let past = c.loop-lock-test.false in let end = c.loop-lock.auto.lock-end in let n = c.count-lock-end.ensures in omega arith in
    let sum : c.loop-lock.room + total_before c.loop-lock.lock (locks_of c.args.locks.now) ≡ c.args.top = c.loop-lock.invariant in
    let whole : total_before c.loop-lock.lock (locks_of c.args.locks.now) ≡ total (locks_of c.args.locks.now) = counted_all c.args.locks.now c.loop-lock.lock all in
    let le : total (locks_of c.args.locks.now) ≤ c.args.top = omega arith in
    le
