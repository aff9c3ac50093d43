use Rattle.std.proofs.Common.{◌≡◌, ◌+◌, ◌^◌, ◌<◌, ◌≤◌, length, Option, refl, sym, ◌∙◌, ap, arith}
use Rattle.std.specs.Prelude.{is_some}
use Rattle.endless_ring.specs.Endless.{EndlessView}
use Rattle.held_locks.specs.declared.answers.Holder.{Holder}
use Rattle.held_locks.specs.Kept.{lock_of, locks_of}
use Rattle.lock_names.specs.Names.{total}
use Rattle.name_bindings.proofs.Found.{there_is}
use Rattle.lock_names.proofs.Asking.{view_lock}
use Rattle.lock_names.proofs.Begins.{total_before, counted, counted_most, counted_all, none_held, held_one, one_more_free}
use Rattle.lock_names.proofs.starting.grants_of.Goals as goal

pub returns-then-is_some-clause-why : goal.returns-then-is_some-clause-why
returns-then-is_some-clause-why c = λ ns.
    let below : c.loop-lock.lock < length c.args.locks.now = let t = c.loop-lock-test.true in let n = c.count-lock-end.ensures in omega arith in
    let w = there_is c.args.locks.now c.loop-lock.lock below in
    held_one c.args.locks.now c.loop-lock.lock w.0 w.1 (ap (λ (o : Option Holder). is_some o) (sym (c.holder.ensures w.0 w.1)) ∙ sym c.is_some.ensures ∙ c.if-is_some.true)

pub returns-then-more-room-clause-why : goal.returns-then-more-room-clause-why
returns-then-more-room-clause-why c = λ ns.
    let below : c.loop-lock.lock < length c.args.locks.now = let t = c.loop-lock-test.true in let n = c.count-lock-end.ensures in omega arith in
    let w = there_is c.args.locks.now c.loop-lock.lock below in
    let more : c.grants-more.result ≡ (lock_of w.0).ring.grants = c.grants-more.ensures ∙ ap (λ (e : EndlessView). e.base.grants + e.ring.book.now.grants) (c.ring.ensures w.0 w.1) in
    let sum : c.loop-lock.sum ≡ total_before c.loop-lock.lock (locks_of c.args.locks.now) = c.loop-lock.invariant.sum in
    let most : total_before c.loop-lock.lock (locks_of c.args.locks.now) + (lock_of w.0).ring.grants ≤ total (locks_of c.args.locks.now) = counted_most (locks_of c.args.locks.now) c.loop-lock.lock (lock_of w.0) (view_lock c.args.locks.now c.loop-lock.lock w.0 w.1) in
    let great = c.if-more-room.true in
    let few : c.loop-lock.sum < 2 ^ 63 = c.loop-lock.invariant.few in
    let full : 2 ^ 63 ≤ total (locks_of c.args.locks.now) = omega arith in
    full

pub loop-lock-preserved : goal.loop-lock-preserved
loop-lock-preserved c =
    let below : c.loop-lock.lock < length c.args.locks.now = let t = c.loop-lock-test.true in let n = c.count-lock-end.ensures in omega arith in
    let w = there_is c.args.locks.now c.loop-lock.lock below in
    let more : c.grants-more.result ≡ (lock_of w.0).ring.grants = c.grants-more.ensures ∙ ap (λ (e : EndlessView). e.base.grants + e.ring.book.now.grants) (c.ring.ensures w.0 w.1) in
    let sum : c.loop-lock.sum ≡ total_before c.loop-lock.lock (locks_of c.args.locks.now) = c.loop-lock.invariant.sum in
    let next : total_before (c.loop-lock.lock + 1) (locks_of c.args.locks.now) ≡ total_before c.loop-lock.lock (locks_of c.args.locks.now) + (lock_of w.0).ring.grants =
    counted (locks_of c.args.locks.now) c.loop-lock.lock (c.loop-lock.lock + 1) (lock_of w.0) refl (view_lock c.args.locks.now c.loop-lock.lock w.0 w.1) in
    let few : c.loop-lock.sum < 2 ^ 63 = c.loop-lock.invariant.few in
    let less = c.if-more-room.false in
    let below_limit : c.loop-lock.sum + c.grants-more.result < 2 ^ 63 = omega arith in
    record {
      sum = omega arith;
      few = below_limit;
      free = one_more_free c.args.locks.now c.loop-lock.lock w.0 w.1 (ap (λ (o : Option Holder). is_some o) (sym (c.holder.ensures w.0 w.1)) ∙ sym c.is_some.ensures ∙ c.if-is_some.false) c.loop-lock.invariant.free;
    }

pub returns-clause-ok : goal.returns-clause-ok
returns-clause-ok c =
    let all : c.loop-lock.lock ≡ length c.args.locks.now = let past = c.loop-lock-test.false in let end = c.loop-lock.auto.lock-end in let n = c.count-lock-end.ensures in omega arith in
    c.loop-lock.invariant.sum ∙ counted_all c.args.locks.now c.loop-lock.lock all

pub returns-clause-free : goal.returns-clause-free
returns-clause-free c =
    let all : c.loop-lock.lock ≡ length c.args.locks.now = let past = c.loop-lock-test.false in let end = c.loop-lock.auto.lock-end in let n = c.count-lock-end.ensures in omega arith in
    none_held c.args.locks.now (λ i v lt e. c.loop-lock.invariant.free i v (omega (arith, lt)) e)
