use Rattle.std.proofs.Common.{◌≡◌, ◌+◌, ◌-◌, ◌^◌, ◌<◌, arith}
use Rattle.std.specs.Prelude.{slice_get}
use Rattle.held_locks.specs.Kept.{locks_of}
use Rattle.lock_names.specs.Names.{of_ring, grants_at}
use Rattle.held_locks.specs.Asked.{asked}
use Rattle.lock_names.specs.Kept.{bound_by, waiting}
use Rattle.lock_names.proofs.Asking.{outcome, counted, answer_within, ready_within, ready_held}
use Rattle.lock_names.proofs.asks.ask_ring.Goals as goal

pub ring-requires : goal.ring-requires
ring-requires c = ready_within c.args.rings.now.locks c.args.rings.now.top c.args.ring (bound_by c.args.counts) (asked c.args.ask) c.requires

pub ask_lock-done-requires-clause-lock : goal.ask_lock-done-requires-clause-lock
ask_lock-done-requires-clause-lock c = ready_within c.args.rings.now.locks c.args.rings.now.top c.args.ring (bound_by c.args.counts) (asked c.args.ask) c.requires

pub ask_lock-done-requires-clause-tokens : goal.ask_lock-done-requires-clause-tokens
ask_lock-done-requires-clause-tokens c = λ v h at e. (ready_held c.args.rings.now.locks c.args.rings.now.top c.args.ring (bound_by c.args.counts) (asked c.args.ask) v h c.requires at e).1

pub ask_lock-done-requires-clause-began : goal.ask_lock-done-requires-clause-began
ask_lock-done-requires-clause-began c = λ v h at e. (ready_held c.args.rings.now.locks c.args.rings.now.top c.args.ring (bound_by c.args.counts) (asked c.args.ask) v h c.requires at e).0

pub ring-requires-2 : goal.ring-requires-2
ring-requires-2 c =
    let within = ready_within c.args.rings.now.locks c.args.rings.now.top c.args.ring (bound_by c.args.counts) (asked c.args.ask) c.requires in
    answer_within c.args.rings.now.locks c.ask_lock-done.new.locks c.args.client c.args.ring (of_ring (bound_by c.args.counts) (asked c.args.ask)) c.ask_lock-done.result.answers c.ask_lock-done.ensures.answer within

pub overflow_sub-rings : goal.overflow_sub-rings
overflow_sub-rings c =
    let o = outcome c.args.rings.now.locks c.ask_lock-done.new.locks c.are_kept.ensures.0 c.args.rings.now.top c.args.client c.args.ring (bound_by c.args.counts) c.args.ask c.ask_lock-done.result.answers c.are_kept.ensures.1
    c.requires c.ask_lock-done.ensures.answer in
    (counted c.args.rings.now.locks c.ask_lock-done.new.locks c.args.rings.now.top c.args.ring c.grants-before.result c.grants.result (bound_by c.args.counts) c.ask_lock-done.result.answers c.ring.result.now c.ring-2.result.now o
    c.ring.ensures c.ring-2.ensures c.grants-before.ensures c.grants.ensures).more

pub overflow_add-rings : goal.overflow_add-rings
overflow_add-rings c =
    let o = outcome c.args.rings.now.locks c.ask_lock-done.new.locks c.are_kept.ensures.0 c.args.rings.now.top c.args.client c.args.ring (bound_by c.args.counts) c.args.ask c.ask_lock-done.result.answers c.are_kept.ensures.1
    c.requires c.ask_lock-done.ensures.answer in
    let k = counted c.args.rings.now.locks c.ask_lock-done.new.locks c.args.rings.now.top c.args.ring c.grants-before.result c.grants.result (bound_by c.args.counts) c.ask_lock-done.result.answers c.ring.result.now c.ring-2.result.now o
    c.ring.ensures c.ring-2.ensures c.grants-before.ensures c.grants.ensures in
    let lt : c.args.rings.now.top + (c.grants.result - c.grants-before.result) + waiting (locks_of c.ask_lock-done.new.locks) < 2 ^ 64 = k.tokens in
    omega arith

pub told-requires-clause-own : goal.told-requires-clause-own
told-requires-clause-own c =
    (outcome c.args.rings.now.locks c.ask_lock-done.new.locks c.are_kept.ensures.0 c.args.rings.now.top c.args.client c.args.ring (bound_by c.args.counts) c.args.ask c.ask_lock-done.result.answers c.are_kept.ensures.1 c.requires
    c.ask_lock-done.ensures.answer).own

pub told-requires-clause-granted : goal.told-requires-clause-granted
told-requires-clause-granted c =
    (outcome c.args.rings.now.locks c.ask_lock-done.new.locks c.are_kept.ensures.0 c.args.rings.now.top c.args.client c.args.ring (bound_by c.args.counts) c.args.ask c.ask_lock-done.result.answers c.are_kept.ensures.1 c.requires
    c.ask_lock-done.ensures.answer).granted

pub returns-clause-told : goal.returns-clause-told
returns-clause-told c =
    let vs = c.args.rings.now.locks in
    let ws = c.ask_lock-done.new.locks in
    let o = outcome vs ws c.are_kept.ensures.0 c.args.rings.now.top c.args.client c.args.ring (bound_by c.args.counts) c.args.ask c.ask_lock-done.result.answers c.are_kept.ensures.1 c.requires c.ask_lock-done.ensures.answer in
    let k = counted vs ws c.args.rings.now.top c.args.ring c.grants-before.result c.grants.result (bound_by c.args.counts) c.ask_lock-done.result.answers c.ring.result.now c.ring-2.result.now o c.ring.ensures c.ring-2.ensures
    c.grants-before.ensures c.grants.ensures in
    let old : grants_at (slice_get (locks_of vs) c.args.ring) ≡ c.grants-before.result = k.old in
    let new : grants_at (slice_get (locks_of ws) c.args.ring) ≡ c.grants.result = k.new in
    let lt : c.args.rings.now.top + (c.grants.result - c.grants-before.result) + waiting (locks_of ws) < 2 ^ 64 = k.tokens in
    record { raw = c.ask_lock-done.result.answers; answer = c.ask_lock-done.ensures.answer; told = c.told.ensures; top = omega arith; tokens = lt }
