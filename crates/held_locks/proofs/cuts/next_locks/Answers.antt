use Rattle.std.proofs.Common.{List, subst}
use Rattle.std.proofs.lemmas.List.{take_all}
use Rattle.held_locks.specs.declared.parts.LockParts.{LockParts}
use Rattle.held_locks.specs.Cuts.{AreNext}
use Rattle.held_locks.specs.Parts.{views_of}
use Rattle.held_locks.proofs.Lifting.{part_at}
use Rattle.held_locks.proofs.NextSegments.{next_more, none_at}
use Rattle.held_locks.proofs.cuts.next_locks.Goals as goal

pub next_lock-requires-clause-kept : goal.next_lock-requires-clause-kept
next_lock-requires-clause-kept c = (c.requires c.loop-lock.lock-index c.lock-item.result (part_at c.args.locks.now c.loop-lock.lock-index c.lock-item.result c.loop-lock-test.true c.lock-item.is)).0

pub next_lock-requires-clause-right : goal.next_lock-requires-clause-right
next_lock-requires-clause-right c = (c.requires c.loop-lock.lock-index c.lock-item.result (part_at c.args.locks.now c.loop-lock.lock-index c.lock-item.result c.loop-lock-test.true c.lock-item.is)).1

pub returns-in-Err-clause-why : goal.returns-in-Err-clause-why
returns-in-Err-clause-why c = none_at c.args.locks.now c.loop-lock.lock-index c.lock-item.result c.in-Err.why c.loop-lock-test.true c.lock-item.is c.in-Err.ensures.why

pub loop-lock-preserved : goal.loop-lock-preserved
loop-lock-preserved c = next_more c.args.locks.now c.loop-lock.next.items c.push.new.self.items c.loop-lock.lock-index c.lock-item.result c.in-Ok.one c.loop-lock-test.true c.lock-item.is c.loop-lock.invariant c.in-Ok.ensures.ok c.in-Ok-push.ensures.items

pub returns-clause-ok : goal.returns-clause-ok
returns-clause-ok c = subst (λ (xs : List LockParts). AreNext (views_of xs) (views_of c.loop-lock.next.items)) (take_all c.loop-lock.lock-index c.args.locks.now c.loop-lock-test.false) c.loop-lock.invariant
