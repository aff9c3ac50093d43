use Rattle.std.proofs.Common.{◌≡◌, ℕ, List, Option, Result, sym, subst}
use Rattle.held_locks.specs.Locks.{Ask}
use Rattle.lock_protocol.specs.Asks.{seen}
use Rattle.lock_journal.specs.declared.untold.Untold.{Untold}
use Rattle.lock_journal.specs.Asking.{one_ask}
use Rattle.lock_journal.specs.Answering.{IsTold, Leaves}
use Rattle.lock_journal.proofs.Telling.{put_leaves}
use Rattle.lock_service.proofs.service.answer_ask.Goals as goal

pub returns-in-Some : goal.returns-in-Some
returns-in-Some c =
    let old = c.args.segment.now in
    let new = c.answer_named.new.segment in
    let t = c.args.terms in
    subst (λ (x : Option (List ℕ × Ask)). Leaves c.answer_named.result (λ s n. IsTold t.strict t.noting c.args.client x old s n new) (new ≡ old) c.args.pending.now c.answer_named.new.pending) c.in-Some.ensures c.answer_named.ensures

pub returns-in-None : goal.returns-in-None
returns-in-None c =
    let old = c.args.segment.now in
    let new = c.leave.new.segment in
    let t = c.args.terms in
    let l = c.leave.ensures in
    let one = one_ask (seen c.args.ask) in
    subst (λ (x : Result (Unit {0}) Untold). Leaves x (λ s n. IsTold t.strict t.noting c.args.client one old s n new) (new ≡ old) c.args.pending.now c.leave.new.pending) (sym c.put.ensures)
    (put_leaves c.leave.result (λ s n. IsTold t.strict t.noting c.args.client one old s n new) (new ≡ old) c.args.pending.now c.leave.new.pending l.0 l.1
    (subst (λ (x : Option (List ℕ × Ask)). IsTold t.strict t.noting c.args.client x old l.0 l.1 new) c.in-None.ensures l.2) l.3)
