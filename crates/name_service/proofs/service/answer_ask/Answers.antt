use Rattle.std.proofs.Common.{◌≡◌, ℕ, List, Option, Result, sym, subst}
use Rattle.held_locks.specs.Locks.{Ask}
use Rattle.held_locks.specs.Asked.{asked}
use Rattle.lock_protocol.specs.Asks.{seen}
use Rattle.lock_journal.specs.declared.untold.Untold.{Untold}
use Rattle.lock_journal.specs.Asking.{one_ask}
use Rattle.lock_journal.specs.Answering.{Leaves}
use Rattle.lock_journal.proofs.Telling.{put_leaves}
use Rattle.name_service.specs.Serving.{IsNameTold}
use Rattle.name_service.proofs.Inputs.{one_named}
use Rattle.name_service.proofs.service.answer_ask.Goals as goal

pub answer_name-requires : goal.answer_name-requires
answer_name-requires c = one_named (seen c.args.ask) c.in-Some.name.now (asked c.in-Some.ask) c.requires (sym c.in-Some.ensures)

pub returns-in-Some : goal.returns-in-Some
returns-in-Some c =
    let old = c.args.segment.now in
    let new = c.answer_name.new.segment in
    let t = c.args.terms in
    subst (λ (x : Option (List ℕ × Ask)). Leaves c.answer_name.result (λ s n. IsNameTold t c.args.client x old s n new) (new ≡ old) c.args.pending.now c.answer_name.new.pending) c.in-Some.ensures c.answer_name.ensures

pub returns-in-None : goal.returns-in-None
returns-in-None c =
    let old = c.args.segment.now in
    let new = c.leave_names.new.segment in
    let t = c.args.terms in
    let l = c.leave_names.ensures in
    let one = one_ask (seen c.args.ask) in
    subst (λ (x : Result (Unit {0}) Untold). Leaves x (λ s n. IsNameTold t c.args.client one old s n new) (new ≡ old) c.args.pending.now c.leave_names.new.pending) (sym c.put.ensures)
    (put_leaves c.leave_names.result (λ s n. IsNameTold t c.args.client one old s n new) (new ≡ old) c.args.pending.now c.leave_names.new.pending l.0 l.1
    (subst (λ (x : Option (List ℕ × Ask)). IsNameTold t c.args.client x old l.0 l.1 new) c.in-None.ensures l.2) l.3)
