use Rattle.std.proofs.Common.{◌≡◌, ℕ, List, [], Option, Some, None, refl, ap, sym, ◌∙◌, subst}
use Rattle.held_locks.specs.Asked.{asked}
use Rattle.held_locks.specs.declared.answers.Answer.TheVariants as answer
use Rattle.held_locks.specs.declared.answers.Refusal.TheVariants as refusal
use Rattle.lock_protocol.specs.Names.{Names, lock_named}
use Rattle.lock_protocol.specs.Answers.{answer_line}
use Rattle.lock_journal.specs.Answering.{IsToldOf, IsToldOfNamed, IsTold}
use Rattle.lock_journal.proofs.Telling.{said_leaves, leaves_weaker}
use Rattle.lock_service.proofs.service.answer_named.Goals as goal

pub returns-in-Some : goal.returns-in-Some
returns-in-Some c =
    let old = c.args.segment.now in
    let new = c.answer_one.new.segment in
    let t = c.args.terms in
    let name = c.args.name.now in
    let there : lock_named old.names name ≡ Some c.in-Some.lock = ap (λ (x : Names). lock_named x name) (sym c.names.ensures) ∙ sym c.in-Some.ensures in
    leaves_weaker c.answer_one.result (λ s n. IsToldOf t.strict t.noting c.args.client c.in-Some.lock (asked c.args.ask) old s n new) (λ s n. IsTold t.strict t.noting c.args.client (Some (name, asked c.args.ask)) old s n new) (new ≡ old) c.args.pending.now c.answer_one.new.pending
    (λ s n told. subst (λ (o : Option ℕ). IsToldOfNamed o t.strict t.noting c.args.client name (asked c.args.ask) old s n new) (sym there) told) c.answer_one.ensures

pub returns-in-None : goal.returns-in-None
returns-in-None c =
    let old = c.args.segment.now in
    let t = c.args.terms in
    let name = c.args.name.now in
    let said : List ℕ = answer_line c.args.client name (answer.Refused refusal.Lock) in
    let none : lock_named old.names name ≡ None = ap (λ (x : Names). lock_named x name) (sym c.names.ensures) ∙ sym c.in-None.ensures in
    said_leaves c.put_answer.result c.put.result (λ s n. IsTold t.strict t.noting c.args.client (Some (name, asked c.args.ask)) old s n old) (old ≡ old) c.args.pending.now (record { answers = c.put_answer.new.text; notes = c.args.pending.now.notes }) said c.put.ensures
    (subst (λ (o : Option ℕ). IsToldOfNamed o t.strict t.noting c.args.client name (asked c.args.ask) old said [] old) (sym none) (record { says = refl; notes = refl; leaves = refl }))
    c.put_answer.ensures.ok refl
