use Rattle.std.proofs.Common.{◌≡◌, ℕ, List, [], ◌++◌, cond, Result, refl, sym, ap, ◌∙◌, subst}
use Rattle.std.specs.Prelude.{slice_get}
use Rattle.held_locks.specs.Kept.{LockView, answers_of}
use Rattle.lock_protocol.specs.Names.{Names}
use Rattle.lock_journal.specs.declared.untold.Untold.{Untold}
use Rattle.held_locks.specs.Asked.{asked, events_at}
use Rattle.lock_journal.specs.Noting.{lines_about, note_about, end_line, events_from}
use Rattle.lock_journal.specs.Answering.{IsToldOf, Leaves}
use Rattle.lock_journal.proofs.Telling.{on_ok, put_leaves}
use Rattle.lock_service.proofs.service.answer_one.Goals as goal

pub returns-in-Ok : goal.returns-in-Ok
returns-in-Ok c =
    let r = c.ask-done.result.answers in
    let i : ℕ = c.args.lock in
    let old = c.args.segment.now.locks in
    let new = c.ask-done.new.self.locks in
    let noting = c.args.terms.noting in
    let names = c.args.segment.now.names in
    let named : c.names.result.now ≡ names = c.names.ensures ∙ c.ask-done.ensures.counted.names in
    let said = c.in-Ok.ensures ∙ ap (λ (x : Names). c.args.pending.now.answers.items ++ lines_about x i (answers_of c.args.client r)) named in
    let text : cond noting (end_line i r.ended ++ events_from i c.ask-done.result.before (slice_get c.locks.result.now i)) [] ≡ cond noting (note_about i old new r.ended) [] =
    ap (λ (p : ℕ). cond noting (end_line i r.ended ++ events_from i p (slice_get c.locks.result.now i)) []) c.ask-done.ensures.before
    ∙ ap (λ (vs : List LockView). cond noting (end_line i r.ended ++ events_from i (events_at (slice_get old i)) (slice_get vs i)) []) c.locks.ensures in
    subst (λ (x : Result (Unit {0}) Untold). Leaves x (λ s n. IsToldOf c.args.terms.strict noting c.args.client i (asked c.args.ask) c.args.segment.now s n c.ask-done.new.self) (c.ask-done.new.self ≡ c.args.segment.now) c.args.pending.now (record { answers = c.tell.new.text; notes = c.note_if.new.notes })) (sym c.put.ensures)
    (put_leaves c.note_if.result (λ s n. IsToldOf c.args.terms.strict noting c.args.client i (asked c.args.ask) c.args.segment.now s n c.ask-done.new.self) (c.ask-done.new.self ≡ c.args.segment.now) c.args.pending.now (record { answers = c.tell.new.text; notes = c.note_if.new.notes })
    (lines_about names i (answers_of c.args.client r)) (cond noting (note_about i old new r.ended) [])
    (record { answers = r; done = c.ask-done.ensures.answer; given = sym c.is_stop.ensures ∙ c.if-is_stop.false; says = refl; notes = refl; counted = c.ask-done.ensures.counted })
    (on_ok c.note_if.result _ _ c.note_if.ensures (λ n. (said, n ∙ ap (λ (t : List ℕ). c.args.pending.now.notes.items ++ t) text))))

pub returns-in-Err : goal.returns-in-Err
returns-in-Err c =
    let r = c.ask-done.result.answers in (
      lines_about c.args.segment.now.names c.args.lock (answers_of c.args.client r),
      cond c.args.terms.noting (note_about c.args.lock c.args.segment.now.locks c.ask-done.new.self.locks r.ended) [],
      record { answers = r; done = c.ask-done.ensures.answer; given = sym c.is_stop.ensures ∙ c.if-is_stop.false; says = refl; notes = refl; counted = c.ask-done.ensures.counted },
    )
