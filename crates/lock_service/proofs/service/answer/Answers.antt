use Rattle.std.proofs.Common.{◌≡◌, sym, ◌∙◌, subst, refl, inr}
use Rattle.lock_protocol.specs.Views.{input_of}
use Rattle.lock_service.specs.declared.service.LockService.{LockService}
use Rattle.lock_service.specs.Serving.{AnswersInput}
use Rattle.lock_journal.specs.Answering.{IsInputAnswered}
use Rattle.lock_journal.proofs.Telling.{answered_leaves}
use Rattle.lock_service.proofs.service.answer.Goals as goal

pub returns-in-Err-Answered-clause-err : goal.returns-in-Err-Answered-clause-err
returns-in-Err-Answered-clause-err c =
    let a = answered_leaves c.in-Err-Answered.field-0 (λ s n. IsInputAnswered c.args.service.now.terms (input_of c.args.input) c.args.service.now.segment s n c.answer_input.new.segment) (c.answer_input.new.segment ≡ c.args.service.now.segment) c.args.pending.now c.answer_input.new.pending
    c.in-Err-Answered.field-0-is c.in-Err-Answered.ensures in
    inr (a.0, a.1, subst (λ (s : LockService). AnswersInput c.args.service.now (input_of c.args.input) a.0 a.1 s) (sym c.see-in-Err-Answered.ensures) (record { goes = sym c.is_stopped.ensures ∙ c.if-is_stopped.false; answered = a.2; terms = refl; stage = refl }))
