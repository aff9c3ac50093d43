use Rattle.std.proofs.Common.{◌≡◌, true, false, [], ◌++◌, ap, sym, ◌∙◌, subst, refl}
use Rattle.std.proofs.lemmas.List.{append-nil}
use Rattle.lock_protocol.specs.declared.answers.Denial.{Denial}
use Rattle.lock_protocol.specs.declared.answers.Denial.TheVariants as denial
use Rattle.lock_protocol.specs.Views.{Input, input_of}
use Rattle.lock_protocol.specs.Asks.{seen}
use Rattle.lock_protocol.specs.Answers.{denial_line}
use Rattle.lock_journal.specs.Asking.{one_ask, is_off}
use Rattle.lock_journal.specs.Answering.{denial_of, IsTold, IsInputAnswered}
use Rattle.lock_journal.proofs.Telling.{on_ok, said_leaves, leaves_weaker}
use Rattle.lock_service.proofs.ToldInputs.{asked_input, told_input}
use Rattle.lock_service.proofs.service.answer_input.Goals as goal

pub returns-then-is_off : goal.returns-then-is_off
returns-then-is_off c =
    let old = c.args.segment.now in
    let off : is_off c.args.terms.faults (seen c.in-Asked.ask) ≡ true = sym c.is_off.ensures ∙ c.if-is_off.true in
    said_leaves c.put_denial.result c.put.result (λ s n. IsInputAnswered c.args.terms (input_of c.args.input) old s n old) (old ≡ old) c.args.pending.now (record { answers = c.put_denial.new.text; notes = c.args.pending.now.notes }) (denial_line c.in-Asked.client denial.Off) c.put.ensures
    (asked_input c.args.terms (input_of c.args.input) c.in-Asked.client (seen c.in-Asked.ask) true old (denial_line c.in-Asked.client denial.Off) [] old (ap input_of c.in-Asked.is) off (record { says = refl; notes = refl; leaves = refl }))
    c.put_denial.ensures.ok refl

pub returns-else-is_off : goal.returns-else-is_off
returns-else-is_off c =
    let old = c.args.segment.now in
    let new = c.answer_ask.new.segment in
    let terms = c.args.terms in
    let ask = seen c.in-Asked.ask in
    let off : is_off terms.faults ask ≡ false = sym c.is_off.ensures ∙ c.if-is_off.false in
    leaves_weaker c.answer_ask.result (λ s n. IsTold terms.strict terms.noting c.in-Asked.client (one_ask ask) old s n new) (λ s n. IsInputAnswered terms (input_of c.args.input) old s n new) (new ≡ old) c.args.pending.now c.answer_ask.new.pending
    (λ s n t. told_input terms (input_of c.args.input) c.in-Asked.client ask (one_ask ask) old s n new (ap input_of c.in-Asked.is) off refl t) c.answer_ask.ensures

pub returns-in-Refused : goal.returns-in-Refused
returns-in-Refused c =
    let old = c.args.segment.now in
    let said = denial_line c.in-Refused.client (denial_of c.in-Refused.why) in
    said_leaves c.put_denial-in-Refused.result c.put-in-Refused.result (λ s n. IsInputAnswered c.args.terms (input_of c.args.input) old s n old) (old ≡ old) c.args.pending.now (record { answers = c.put_denial-in-Refused.new.text; notes = c.args.pending.now.notes }) said c.put-in-Refused.ensures
    (subst (λ (i : Input). IsInputAnswered c.args.terms i old said [] old) (sym (ap input_of c.in-Refused.is)) (record { says = refl; notes = refl; leaves = refl }))
    (on_ok c.put_denial-in-Refused.result _ _ c.put_denial-in-Refused.ensures.ok (λ e. e ∙ ap (λ (d : Denial). c.args.pending.now.answers.items ++ denial_line c.in-Refused.client d) c.denial_of.ensures))
    refl

pub returns-in-Nobody : goal.returns-in-Nobody
returns-in-Nobody c = (
  [],
  [],
  subst (λ (i : Input). IsInputAnswered c.args.terms i c.args.segment.now [] [] c.args.segment.now) (sym (ap input_of c.in-Nobody.is)) (record { says = refl; notes = refl; leaves = refl }),
  (sym (append-nil c.args.pending.now.answers.items), sym (append-nil c.args.pending.now.notes.items)),
)
