use Rattle.std.proofs.Common.{◌≡◌, ◌∙◌, [], length, length-append, drop, ap, arith, refl, sym, Ok, Err}
use Rattle.std.proofs.lemmas.List.{drop_all}
use Rattle.std.proofs.lemmas.Result.{err_from_is_err_and}
use Rattle.ring_model.specs.Ring.{ring_with, Ring}
use Rattle.ring_model.specs.History.{State}
use Rattle.ring_state.specs.Sizes.{Size}
use Rattle.ring_book.specs.declared.resources.Idle.{Idle}
use Rattle.run_commands.specs.StepText.{step_text, step_opening, lines_from, end_lines}
use Rattle.run_commands.proofs.FirstFaults.{choices_allowed}
use Rattle.tool_parts.proofs.Buffers.{wrote_none}
use Rattle.run_commands.proofs.StepLemmas.{wrote_piece, wrote_cut, wrote_last, lines-step, lines-some}
use Rattle.run_commands.proofs.step.step_lines.Goals as goal

pub returns-in_err-book-clause-front : goal.returns-in_err-book-clause-front
returns-in_err-book-clause-front g c =
    let p = err_from_is_err_and c.from_residual.result c.from_residual.ensures.1 in
    rw p.1 (step_text (ring_with c.args.k c.args.states.now) c.args.choices.now, lines-some (step_opening (ring_with c.args.k c.args.states.now)) c.args.choices.now, wrote_none _ _ _ refl)

pub loop-choice-init : goal.loop-choice-init
loop-choice-init g c =
    let fresh = c.in_ok-book.ensures.ok.0 in
    record {
      written = wrote_none _ _ _ (ap (λ (s : State Idle). lines_from s c.args.choices.now) (sym fresh.1));
      started = ap (λ (r : Ring). length r.values) fresh.0 ∙ c.in_ok-book.ensures.ok.1;
      size = ap (λ (s : State Idle). length s.ring.values) fresh.1 ∙ c.in_ok-book.ensures.ok.1;
      recorded = ap length fresh.2;
    }

pub pass-requires-clause-machine : goal.pass-requires-clause-machine
pass-requires-clause-machine g c =
    let below = choices_allowed c.args.n c.args.k c.args.states.now c.args.choices.now c.loop-choice.choice-index c.in_ok-book.ensures.ok.2 c.loop-choice-test.true in
    omega (arith, below, c.loop-choice.invariant.size)

pub returns-in_err-receipt-clause-front : goal.returns-in_err-receipt-clause-front
returns-in_err-receipt-clause-front g c =
    let p = err_from_is_err_and c.from_residual-in_err-receipt.result c.from_residual-in_err-receipt.ensures.1 in
    let left = drop c.loop-choice.choice-index c.args.choices.now in
    rw p.1 (lines_from c.loop-choice.book.now left, lines-some c.loop-choice.book.now left, c.loop-choice.invariant.written)

pub returns-in_err-put_reply-clause-front : goal.returns-in_err-put_reply-clause-front
returns-in_err-put_reply-clause-front g c =
    let p = err_from_is_err_and c.from_residual-in_err-put_reply.result c.from_residual-in_err-put_reply.ensures.1 in
    let next = lines-step c.loop-choice.book.now c.pass.new.self.now c.in_ok-receipt.receipt.event c.args.choices.now c.loop-choice.choice-index c.loop-choice-test.true
    c.in_ok-receipt.ensures.ok.step c.in_ok-receipt.ensures.ok.of_call in
    rw p.1 (wrote_cut _ _ _ c.in_err-put_reply.field-0.0 _ _ _ _ next c.loop-choice.invariant.written c.in_err-put_reply.ensures)

pub loop-choice-preserved : goal.loop-choice-preserved
loop-choice-preserved g c =
    let next = lines-step c.loop-choice.book.now c.pass.new.self.now c.in_ok-receipt.receipt.event c.args.choices.now c.loop-choice.choice-index c.loop-choice-test.true
    c.in_ok-receipt.ensures.ok.step c.in_ok-receipt.ensures.ok.of_call in
    let started : length c.pass.new.self.start.values ≡ c.args.n = ap (λ (r : Ring). length r.values) c.in_ok-receipt.ensures.ok.same_start ∙ c.loop-choice.invariant.started in
    record {
      written = wrote_piece _ _ _ _ _ _ _ next c.loop-choice.invariant.written c.in_ok-put_reply.ensures;
      started = started;
      size = ap (λ (s : Size). s.n) c.in_ok-receipt.ensures.book.same_size ∙ started;
      recorded = rw (c.in_ok-receipt.ensures.ok.grown, length-append) (omega (arith, c.loop-choice.invariant.recorded));
    }

pub returns-in_err-put_end-clause-front : goal.returns-in_err-put_end-clause-front
returns-in_err-put_end-clause-front g c =
    let p = err_from_is_err_and c.from_residual-in_err-put_end.result c.from_residual-in_err-put_end.ensures.1 in
    let none : drop c.loop-choice.choice-index c.args.choices.now ≡ [] = drop_all c.loop-choice.choice-index c.args.choices.now (omega (arith, c.loop-choice-test.false)) in
    let last : lines_from c.loop-choice.book.now (drop c.loop-choice.choice-index c.args.choices.now) ≡ end_lines c.state.result.now.values = rw (none, c.state.ensures.is) refl in
    rw p.1 (wrote_last _ _ _ (Err c.in_err-put_end.field-0.0) _ _ _ last c.loop-choice.invariant.written c.in_err-put_end.ensures)

pub returns-clause-written : goal.returns-clause-written
returns-clause-written g c =
    let none : drop c.loop-choice.choice-index c.args.choices.now ≡ [] = drop_all c.loop-choice.choice-index c.args.choices.now (omega (arith, c.loop-choice-test.false)) in
    let last : lines_from c.loop-choice.book.now (drop c.loop-choice.choice-index c.args.choices.now) ≡ end_lines c.state.result.now.values = rw (none, c.state.ensures.is) refl in
    wrote_last _ _ _ (Ok tt) _ _ _ last c.loop-choice.invariant.written c.in_ok-put_end.ensures
