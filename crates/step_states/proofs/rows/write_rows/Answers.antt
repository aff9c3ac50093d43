use Rattle.std.proofs.Common.{◌≡◌, ◌∙◌, ◌+◌, ℕ, Bool, length, Ok, Err, ap, sym, refl, arith}
use Rattle.std.specs.Prelude.{slice_index}
use Rattle.ring_model.specs.Numbers.{bit}
use Rattle.ring_model.specs.Ring.{Ring, is_privileged}
use Rattle.ring_model.specs.Runs.{passed}
use Rattle.ring_model.proofs.Runs.{length_pass}
use Rattle.history_states.proofs.Parts.{place_more, place_fault, place_last, table_same}
use Rattle.step_states.specs.declared.asked.Asked.{Asked}
use Rattle.step_states.specs.Rows.{row, ring_after, grants_after}
use Rattle.step_states.proofs.Choices.{ring_more, grants_more, last_more, row_is, bit_few}
use Rattle.step_states.proofs.rows.write_rows.Goals as goal

pub returns-in-Err : goal.returns-in-Err
returns-in-Err g c =
    let r = c.args.ring in
    let choices = c.args.choices.now in
    let i = c.loop-choice.choice-index in
    let inv = c.loop-choice.invariant in
    let same = row_is r choices i c.loop-choice.place.choices c.loop-choice.place.last c.loop-choice.ring c.loop-choice.place.grants inv.choices inv.last inv.ring inv.grants in
    place_fault (row r choices) (length choices + 1) i _ _ _ c.in-Err.fault (omega (arith, c.loop-choice-test.true)) inv.text (table_same _ _ (Err c.in-Err.fault) _ _ same c.in-Err.ensures)

pub loop-choice-preserved : goal.loop-choice-preserved
loop-choice-preserved g c =
    let r = c.args.ring in
    let choices = c.args.choices.now in
    let i = c.loop-choice.choice-index in
    let inv = c.loop-choice.invariant in
    let now = c.loop-choice.ring in
    let asked = c.ask-asked.result in
    let machine = slice_index choices i in
    let lt = c.loop-choice-test.true in
    let same = row_is r choices i c.loop-choice.place.choices c.loop-choice.place.last now c.loop-choice.place.grants inv.choices inv.last inv.ring inv.grants in
    let granted : asked.granted ≡ is_privileged (ring_after r choices i).values machine =
    ap (λ (a : Asked). a.granted) c.ask-asked.ensures.asked ∙ ap (λ (x : Ring). is_privileged x.values machine) inv.ring in
    record {
      text = place_more (row r choices) (length choices + 1) i _ _ _ (omega (arith, lt)) inv.text (table_same _ _ (Ok c.in-Ok.field-0) _ _ same c.in-Ok.ensures);
      ring = c.ask-asked.ensures.passed ∙ ap (λ (x : Ring). passed x machine) inv.ring ∙ sym (ring_more r choices i lt);
      size = ap (λ (x : Ring). length x.values) c.ask-asked.ensures.passed ∙ length_pass now machine ∙ inv.size;
      choices = omega (arith, inv.choices);
      last = last_more r choices i now machine asked inv.ring refl c.ask-asked.ensures.asked;
      grants = ap (λ (x : ℕ). x + bit asked.granted) inv.grants ∙ ap (λ (b : Bool). grants_after r choices i + bit b) granted ∙ sym (grants_more r choices i lt);
      few = (let most = bit_few asked.granted in omega (arith, inv.few, most));
    }

pub returns : goal.returns
returns g c =
    let r = c.args.ring in
    let choices = c.args.choices.now in
    let i = c.loop-choice.choice-index in
    let inv = c.loop-choice.invariant in
    let same = row_is r choices i c.loop-choice.place.choices c.loop-choice.place.last c.loop-choice.ring c.loop-choice.place.grants inv.choices inv.last inv.ring inv.grants in
    let end : i + 1 ≡ length choices + 1 = omega (arith, c.loop-choice-test.false, c.loop-choice.auto.choice-index-end) in
    place_last (row r choices) (length choices + 1) i _ _ _ c.put_state-2.result end inv.text (table_same _ _ c.put_state-2.result _ _ same c.put_state-2.ensures)
