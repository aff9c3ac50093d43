use Rattle.std.proofs.Common.{◌≡◌, ◌++◌, ◌∙◌, length, ap, Ok, Err}
use Rattle.ring_state.specs.Sizes.{Size}
use Rattle.ring_model.specs.Ring.{Ring}
use Rattle.text_lines.proofs.Writing.{writes_then, writes_err, writes_same}
use Rattle.ring_text.specs.Report.{states_line}
use Rattle.ring_text.proofs.BookEnds.{states_text, standing_text, grants_text, standing_is, grants_are}
use Rattle.ring_text.proofs.farm_report.put_end.Goals as goal

pub returns-in-Ok-put_standing_line : goal.returns-in-Ok-put_standing_line
returns-in-Ok-put_standing_line g c =
    let n : c.n-n.result ≡ length c.args.book.now.start.values = c.n-n.ensures.is ∙ ap (λ (s : Size). s.n) c.params.ensures.is ∙ ap (λ (r : Ring). length r.values) c.start.ensures.is in
    let states = writes_same _ _ (Ok c.in-Ok.field-0) _ _ (ap states_line c.end_state.ensures) c.in-Ok.ensures in
    let standing = writes_same _ _ (Ok c.in-Ok-put_standing_line.field-0) _ _ (standing_is c.args.book.now c.survey.result c.bound.result c.n-n.result c.survey.ensures.is c.bound.ensures n) c.in-Ok-put_standing_line.ensures in
    let grants = writes_same _ _ c.put_grants_line.result _ _ (grants_are c.args.book.now c.grants.result.now c.grants.ensures.is) c.put_grants_line.ensures in
    writes_then _ _ _ _ (states_text c.args.book.now) (standing_text c.args.book.now ++ grants_text c.args.book.now) states
    (writes_then _ _ _ _ (standing_text c.args.book.now) (grants_text c.args.book.now) standing grants)

pub returns-in-Err-put_standing_line : goal.returns-in-Err-put_standing_line
returns-in-Err-put_standing_line g c =
    let n : c.n-n.result ≡ length c.args.book.now.start.values = c.n-n.ensures.is ∙ ap (λ (s : Size). s.n) c.params.ensures.is ∙ ap (λ (r : Ring). length r.values) c.start.ensures.is in
    let states = writes_same _ _ (Ok c.in-Ok.field-0) _ _ (ap states_line c.end_state.ensures) c.in-Ok.ensures in
    let standing = writes_same _ _ (Err c.in-Err-put_standing_line.fault) _ _ (standing_is c.args.book.now c.survey.result c.bound.result c.n-n.result c.survey.ensures.is c.bound.ensures n) c.in-Err-put_standing_line.ensures in
    writes_then _ _ _ (Err c.in-Err-put_standing_line.fault) (states_text c.args.book.now) (standing_text c.args.book.now ++ grants_text c.args.book.now) states
    (writes_err _ _ c.in-Err-put_standing_line.fault (standing_text c.args.book.now) (grants_text c.args.book.now) standing)

pub returns-in-Err : goal.returns-in-Err
returns-in-Err g c =
    let states = writes_same _ _ (Err c.in-Err.fault) _ _ (ap states_line c.end_state.ensures) c.in-Err.ensures in
    writes_err _ _ c.in-Err.fault (states_text c.args.book.now) (standing_text c.args.book.now ++ grants_text c.args.book.now) states
