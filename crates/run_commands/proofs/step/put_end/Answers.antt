use Rattle.std.proofs.Common.{◌≡◌, ◌++◌, ◌∙◌, List, ℕ, ap, refl}
use Rattle.std.specs.Prelude.{codes, decimal}
use Rattle.std.proofs.lemmas.Result.{err_from_is_err_and}
use Rattle.ring_model.specs.Ring.{privileged_count, first_privileged}
use Rattle.text_lines.specs.Spelling.{list_text}
use Rattle.run_commands.specs.StepText.{end_lines}
use Rattle.tool_parts.proofs.Buffers.{wrote_none}
use Rattle.run_commands.proofs.StepLemmas.{wrote_piece, wrote_cut, wrote_last}
use Rattle.run_commands.proofs.step.put_end.Goals as goal

-- the text after the values
counts : List ℕ → List ℕ
counts values = codes "\nprivileged " ++ (decimal (privileged_count values) ++ (codes " first " ++ (decimal (first_privileged values) ++ codes "\n")))

end_lines-parts : (values : List ℕ) → end_lines values ≡ codes "states " ++ (list_text values ++ counts values)
unfolding counts
end_lines-parts values = refl

pub returns-in_err-put : goal.returns-in_err-put
returns-in_err-put g c =
    let p = err_from_is_err_and c.from_residual.result c.from_residual.ensures.1 in
    rw p.1
    (wrote_cut _ _ _ p.0 (end_lines c.args.state.now.values) _ (codes "states ") (list_text c.args.state.now.values ++ counts c.args.state.now.values)
    (end_lines-parts c.args.state.now.values) (wrote_none _ _ _ refl) c.in_err-put.ensures)

pub returns-in_err-put_values : goal.returns-in_err-put_values
returns-in_err-put_values g c =
    let p = err_from_is_err_and c.from_residual-in_err-put_values.result c.from_residual-in_err-put_values.ensures.1 in
    let begun = wrote_piece _ _ _ (end_lines c.args.state.now.values) _ (codes "states ") (list_text c.args.state.now.values ++ counts c.args.state.now.values)
    (end_lines-parts c.args.state.now.values) (wrote_none _ _ _ refl) c.in_ok-put.ensures in
    rw p.1 (wrote_cut _ _ _ p.0 _ _ (list_text c.args.state.now.values) (counts c.args.state.now.values) refl begun c.in_err-put_values.ensures)

pub returns : goal.returns
unfolding counts
returns g c =
    let begun = wrote_piece _ _ _ (end_lines c.args.state.now.values) _ (codes "states ") (list_text c.args.state.now.values ++ counts c.args.state.now.values)
    (end_lines-parts c.args.state.now.values) (wrote_none _ _ _ refl) c.in_ok-put.ensures in
    let valued = wrote_piece _ _ _ _ _ (list_text c.args.state.now.values) (counts c.args.state.now.values) refl begun c.in_ok-put_values.ensures in
    let count : c.as_bytes.result.now ≡ decimal (privileged_count c.args.state.now.values) = c.as_bytes.ensures.value ∙ c.format.ensures.text ∙ ap decimal c.privileged.ensures.is in
    let first : c.as_bytes-2.result.now ≡ decimal (first_privileged c.args.state.now.values) = c.as_bytes-2.ensures.value ∙ c.format-2.ensures.text ∙ ap decimal c.first.ensures.is in
    let piece = codes "\nprivileged " ++ (c.as_bytes.result.now ++ (codes " first " ++ (c.as_bytes-2.result.now ++ codes "\n"))) in
    let same : counts c.args.state.now.values ≡ piece = rw (count, first) refl in
    wrote_last _ _ _ _ _ _ piece same valued c.put_all.ensures
