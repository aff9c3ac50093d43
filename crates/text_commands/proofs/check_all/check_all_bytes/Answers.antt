use Rattle.std.proofs.Common.{◌≡◌, ◌∙◌, length, ap, inl, inr, subst, arith}
use Rattle.std.specs.Prelude.{Err}
use Rattle.saved_history.specs.Content.{content}
use Rattle.saved_history.specs.Spelling.{text}
use Rattle.ring_check.specs.declared.answers.CheckError.{CheckError}
use Rattle.ring_check.specs.Legal.{IsRightCheck}
use Rattle.ring_check.proofs.SavedLines.{lines_some}
use Rattle.tool_parts.specs.Checked.{IsBadSavedText}
use Rattle.tool_parts.proofs.Buffers.{flushed}
use Rattle.text_commands.proofs.check_all.check_all_bytes.Goals as goal

pub check_saved-requires : goal.check_saved-requires
check_saved-requires g c =
    let some = lines_some (content c.in_ok-saved.saved) in
    let same : length c.args.bytes.now ≡ length (text (content c.in_ok-saved.saved)) = ap length c.in_ok-saved.ensures.1 in
    omega arith

pub lines_told-requires : goal.lines_told-requires
lines_told-requires g c =
    let some = lines_some (content c.in_ok-saved.saved) in
    let same : length c.args.bytes.now ≡ length (text (content c.in_ok-saved.saved)) = ap length c.in_ok-saved.ensures.1 in
    omega arith

pub returns-in_default-put-clause-err : goal.returns-in_default-put-clause-err
returns-in_default-put-clause-err g c =
    let right = subst (λ (e : CheckError). IsRightCheck (content c.in_ok-saved.saved) (Err e)) c.in-Err-Bad.field-0-is c.in-Err-Bad.ensures.right in
    let bad : IsBadSavedText c.args.bytes.now c.in-Err-Bad.line c.in-Err-Bad.kind = record { content = content c.in_ok-saved.saved; fits = c.in_ok-saved.ensures.0; spelled = c.in_ok-saved.ensures.1; bad = right } in
    inr (c.in-Err-Bad.line, c.in-Err-Bad.kind, c.as_slice.result.now, (bad, c.as_slice.ensures.value ∙ c.in-Ok-lines_told.ensures), inl c.in_default-put.ensures)

pub returns-in_default-flush-clause-err : goal.returns-in_default-flush-clause-err
returns-in_default-flush-clause-err g c =
    let right = subst (λ (e : CheckError). IsRightCheck (content c.in_ok-saved.saved) (Err e)) c.in-Err-Bad.field-0-is c.in-Err-Bad.ensures.right in
    let bad : IsBadSavedText c.args.bytes.now c.in-Err-Bad.line c.in-Err-Bad.kind = record { content = content c.in_ok-saved.saved; fits = c.in_ok-saved.ensures.0; spelled = c.in_ok-saved.ensures.1; bad = right } in
    inr (c.in-Err-Bad.line, c.in-Err-Bad.kind, c.as_slice.result.now, (bad, c.as_slice.ensures.value ∙ c.in-Ok-lines_told.ensures), inr (flushed _ _ _ c.as_slice.result.now c.in-Ok-put.ensures c.flush.ensures.bytes))

pub returns-clause-err : goal.returns-clause-err
returns-clause-err g c =
    let right = subst (λ (e : CheckError). IsRightCheck (content c.in_ok-saved.saved) (Err e)) c.in-Err-Bad.field-0-is c.in-Err-Bad.ensures.right in
    let bad : IsBadSavedText c.args.bytes.now c.in-Err-Bad.line c.in-Err-Bad.kind = record { content = content c.in_ok-saved.saved; fits = c.in_ok-saved.ensures.0; spelled = c.in_ok-saved.ensures.1; bad = right } in
    (c.as_slice.result.now, (bad, c.as_slice.ensures.value ∙ c.in-Ok-lines_told.ensures), flushed _ _ _ c.as_slice.result.now c.in-Ok-put.ensures c.flush.ensures.bytes)
