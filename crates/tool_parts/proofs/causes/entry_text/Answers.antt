use Rattle.std.proofs.Common.{◌∙◌, ℕ, List, codes, sym, subst}
use Rattle.std.specs.Str.{IsUtf8}
use Rattle.tool_parts.proofs.EntryTexts.{text_shown, text_hidden}
use Rattle.tool_parts.proofs.causes.entry_text.Goals as goal

pub returns-in-Ok : goal.returns-in-Ok
returns-in-Ok c =
    let text = c.in-Ok.ensures.cases in
    let shown = c.shown_bytes.ensures in
    (text.0 ∙ shown) ∙ text_shown _ (codes "a name that is too long") (subst (λ (bs : List ℕ). IsUtf8 bs) shown text.1)

pub returns-in-Err : goal.returns-in-Err
returns-in-Err c =
    let fault = c.in-Err.ensures.cases in
    let shown = c.shown_bytes.ensures in
    sym (text_hidden _ (codes "a name that is too long") (λ text. fault.0 (subst (λ (bs : List ℕ). IsUtf8 bs) (sym shown) text)))
