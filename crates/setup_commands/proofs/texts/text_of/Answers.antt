use Rattle.std.proofs.Common.{◌≡◌, ◌∙◌, false, ℕ, List, Ok, ap, subst}
use Rattle.std.proofs.lemmas.Result.{IfOk-weaker}
use Rattle.ring_settings.specs.Seats.{settings_of}
use Rattle.serde_json.specs.View.{view}
use Rattle.serde_json.specs.Written.{compact_text, has_float}
use Rattle.setup_commands.specs.Settings.{settings_given}
use Rattle.setup_commands.proofs.Documented.{plain}
use Rattle.setup_commands.proofs.ReadTexts.{text_reads, from_both}
use Rattle.setup_commands.proofs.texts.text_of.Goals as goal

pub returns-clause-is : goal.returns-clause-is
returns-clause-is c =
    let shown = c.in_ok-document.ensures in
    let whole : has_float (view c.in_ok-document.document) ≡ false = ap has_float shown ∙ plain c.args.words.now in
    IfOk-weaker c.to_vec.result _ _ (λ text h. h whole ∙ ap compact_text shown) c.to_vec.ensures.text

pub returns-clause-read : goal.returns-clause-read
returns-clause-read c =
    let words = c.args.words.now in
    let read =
    from_both c.to_vec.result _ _ (λ text. settings_of text.items ≡ Ok (settings_given words))
    (λ text utf8 back. text_reads words c.requires.words (view c.in_ok-document.document) c.in_ok-document.ensures text.items utf8 back)
    c.to_vec.ensures.utf8 c.to_vec.ensures.reads_back in
    from_both c.to_vec.result _ _ _ (λ text same h. subst (λ (bs : List ℕ). settings_of bs ≡ Ok (settings_given words)) same h) (returns-clause-is c) read
