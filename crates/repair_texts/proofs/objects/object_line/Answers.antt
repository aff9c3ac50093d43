use Rattle.std.proofs.Common.{◌≡◌, false, List, ℕ, map, refl, ◌∙◌, ap}
use Rattle.std.proofs.lemmas.Result.{IfOk-weaker}
use Rattle.serde_json.specs.Data.{Members, no_members, object}
use Rattle.serde_json.specs.View.{view, members_view}
use Rattle.serde_json.specs.declared.value.Value.{Object}
use Rattle.serde_json.proofs.Views.{view-Object}
use Rattle.serde_json.specs.Written.{compact_text, has_float, members_have_float}
use Rattle.repair_texts.specs.Columns.{word_of, words_of, number_of, numbers_of, with_words, with_numbers, object_of, members_of}
use Rattle.repair_texts.proofs.Rows.{words_no_float, numbers_no_float}
use Rattle.repair_texts.proofs.objects.object_line.Goals as goal

pub returns : goal.returns
unfolding object_of members_of
returns c =
    let row = c.args.row.now in
    let empty : members_view c.new-object.result.entries ≡ no_members = ap members_view c.new-object.ensures.empty in
    let words : members_view c.put_words.new.object.entries ≡ with_words (words_of row.head) no_members =
    c.in_ok-put_words.ensures ∙ ap (λ (ws : List (List ℕ × List ℕ)). with_words ws (members_view c.new-object.result.entries)) c.words_of.ensures.words
    ∙ ap (with_words (words_of row.head)) empty in
    let built : members_view c.put_numbers.new.object.entries ≡ with_numbers (numbers_of row) (with_words (words_of row.head) no_members) =
    c.in_ok-put_numbers.ensures ∙ ap (λ (ns : List (List ℕ × ℕ)). with_numbers ns (members_view c.put_words.new.object.entries)) c.numbers_of.ensures.numbers
    ∙ ap (with_numbers (numbers_of row)) words in
    let shown : view (Object c.put_numbers.new.object) ≡ object (with_numbers (numbers_of row) (with_words (words_of row.head) no_members)) =
    view-Object c.put_numbers.new.object ∙ ap object built in
    let plain : has_float (view (Object c.put_numbers.new.object)) ≡ false =
    ap has_float shown ∙ numbers_no_float (numbers_of row) (with_words (words_of row.head) no_members) (words_no_float (words_of row.head) no_members refl) in
    IfOk-weaker c.to_string.result _ _ (λ s h. h plain ∙ ap compact_text shown) c.to_string.ensures.text
