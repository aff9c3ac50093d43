use Rattle.std.proofs.Common.{◌≡◌, ◌∙◌, ap, rules}
use Rattle.serde_json.specs.Data.{string}
use Rattle.serde_json.specs.View.{view}
use Rattle.std.specs.String.{string_bytes}
use Rattle.serde_json.specs.declared.value.Value.{String, the_lemmas}
use Rattle.repair_texts.proofs.Rows.{words_more}
use Rattle.repair_texts.proofs.objects.put_words.Goals as goal

pub loop-word-preserved : goal.loop-word-preserved
loop-word-preserved c =
    let shown : view (String c.in_ok-from_str.field-0) ≡ string (string_bytes c.in_ok-from_str.field-0) = search (rules, the_lemmas) in
    words_more c.args.words.now c.loop-word.word-index _ _ _ _ _ c.loop-word-test.true c.in_ok-put.ensures.ok
    (shown ∙ ap string c.in_ok-from_str.ensures.ok) c.loop-word.invariant
