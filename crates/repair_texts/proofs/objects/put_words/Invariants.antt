use Rattle.std.proofs.Common.{◌≡◌, map, take}
use Rattle.serde_json.specs.View.{members_view}
use Rattle.repair_texts.specs.Columns.{word_of, with_words}
use Rattle.repair_texts.proofs.objects.put_words.Given as goal

abbrev pub invariant-loop-word : goal.invariant-loop-word
invariant-loop-word l = members_view l.object.entries ≡ with_words (map word_of (take l.word-index l.words)) (members_view l.initial.object.entries)
