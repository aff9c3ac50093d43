use Rattle.std.proofs.Common.{◌≡◌, ◌++◌, map, take}
use Rattle.repair_texts.proofs.tables.fields_of.Given as goal

abbrev pub invariant-loop-word : goal.invariant-loop-word
invariant-loop-word l = map (λ f. f.now) l.fields.items ≡ map (λ w. w.word.now) (take l.word-index l.words)

abbrev pub invariant-loop-text : goal.invariant-loop-text
invariant-loop-text l = map (λ f. f.now) l.fields.items ≡ map (λ w. w.word.now) l.words ++ map (λ text. text.items) (take l.text-index l.texts)
