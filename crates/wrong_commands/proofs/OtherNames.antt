-- Lines that have another name.
use Rattle.std.proofs.Common.{◌≡◌, ℕ, List, [], ◌∷◌, ◌++◌, codes}
use Rattle.std.proofs.lemmas.List.{append_cancel_left, append_cancel_right}
use Rattle.text_lines.specs.Spelling.{spaced}
use Rattle.held_locks.specs.declared.answers.Answer.TheVariants as answer
use Rattle.lock_protocol.specs.Names.{name_ended}
use Rattle.lock_protocol.specs.Answers.{answer_line}

-- a text that ends with the line of a busy lock has one name there
pub one_name : (client : ℕ) (before name other : List ℕ) → before ++ answer_line client other answer.Busy ≡ before ++ answer_line client name answer.Busy → other ≡ name
one_name client before name other same =
    let lines : answer_line client other answer.Busy ≡ answer_line client name answer.Busy = append_cancel_left before (answer_line client other answer.Busy) (answer_line client name answer.Busy) same in
    let texts : codes "busy " ++ name_ended other ≡ codes "busy " ++ name_ended name = append_cancel_left (spaced client) (codes "busy " ++ name_ended other) (codes "busy " ++ name_ended name) lines in
    append_cancel_right other name (10 ∷ []) (append_cancel_left (codes "busy ") (name_ended other) (name_ended name) texts)
