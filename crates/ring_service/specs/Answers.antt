-- The answers, and the lines that they are (this project's own).
use Rattle.std.specs.Prelude.{ℕ, List, ◌++◌, codes}
use Rattle.text_lines.specs.Spelling.{spaced, ended}
use Rattle.ring_service.specs.declared.answers.Answer.{Answer}
use Rattle.ring_service.specs.declared.answers.Answer.TheVariants as answer
use Rattle.ring_service.specs.declared.answers.Refusal.{Refusal}
use Rattle.ring_service.specs.declared.answers.Refusal.TheVariants as refusal

-- the word of a refusal
abbrev pub refusal_text : Refusal → List ℕ
refusal_text refusal.Syntax = codes "syntax\n"
refusal_text refusal.Off = codes "off\n"
refusal_text refusal.OrderTooLarge = codes "order\n"
refusal_text refusal.NoRing = codes "ring\n"
refusal_text refusal.NoSeat = codes "seat\n"
refusal_text refusal.NoMachine = codes "machine\n"
refusal_text refusal.NoValue = codes "value\n"
refusal_text refusal.NotRising = codes "group\n"
refusal_text refusal.WholeRing = codes "whole\n"
refusal_text (refusal.NotPrivileged machine) = codes "privileged " ++ ended machine
refusal_text refusal.HistoryFull = codes "full\n"
refusal_text refusal.OutOfMemory = codes "memory\n"
refusal_text refusal.Name = codes "name\n"
refusal_text refusal.File = codes "file\n"

-- the line of an answer
abbrev pub answer_line : Answer → List ℕ
answer_line (answer.Granted number result) = codes "granted " ++ (spaced number ++ ended result)
answer_line answer.Waits = codes "waits\n"
answer_line (answer.Corrupted old) = codes "corrupted " ++ ended old
answer_line (answer.Survey s) =
    codes "survey "
    ++ (spaced s.position
    ++ (spaced s.privileged ++ (spaced s.first ++ (spaced s.calm ++ ended s.rest))))
answer_line (answer.Block first count) = codes "block " ++ (spaced first ++ ended count)
answer_line answer.Saved = codes "saved\n"
answer_line (answer.Refused why) = codes "refused " ++ refusal_text why
