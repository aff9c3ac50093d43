-- What clients are answered, and the lines that it is (this project's own).
use Rattle.std.specs.Prelude.{ℕ, List, ◌++◌, codes, Option, None, Some}
use Rattle.text_lines.specs.Spelling.{spaced, ended}
use Rattle.held_locks.specs.declared.answers.Holder.{Holder}
use Rattle.held_locks.specs.declared.answers.Answer.{Answer}
use Rattle.held_locks.specs.declared.answers.Answer.TheVariants as answer
use Rattle.held_locks.specs.declared.answers.Refusal.{Refusal}
use Rattle.held_locks.specs.declared.answers.Refusal.TheVariants as refusal
use Rattle.lock_protocol.specs.Names.{name_spaced, name_ended}
use Rattle.lock_protocol.specs.declared.answers.Denial.{Denial}
use Rattle.lock_protocol.specs.declared.answers.Denial.TheVariants as denial

-- why an ask of a lock is refused, which is named
abbrev pub refusal_text : List ℕ → Refusal → List ℕ
refusal_text name refusal.Lock = codes "refused lock " ++ name_ended name
refusal_text name refusal.Holds = codes "refused holds " ++ name_ended name
refusal_text name refusal.Waits = codes "refused waits " ++ name_ended name
refusal_text name refusal.Circle = codes "refused circle " ++ name_ended name
refusal_text name refusal.Holder = codes "refused holder " ++ name_ended name
refusal_text name refusal.Waiter = codes "refused waiter " ++ name_ended name
refusal_text name refusal.Machine = codes "refused machine " ++ name_ended name
refusal_text name refusal.Value = codes "refused value " ++ name_ended name
refusal_text name refusal.Full = codes "refused full " ++ name_ended name
refusal_text name refusal.Memory = codes "refused memory " ++ name_ended name

-- the holder of a lock, and the token; or two zeros, and no token is 0
abbrev pub holder_text : Option Holder → List ℕ
holder_text None = codes "0 0\n"
holder_text (Some h) = spaced h.client ++ ended h.token

-- the rest of a line, after the number of the client and a space
abbrev pub answer_text : List ℕ → Answer → List ℕ
answer_text name (answer.Granted token) = codes "granted " ++ (name_spaced name ++ ended token)
answer_text name (answer.Waiting before) = codes "waiting " ++ (name_spaced name ++ ended before)
answer_text name answer.Busy = codes "busy " ++ name_ended name
answer_text name answer.Released = codes "released " ++ name_ended name
answer_text name answer.Cancelled = codes "cancelled " ++ name_ended name
answer_text name (answer.Corrupted old) = codes "corrupted " ++ (name_spaced name ++ ended old)
answer_text name (answer.Stats s) =
    codes "stats "
    ++ (name_spaced name
    ++ (spaced s.machines ++ (spaced s.waiters ++ (spaced s.passes ++ holder_text s.holder))))
answer_text name (answer.Refused why) = refusal_text name why

-- the line of an answer to a client about the lock of this name
abbrev pub answer_line : ℕ → List ℕ → Answer → List ℕ
answer_line client name a = spaced client ++ answer_text name a

-- the line of a client whose input no lock is asked
abbrev pub denial_text : Denial → List ℕ
denial_text denial.Syntax = codes "refused syntax\n"
denial_text denial.Number = codes "refused number\n"
denial_text denial.Off = codes "refused off\n"

abbrev pub denial_line : ℕ → Denial → List ℕ
denial_line client why = spaced client ++ denial_text why

-- the line of a client whose ask of a name is refused, since as many names are held as may be
abbrev pub names_line : ℕ → List ℕ → List ℕ
names_line client name = spaced client ++ (codes "refused names " ++ name_ended name)
