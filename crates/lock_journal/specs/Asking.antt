-- What locks hear of a line's ask (this project's own).
use Rattle.std.specs.Prelude.{ℕ, List, Bool, true, false, not, Option, None, Some}
use Rattle.text_lines.specs.LongNumbers.{in_32_bits}
use Rattle.held_locks.specs.Locks.{Ask, Acquire, Try, Release, Cancel, Corrupt, Stats}
use Rattle.held_locks.specs.declared.answers.Answer.{Answer}
use Rattle.lock_protocol.specs.Asks as lines
use Rattle.held_locks.specs.declared.answers.Answer.TheVariants as answer
use Rattle.held_locks.specs.declared.answers.Refusal.TheVariants as refusal

-- the name of a lock, and what is asked of it, with the numbers of 32 bits by which machines and
-- values are known: the greatest of these for all that are greater, and none has it; nothing where
-- all locks are left
abbrev pub one_ask : lines.Ask → Option (List ℕ × Ask)
one_ask (lines.acquire name label) = Some (name, Acquire label)
one_ask (lines.try name label) = Some (name, Try label)
one_ask (lines.release name token) = Some (name, Release token)
one_ask (lines.cancel name) = Some (name, Cancel)
one_ask lines.leave = None
one_ask (lines.corrupt name machine value) =
    Some (name, Corrupt (in_32_bits machine) (in_32_bits value))
one_ask (lines.stats name) = Some (name, Stats)

-- whether it is a fault, where none is permitted
abbrev pub is_off : Bool → lines.Ask → Bool
is_off faults (lines.corrupt name machine value) = not faults
is_off faults _ = false

-- whether the asker is refused for lack of room or of memory
abbrev pub is_lack : Option Answer → Bool
is_lack (Some (answer.Refused refusal.Full)) = true
is_lack (Some (answer.Refused refusal.Memory)) = true
is_lack _ = false
