-- The turn of a line.
use Rattle.std.proofs.Common.{◌≡◌, ℕ, ◌<◌, ◌≤◌, Bool, true, false, List, length, Option, Some, None, Ok, sym, ap, ◌∙◌, inl, inr, arith, ◌⊎◌}
use Rattle.std.proofs.lemmas.Bool.{cond-true, cond-false}
use Rattle.text_lines.specs.Limits.{line_limit}
use Rattle.ring_service.specs.declared.commands.Command.{Command as Read}
use Rattle.ring_service.specs.Commands.{Command, IsLineOf, IsReadAs, seen, ring_of}
use Rattle.ring_service.specs.Standings.{Standing}
use Rattle.ring_service.specs.Turns.{Turn, refused, turn_of, is_off, heard_turn, IsHeardTurn, IsRightTurn, IsTurnOfLine, IsTurn, turn_seen_among}
use Rattle.ring_service.specs.declared.answers.Answer.TheVariants as answer
use Rattle.ring_service.specs.declared.served.LineAnswer.{LineAnswer}
use Rattle.ring_service.specs.declared.answers.Refusal.{Refusal}
use Rattle.ring_service.specs.declared.answers.Refusal.TheVariants as refusal
use Rattle.ring_service.specs.declared.turns.CallAnswer.{CallAnswer}
use Rattle.ring_service.specs.declared.turns.Trace.TheVariants as trace
use Rattle.ring_service.proofs.Reading.{one_is_heard}

-- ---- a line has one turn

pub one_turn : (faults : Bool) (rings : List Standing) (line : List ℕ) (t u : Turn (List Standing)) → IsRightTurn faults rings line t → IsRightTurn faults rings line u → t ≡ u
one_turn faults rings line t u (inl h) (inl k) = h.2 ∙ (ap (λ (x : Option Command). heard_turn faults rings x) (one_is_heard h.0 k.0 line h.1.0 k.1.0) ∙ sym k.2)
one_turn faults rings line t u (inl h) (inr k) = absurd (k.0 h.0 h.1)
one_turn faults rings line t u (inr h) (inl k) = absurd (h.0 k.0 k.1)
one_turn faults rings line t u (inr h) (inr k) = h.1 ∙ sym k.1

-- two turns of it are the same, unless memory ran out in one
pub turns_agree : (faults : Bool) (rings : List Standing) (line : List ℕ) (t u : Turn (List Standing)) → IsTurnOfLine faults rings line t → IsTurnOfLine faults rings line u → (t ≡ u) ⊎ (t ≡ refused rings refusal.OutOfMemory) ⊎ (u ≡ refused rings refusal.OutOfMemory)
turns_agree faults rings line t u (inl h) (inl k) = inl (one_turn faults rings line t u h k)
turns_agree faults rings line t u (inr h) k = inr (inl h)
turns_agree faults rings line t u (inl h) (inr k) = inr (inr k)

-- ---- which it is

abbrev pub refused_line : Refusal → LineAnswer
refused_line why = record { ring = 0; call = record { answer = answer.Refused why; trace = trace.Nothing } }

no_call_turn : (rings : List Standing) (why : Refusal) (t : LineAnswer) → t ≡ refused_line why → turn_seen_among t.ring rings t.call ≡ refused rings why
no_call_turn rings why t e = ap (λ (x : LineAnswer). turn_seen_among x.ring rings x.call) e

pub long_line : (faults : Bool) (rings : List Standing) (line : List ℕ) (t : LineAnswer) → t ≡ refused_line refusal.Syntax → line_limit < length line → IsTurnOfLine faults rings line (turn_seen_among t.ring rings t.call)
long_line faults rings line t e l = inl (inr ((λ c is. let few = is.1 in omega (arith, l, few)), no_call_turn rings refusal.Syntax t e))

pub bad_line : (faults : Bool) (rings : List Standing) (line : List ℕ) (t : LineAnswer) → t ≡ refused_line refusal.Syntax → ((command : Command) → IsLineOf command line → ⊥) → IsTurnOfLine faults rings line (turn_seen_among t.ring rings t.call)
bad_line faults rings line t e none = inl (inr ((λ c is. none c is.0), no_call_turn rings refusal.Syntax t e))

pub order_line : (faults : Bool) (rings : List Standing) (line : List ℕ) (t : LineAnswer) → t ≡ refused_line refusal.OrderTooLarge → length line ≤ line_limit → IsReadAs line (Ok None) → IsTurnOfLine faults rings line (turn_seen_among t.ring rings t.call)
order_line faults rings line t e l read =
    inl (inl (read.0, (read.1, l), no_call_turn rings refusal.OrderTooLarge t e ∙ sym (ap (λ (x : Option Command). heard_turn faults rings x) read.2)))

pub command_line_turn : (faults : Bool) (rings : List Standing) (line : List ℕ) (command : Read) (t : Turn (List Standing)) → length line ≤ line_limit → IsReadAs line (Ok (Some command)) → IsHeardTurn faults rings (Some (seen command)) t → IsTurnOfLine faults rings line t
command_line_turn faults rings line command t l read (inl e) = inl (inl (read.0, (read.1, l), e ∙ sym (ap (λ (x : Option Command). heard_turn faults rings x) read.2)))
command_line_turn faults rings line command t l read (inr e) = inr e

-- a command that is permitted
pub command_turn : (faults : Bool) (rings rings' : List Standing) (command : Command) (ring : ℕ) (m : CallAnswer) → is_off faults command ≡ false → ring ≡ ring_of command →
    IsTurn rings command (turn_seen_among (ring_of command) rings' m) → IsHeardTurn faults rings (Some command) (turn_seen_among ring rings' m)
command_turn faults rings rings' command ring m on e (inl t) =
    inl (ap (λ (k : ℕ). turn_seen_among k rings' m) e ∙ (t ∙ sym (cond-false (is_off faults command) (refused rings refusal.Off) (turn_of rings command) on)))
command_turn faults rings rings' command ring m on e (inr t) = inr (ap (λ (k : ℕ). turn_seen_among k rings' m) e ∙ t)

-- and one that is not
pub off_turn : (faults : Bool) (rings : List Standing) (command : Command) (t : LineAnswer) → t ≡ refused_line refusal.Off → is_off faults command ≡ true → IsHeardTurn faults rings (Some command) (turn_seen_among t.ring rings t.call)
off_turn faults rings command t e off = inl (no_call_turn rings refusal.Off t e ∙ sym (cond-true (is_off faults command) (refused rings refusal.Off) (turn_of rings command) off))
