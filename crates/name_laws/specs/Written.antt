-- How the steps of the machine with names are written as lines (this project's own).
use Rattle.std.specs.Prelude.{ℕ, suc, if◌then◌else◌, List, [], ◌∷◌, Option, Some, None, option_map, ◌≡◌, ◌≤◌, map, length, slice_get, nat_lt, ◌++◌, ◌==◌}
use Rattle.ring_model.specs.LockSeats.{grant_seat}
use Rattle.ring_model.specs.declared.events.Reply.{Reply}
use Rattle.held_locks.specs.declared.answers.Holder.{Holder}
use Rattle.held_locks.specs.Queues.{Lock}
use Rattle.held_locks.specs.Locks.{Ask, Acquire, Try, Asked, step, Mark, Call, Survey}
use Rattle.lock_names.specs.Names.{Named, NamedInput, Of, Again, More, step_named, named_after, of_ring, fresh, at_ring, grown}
use Rattle.lock_names.specs.Promises.{IsNamed, AreAllowed}
use Rattle.name_check.specs.declared.lines.Ring.{Ring}
use Rattle.name_check.specs.Entries.{Entry, Top, Bind, Free, Grant, Repair, End, Other, File, Judged}
use Rattle.name_check.specs.Judged.{most_grants, AreSaid}
use Rattle.name_bindings.specs.Bindings.{Bound, found, free}
use Rattle.name_check.specs.declared.lines.Due.TheVariants as due
use Rattle.ring_model.specs.declared.events.Reply.TheVariants as reply

-- the token of a hold, if a client holds the lock
abbrev pub token_of : Option Holder → Option ℕ
token_of o = option_map (λ (h : Holder). h.token) o

-- the state of the machine, as the judge knows it
abbrev pub ring_seen : Lock → Ring
ring_seen l = record { grants = l.ring.grants; held = token_of l.holder }

abbrev pub state_seen : Named → Judged
state_seen s = record {
  rings = map ring_seen s.locks;
  names = s.names;
  fixed = s.fixed;
  top = s.top;
  due = due.Nothing;
}

-- ---- a step of a ring

-- an event of its ring, or the end of its hold
abbrev pub line_of_call : ℕ → ℕ → Reply → Entry
line_of_call i seat (reply.Granted number result) = if seat == grant_seat then Grant i else Repair i
line_of_call i seat r = Other

abbrev pub line_of_mark : ℕ → Mark → Entry
line_of_mark i (Call e) = line_of_call i e.seat e.reply
line_of_mark i (Survey seat) = End i

-- Its name before the step and after it: a name that it gets comes before its events, and that it
-- loses its name, after them.
abbrev pub lines_between : ℕ → List Entry → Option (Option Bound) → Option (Option Bound)
    → List Entry
lines_between i lines (Some None) (Some (Some b)) = Bind i b ∷ lines
lines_between i lines (Some (Some b)) (Some None) = lines ++ Free i ∷ []
lines_between i lines was is = lines

-- the ring that is asked, and how it is bound: that of the name, or the free ring that it gets
abbrev pub asked_ring : Named → List ℕ → Ask → Option (ℕ × Bound) → Option (ℕ × Bound)
asked_ring s x ask (Some p) = Some p
asked_ring s x (Acquire label) None = option_map (λ (i : ℕ). (i, fresh s x i)) (free s.names)
asked_ring s x (Try label) None = option_map (λ (i : ℕ). (i, fresh s x i)) (free s.names)
asked_ring s x ask None = None

abbrev pub lines_at : Named → ℕ → Ask → Option (ℕ × Bound) → List Entry
lines_at s c ask None = []
lines_at s c ask (Some p) =
    lines_between p.0
    (map (line_of_mark p.0) (step s.locks (Asked c p.0 (of_ring p.1 ask))).marks)
    (slice_get s.names p.0) (slice_get (at_ring s c p.0 p.1 ask).named.names p.0)

-- ---- a file

-- the bindings of the rings of the pool, from this ring on
abbrev pub restated_lines : ℕ → ℕ → List (Option Bound) → List Entry
restated_lines fixed i [] = []
restated_lines fixed i (None ∷ os) = restated_lines fixed (suc i) os
restated_lines fixed i (Some b ∷ os) =
    if nat_lt i fixed then restated_lines fixed (suc i) os
    else (Bind i b ∷ restated_lines fixed (suc i) os)

-- with what a file begins
abbrev pub file_lines : Named → List Entry
file_lines s = File (length s.locks) ∷ Top s.top ∷ restated_lines s.fixed 0 s.names

-- ---- inputs

-- the lines of an input; a restart begins a file, and so does a ring more
abbrev pub lines_of : Named → NamedInput → List Entry
lines_of s (Of c x ask) = lines_at s c ask (asked_ring s x ask (found x s.names))
lines_of s Again = file_lines s
lines_of s (More a) = file_lines (grown s a)

abbrev pub lines_after : Named → List NamedInput → List Entry
lines_after s [] = []
lines_after s (i ∷ is) = lines_of s i ++ lines_after (step_named s i).named is

-- a ring that is added was never granted
abbrev pub AreFresh : List NamedInput → Type 0
AreFresh [] = Unit {0}
AreFresh (Of c x ask ∷ is) = AreFresh is
AreFresh (Again ∷ is) = AreFresh is
AreFresh (More a ∷ is) = (a.grants ≡ 0) × AreFresh is

-- ---- the laws

-- The judge accepts the lines of whatever is asked.
abbrev pub LinesAreSaid : Type 0
LinesAreSaid =
    (s : Named) (is : List NamedInput) → IsNamed s → AreAllowed s is → AreFresh is
    → (named_after s is).top ≤ most_grants
    → AreSaid (state_seen s) (lines_after s is) (state_seen (named_after s is))

-- It accepts the beginning of a file wherever one begins, and knows then what it knew.
abbrev pub FilesAreSaid : Type 0
FilesAreSaid =
    (s : Named) → IsNamed s → AreSaid (state_seen s) (file_lines s) (state_seen s)
