-- The lines that clients get of an answer about a name, and what the journal gets of it (this
-- project's own).
use Rattle.std.specs.Prelude.{ℕ, nat_lt, Bool, true, false, not, ◌||◌, List, [], ◌++◌, slice_get, Option, None, Some, is_some}
use Rattle.std.specs.List.{flat_map}
use Rattle.held_locks.specs.declared.answers.Left.{Left}
use Rattle.held_locks.specs.Kept.{LockView}
use Rattle.lock_protocol.specs.Answers.{answer_line, names_line}
use Rattle.lock_names.specs.declared.replies.Reply.{Reply}
use Rattle.lock_names.specs.declared.replies.Reply.TheVariants as reply
use Rattle.lock_names.specs.declared.replies.NameAnswers.{NameAnswers}
use Rattle.lock_names.specs.Names.{Bound, Named, Said, fresh}
use Rattle.lock_names.specs.Kept.{NamedView, named_of}
use Rattle.name_remarks.specs.Remarks.{Binding, bind, free, remark_text}
use Rattle.lock_journal.specs.Noting.{end_line, events_from, note_about, note_of_left}

-- ---- the lines of clients

-- the line of a reply about a name
abbrev pub reply_line : ℕ → List ℕ → Reply → List ℕ
reply_line client name (reply.Lock a) = answer_line client name a
reply_line client name reply.Names = names_line client name

abbrev pub line_of_said : Said → List ℕ
line_of_said d = reply_line d.client d.name d.reply

abbrev pub lines_of_said : List Said → List ℕ
lines_of_said said = flat_map line_of_said said

-- ---- the journal

-- how a ring is bound, as a remark has it
abbrev pub binding_of : Bound → Binding
binding_of b = record { before = b.before; floor = b.floor; name = b.name }

-- the remark that binds a ring to a name that is new
abbrev pub note_of_new : Named → List ℕ → ℕ → Bool → List ℕ
note_of_new s x ring true = remark_text (bind ring (binding_of (fresh s x ring)))
note_of_new s x ring false = []

-- the same, by the name that the ring has then
abbrev pub new_of : Bool → ℕ → Option (Option Bound) → List ℕ
new_of true ring (Some (Some b)) = remark_text (bind ring (binding_of b))
new_of fresh ring o = []

-- the remark of a ring that is free
abbrev pub note_of_free : ℕ → Bool → List ℕ
note_of_free ring true = remark_text (free ring)
note_of_free ring false = []

-- What the journal gets of an answer about a name: how its ring is bound, if the name is new; what it
-- gets of the ring; and that the ring is free, if it has lost its name.
abbrev pub note_at : Option ℕ → NamedView → NamedView → List ℕ → NameAnswers → List ℕ
note_at None old new x r = []
note_at (Some ring) old new x r =
    note_of_new (named_of old) x ring r.fresh
    ++ (note_about ring old.locks new.locks r.ended ++ note_of_free ring r.freed)

-- the same, by the names after it, if the ring's segment had this number of events before
abbrev pub note_since : Option ℕ → ℕ → NamedView → NameAnswers → List ℕ
note_since None place new r = []
note_since (Some ring) place new r =
    new_of r.fresh ring (slice_get new.names ring)
    ++ ((end_line ring r.ended ++ events_from ring place (slice_get new.locks ring))
    ++ note_of_free ring r.freed)

-- the same of a client that leaves all names: of each that it held
abbrev pub is_freed : ℕ → Left → Bool
is_freed fixed l = not (nat_lt l.lock fixed || is_some l.granted)

abbrev pub note_of_name_left : ℕ → List LockView → Left → List ℕ
note_of_name_left fixed new l = note_of_left new l ++ note_of_free l.lock (is_freed fixed l)

abbrev pub notes_of_names_left : ℕ → List LockView → List Left → List ℕ
notes_of_names_left fixed new left = flat_map (note_of_name_left fixed new) left
