-- What each line of a segment's file says of names (this project's own).
use Rattle.std.specs.Prelude.{◌≡◌, ℕ, ◌^◌, ◌==◌, ◌||◌, nat_lt, if◌then◌else◌, Bool, true, false, List, [], ◌∷◌, ◌++◌, length, Result, Ok, Err, codes, ◌⊎◌}
use Rattle.std.specs.List.{filter, list_any}
use Rattle.std.specs.Result.{is_ok}
use Rattle.text_lines.specs.Reading.{word_at}
use Rattle.ring_model.specs.LockSeats.{grant_seat, release_seat, leave_seat}
use Rattle.saved_history.specs.declared.saved.SavedEvent.{SavedEvent}
use Rattle.saved_history.specs.declared.saved.SavedEvent.TheVariants as event
use Rattle.saved_history.specs.declared.saved.SavedSurvey.{SavedSurvey}
use Rattle.saved_history.specs.Versions.{latest_version}
use Rattle.journal.specs.declared.calls.Call.{Call}
use Rattle.journal.specs.declared.calls.Call.TheVariants as call
use Rattle.journal.specs.declared.calls.JournalLine.{JournalLine}
use Rattle.journal.specs.Spelling.{journal_line, JournalLineFits}
use Rattle.journal.specs.Reading.{BeginsNone}
use Rattle.journal.specs.Recovery.{has_line_end}
use Rattle.segment_files.specs.Remarks.{lines_in, is_remark}
use Rattle.name_remarks.specs.Remarks.{Remark, bind, free, top, IsRemark, BeginsAsOne}
use Rattle.name_check.specs.declared.lines.Line.{Line}
use Rattle.name_check.specs.Entries.{Entry, Top, Bind, Free, Grant, Repair, End, Other}
use Rattle.name_check.specs.Kept.{entry_of}
use Rattle.judged_files.specs.declared.lines.Unsaid.{Unsaid}
use Rattle.judged_files.specs.declared.lines.Unsaid.TheVariants as unsaid

-- ---- remarks

-- what a remark about names says
abbrev pub remark_says : Remark → Entry
remark_says (bind ring b) = Bind ring (record { name = b.name; before = b.before; floor = b.floor })
remark_says (free ring) = Free ring
remark_says (top grants) = Top grants

-- another remark says nothing
abbrev pub RemarkSays : List ℕ → Entry → Type 0
RemarkSays line e =
    ((r : Remark) × IsRemark r line × (e ≡ remark_says r)) ⊎ ((¬ BeginsAsOne line) × (e ≡ Other))

-- ---- calls of the rings

-- a pass that is granted: by the seat of grants to a client, by another one it repairs the ring
abbrev pub pass_says : ℕ → ℕ → Entry
pass_says ring seat = if seat == grant_seat then Grant ring else Repair ring

-- a pass that is not granted and a fault say nothing
abbrev pub event_says : ℕ → SavedEvent → Entry
event_says ring (event.Granted seat machine order number result) = pass_says ring seat
event_says ring (event.Refused seat machine order) = Other
event_says ring (event.Member seat machine order left number result) = pass_says ring seat
event_says ring (event.Corrupted seat machine value old) = Other

-- a survey of one of two seats is the end of a hold
abbrev pub survey_says : ℕ → SavedSurvey → Entry
survey_says ring s =
    if (s.seat == release_seat) || (s.seat == leave_seat) then End ring else Other

abbrev pub call_says : ℕ → Call → Entry
call_says ring (call.Event e) = event_says ring e
call_says ring (call.Survey s) = survey_says ring s

-- a call that has a line
abbrev pub CallFits : JournalLine → Type 0
CallFits r = JournalLineFits latest_version (2 ^ 32) r

-- the line is that of a call, with which it begins
abbrev pub CallSays : List ℕ → Entry → Type 0
CallSays line e =
    (r : JournalLine)
    × (rest : List ℕ)
    × CallFits r
    × (line ≡ journal_line r ++ rest)
    × (e ≡ call_says r.ring r.call)

-- ---- lines

-- the line ends the blocks of the rings: of the lines up to there no other one begins with d
abbrev pub is_done : List ℕ → Bool
is_done [] = false
is_done (b ∷ bs) = b == 100

-- by whether it is a remark, and whether the blocks have ended
abbrev pub SaysBy : Bool → Bool → List ℕ → Entry → Type 0
SaysBy true done line e = RemarkSays line e
SaysBy false true line e = CallSays line e
SaysBy false false line e = e ≡ Other

-- What a line says: a remark, wherever it is; a call, after the blocks of the rings. Each other line
-- up to there says nothing.
abbrev pub LineSays : Bool → List ℕ → Entry → Type 0
LineSays done line e = SaysBy (is_remark line) done line e

-- it begins as a remark about names, and is none; or it comes after the blocks and is that of no call
abbrev pub IsMisspelled : List ℕ → Type 0
IsMisspelled line = BeginsAsOne line × ((r : Remark) → ¬ IsRemark r line)

abbrev pub IsNoCall : List ℕ → Type 0
IsNoCall line = BeginsNone CallFits journal_line line

abbrev pub IsUnsaidBy : Bool → Bool → List ℕ → Type 0
IsUnsaidBy true done line = IsMisspelled line
IsUnsaidBy false true line = IsNoCall line
IsUnsaidBy false false line = ⊥

abbrev pub IsUnsaid : Bool → List ℕ → Type 0
IsUnsaid done line = IsUnsaidBy (is_remark line) done line

-- the right answers, memory aside
abbrev pub IsHeardAs : (Entry → Type 0) → Type 0 → Result Line Unsaid → Type 0
IsHeardAs Says Not (Ok l) = Says (entry_of l)
IsHeardAs Says Not (Err unsaid.Misspelled) = Not
IsHeardAs Says Not (Err unsaid.OutOfMemory) = Unit {0}

abbrev pub IsRemarkHeard : List ℕ → Result Line Unsaid → Type 0
IsRemarkHeard line result = IsHeardAs (RemarkSays line) (IsMisspelled line) result

abbrev pub IsCallHeard : List ℕ → Result Line Unsaid → Type 0
IsCallHeard line result = IsHeardAs (CallSays line) (IsNoCall line) result

abbrev pub IsHeard : Bool → List ℕ → Result Line Unsaid → Type 0
IsHeard done line result = IsHeardAs (LineSays done line) (IsUnsaid done line) result

-- ---- a file

-- Its lines. A last one that has no LF was torn off, and is none.
abbrev pub whole_lines : List ℕ → List (List ℕ)
whole_lines bytes = filter has_line_end (lines_in bytes)

-- it begins as a remark about names: of all grants, of a name that is bound, or of one that is lost
abbrev pub is_named : List ℕ → Bool
is_named line =
    is_ok (word_at (codes "# floor ") line)
    || (is_ok (word_at (codes "# name ") line) || is_ok (word_at (codes "# free ") line))

-- it begins the block of a ring
abbrev pub is_block : List ℕ → Bool
is_block line = is_ok (word_at (codes "ring ") line)

abbrev pub has_named : List ℕ → Bool
has_named bytes = list_any is_named (whole_lines bytes)

abbrev pub block_count : List ℕ → ℕ
block_count bytes = length (filter is_block (whole_lines bytes))

-- A file shows that the folder has a pool, by a line that is a remark about names, or by more rings
-- than there are fixed locks. One that does not is from before it had one.
abbrev pub shows_pool : ℕ → List ℕ → Bool
shows_pool fixed bytes = has_named bytes || nat_lt fixed (block_count bytes)

-- Lines say this, one after the other; the blocks of the rings have ended, or end among them.
abbrev pub AreSaidBy : Bool → List (List ℕ) → List Entry → Type 0
AreSaidBy done [] es = es ≡ []
AreSaidBy done (line ∷ lines) [] = ⊥
AreSaidBy done (line ∷ lines) (e ∷ es) =
    LineSays done line e × AreSaidBy (done || is_done line) lines es
