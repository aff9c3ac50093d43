-- The form of an answer for C: a code, and the values written to the struct that C lends (this
-- project's own).
use Rattle.std.specs.Prelude.{◌≡◌, ℕ, ◌-◌, ◌^◌, ◌<◌, ◌≤◌, List, ◌++◌, length, drop, Option, Some, None, Result, Ok, Err, IfOk}
use Rattle.ring_model.specs.declared.events.Event.{Event}
use Rattle.ring_model.specs.declared.events.Op.{Op}
use Rattle.ring_model.specs.declared.events.Op.TheVariants.{Pass, Member, Corrupt}
use Rattle.ring_model.specs.declared.events.Reply.{Reply}
use Rattle.ring_model.specs.declared.events.Reply.TheVariants.{Granted, NotPrivileged, Corrupted}
use Rattle.ring_model.specs.declared.events.Receipt.{Receipt}
use Rattle.ring_model.specs.declared.events.Survey.{Survey}
use Rattle.ring_book.specs.declared.books.groups.GroupReceipt.{GroupReceipt}
use Rattle.text_lines.specs.declared.answer.ReadError.{ReadError}
use Rattle.text_lines.specs.declared.answer.ReadError.TheVariants as read
use Rattle.one_thread_ring.specs.SavedOf.{old_of}
use Rattle.saved_history.specs.declared.saved.Saved.{Saved}
use Rattle.saved_history.specs.Content.{content}
use Rattle.saved_history.specs.Meaning.{IsRightRead}
use Rattle.ring_check.specs.declared.answers.Summary.{Summary}
use Rattle.ring_check.specs.declared.answers.CheckError.{CheckError}
use Rattle.ring_check.specs.declared.answers.CheckError.TheVariants as check
use Rattle.ring_check.specs.Legal.{IsRightCheck}
use Rattle.ring_check.specs.Meaning.{IsRightText}
use Rattle.one_thread_ring.specs.declared.errors.CallError.{CallError}
use Rattle.one_thread_ring.specs.declared.errors.CallError.TheVariants as call
use Rattle.c_calls.specs.declared.answers.Answer.{Answer}
use Rattle.c_calls.specs.declared.answers.EventRow.{EventRow}
use Rattle.c_calls.specs.declared.answers.Group.{Group}
use Rattle.c_calls.specs.declared.answers.Sight.{Sight}
use Rattle.c_calls.specs.declared.answers.Sums.{Sums}
use Rattle.c_calls.specs.declared.codes.TextError.{TextError}
use Rattle.c_calls.specs.Codes.{call_code, read_code, kind_code, text_code, no_memory, no_event, too_small}

-- of a call that was recorded at this position: 0, or 1 for a machine that is not privileged
abbrev pub IsReplyReport : ℕ → Reply → ℕ → Answer → Type 0
IsReplyReport position (Granted number result) code out =
    (code ≡ 0) × (out ≡ record { position = position; number = number; result = result })
IsReplyReport position NotPrivileged code out =
    (code ≡ 1) × (out ≡ record { position = position; number = 0; result = 0 })
IsReplyReport position (Corrupted old) code out =
    (code ≡ 0) × (out ≡ record { position = position; number = 0; result = old })

-- of a call; a refusal writes nothing
abbrev pub IsCallReport : Result Receipt CallError → ℕ → Answer → Answer → Type 0
IsCallReport (Ok r) code old new = IsReplyReport r.position r.event.reply code new
IsCallReport (Err e) code old new = (code ≡ call_code e) × (new ≡ old)

-- of a try: that of the pass; where the machine is not privileged 1, and nothing is written
abbrev pub IsTryReport : Result (Option Receipt) CallError → ℕ → Answer → Answer → Type 0
IsTryReport (Ok (Some r)) code old new = IsReplyReport r.position r.event.reply code new
IsTryReport (Ok None) code old new = (code ≡ 1) × (new ≡ old)
IsTryReport (Err e) code old new = (code ≡ call_code e) × (new ≡ old)

-- the number of a grant and the resource's answer; 0 where there is no grant
abbrev pub grant_of : Reply → ℕ × ℕ
grant_of (Granted number result) = (number, result)
grant_of _ = (0, 0)

-- the same of an event, if there is one
abbrev pub grant_in : Option Event → ℕ × ℕ
grant_in (Some e) = grant_of e.reply
grant_in None = (0, 0)

-- of a group: its block's first place, how many members it has, and the grant of the first; or the
-- least machine that is not privileged
abbrev pub IsGroupReport : Result GroupReceipt CallError → ℕ × ℕ → ℕ → Group → Group → Type 0
IsGroupReport (Ok r) grant code old new =
    (code ≡ 0)
    × (new ≡ record {
      first = r.first;
      number = grant.0;
      result = grant.1;
      count = r.count;
      machine = 0;
    })
IsGroupReport (Err (call.NotPrivileged m)) grant code old new =
    (code ≡ 21)
    × (new ≡ record { first = 0; number = 0; result = 0; count = 0; machine = m })
IsGroupReport (Err e) grant code old new = (code ≡ call_code e) × (new ≡ old)

-- the numbers of a survey, as C has them
abbrev pub sight_of : Survey → Sight
sight_of s = record {
  position = s.position;
  calm = s.calm;
  rest = s.rest;
  privileged = s.privileged;
  first = s.first;
}

-- of a survey
abbrev pub IsSightReport : Result Survey CallError → ℕ → Sight → Sight → Type 0
IsSightReport (Ok s) code old new = (code ≡ 0) × (new ≡ sight_of s)
IsSightReport (Err e) code old new = (code ≡ call_code e) × (new ≡ old)

-- the kind of a pass: 0 if it was granted, 1 if it did nothing
abbrev pub pass_kind : Reply → ℕ
pass_kind (Granted number result) = 0
pass_kind _ = 1

-- an event in a row, with 0 where it has no such number; the pass of a member of a group is of kind
-- 2, with how many members come after it, and a fault of kind 3
abbrev pub row_for : ℕ → Op → Reply → EventRow
row_for seat (Pass machine order) reply = record {
  order = order;
  number = (grant_of reply).0;
  result = (grant_of reply).1;
  kind = pass_kind reply;
  seat = seat;
  machine = machine;
  value = 0;
}
row_for seat (Member machine order left) reply = record {
  order = order;
  number = (grant_of reply).0;
  result = (grant_of reply).1;
  kind = 2;
  seat = seat;
  machine = machine;
  value = left;
}
row_for seat (Corrupt machine value) reply = record {
  order = 0;
  number = 0;
  result = old_of value reply;
  kind = 3;
  seat = seat;
  machine = machine;
  value = value;
}

-- of an event, or of none, and then nothing is written
abbrev pub IsEventReport : Option Event → ℕ → EventRow → EventRow → Type 0
IsEventReport (Some e) code old new = (code ≡ 0) × (new ≡ row_for e.seat e.op e.reply)
IsEventReport None code old new = (code ≡ no_event) × (new ≡ old)

-- Of a text: its size in any case, and the bytes at the front of the buffer if they have room
-- there, which else stays as it was.
pub record IsTextReport (bytes : List ℕ) (code : ℕ) (old new : List ℕ) (said : ℕ) : Type 0 where
  pub size : said ≡ length bytes
  pub whole : length bytes ≤ length old → (code ≡ 0) × (new ≡ bytes ++ drop (length bytes) old)
  pub small : length old < length bytes → (code ≡ too_small) × (new ≡ old)

-- the text has 2^64 - 1 bytes or more
abbrev pub HasNoSize : List ℕ → Type 0
HasNoSize bytes = 2 ^ 64 - 1 ≤ length bytes

-- of a text, or of none, and then nothing is written
abbrev pub IsSaveReport : Result (List ℕ) TextError → ℕ → List ℕ → List ℕ → ℕ → ℕ → Type 0
IsSaveReport (Ok bytes) code old new size said = IsTextReport bytes code old new said
IsSaveReport (Err e) code old new size said =
    (code ≡ text_code e) × (new ≡ old) × (said ≡ size)

-- no sums, with a line
abbrev pub no_sums : ℕ → Sums
no_sums line = record {
  events = 0;
  granted = 0;
  corrupted = 0;
  surveys = 0;
  line = line;
  rings = 0;
}

-- the sums of a legal text, as C has them
abbrev pub sums_of : Summary → Sums
sums_of s = record {
  events = s.events;
  granted = s.granted;
  corrupted = s.corrupted;
  surveys = s.surveys;
  line = 0;
  rings = s.rings;
}

-- the first line that is wrong, or none
abbrev pub line_of : ReadError → ℕ
line_of (read.Syntax line) = line
line_of read.Truncated = 0
line_of read.OutOfMemory = 0

-- of the checker: 0 with the sums, or why the text is not legal with its first bad line
abbrev pub IsCheckReport : Result Summary CheckError → ℕ → Sums → Type 0
IsCheckReport (Ok s) code out = (code ≡ 0) × (out ≡ sums_of s)
IsCheckReport (Err (check.Bad line kind)) code out = (code ≡ kind_code kind) × (out ≡ no_sums line)
IsCheckReport (Err check.OutOfMemory) code out = (code ≡ no_memory) × (out ≡ no_sums 0)

-- of what was read
abbrev pub IsReadReport : Result Saved ReadError → ℕ → Sums → Type 0
IsReadReport (Err e) code out = (code ≡ read_code e) × (out ≡ no_sums (line_of e))
IsReadReport (Ok saved) code out =
    (answer : Result Summary CheckError)
    × IsRightCheck (content saved) answer
    × IfOk answer (λ _. IsRightText (content saved))
    × IsCheckReport answer code out

-- The verdict on some bytes: the right answer of the reader of saved texts, and for a value that of
-- the separate checker.
abbrev pub IsVerdict : List ℕ → ℕ → Sums → Type 0
IsVerdict bytes code out =
    (answer : Result Saved ReadError) × IsRightRead bytes answer × IsReadReport answer code out
