-- The code of each refusal, as the header has them (this project's own).
use Rattle.std.specs.Prelude.{ℕ, Result, Ok, Err}
use Rattle.ring_state.specs.declared.sizes.ParamsError.{ParamsError}
use Rattle.ring_state.specs.declared.sizes.ParamsError.TheVariants as params
use Rattle.text_lines.specs.declared.answer.ReadError.{ReadError}
use Rattle.text_lines.specs.declared.answer.ReadError.TheVariants as read
use Rattle.ring_check.specs.declared.answers.Kind.{Kind}
use Rattle.ring_check.specs.declared.answers.Kind.TheVariants as kind
use Rattle.one_thread_ring.specs.declared.errors.CallError.{CallError}
use Rattle.one_thread_ring.specs.declared.errors.CallError.TheVariants as call
use Rattle.one_thread_ring.specs.declared.errors.OpenError.{OpenError}
use Rattle.one_thread_ring.specs.declared.errors.OpenError.TheVariants as opens
use Rattle.one_thread_ring.specs.declared.resuming.ResumeError.{ResumeError}
use Rattle.one_thread_ring.specs.declared.resuming.ResumeError.TheVariants as resume
use Rattle.c_calls.specs.declared.codes.TextError.{TextError}
use Rattle.c_calls.specs.declared.codes.TextError.TheVariants as text

-- out of memory, whoever asks for it
abbrev pub no_memory : ℕ
no_memory = 23

-- of a call of what is closed
abbrev pub closed : ℕ
closed = 24

-- of opening what is open
abbrev pub still_open : ℕ
still_open = 37

-- of a call
abbrev pub call_code : CallError → ℕ
call_code call.NoSeat = 16
call_code call.NoMachine = 17
call_code call.NoValue = 18
call_code call.NotRising = 19
call_code call.WholeRing = 20
call_code (call.NotPrivileged m) = 21
call_code call.HistoryFull = 22
call_code call.OutOfMemory = no_memory

-- of a size: the number of machines, or that of values
abbrev pub size_code : ParamsError → ℕ
size_code params.TooFew = 33
size_code params.TooMany = 33
size_code params.FewValues = 34
size_code params.ManyValues = 34

-- of numbers from which no ring is opened
abbrev pub open_code : OpenError → ℕ
open_code opens.Seats = 32
open_code (opens.Size e) = size_code e
open_code opens.Length = 35
open_code (opens.Value i) = 36
open_code opens.OutOfMemory = no_memory

-- of bytes that are not a saved text
abbrev pub read_code : ReadError → ℕ
read_code (read.Syntax line) = 48
read_code read.Truncated = 49
read_code read.OutOfMemory = no_memory

-- of a saved text that has no ring at a place
abbrev pub no_ring : ℕ
no_ring = 50

-- of a number of seats that no ring may have
abbrev pub bad_seats : ℕ
bad_seats = 32

-- of a saved ring that names a seat beyond those that are asked for
abbrev pub no_seat : ℕ
no_seat = 16

-- of a history that has no room for more events
abbrev pub history_full : ℕ
history_full = 22

-- of a saved ring that is not resumed
abbrev pub resume_code : ResumeError → ℕ
resume_code (resume.Open e) = open_code e
resume_code (resume.Call e) = call_code e
resume_code resume.Differs = 51
resume_code resume.OutOfMemory = no_memory

-- of a text that is not legal
abbrev pub kind_code : Kind → ℕ
kind_code kind.Parameter = 64
kind_code kind.Range = 65
kind_code kind.Reply = 66
kind_code kind.Count = 67
kind_code kind.Survey = 68
kind_code kind.Group = 69

-- of a file that is not of one ring
abbrev pub many_rings : ℕ
many_rings = 53

-- of a ring that is over no till
abbrev pub no_till : ℕ
no_till = 80

-- of a ring that has no such text
abbrev pub text_code : TextError → ℕ
text_code text.NoTill = no_till
text_code text.NoJournal = 83
text_code text.OutOfMemory = no_memory

-- of a buffer that is too small
abbrev pub too_small : ℕ
too_small = 81

-- of an event that a history does not have
abbrev pub no_event : ℕ
no_event = 82

-- of a number of locks that there may not be
abbrev pub bad_locks : ℕ
bad_locks = 38

-- of a number of machines that no lock's ring may have
abbrev pub bad_machines : ℕ
bad_machines = 33

-- of the next grant, where all were handed out
abbrev pub no_more : ℕ
no_more = 3

-- of an input, where grants of the last one were not handed out
abbrev pub grants_left : ℕ
grants_left = 102

-- of an answer that is a value or the code of why there is none
abbrev pub code_of : {A : Type 0} → Result A ℕ → ℕ
code_of (Ok a) = 0
code_of (Err code) = code
