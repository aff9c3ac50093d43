-- All bad lines of a text (this project's own).
use Rattle.std.specs.Prelude.{ℕ, ◌+◌, cond, not, ◌&&◌, ◌||◌, nat_lt, List, [], ◌∷◌, ◌++◌, Bool, true, false, Option, Some, None}
use Rattle.std.specs.List.{list_all}
use Rattle.saved_history.specs.Content.{Content}
use Rattle.ring_check.specs.declared.answers.Kind.{Kind}
use Rattle.ring_check.specs.Lines.{Line, RingLine, StartLine, EventLine, EndLine, SurveyLine, DoneLine, lines}
use Rattle.ring_check.specs.Table.{Before, nothing, event_of, now, after_line, are_parameters, in_range, fault}
use Rattle.bad_lines.specs.declared.wrongs.Wrong.{Wrong}
use Rattle.bad_lines.specs.declared.wrongs.Bad.{Bad}
use Rattle.bad_lines.specs.declared.wrongs.BadLine.{BadLine}
use Rattle.bad_lines.specs.Replays.{own}
use Rattle.bad_lines.specs.Wrongs.{wrong, is_in_place}

-- The facts that the lines before a line give, and whether the ring of their block is lost: then
-- nothing is judged up to the next block.
pub record Known : Type 0 where
  pub lost : Bool
  pub before : Before

-- a ring that is not lost
abbrev pub known : Before → Known
known b = record { lost = false; before = b }

-- the fault of a line, with what is there and what should be
abbrev pub bad_of : Option Kind → Wrong → Option Bad
bad_of None w = None
bad_of (Some kind) w = Some (record { kind = kind; wrong = w })

abbrev pub bad : Before → Line → Option Bad
bad b l = bad_of (fault b l) (wrong b l)

-- a ring that cannot be, or a call that none of its machines can make: the ring is lost
abbrev pub loses : Before → Line → Bool
loses b (RingLine index n k) = not (are_parameters b.version n k)
loses b (StartLine s) = not (list_all (λ v. nat_lt v b.k) s)
loses b (EventLine e) = not (in_range b.n (now b).ring.k (event_of e))
loses b _ = false

-- a line that does not belong to the block before it
abbrev pub begins : Line → Bool
begins (RingLine index n k) = true
begins (DoneLine said) = true
begins _ = false

-- The facts with one line more, as in the table, except that the ring continues with its own reply, and
-- that a survey that is not in its place changes nothing for the next.
abbrev pub mended : Before → Line → Before
mended b (EventLine e) =
    record b { line = b.line + 1; events = b.events ++ own (now b) (event_of e) ∷ [] }
mended b (SurveyLine s) =
    cond (is_in_place b s) (after_line b (SurveyLine s)) (record b { line = b.line + 1 })
mended b l = after_line b l

-- a line is judged, if its ring is not lost
abbrev pub is_hidden : Known → Line → Bool
is_hidden k l = not (begins l) && k.lost

abbrev pub after_known : Known → Line → Known
after_known k l = record {
  lost = is_hidden k l || loses k.before l;
  before = mended k.before l;
}

-- the bad line that a line is, if it is one
abbrev pub told : ℕ → Option Bad → List BadLine
told line None = []
told line (Some b) = record { line = line + 1; bad = b } ∷ []

abbrev pub told_of : Known → Line → List BadLine
told_of k l = cond (is_hidden k l) [] (told k.before.line (bad k.before l))

-- the bad lines among these
abbrev pub bad_among : Known → List Line → List BadLine
bad_among k [] = []
bad_among k (l ∷ ls) = told_of k l ++ bad_among (after_known k l) ls

-- what is known after these lines
abbrev pub after_all : Known → List Line → Known
after_all k [] = k
after_all k (l ∷ ls) = after_all (after_known k l) ls

-- all bad lines of a text
abbrev pub bad_lines : Content → List BadLine
bad_lines s = bad_among (known (nothing s.version)) (lines s)
