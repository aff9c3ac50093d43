-- The readers of the lines, blocks and texts as functions on lists. Those below `text_at` are given
-- the version, which the text's first line says.
use Rattle.std.specs.Prelude.{ℕ, ◌^◌, List, [], ◌∷◌, ◌++◌, codes, map, Option, Some, None, nat_lt, if◌then◌else◌}
use Rattle.text_lines.specs.Reading.{Reader, Either, this, that, number_at, positive_at, row_at, after_at, nothing_at, then_at, ◌then◌, as_at, Branch, branch, choice_at, many_at}
use Rattle.saved_history.specs.declared.saved.SavedEvent.{SavedEvent}
use Rattle.saved_history.specs.declared.saved.SavedEvent.TheVariants.{Granted, Refused, Member, Corrupted}
use Rattle.saved_history.specs.declared.saved.SavedSurvey.{SavedSurvey}
use Rattle.saved_history.specs.declared.saved.RingHeader.{RingHeader}
use Rattle.saved_history.specs.declared.lines.EventOrEnd.{EventOrEnd}
use Rattle.saved_history.specs.declared.lines.EventOrEnd.TheVariants as items
use Rattle.saved_history.specs.declared.lines.Next.{Next}
use Rattle.saved_history.specs.declared.lines.Next.TheVariants as nexts
use Rattle.saved_history.specs.declared.lines.SurveyOrNext.{SurveyOrNext}
use Rattle.saved_history.specs.declared.lines.SurveyOrNext.TheVariants as follows
use Rattle.saved_history.specs.Content.{Block, Content}
use Rattle.saved_history.specs.Versions.{first_version, latest_version}

-- ---- numbers: below 2 ^ 32 or 2 ^ 64, with a space after them or at the end of the line

abbrev pub small : Reader ℕ
small = number_at (2 ^ 32) 32

abbrev pub last_small : Reader ℕ
last_small = number_at (2 ^ 32) 10

abbrev pub large : Reader ℕ
large = number_at (2 ^ 64) 32

abbrev pub last_large : Reader ℕ
last_large = number_at (2 ^ 64) 10

-- ---- events

abbrev pub grant_branch : Branch (Option (ℕ × ℕ))
grant_branch = branch 103 (as_at (λ p. Some p) (after_at (codes "g ") (large then last_large)))

abbrev pub refusal_branch : Branch (Option (ℕ × ℕ))
refusal_branch = branch 110 (as_at (λ u. None) (after_at (codes "n\n") nothing_at))

-- the number and the answer of a grant, or none
unfoldable pub reply_at : Reader (Option (ℕ × ℕ))
reply_at = choice_at (grant_branch ∷ refusal_branch ∷ [])

abbrev pub pass_of : ℕ × (ℕ × (ℕ × Option (ℕ × ℕ))) → SavedEvent
pass_of (seat, (machine, (order, Some (number, answer)))) = Granted seat machine order number answer
pass_of (seat, (machine, (order, None))) = Refused seat machine order

unfoldable pub pass_at : Reader SavedEvent
pass_at = as_at pass_of (after_at (codes "p ") (small then small then large then reply_at))

abbrev pub corruption_of : ℕ × (ℕ × (ℕ × ℕ)) → SavedEvent
corruption_of (seat, (machine, (value, old))) = Corrupted seat machine value old

unfoldable pub corruption_at : Reader SavedEvent
corruption_at =
    as_at corruption_of (after_at (codes "c ") (small then small then small then last_small))

abbrev pub member_of : ℕ × (ℕ × (ℕ × (ℕ × (ℕ × ℕ)))) → SavedEvent
member_of (seat, (machine, (order, (left, (number, answer))))) =
    Member seat machine order left number answer

unfoldable pub member_at : Reader SavedEvent
member_at =
    as_at member_of
    (after_at (codes "m ") (small then small then large then small then large then last_large))

unfoldable pub end_at : Reader ℕ
end_at = after_at (codes "end ") last_large

abbrev pub pass_branch : Branch (Either SavedEvent ℕ)
pass_branch = branch 112 (as_at this pass_at)

abbrev pub corruption_branch : Branch (Either SavedEvent ℕ)
corruption_branch = branch 99 (as_at this corruption_at)

abbrev pub member_branch : Branch (Either SavedEvent ℕ)
member_branch = branch 109 (as_at this member_at)

abbrev pub end_branch : Branch (Either SavedEvent ℕ)
end_branch = branch 101 (as_at that end_at)

-- the branches of the lines that only some versions have
abbrev pub later_branches : ℕ → List (Branch (Either SavedEvent ℕ))
later_branches version = if nat_lt first_version version then member_branch ∷ [] else []

-- an event's line, or the line that ends them, in a text of this version: a branch for each kind of
-- line that it has
unfoldable pub event_or_end_at : ℕ → Reader (Either SavedEvent ℕ)
event_or_end_at version =
    choice_at (pass_branch ∷ corruption_branch ∷ end_branch ∷ later_branches version)

unfoldable pub events_at : ℕ → Reader (List SavedEvent × ℕ)
events_at version = many_at {S = Unit {0}} (λ _. event_or_end_at version) (λ _. tt) tt

-- ---- a ring's first line, and the last line

abbrev pub head_from : ℕ × (ℕ × ℕ) → RingHeader
head_from (index, (n, k)) = record { index = index; n = n; k = k }

unfoldable pub head_at : Reader RingHeader
head_at =
    as_at head_from (after_at (codes "ring ") (small then positive_at (2 ^ 32) 32 then last_small))

unfoldable pub done_at : Reader ℕ
done_at = after_at (codes "done ") last_small

-- ---- surveys, up to the next ring's first line or the last line

abbrev pub survey_of : ℕ × (ℕ × (ℕ × (ℕ × (ℕ × ℕ)))) → SavedSurvey
survey_of (seat, (position, (privileged, (first, (calm, rest))))) = record {
  seat = seat;
  position = position;
  privileged = privileged;
  first = first;
  calm = calm;
  rest = rest;
}

unfoldable pub survey_at : Reader SavedSurvey
survey_at =
    as_at survey_of
    (after_at (codes "s ") (small then large then small then small then large then last_large))

abbrev pub Follow : Type 0
Follow = Either SavedSurvey (Either RingHeader ℕ)

abbrev pub survey_branch : Branch Follow
survey_branch = branch 115 (as_at this survey_at)

abbrev pub head_branch : Branch Follow
head_branch = branch 114 (as_at (λ h. that (this h)) head_at)

abbrev pub done_branch : Branch Follow
done_branch = branch 100 (as_at (λ n. that (that n)) done_at)

unfoldable pub survey_or_next_at : Reader Follow
survey_or_next_at = choice_at (survey_branch ∷ head_branch ∷ done_branch ∷ [])

unfoldable pub surveys_at : Reader (List SavedSurvey × Either RingHeader ℕ)
surveys_at = many_at {S = Unit {0}} (λ _. survey_or_next_at) (λ _. tt) tt

-- ---- a ring below its first line, and the line after it

abbrev pub Part : Type 0
Part = List ℕ × ((List SavedEvent × ℕ) × (List SavedSurvey × Either RingHeader ℕ))

unfoldable pub part_at : ℕ → ℕ → Reader Part
part_at version n =
    after_at (codes "start ") (row_at (2 ^ 32) n then events_at version then surveys_at)

abbrev pub block_with : RingHeader → List ℕ → List SavedEvent → ℕ → List SavedSurvey → Block
block_with h start events said surveys = record {
  index = h.index;
  n = h.n;
  k = h.k;
  start = start;
  events = events;
  events_said = said;
  surveys = surveys;
}

abbrev pub with_next : Block → Either RingHeader ℕ → Either (Block × RingHeader) (Block × ℕ)
with_next b (this h) = this (b, h)
with_next b (that n) = that (b, n)

abbrev pub ring_from : RingHeader → Part → Either (Block × RingHeader) (Block × ℕ)
ring_from h p = with_next (block_with h p.0 p.1.0.0 p.1.0.1 p.1.1.0) p.1.1.1

unfoldable pub ring_at : ℕ → RingHeader → Reader (Either (Block × RingHeader) (Block × ℕ))
ring_at version h = as_at (ring_from h) (part_at version h.n)

-- ---- the rings: each with the first line of the one after it, the last with the last line

abbrev pub Rings : Type 0
Rings = List (Block × RingHeader) × (Block × ℕ)

unfoldable pub linked_rings_at : ℕ → RingHeader → Reader Rings
linked_rings_at version h = many_at (ring_at version) (λ p. p.1) h

abbrev pub blocks : Rings → List Block
blocks r = map (λ p. p.0) r.0 ++ r.1.0 ∷ []

-- the part below the text's first line: the blocks, and how many the text says that it has
abbrev pub Body : Type 0
Body = List Block × ℕ

unfoldable pub rings_at : ℕ → RingHeader → Reader Body
rings_at version h = as_at (λ (r : Rings). (blocks r, r.1.1)) (linked_rings_at version h)

unfoldable pub body_at : ℕ → Reader Body
body_at version = as_at (λ (p : RingHeader × Body). p.1) (then_at head_at (rings_at version))

-- ---- the text

abbrev pub first_branch : Branch ℕ
first_branch = branch 49 (as_at (λ u. first_version) (after_at (codes "1\n") nothing_at))

abbrev pub latest_branch : Branch ℕ
latest_branch = branch 50 (as_at (λ u. latest_version) (after_at (codes "2\n") nothing_at))

-- the version, and the end of the first line: a branch for each version
unfoldable pub version_at : Reader ℕ
version_at = choice_at (first_branch ∷ latest_branch ∷ [])

abbrev pub content_with : ℕ × Body → Content
content_with (version, (rings, said)) = record {
  version = version;
  rings = rings;
  rings_said = said;
}

unfoldable pub text_at : Reader Content
text_at = after_at (codes "ringfarm ") (as_at content_with (then_at version_at body_at))

-- ---- the content of the program's own types

abbrev pub item_of : EventOrEnd → Either SavedEvent ℕ
item_of (items.Event e) = this e
item_of (items.End n) = that n

abbrev pub next_of : Next → Either RingHeader ℕ
next_of (nexts.Ring h) = this h
next_of (nexts.Done n) = that n

abbrev pub follow_of : SurveyOrNext → Either SavedSurvey (Either RingHeader ℕ)
follow_of (follows.Survey v) = this v
follow_of (follows.Next n) = that (next_of n)
