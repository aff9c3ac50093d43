-- Legal texts, the first bad line of the others, and what the checker may answer (this project's
-- own).
use Rattle.std.specs.Prelude.{◌≡◌, ◌≢◌, ℕ, ◌+◌, List, ◌∷◌, ◌++◌, map, length, Result, Ok, Err, Some, None}
use Rattle.std.specs.List.{sum_by}
use Rattle.ring_model.specs.declared.events.Event.{Event}
use Rattle.ring_model.specs.Surveys.{granted_count, corrupted_count}
use Rattle.saved_history.specs.Content.{Content, Block, upgraded}
use Rattle.ring_check.specs.declared.answers.Kind.{Kind}
use Rattle.ring_check.specs.declared.answers.Summary.{Summary}
use Rattle.ring_check.specs.declared.answers.CheckError.{CheckError}
use Rattle.ring_check.specs.declared.answers.CheckError.TheVariants.{Bad, OutOfMemory}
use Rattle.ring_check.specs.Lines.{Line, lines}
use Rattle.ring_check.specs.Table.{Before, nothing, event_of, fault, after_lines}

-- no line has a fault after those before it
abbrev pub IsGood : Before → List Line → Type 0
IsGood b ls =
    (front : List Line) (l : Line) (back : List Line) → ls ≡ front ++ l ∷ back
    → fault (after_lines b front) l ≡ None

-- a text is legal where no line of it has a fault
abbrev pub IsLegalText : Content → Type 0
IsLegalText s = IsGood (nothing s.version) (lines s)

-- In a text of this version the line of this number has this fault, and no line before it has one.
-- Lines are numbered from 1, and line 1 is not among the list.
abbrev pub IsFirstBad : ℕ → List Line → ℕ → Kind → Type 0
IsFirstBad version ls line kind =
    (front : List Line)
    × (l : Line)
    × (back : List Line)
    × (ls ≡ front ++ l ∷ back)
    × (line ≡ length front + 2)
    × IsGood (nothing version) front
    × (fault (after_lines (nothing version) front) l ≡ Some kind)

-- the ring's history that a block describes
abbrev pub history : Block → List Event
history b = map event_of b.events

-- the sums over all blocks
abbrev pub summary_of : Content → Summary
summary_of s = record {
  rings = length s.rings;
  events = sum_by (λ b. length b.events) s.rings;
  granted = sum_by (λ b. granted_count (history b)) s.rings;
  corrupted = sum_by (λ b. corrupted_count (history b)) s.rings;
  surveys = sum_by (λ b. length b.surveys) s.rings;
}

-- the right answer: the sums of a legal text, else the first bad line with the least kind; memory
-- aside
abbrev pub IsRightCheck : Content → Result Summary CheckError → Type 0
IsRightCheck s (Ok sums) = IsLegalText s × (sums ≡ summary_of s)
IsRightCheck s (Err (Bad line kind)) = IsFirstBad s.version (lines s) line kind
IsRightCheck s (Err OutOfMemory) = Unit {0}

-- at most one answer is right, memory aside
abbrev pub AtMostOneIsRight : Type 0
AtMostOneIsRight =
    (s : Content) (a b : Result Summary CheckError) → IsRightCheck s a → IsRightCheck s b
    → a ≢ Err OutOfMemory → b ≢ Err OutOfMemory → a ≡ b

-- where a text is legal, so is the same in the latest version, with the same sums
abbrev pub UpgradeIsLegal : Type 0
UpgradeIsLegal =
    (s : Content) → IsLegalText s
    → IsLegalText (upgraded s) × (summary_of (upgraded s) ≡ summary_of s)
