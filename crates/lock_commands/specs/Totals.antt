-- The sums over locks (this project's own).
use Rattle.std.specs.Prelude.{◌≡◌, ℕ, ◌+◌, ◌^◌, ◌≤◌, List, ◌++◌, length, decimal, codes, Option, ◌⊎◌}
use Rattle.std.specs.List.{sum_by}
use Rattle.endless_ring.specs.Endless.{EndlessView}
use Rattle.held_locks.specs.Kept.{LockView}
use Rattle.tool_parts.specs.Written.{AppendsFront}
use Rattle.tool_parts.specs.declared.faults.ToolError.{ToolError}
use Rattle.tool_parts.specs.declared.faults.ToolError.TheVariants as tool
use Rattle.lock_commands.specs.declared.totals.Sums.{Sums}

-- the events and the grants of a ring, over all its segments
abbrev pub events_of : EndlessView → ℕ
events_of e = e.base.events + length e.ring.book.history

abbrev pub grants_of : EndlessView → ℕ
grants_of e = e.base.grants + e.ring.book.now.grants

-- those of all locks
abbrev pub sums_of : List LockView → Sums
sums_of vs = record {
  events = sum_by (λ (v : LockView). events_of v.ring) vs;
  granted = sum_by (λ (v : LockView). grants_of v.ring) vs;
}

-- these sums with one ring more
abbrev pub with_ring : Sums → EndlessView → Sums
with_ring all e = record {
  events = all.events + events_of e;
  granted = all.granted + grants_of e;
}

-- one of these sums has more than 64 bits
abbrev pub AreTooLarge : Sums → Type 0
AreTooLarge all = (2 ^ 64 ≤ all.events) ⊎ (2 ^ 64 ≤ all.granted)

-- the line of this number of locks with these sums
abbrev pub sums_line : ℕ → Sums → List ℕ
sums_line locks all =
    codes "total locks "
    ++ (decimal locks
    ++ (codes " events "
    ++ (decimal all.events
    ++ (codes " granted "
    ++ (decimal all.granted ++ codes "\n")))))

abbrev pub total_line : List LockView → List ℕ
total_line vs = sums_line (length vs) (sums_of vs)

-- The sums are not reported: one of them is too large, and nothing is written; or standard error
-- failed, and got a prefix of the line.
abbrev pub IsUntold : List LockView → Option (List ℕ) → Option (List ℕ) → ToolError → Type 0
IsUntold vs early late tool.TotalsTooLarge = (late ≡ early) × AreTooLarge (sums_of vs)
IsUntold vs early late tool.Write = AppendsFront early late (total_line vs)
IsUntold vs early late _ = ⊥
