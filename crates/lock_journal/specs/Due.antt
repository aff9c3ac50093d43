-- When a segment of locks is due to end (this project's own).
use Rattle.std.specs.Prelude.{ℕ, List, Bool, true, false, Option, None, Some, ◌≡◌, ◌+◌, ◌||◌, slice_get, ◌≢◌, nat_lt, ◌==◌, [], ◌∷◌, length, ◌⊎◌}
use Rattle.std.specs.List.{list_any}
use Rattle.ring_model.specs.Limits.{machine_limit, event_limit}
use Rattle.held_locks.specs.declared.answers.Answers.{Answers}
use Rattle.held_locks.specs.declared.answers.Left.{Left}
use Rattle.held_locks.specs.declared.answers.Refusal.{Refusal}
use Rattle.held_locks.specs.Cuts.{AreNext, HaveNoNext}
use Rattle.line_service.specs.declared.segmented.EndFault.{EndFault}
use Rattle.held_locks.specs.Locks.{Ask}
use Rattle.held_locks.specs.Kept.{LockView, IsKeptLock, IsAnswer}
use Rattle.held_locks.specs.declared.answers.Refusal.TheVariants as refusal
use Rattle.line_service.specs.declared.segmented.EndFault.TheVariants as end
use Rattle.held_locks.specs.declared.answers.Answer.TheVariants as answer

-- A lock is short if its segment has fewer places left for events than an ask may need: one for
-- each client that waits, and one more than a ring may have machines.
abbrev pub is_short : LockView → Bool
is_short v = nat_lt event_limit (length v.ring.ring.book.history + (length v.queue + (machine_limit + 1)))

abbrev pub is_short_at : Option LockView → Bool
is_short_at None = false
is_short_at (Some v) = is_short v

abbrev pub has_short : List LockView → Bool
has_short [] = false
has_short (v ∷ vs) = is_short v || has_short vs

-- one of the locks of the holds that a client left is short
abbrev pub has_short_left : List LockView → List Left → Bool
has_short_left vs left = list_any (λ (l : Left). is_short_at (slice_get vs l.lock)) left

-- The segment is due once its journal may have no more lines, or a lock is short.
abbrev pub is_due : ℕ → Bool → Bool
is_due remaining short = (remaining == 0) || short

-- Locks have no next segment: their rings have none; or a lock would be short in it; or there is no
-- memory.
abbrev pub HaveNoSegment : List LockView → Refusal → Type 0
HaveNoSegment locks why =
    HaveNoNext locks why
    ⊎ ((why ≡ refusal.Full)
    × ((next : List LockView) × AreNext locks next × (has_short next ≡ true)))

abbrev pub IsUnended : List LockView → EndFault → Type 0
IsUnended locks why = ((why ≡ end.Full) × HaveNoSegment locks refusal.Full) ⊎ (why ≡ end.OutOfMemory)

-- no segment begins with a text of these locks: there are none; or there is no memory
abbrev pub HaveNoText : List LockView → EndFault → Type 0
HaveNoText locks why = ((why ≡ end.File) × (length locks ≡ 0)) ⊎ (why ≡ end.OutOfMemory)

-- ---- a law: while no lock is short, no ask is refused since a segment is full

abbrev pub NoAskIsRefusedFull : Type 0
NoAskIsRefusedFull =
    (old new : List LockView) (client lock : ℕ) (ask : Ask) (r : Answers)
    → ((i : ℕ) (v : LockView) → slice_get old i ≡ Some v → IsKeptLock v)
    → has_short old ≡ false → IsAnswer old new client lock ask r
    → r.own ≢ Some (answer.Refused refusal.Full)
