-- The repairs of a history: what came of each corruption until the ring was settled again (this
-- project's own).
use Rattle.std.specs.Prelude.{ℕ, ◌+◌, ◌≤◌, cond, List, [], ◌∷◌, ◌++◌, length}
use Rattle.std.specs.List.{All}
use Rattle.ring_model.specs.Ring.{Ring, IsRing, privileged_count, is_settled, bound}
use Rattle.ring_model.specs.History.{Works, State, next, IsLegal}
use Rattle.ring_model.specs.Surveys.{is_granted, is_corrupted}
use Rattle.ring_model.specs.declared.events.Reply.{Reply}
use Rattle.ring_model.specs.declared.events.Event.{Event}
use Rattle.history_repairs.specs.declared.repairs.Repair.{Repair}

-- a repair that begins at a ring: no pass was granted yet; and how many machines are privileged
abbrev pub begun : Ring → Repair
begun r = record { passes = 0; privileged = privileged_count r.values }

-- with one more event: a granted pass counts
abbrev pub with_event : Repair → Reply → Repair
with_event r reply = cond (is_granted reply) (record r { passes = r.passes + 1 }) r

-- with the work w of the resource
module _ {C : Type 0} (w : Works C) where
  -- What a repair becomes in this state, with these events to come: it ends as soon as the ring is
  -- settled, and has no end where another corruption, or the end of the history, comes before that.
  abbrev pub ended : Repair → State C → List Event → List Repair
  ended r a [] = cond (is_settled a.ring.values) (r ∷ []) []
  ended r a (e ∷ es) =
      cond (is_settled a.ring.values) (r ∷ [])
      (cond (is_corrupted e.reply) [] (ended (with_event r e.reply) (next w a e.op) es))

  -- the repairs that ended, in the order of their corruptions: each begins after its corruption
  abbrev pub repairs : State C → List Event → List Repair
  repairs a [] = []
  repairs a (e ∷ es) =
      cond (is_corrupted e.reply) (ended (begun (next w a e.op).ring) (next w a e.op) es) []
      ++ repairs (next w a e.op) es

-- no repair of a legal history takes more granted passes than the bound
abbrev pub RepairsAreBounded : Type 0 → Type 0
RepairsAreBounded C =
    (w : Works C) (a : State C) (h : List Event) → IsRing a.ring → IsLegal w a h
    → All (λ (r : Repair). r.passes ≤ bound (length a.ring.values)) (repairs w a h)
