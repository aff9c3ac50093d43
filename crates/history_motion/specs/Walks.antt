-- What is seen of the machines of a ring, as it is collected (this project's own; no public clause
-- names it).
use Rattle.std.specs.Prelude.{◌≡◌, ℕ, ◌+◌, ◌<◌, List, length, get_or}
use Rattle.saved_history.specs.Content.{Block, block_of}
use Rattle.saved_history.specs.declared.saved.SavedRing.{SavedRing}
use Rattle.history_steps.specs.Steps.{ring_at, HasRing}
use Rattle.history_picture.specs.Picture.{privileged_in, ring_shown}
use Rattle.history_motion.specs.Motion.{flags, hit_in}
use Rattle.history_motion.specs.declared.seen.Column.{Column}
use Rattle.history_motion.specs.declared.seen.Seen.{Seen}
use Rattle.history_motion.specs.declared.seen.Walk.{Walk}

-- the ring after the first events, and the values that are shown there
pub record IsWalk (ring : SavedRing) (place : ℕ) (walk : Walk) : Type 0 where
  pub ring_is : HasRing ring (ring_at (block_of ring) place) walk.gauge
  pub shown : walk.shown.items ≡ (ring_shown (block_of ring) place).values
  pub machines : length walk.shown.items ≡ ring.n

-- the values in each of n columns
pub record AreStates (ring : SavedRing) (from columns : ℕ) (states : List Column) : Type 0 where
  pub many : length states ≡ columns
  pub each : (c : ℕ) (d : Column) → c < columns
      → ((get_or states c d).values.items ≡ (ring_shown (block_of ring) (from + c)).values)
      × (length (get_or states c d).values.items ≡ ring.n)

-- what is seen of one machine in n columns
pub record IsSeen (b : Block) (from columns machine : ℕ) (seen : Seen) : Type 0 where
  pub privileged : seen.privileged.items ≡ flags (privileged_in b from machine) columns
  pub hit : seen.hit.items ≡ flags (hit_in b from machine) columns

-- and of each of the first n machines
pub record AreSeenTo (b : Block) (from columns machines : ℕ) (seen : List Seen) : Type 0 where
  pub many : length seen ≡ machines
  pub each : (i : ℕ) (d : Seen) → i < machines → IsSeen b from columns i (get_or seen i d)

-- and of all
abbrev pub AreSeen : Block → ℕ → ℕ → List Seen → Type 0
AreSeen b from columns seen = AreSeenTo b from columns b.n seen
