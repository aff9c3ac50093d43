-- The saved text of a farm's outcome, as a plain function of it (this project's own).
use Rattle.std.specs.Prelude.{ℕ, ◌+◌, List, [], ◌∷◌, length}
use Rattle.ring_farm.specs.declared.outcomes.Outcome.{Outcome}
use Rattle.ring_logs.specs.declared.outcomes.RingOutcome.{RingOutcome}
use Rattle.saved_history.specs.Versions.{latest_version}
use Rattle.saved_history.specs.Content.{Content, Block}
use Rattle.one_thread_ring.specs.SavedOf.{block_at}

-- the blocks of the rings, each at its place, the first at the given one
abbrev pub blocks_from : ℕ → List RingOutcome → List Block
blocks_from place [] = []
blocks_from place (r ∷ rs) = block_at place r ∷ blocks_from (place + 1) rs

-- the saved text of an outcome, in the latest version, says these blocks, and their number
abbrev pub saved_of : Outcome → Content
saved_of o = record {
  version = latest_version;
  rings = blocks_from 0 o.rings.items;
  rings_said = length o.rings.items;
}
