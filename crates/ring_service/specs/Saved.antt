-- The saved text of rings that are served (this project's own).
use Rattle.std.specs.Prelude.{◌≡◌, ℕ, ◌+◌, List, [], ◌∷◌, length, map}
use Rattle.saved_history.specs.Versions.{latest_version}
use Rattle.saved_history.specs.Content.{Block, Content}
use Rattle.one_thread_ring.specs.SavedOf.{saved_event}
use Rattle.endless_ring.specs.Endless.{EndlessView, IsEndless}
use Rattle.one_thread_ring.specs.Texts.{surveys_told}
use Rattle.ring_service.specs.Standings.{Standing, standing_of}

-- the block of a ring at its place: its start, its history, and the surveys that its clients were
-- given, client by client
abbrev pub block_at : ℕ → Standing → Block
block_at place r = record {
  index = place;
  n = length r.start.values;
  k = r.start.k;
  start = r.start.values;
  events = map saved_event r.history;
  events_said = length r.history;
  surveys = surveys_told r.clients;
}

-- the blocks of the rings, each at its place, the first at the given one
abbrev pub blocks_from : ℕ → List Standing → List Block
blocks_from place [] = []
blocks_from place (r ∷ rs) = block_at place r ∷ blocks_from (place + 1) rs

-- the saved text of all rings, in the latest version
abbrev pub content_of : List Standing → Content
content_of rs = record {
  version = latest_version;
  rings = blocks_from 0 rs;
  rings_said = length rs;
}

-- a ring that is a ring without end with its clients' logs
abbrev pub IsRight : Standing → Type 0
IsRight r = (e : EndlessView) × IsEndless e × (standing_of e ≡ r)
