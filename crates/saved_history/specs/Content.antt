-- The content of a saved text, as plain lists and numbers.
use Rattle.std.specs.Prelude.{ℕ, List, map}
use Rattle.saved_history.specs.declared.saved.Saved.{Saved}
use Rattle.saved_history.specs.declared.saved.SavedRing.{SavedRing}
use Rattle.saved_history.specs.declared.saved.SavedEvent.{SavedEvent}
use Rattle.saved_history.specs.declared.saved.SavedSurvey.{SavedSurvey}
use Rattle.saved_history.specs.Versions.{latest_version}

-- one block: a ring, its start, its events and its surveys (this project's own)
pub record Block : Type 0 where
  pub index : ℕ
  pub n : ℕ
  pub k : ℕ
  pub start : List ℕ
  pub events : List SavedEvent
  pub events_said : ℕ
  pub surveys : List SavedSurvey

-- a whole saved text: the version of its grammar, its blocks, and how many it says that it has
-- (this project's own)
pub record Content : Type 0 where
  pub version : ℕ
  pub rings : List Block
  pub rings_said : ℕ

-- a block without where its lists lie in memory
abbrev pub block_of : SavedRing → Block
block_of r = record {
  index = r.index;
  n = r.n;
  k = r.k;
  start = r.start.items;
  events = r.events.items;
  events_said = r.events_said;
  surveys = r.surveys.items;
}

-- the content of a saved value
abbrev pub content : Saved → Content
content s = record {
  version = s.version;
  rings = map block_of s.rings.items;
  rings_said = s.rings_said;
}

-- the same in the latest version
abbrev pub upgraded : Content → Content
upgraded s = record s { version = latest_version }
