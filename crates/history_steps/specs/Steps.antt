-- The ring and the calm of a block after its first events (this project's own).
use Rattle.std.specs.Prelude.{◌≡◌, ℕ, List, length, map, take}
use Rattle.ring_model.specs.Ring.{Ring, ring_with, written}
use Rattle.ring_model.specs.Runs.{passed}
use Rattle.ring_model.specs.declared.events.Op.{Op}
use Rattle.ring_model.specs.declared.events.Op.TheVariants.{Pass, Member, Corrupt}
use Rattle.ring_model.specs.History.{after}
use Rattle.ring_model.specs.Resources.{till}
use Rattle.ring_model.specs.Surveys.{calm}
use Rattle.saved_history.specs.declared.saved.SavedRing.{SavedRing}
use Rattle.saved_history.specs.Content.{Block}
use Rattle.ring_check.specs.declared.gauge.Gauge.{Gauge}
use Rattle.ring_check.specs.Gauges.{ring_of, IsGauge}
use Rattle.ring_check.specs.Table.{event_of, first_state}

-- the ring after a call
abbrev pub next_ring : Ring → Op → Ring
next_ring r (Pass i order) = passed r i
next_ring r (Member i order left) = passed r i
next_ring r (Corrupt i v) = written r i v

-- the ring after the first n events of a block, by the definition
abbrev pub ring_at : Block → ℕ → Ring
ring_at b place =
    (after till (first_state (ring_with b.k b.start)) (map event_of (take place b.events))).ring

-- the calm there
abbrev pub calm_at : Block → ℕ → ℕ
calm_at b place = calm (map event_of (take place b.events))

-- a gauge has this ring, of the block's K and of as many machines
pub record HasRing (ring : SavedRing) (r : Ring) (g : Gauge) : Type 0 where
  pub gauge : IsGauge g
  pub k : (ring_of g).k ≡ ring.k
  pub machines : length (ring_of g).values ≡ ring.n
  pub same : ring_of g ≡ r
