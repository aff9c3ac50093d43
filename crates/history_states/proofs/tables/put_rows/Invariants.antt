use Rattle.std.proofs.Common.{◌≡◌, ◌≤◌, ◌+◌, take, length}
use Rattle.std.specs.List.{flat_map, range_with_len}
use Rattle.std.specs.Io.KnownBytes.{Appends}
use Rattle.saved_history.specs.Content.{block_of}
use Rattle.history_steps.specs.Steps.{ring_at, calm_at, HasRing}
use Rattle.history_states.specs.Rows.{row}
use Rattle.history_states.proofs.tables.put_rows.Given as goal

abbrev pub invariant-loop-events : goal.invariant-loop-events
invariant-loop-events g l = record {
  text : Appends (g.W.Write.contents l.initial.out) (g.W.Write.contents l.out) (flat_map (row l.form (block_of l.ring)) (take l.events (range_with_len 0 (length l.ring.events.items + 1))));
  ring : HasRing l.ring (ring_at (block_of l.ring) l.events) l.gauge;
  calm : l.calm ≡ calm_at (block_of l.ring) l.events;
  few : l.calm ≤ l.events;
  within : l.events ≤ length l.ring.events.items;
}
