use Rattle.std.proofs.Common.{◌≡◌, ◌+◌, ◌≤◌, take, length}
use Rattle.std.specs.List.{flat_map, range_with_len}
use Rattle.std.specs.Io.KnownBytes.{Appends}
use Rattle.step_states.specs.Rows.{row, ring_after, grants_after, last_asked}
use Rattle.step_states.proofs.rows.write_rows.Given as goal

abbrev pub invariant-loop-choice : goal.invariant-loop-choice
invariant-loop-choice g l = record {
  text : Appends (g.W.Write.contents l.initial.out) (g.W.Write.contents l.out) (flat_map (row l.initial.ring l.choices) (take l.choice-index (range_with_len 0 (length l.choices + 1))));
  ring : l.ring ≡ ring_after l.initial.ring l.choices l.choice-index;
  size : length l.ring.values ≡ length l.initial.ring.values;
  choices : l.place.choices ≡ l.choice-index;
  last : l.place.last ≡ last_asked l.initial.ring l.choices l.choice-index;
  grants : l.place.grants ≡ grants_after l.initial.ring l.choices l.choice-index;
  few : l.place.grants ≤ l.choice-index;
}
