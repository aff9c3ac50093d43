use Rattle.std.proofs.Common.{take}
use Rattle.std.specs.List.{flat_map}
use Rattle.std.specs.Io.KnownBytes.{Appends}
use Rattle.saved_history.specs.Content.{block_of}
use Rattle.history_states.specs.Rows.{rows}
use Rattle.history_states.proofs.tables.put_rings.Given as goal

abbrev pub invariant-loop-ring : goal.invariant-loop-ring
invariant-loop-ring g l = Appends (g.W.Write.contents l.initial.out) (g.W.Write.contents l.out) (flat_map (λ ring. rows l.form (block_of ring)) (take l.ring-index l.rings))
