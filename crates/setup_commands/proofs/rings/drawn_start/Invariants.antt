use Rattle.std.proofs.Common.{◌≡◌, vec_len}
use Rattle.ring_repairs.specs.Draws.{generator}
use Rattle.ring_repairs.specs.Starts.{after_values, drawn_values}
use Rattle.setup_commands.proofs.rings.drawn_start.Given as goal

abbrev pub invariant-loop-machine : goal.invariant-loop-machine
invariant-loop-machine l = record {
  drawn : l.values.items ≡ drawn_values l.size.k (generator l.seed l.trial) l.machine;
  words : l.words ≡ after_values l.size.k (generator l.seed l.trial) l.machine;
  long : vec_len l.values ≡ l.machine;
}
