use Rattle.std.proofs.Common.{map}
use Rattle.saved_history.specs.Content.{block_of}
use Rattle.run_commands.proofs.FreshRings.{Made}
use Rattle.run_commands.proofs.fresh.fresh_rings.Given as goal

abbrev pub invariant-loop-place : goal.invariant-loop-place
invariant-loop-place l = Made l.sizes l.place (map block_of l.rings.items)
