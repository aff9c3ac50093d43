use Rattle.std.proofs.Common.{◌≡◌, length, map}
use Rattle.saved_history.specs.Content.{block_of}
use Rattle.setup_commands.proofs.Making.{Made}
use Rattle.setup_commands.proofs.rings.all_rings.Given as goal

abbrev pub invariant-loop-place : goal.invariant-loop-place
invariant-loop-place l = Made l.seed l.sizes l.place (map block_of l.rings.items) × (length l.rings.items ≡ l.place)
