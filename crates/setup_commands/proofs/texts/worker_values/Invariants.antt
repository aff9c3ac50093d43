use Rattle.std.proofs.Common.{◌≡◌, map, replicate}
use Rattle.serde_json.specs.View.{view}
use Rattle.setup_commands.specs.Settings.{seat_json}
use Rattle.setup_commands.proofs.texts.worker_values.Given as goal

abbrev pub invariant-loop-worker : goal.invariant-loop-worker
invariant-loop-worker l = map view l.values.items ≡ replicate l.worker (seat_json l.words.seed l.words.actions)
