use Rattle.std.proofs.Common.{◌≡◌, map, take}
use Rattle.serde_json.specs.View.{view}
use Rattle.setup_commands.specs.Settings.{number_json}
use Rattle.setup_commands.proofs.texts.number_values.Given as goal

abbrev pub invariant-loop-number : goal.invariant-loop-number
invariant-loop-number l = map view l.values.items ≡ map number_json (take l.number-index l.numbers)
