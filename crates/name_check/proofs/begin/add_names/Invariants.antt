use Rattle.std.proofs.Common.{◌≡◌, map, take, string_bytes}
use Rattle.name_bindings.specs.Bindings.{fixed_names}
use Rattle.name_check.proofs.begin.add_names.Given as goal

abbrev pub invariant-loop-name : goal.invariant-loop-name
invariant-loop-name l = l.table ≡ fixed_names (take l.name-index (map string_bytes l.names))
