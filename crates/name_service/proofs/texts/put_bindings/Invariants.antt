use Rattle.std.proofs.Common.{◌≡◌, ◌++◌, drop}
use Rattle.name_service.proofs.NamedTexts.{part}
use Rattle.name_service.proofs.texts.put_bindings.Given as goal

-- the remarks of the rings from this one on are still to be added
abbrev pub invariant-loop-ring : goal.invariant-loop-ring
invariant-loop-ring l =
    l.text.items ++ part l.ring (drop l.ring l.names.names) ≡ l.initial.text.items ++ part l.names.fixed (drop l.names.fixed l.names.names)
