use Rattle.std.proofs.Common.{take}
use Rattle.std.specs.Io.KnownBytes.{Appends}
use Rattle.std.specs.List.{flat_map}
use Rattle.lock_commands.specs.ToldHolds.{called, chosen_line}
use Rattle.lock_commands.proofs.hold_lines.put_lines.Given as goal

abbrev pub invariant-loop-hold : goal.invariant-loop-hold
invariant-loop-hold g l = Appends (g.W.Write.contents l.initial.out) (g.W.Write.contents l.out) (flat_map (chosen_line l.choice (called l.names) l.ring) (take l.hold-index l.holds))
