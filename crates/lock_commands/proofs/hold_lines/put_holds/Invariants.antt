use Rattle.std.proofs.Common.{map, drop}
use Rattle.text_lines.specs.Writing.{Wrote}
use Rattle.lock_commands.specs.ToldHolds.{called, all_lines}
use Rattle.lock_commands.proofs.hold_lines.put_holds.Given as goal

abbrev pub invariant-loop-ring : goal.invariant-loop-ring
invariant-loop-ring g l = Wrote (g.W.Write.contents l.initial.out) (g.W.Write.contents l.out) (all_lines l.choice (called l.names) 0 (map (λ v. v.items) l.locks)) (all_lines l.choice (called l.names) l.ring (drop l.ring (map (λ v. v.items) l.locks)))
