use Rattle.std.proofs.Common.{◌≡◌, ◌++◌, take, drop}
use Rattle.line_replica.specs.Keys.{first_line}
use Rattle.line_replica.proofs.keys.first_line.Given as goal

abbrev pub invariant-loop-i : goal.invariant-loop-i
invariant-loop-i l = take l.i l.text ++ first_line (drop l.i l.text) ≡ first_line l.text
