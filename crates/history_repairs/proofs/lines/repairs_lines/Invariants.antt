use Rattle.std.proofs.Common.{◌≡◌, take}
use Rattle.history_repairs.proofs.Texts.{rings_text}
use Rattle.history_repairs.proofs.lines.repairs_lines.Given as goal

abbrev pub invariant-loop-ring : goal.invariant-loop-ring
invariant-loop-ring l = l.text.items ≡ rings_text (take l.ring-index l.saved.rings.items)
