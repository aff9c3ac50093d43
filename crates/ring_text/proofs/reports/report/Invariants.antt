use Rattle.std.proofs.Common.{◌≡◌, take}
use Rattle.ring_text.proofs.Pieces.{rings_text}
use Rattle.ring_text.proofs.reports.report.Given as goal

abbrev pub invariant-loop-place : goal.invariant-loop-place
invariant-loop-place l = l.text.items ≡ rings_text (take l.place l.saved.rings.items)
