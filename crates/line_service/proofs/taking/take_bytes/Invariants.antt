use Rattle.std.proofs.Common.{◌≡◌, ℕ, List, ◌++◌, length, false}
use Rattle.line_service.specs.Loop.{Written, GoesOn}
use Rattle.line_service.specs.Stands.{by_stand, stand}
use Rattle.line_service.proofs.taking.take_bytes.Given as goal

abbrev pub invariant-loop-rest : goal.invariant-loop-rest
invariant-loop-rest g l =
    (taken : List ℕ) × (l.block ≡ taken ++ l.rest)
    × (g.S.AnswersLines.is_over l.service ≡ false)
    × ((old : _) (before after : Written) (bytes : List ℕ) → GoesOn (by_stand g.S.AnswersLines.is_answered) old before after bytes (stand l.initial.service (g.D.Disk.holds l.initial.disk)) l.initial.line.items l.initial.pending →
    GoesOn (by_stand g.S.AnswersLines.is_answered) old before after (bytes ++ taken) (stand l.service (g.D.Disk.holds l.disk)) l.line.items l.pending)
    × (g.S.AnswersLines.changes_files l.initial.service ≡ false → (g.D.Disk.leaves l.disk ≡ g.D.Disk.leaves l.initial.disk) × (g.S.AnswersLines.changes_files l.service ≡ false))

abbrev pub decreases-loop-rest : goal.decreases-loop-rest
decreases-loop-rest g l = length l.rest
