use Rattle.std.proofs.Common.{◌≡◌, ◌≤◌, ℕ, List, [], length, false}
use Rattle.std.specs.Prelude.{is_some}
use Rattle.std.specs.Io.KnownBytes.{Consumes}
use Rattle.line_service.specs.Answering.{HasLineBegun}
use Rattle.line_service.specs.Loop.{written_by, AllLasts}
use Rattle.line_service.specs.Stands.{by_stand, stand}
use Rattle.line_service.proofs.Parting.{Going}
use Rattle.line_service.proofs.parts.serve_part.Given as goal

abbrev pub invariant-rounds : goal.invariant-rounds
invariant-rounds g l =
    (read : List ℕ) × Consumes (g.I.Read.remaining l.initial.input) (g.I.Read.remaining l.input) read × (l.round ≤ length read)
    × (g.S.AnswersLines.is_over l.service ≡ false)
    × (l.pending.answers.items ≡ []) × (l.pending.notes.items ≡ []) × (is_some l.journal ≡ is_some l.initial.journal)
    × ((begun : List ℕ) → HasLineBegun begun l.initial.line.items →
    Going (by_stand g.S.AnswersLines.is_answered) (stand l.initial.service (g.D.Disk.holds l.initial.disk)) begun l.initial.unread read l.unread l.line.items (record { journal = written_by g.J.Grow.contents l.initial.journal; out = g.W.Write.contents l.initial.out }) (record { journal = written_by g.J.Grow.contents l.journal; out = g.W.Write.contents l.out }) (stand l.service (g.D.Disk.holds l.disk)))
    × ((begun : List ℕ) → HasLineBegun begun l.initial.line.items →
    Going (by_stand g.S.AnswersLines.is_answered) (stand l.initial.service (g.D.Disk.holds l.initial.disk)) begun l.initial.unread read l.unread l.line.items (record { journal = written_by g.J.Grow.lasting l.initial.journal; out = g.W.Write.contents l.initial.out }) (record { journal = written_by g.J.Grow.lasting l.journal; out = g.W.Write.contents l.out }) (stand l.service (g.D.Disk.holds l.disk)))
    × (AllLasts (written_by g.J.Grow.contents l.initial.journal) (written_by g.J.Grow.lasting l.initial.journal) → AllLasts (written_by g.J.Grow.contents l.journal) (written_by g.J.Grow.lasting l.journal))
    × (g.S.AnswersLines.changes_files l.initial.service ≡ false → (g.D.Disk.leaves l.disk ≡ g.D.Disk.leaves l.initial.disk) × (g.S.AnswersLines.changes_files l.service ≡ false))
