-- What is answered to a line, and what is noted of it, are whole lines.
use Rattle.std.proofs.Common.{ℕ, List, [], ◌∷◌, Option, inl, sym, subst}
use Rattle.disks.specs.Held.{Held}
use Rattle.line_service.specs.Answering.{Answers}
use Rattle.line_service.specs.Stands.{Stand, by_stand}
use Rattle.segment_files.specs.RemarkLaws.{AreLines}
use Rattle.lock_service.specs.declared.service.LockService.{LockService}
use Rattle.lock_service.specs.Serving.{IsServed}
use Rattle.lock_journal.proofs.WholeTexts.{of_both, AreOfLines, of_input}

pub of_lines : (old new : LockService) (was is : Option Held) (line said noted : List ℕ) → IsServed old was line said noted new is → AreOfLines said noted
of_lines old new was is line said noted s = of_input old.segment new.segment said noted old.terms s.answered.0 s.answered.2

pub notes_of_lines : (old new : Stand LockService) (lines : List (List ℕ)) (said noted : List ℕ) → Answers (by_stand IsServed) old lines said noted new → AreLines noted
notes_of_lines old new [] said noted a = inl a.1
notes_of_lines old new (line ∷ lines) said noted a =
    subst (λ (u : List ℕ). AreLines u) (sym a.7)
    (of_both a.3 a.4 (of_lines old.service a.0.service old.files a.0.files line a.1 a.3 a.5).notes (notes_of_lines a.0 new lines a.2 a.4 a.8))
