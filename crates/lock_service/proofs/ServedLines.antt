-- The lines that a service answers are answered so.
use Rattle.std.proofs.Common.{◌≡◌, ℕ, List, [], ◌∷◌, refl, ◌∙◌, ap, subst}
use Rattle.line_service.specs.Answering.{Answers as Answered}
use Rattle.line_service.specs.Stands.{by_stand, stand, Stand}
use Rattle.lock_service.specs.declared.service.LockService.{LockService}
use Rattle.lock_journal.specs.declared.terms.Terms.{Terms}
use Rattle.lock_service.specs.Serving.{IsServed}
use Rattle.lock_service.specs.Begun.{ServedLinesAreAnswered}
use Rattle.lock_journal.specs.Answering.{IsLineAnswered}

-- ---- the service

pub served_lines_are_answered : ServedLinesAreAnswered
served_lines_are_answered old new was is lines said noted noting a = (record { noting = noting; answers = go old.terms (stand old was) lines said noted refl a }, kept (stand old was) lines said noted a)
  where
    go : (terms : Terms) (now : Stand LockService) (more : List (List ℕ)) (unsaid notes : List ℕ) → now.service.terms ≡ terms → Answered (by_stand IsServed) now more unsaid notes (stand new is) → Answered (IsLineAnswered terms) now.service.segment more unsaid notes new.segment
    go terms now [] unsaid notes e b = (b.0, b.1, ap (λ (s : Stand LockService). s.service.segment) b.2)
    go terms now (line ∷ more) unsaid notes e b = (
      b.0.service.segment,
      b.1,
      b.2,
      b.3,
      b.4,
      subst (λ (t : Terms). IsLineAnswered t now.service.segment line b.1 b.3 b.0.service.segment) e b.5.answered,
      b.6,
      b.7,
      go terms b.0 more b.2 b.4 (b.5.terms ∙ e) b.8,
    )

    kept : (now : Stand LockService) (more : List (List ℕ)) (unsaid notes : List ℕ) → Answered (by_stand IsServed) now more unsaid notes (stand new is) → is ≡ now.files
    kept now [] unsaid notes b = ap (λ (s : Stand LockService). s.files) b.2
    kept now (line ∷ more) unsaid notes b = kept b.0 more b.2 b.4 b.8 ∙ b.5.files
