-- A line that is answered leaves locks that are kept.
use Rattle.std.proofs.Common.{◌≡◌, ℕ, List, Option, refl, inl, inr, ◌⊎◌}
use Rattle.disks.specs.Held.{Held}
use Rattle.lock_protocol.specs.Views.{Input}
use Rattle.lock_protocol.specs.Inputs.{IsReadAs}
use Rattle.lock_service.specs.declared.service.LockService.{LockService}
use Rattle.lock_service.specs.Serving.{AnswersInput, IsKept, IsServed}

pub is_served : (old new : LockService) (was : Option Held) (line said noted : List ℕ) (i : Input) → IsReadAs line i → AnswersInput old i said noted new → IsKept new → IsServed old was line said noted new was
is_served old new was line said noted i read a kept = record { goes = a.goes; answered = (i, read, a.answered); terms = a.terms; stage = a.stage; files = refl; kept = kept }

-- or nothing has changed
pub same_or_served : (old new : LockService) (was : Option Held) (line : List ℕ) (i : Input) → IsReadAs line i → IsKept new → (new ≡ old) ⊎ ((said : List ℕ) × (noted : List ℕ) × AnswersInput old i said noted new) →
    ((new ≡ old) × (was ≡ was)) ⊎ ((said : List ℕ) × (noted : List ℕ) × IsServed old was line said noted new was)
same_or_served old new was line i read kept (inl same) = inl (same, refl)
same_or_served old new was line i read kept (inr a) = inr (a.0, a.1, is_served old new was line a.0 a.1 i read a.2 kept)
