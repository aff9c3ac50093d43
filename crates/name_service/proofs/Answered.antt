-- A line that is answered leaves locks that are kept, with names that are right.
use Rattle.std.proofs.Common.{◌≡◌, ℕ, List, Option, refl, inl, inr, ◌⊎◌}
use Rattle.disks.specs.Held.{Held}
use Rattle.lock_protocol.specs.Views.{Input}
use Rattle.lock_protocol.specs.Inputs.{IsReadAs}
use Rattle.name_service.specs.declared.service.NameService.{NameService}
use Rattle.name_service.specs.Serving.{AnswersNameInput, IsNameKept, IsNameServed}

pub is_served : (old new : NameService) (was : Option Held) (line said noted : List ℕ) (i : Input) → IsReadAs line i → AnswersNameInput old i said noted new → IsNameKept new → IsNameServed old was line said noted new was
is_served old new was line said noted i read a kept = record { goes = a.goes; answered = (i, read, a.answered); terms = a.terms; stage = a.stage; files = refl; kept = kept }

-- or nothing has changed
pub same_or_served : (old new : NameService) (was : Option Held) (line : List ℕ) (i : Input) → IsReadAs line i → IsNameKept new → (new ≡ old) ⊎ ((said : List ℕ) × (noted : List ℕ) × AnswersNameInput old i said noted new) →
    ((new ≡ old) × (was ≡ was)) ⊎ ((said : List ℕ) × (noted : List ℕ) × IsNameServed old was line said noted new was)
same_or_served old new was line i read kept (inl same) = inl (same, refl)
same_or_served old new was line i read kept (inr a) = inr (a.0, a.1, is_served old new was line a.0 a.1 i read a.2 kept)
