-- What answers lines, and the files beside it.
use Rattle.std.proofs.Common.{◌≡◌, ℕ, List, Option, ap, ◌∙◌, inl, inr, ◌⊎◌}
use Rattle.disks.specs.Held.{Held}
use Rattle.line_service.specs.Stands.{AnsweringWith, by_stand, stand}

pub same_stand : {S : Type 0} (s t : S) (f h : Option Held) → s ≡ t → f ≡ h → stand s f ≡ stand t h
same_stand s t f h p q = ap (λ (x : _). stand x f) p ∙ ap (λ (x : Option Held). stand t x) q

-- nothing has changed, or a line is answered
pub same_or_answered : {S : Type 0} (A : AnsweringWith S) {s t : S} {f h : Option Held} {line : List ℕ} → ((t ≡ s) × (h ≡ f)) ⊎ ((said : List ℕ) × (noted : List ℕ) × A s f line said noted t h) →
    (stand t h ≡ stand s f) ⊎ ((said : List ℕ) × (noted : List ℕ) × by_stand A (stand s f) line said noted (stand t h))
same_or_answered A {s} {t} {f} {h} (inl p) = inl (same_stand t s h f p.0 p.1)
same_or_answered A (inr a) = inr a
