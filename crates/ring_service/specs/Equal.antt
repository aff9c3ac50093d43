-- Equal rings that are given equal lines (this project's own).
use Rattle.std.specs.Prelude.{◌≡◌, ℕ, true, List, Option, None}
use Rattle.disks.specs.Held.{Held}
use Rattle.ring_service.specs.Permits.{Terms}
use Rattle.ring_service.specs.Standings.{Standing}
use Rattle.ring_service.specs.Serving.{Answers}

-- A law: on strict terms on which no line may save, equal rings answer the same lines with the same
-- text and the same notes, whatever memory and files there are, and are equal again.
abbrev pub EqualLinesGiveEqualAnswers : Type 0
EqualLinesGiveEqualAnswers =
    (terms : Terms) (rings new other : List Standing) (before after was is : Option Held)
    (lines : List (List ℕ)) (said noted told kept : List ℕ) → terms.strict ≡ true
    → terms.saves ≡ None → Answers terms rings before lines said noted new after
    → Answers terms rings was lines told kept other is
    → (told ≡ said) × (kept ≡ noted) × (other ≡ new)
