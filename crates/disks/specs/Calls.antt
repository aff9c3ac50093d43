-- What the calls on a file of the system do (this project's own).
use Rattle.std.specs.Prelude.{◌≡◌, ℕ, Bool, true, List, Option, Result, MatchResult}
use Rattle.std.specs.Io.KnownBytes.{Keeps}

-- A sync puts all that was written on the disk, if none has failed before. After one that fails, what
-- was on the disk is there.
abbrev pub Syncs : {T E : Type 0} → Result T E → Bool → Option (List ℕ) → Option (List ℕ)
    → Option (List ℕ) → Type 0
Syncs result sound written old new =
    MatchResult result (λ _. sound ≡ true → new ≡ written) (λ _. Keeps old new)
