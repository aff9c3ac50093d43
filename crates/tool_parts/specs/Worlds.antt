-- What a command meets, and what it leaves.
use Rattle.std.specs.Prelude.{◌≡◌, ℕ, List, Option}
use Rattle.disks.specs.Held.{Held}

-- What files hold, what standard input has left, and what standard output and standard error hold,
-- each where it is known. A command that is not given one of them says nothing of it: there is None.
pub record World : Type 0 where
  pub files : Option Held
  pub input : Option (List ℕ)
  pub out : Option (List ℕ)
  pub err : Option (List ℕ)

abbrev pub world : Option Held → Option (List ℕ) → Option (List ℕ) → Option (List ℕ) → World
world files input out err = record { files = files; input = input; out = out; err = err }

-- no line was read or answered: standard input and output are as they were
abbrev pub IsUnserved : Option (List ℕ) → Option (List ℕ) → Option (List ℕ) → Option (List ℕ)
    → Type 0
IsUnserved was is old new = (is ≡ was) × (new ≡ old)
