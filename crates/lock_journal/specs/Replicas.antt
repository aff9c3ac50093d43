-- What a replica says of lines, by what the locks inside say of those that are new (this project's
-- own).
use Rattle.std.specs.Prelude.{ℕ, List, true, not, ◌≡◌, [], ◌∷◌, ◌⊎◌, ◌++◌}
use Rattle.std.specs.List.{filter}
use Rattle.line_replica.specs.State.{is_state}
use Rattle.line_replica.specs.Log.{Numbers, given_of, numbers_after}
use Rattle.line_replica.specs.Reading.{heard}

-- ---- lines and stages

-- the lines that do not ask for the state
abbrev pub others_of : List (List ℕ) → List (List ℕ)
others_of lines = filter (λ line. not (is_state line)) lines

-- Of each line either nothing is given to the locks, and the replica says a text of its own; or what
-- is said is what the locks say.
abbrev pub AreToldAround : Numbers → List (List ℕ) → List ℕ → List ℕ → Type 0
AreToldAround numbers [] said told = (said ≡ []) × (told ≡ [])
AreToldAround numbers (line ∷ lines) said told =
    (first inner later more : List ℕ)
    × (said ≡ first ++ later)
    × (told ≡ inner ++ more)
    × (((given_of (heard line) numbers line ≡ []) × (inner ≡ [])) ⊎ (inner ≡ first))
    × AreToldAround (numbers_after (heard line) numbers) lines later more

-- Of each line either the state is answered, and nothing else happens; or what is said is what the
-- replica says.
abbrev pub AreToldAfter : List (List ℕ) → List ℕ → List ℕ → Type 0
AreToldAfter [] said told = (said ≡ []) × (told ≡ [])
AreToldAfter (line ∷ lines) said told =
    (first inner later more : List ℕ)
    × (said ≡ first ++ later)
    × (told ≡ inner ++ more)
    × (((is_state line ≡ true) × (inner ≡ [])) ⊎ (inner ≡ first))
    × AreToldAfter lines later more
