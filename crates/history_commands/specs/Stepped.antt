-- The answer of `step` with states.
use Rattle.std.specs.Prelude.{◌≡◌, ℕ, List, Option, None, ◌⊎◌}
use Rattle.std.specs.Io.KnownBytes.{Appends}
use Rattle.std.specs.Option.{option_map}
use Rattle.ring_model.specs.Ring.{ring_with}
use Rattle.run_commands.specs.Stepped.{AreListsOf, IsChoicesRefusal}
use Rattle.step_states.specs.Rows.{rows}
use Rattle.tool_parts.specs.Faults.{fault_of, IsListRefusal, IsOpeningRefusal}
use Rattle.tool_parts.specs.declared.requests.StepWords.{StepWords}
use Rattle.tool_parts.specs.declared.faults.ToolError.{ToolError}
use Rattle.history_commands.specs.Stated.{IsTableFault}

-- all rows of the lists that the words spell, which have no fault
abbrev pub IsStepStatesAnswer : StepWords → Option (List ℕ) → Option (List ℕ) → Type 0
IsStepStatesAnswer words old new =
    (states : List ℕ)
    × (choices : List ℕ)
    × AreListsOf words states choices
    × (fault_of words.n words.k states choices ≡ None)
    × Appends old new (rows (ring_with words.k states) choices)

-- a ring that cannot begin, with nothing written; or its rows are not whole
abbrev pub IsRowsRefusal : ℕ → ℕ → List ℕ → List ℕ → Option (List ℕ) → Option (List ℕ) → ToolError
    → Type 0
IsRowsRefusal n k states choices old new e =
    (IsOpeningRefusal n k states choices e × (new ≡ old))
    ⊎ ((fault_of n k states choices ≡ None)
    × IsTableFault old new (rows (ring_with k states) choices) e)

-- a list that cannot be read, with nothing written; or a refusal of the lists that the words spell
abbrev pub IsStepStatesRefusal : StepWords → Option (List ℕ) → Option (List ℕ) → ToolError → Type 0
IsStepStatesRefusal words old new e =
    ((IsListRefusal words.states.now e
    ⊎ IsChoicesRefusal (option_map (λ word. word.now) words.choices) e)
    × (new ≡ old))
    ⊎ ((states : List ℕ)
    × (choices : List ℕ)
    × AreListsOf words states choices
    × IsRowsRefusal words.n words.k states choices old new e)
