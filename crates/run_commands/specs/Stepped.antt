-- The answers of `step` to its words.
use Rattle.std.specs.Prelude.{◌≡◌, ℕ, List, [], Option, None, Some, ◌⊎◌}
use Rattle.std.specs.Io.KnownBytes.{Appends}
use Rattle.std.specs.Option.{option_map}
use Rattle.ring_model.specs.Ring.{ring_with}
use Rattle.tool_parts.specs.Faults.{IsListRefusal, IsStepRefusal}
use Rattle.tool_parts.specs.ListWords.{IsListText}
use Rattle.run_commands.specs.StepText.{step_text}
use Rattle.tool_parts.specs.Written.{AppendsFront}
use Rattle.tool_parts.specs.declared.requests.StepWords.{StepWords}
use Rattle.tool_parts.specs.declared.faults.ToolError.{ToolError}

-- the word, where there is one, is the text of the choices; where there is none, there are no
-- choices
abbrev pub AreChoices : Option (List ℕ) → List ℕ → Type 0
AreChoices None choices = choices ≡ []
AreChoices (Some word) choices = IsListText word choices

-- a refusal of that word
abbrev pub IsChoicesRefusal : Option (List ℕ) → ToolError → Type 0
IsChoicesRefusal None e = ⊥
IsChoicesRefusal (Some word) e = IsListRefusal word e

-- the words' lists are the texts of these numbers
pub record AreListsOf (words : StepWords) (states choices : List ℕ) : Type 0 where
  pub states_are : IsListText words.states.now states
  pub choices_are : AreChoices (option_map (λ word. word.now) words.choices) choices

-- all lines of the lists that the words spell
abbrev pub IsStepAnswer : StepWords → Option (List ℕ) → Option (List ℕ) → Type 0
IsStepAnswer words old new =
    (states : List ℕ)
    × (choices : List ℕ)
    × AreListsOf words states choices
    × Appends old new (step_text (ring_with words.k states) choices)

-- A list that cannot be read, and nothing is written; or a refusal of the lists that the words
-- spell, and a prefix of their lines.
abbrev pub IsStepWordsRefusal : StepWords → Option (List ℕ) → Option (List ℕ) → ToolError → Type 0
IsStepWordsRefusal words old new e =
    ((IsListRefusal words.states.now e
    ⊎ IsChoicesRefusal (option_map (λ word. word.now) words.choices) e)
    × (new ≡ old))
    ⊎ ((states : List ℕ)
    × (choices : List ℕ)
    × AreListsOf words states choices
    × IsStepRefusal words.n words.k states choices e
    × AppendsFront old new (step_text (ring_with words.k states) choices))
