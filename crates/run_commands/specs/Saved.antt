-- The saved text of a farm.
use Rattle.std.specs.Prelude.{IsSome, Result}
use Rattle.std.specs.Io.KnownBytes.{Appends}
use Rattle.text_lines.specs.declared.answer.ReadError.{ReadError}
use Rattle.ring_settings.specs.Contents.{SettingsData}
use Rattle.ring_farm.specs.Headline.{IsFarmOf}
use Rattle.ring_farm.specs.declared.outcomes.Outcome.{Outcome}
use Rattle.saved_history.specs.declared.saved.Saved.{Saved}
use Rattle.saved_history.specs.Meaning.{IsRightRead, IsReadAs}
use Rattle.ring_text.specs.SavedOf.{saved_of}
use Rattle.saved_history.specs.Spelling.{text}
use Rattle.ring_check.specs.Legal.{IsLegalText, summary_of}
use Rattle.tool_parts.specs.Checked.{IsLegalSavedText}
use Rattle.tool_parts.specs.Named.{IsStored}
use Rattle.run_commands.specs.Ran.{output_text, history_file, IsFarmNamed}
use Rattle.tool_parts.specs.Worlds.{World}
use Rattle.tool_parts.specs.declared.requests.RunWords.{RunWords}

-- The saved text of an outcome is legal, in the subject's words with the outcome's sums, and by the
-- table of the refusals; and the one right answer of its reader, memory aside, is the saved value.
pub record IsSavedLegal (o : Outcome) : Type 0 where
  pub legal : IsLegalSavedText (text (saved_of o)) (summary_of (saved_of o))
  pub table : IsLegalText (saved_of o)
  pub alone : (answer : Result Saved ReadError) → IsRightRead (text (saved_of o)) answer
      → IsReadAs (saved_of o) answer

-- it is, where the outcome is that of a farm
abbrev pub IsLegalOfFarm : Outcome → Type 0
IsLegalOfFarm o = (settings : SettingsData) → IsFarmOf settings o → IsSavedLegal o

-- An outcome of the farm whose settings the word names is printed as the words say; where its
-- history is asked for, its saved text is legal, and the file for it, if one is named, holds just
-- that, and every other file is as it was.
abbrev pub IsRunAnswer : RunWords → World → World → Type 0
IsRunAnswer words was is =
    (outcome : Outcome)
    × IsFarmNamed words was.files was.input is.input outcome
    × IsStored (history_file words) was.files is.files (text (saved_of outcome))
    × Appends was.out is.out (output_text words outcome)
    × (IsSome words.history → IsSavedLegal outcome)
