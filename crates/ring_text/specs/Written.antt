-- The promises of a farm on its outcome, and that the saved text of that is legal (this
-- project's own).
use Rattle.std.specs.List.{All}
use Rattle.ring_settings.specs.Contents.{SettingsData}
use Rattle.ring_farm.specs.declared.outcomes.Outcome.{Outcome}
use Rattle.ring_farm.specs.Headline.{IsFarmOf}
use Rattle.saved_history.specs.Content.{Content}
use Rattle.ring_check.specs.Legal.{IsLegalText}
use Rattle.ring_check.specs.Meaning.{IsRightText}
use Rattle.one_thread_ring.specs.Runs.{IsRightRun}
use Rattle.ring_text.specs.SavedOf.{saved_of}

-- the saved text of right runs is legal
abbrev pub WrittenIsLegal : Type 0
WrittenIsLegal = (o : Outcome) → All IsRightRun o.rings.items → IsLegalText (saved_of o)

-- and right in the subject's words
abbrev pub WrittenIsRight : Type 0
WrittenIsRight = (o : Outcome) → All IsRightRun o.rings.items → IsRightText (saved_of o)

-- a fact of the saved text of each outcome of a farm: of the promise of `run_farm`, by the record
-- that its clause names
abbrev pub WherePromised : (Content → Type 0) → Type 0
WherePromised holds =
    (settings : SettingsData) (o : Outcome) → IsFarmOf settings o → holds (saved_of o)

-- there it is legal by the table of the refusals
abbrev pub OutcomeIsLegal : Type 0
OutcomeIsLegal = WherePromised IsLegalText

-- and there it is right in the subject's words
abbrev pub OutcomeIsRight : Type 0
OutcomeIsRight = WherePromised IsRightText
