-- The ends at each place of a segment, as a table.
use Rattle.std.specs.Prelude.{◌≡◌, ℕ, ◌<◌, Bool, List, [], ◌∷◌, length, slice_index_or}
use Rattle.saved_history.specs.declared.saved.SavedSurvey.{SavedSurvey}
use Rattle.chain_readers.specs.Signs.{ends_at}
use Rattle.chain_readers.specs.declared.ends.Ends.{Ends}
use Rattle.chain_readers.specs.declared.ends.Ends.TheVariants.{Nothing, One, Several}

-- how many there are, and of one whether the client left
abbrev pub tally : List Bool → Ends
tally [] = Nothing
tally (left ∷ []) = One left
tally (left ∷ more ∷ lefts) = Several

-- the tallies of all places of the table are those of the surveys
abbrev pub AreTallies : List Ends → List SavedSurvey → Type 0
AreTallies table ss =
    (at : ℕ) → at < length table → slice_index_or table at Nothing ≡ tally (ends_at at ss)
