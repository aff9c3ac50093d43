-- What the history of a lock's ring records of holds (this project's own): grants, the ends of
-- holds, and at the beginning of a segment the hold that is open, each by its seat.
use Rattle.std.specs.Prelude.{ℕ, ◌+◌, ◌==◌, ◌&&◌, ◌||◌, if◌then◌else◌, Bool, List, [], ◌∷◌, ◌++◌, map}
use Rattle.std.specs.List.{filter}
use Rattle.saved_history.specs.declared.saved.SavedEvent.{SavedEvent}
use Rattle.saved_history.specs.declared.saved.SavedEvent.TheVariants as saved
use Rattle.saved_history.specs.declared.saved.SavedSurvey.{SavedSurvey}
use Rattle.saved_history.specs.Content.{Block}
use Rattle.ring_model.specs.LockSeats.{grant_seat, release_seat, leave_seat, carried_seat}
use Rattle.ring_model.specs.declared.bases.Base.{Base}
use Rattle.segment_files.specs.Sums.{capped}
use Rattle.chain_readers.specs.declared.signs.Sign.{Sign}
use Rattle.chain_readers.specs.declared.signs.Sign.TheVariants.{Granted, Carried, Ended, Other, Wrong}

-- an event that is neither a grant nor carries a hold
abbrev pub other : ℕ → Sign
other seat = if (seat == grant_seat) || (seat == carried_seat) then Wrong else Other

-- An event. Numbers are counted over all segments: a grant's number is the token of its hold, its
-- order the client's label.
abbrev pub sign_of : Base → SavedEvent → Sign
sign_of b (saved.Granted seat machine order number result) =
    if seat == grant_seat then Granted (capped (b.grants + number)) order else other seat
sign_of b (saved.Refused seat machine order) =
    if seat == carried_seat then Carried order else other seat
sign_of b (saved.Member seat machine order left number result) = other seat
sign_of b (saved.Corrupted seat machine value old) = other seat

-- the ends at a place of a segment, each by whether the client left
abbrev pub is_end_at : ℕ → SavedSurvey → Bool
is_end_at at s = (s.position == at) && ((s.seat == release_seat) || (s.seat == leave_seat))

abbrev pub ends_at : ℕ → List SavedSurvey → List Bool
ends_at at ss = map (λ (s : SavedSurvey). s.seat == leave_seat) (filter (is_end_at at) ss)

-- how many events come before a place of a segment, over all segments
abbrev pub place : Base → ℕ → ℕ
place b at = capped (b.events + at)

-- these ends, at this place
abbrev pub ended : ℕ → List Bool → List (ℕ × Sign)
ended at lefts = map (λ (left : Bool). (at, Ended left)) lefts

-- The signs of a segment in their order, from this place of it on, after which these events come,
-- each with its place over all segments. The ends at a place come before its event.
abbrev pub signs_from : Base → List SavedSurvey → ℕ → List SavedEvent → List (ℕ × Sign)
signs_from b ss at [] = ended (place b at) (ends_at at ss)
signs_from b ss at (e ∷ es) =
    ended (place b at) (ends_at at ss) ++ (place b at, sign_of b e) ∷ signs_from b ss (at + 1) es

-- those of a whole segment
abbrev pub signs_of : Base → Block → List (ℕ × Sign)
signs_of b k = signs_from b k.surveys 0 k.events
