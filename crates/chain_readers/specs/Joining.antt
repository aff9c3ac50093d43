-- The histories of a chain of files as one (this project's own).
use Rattle.std.specs.Prelude.{ℕ, ◌+◌, Bool, cond, List, [], ◌∷◌, ◌++◌, length, map, take, drop}
use Rattle.saved_history.specs.declared.saved.SavedEvent.{SavedEvent}
use Rattle.saved_history.specs.declared.saved.SavedEvent.TheVariants.{Granted, Refused, Member, Corrupted}
use Rattle.saved_history.specs.declared.saved.SavedSurvey.{SavedSurvey}
use Rattle.saved_history.specs.Content.{Block, Content}
use Rattle.saved_history.specs.Versions.{latest_version}
use Rattle.ring_check.specs.Table.{event_of}
use Rattle.journal.specs.ContentAfter.{in_order}
use Rattle.ring_model.specs.declared.bases.Base.{Base}
use Rattle.ring_model.specs.Bases.{is_quiet}
use Rattle.segment_files.specs.Files.{File}
use Rattle.segment_files.specs.Sums.{capped}

-- ---- one segment, shifted: counted from the first event of all

-- an event: a grant's number is more by the grants before, its result by the amount before; both
-- stop at the greatest number of 64 bits, to which no number comes that is right
abbrev pub shifted_event : Base → SavedEvent → SavedEvent
shifted_event b (Granted seat machine order number result) =
    Granted seat machine order (capped (b.grants + number)) (capped (b.amount + result))
shifted_event b (Member seat machine order left number result) =
    Member seat machine order left (capped (b.grants + number)) (capped (b.amount + result))
shifted_event b (Refused seat machine order) = Refused seat machine order
shifted_event b (Corrupted seat machine value old) = Corrupted seat machine value old

-- a survey of a place up to which the segment is quiet, or is not: the calm before the segment
-- counts as long as no corruption has come in it
abbrev pub counted_survey : Base → Bool → SavedSurvey → SavedSurvey
counted_survey b quiet s = record {
  seat = s.seat;
  position = capped (b.events + s.position);
  privileged = s.privileged;
  first = s.first;
  calm = cond quiet (capped (b.calm + s.calm)) s.calm;
  rest = s.rest;
}

-- a survey of a segment with these events
abbrev pub shifted_survey : Base → List SavedEvent → SavedSurvey → SavedSurvey
shifted_survey b es s = counted_survey b (is_quiet (take s.position (map event_of es))) s

-- ---- the blocks of a chain

-- a ring's block with its next segment, which has this base
abbrev pub with_segment : Block → Base → Block → Block
with_segment k b next = record k {
  events = k.events ++ map (shifted_event b) next.events;
  events_said = length k.events + length next.events;
  surveys = k.surveys ++ map (shifted_survey b next.events) next.surveys;
}

-- a block without events
abbrev pub without_events : Block → Block
without_events k = record k { events = []; events_said = 0; surveys = [] }

-- the blocks, and after them those of the rings more, still without events
abbrev pub opened : List Block → List Block → List Block
opened ks next = ks ++ map without_events (drop (length ks) next)

-- each block with its next segment
abbrev pub extended : List Block → List Base → List Block → List Block
extended (k ∷ ks) (b ∷ bs) (f ∷ fs) = with_segment k b f ∷ extended ks bs fs
extended ks _ _ = ks

-- the blocks with a file more
abbrev pub with_file : List Block → File → List Block
with_file ks f = extended (opened ks f.content.rings) f.head.bases f.content.rings

-- with these files more
abbrev pub with_files : List Block → List File → List Block
with_files ks [] = ks
with_files ks (f ∷ fs) = with_files (with_file ks f) fs

-- ---- the whole

-- a saved text of these blocks, in the latest version, with the surveys of each seat by seat
abbrev pub content_of : List Block → Content
content_of ks = record {
  version = latest_version;
  rings = map in_order ks;
  rings_said = length ks;
}

-- the whole history of a chain of files
abbrev pub joined : List File → Content
joined fs = content_of (with_files [] fs)
