-- Answered calls in the history that is recovered of a journal, wherever serving and the journal
-- ended (this project's own).
use Rattle.std.specs.Prelude.{◌≡◌, ℕ, ◌+◌, true, List, [], ◌∷◌, ◌++◌, length, slice_get, slice_index_or, Option, Some, is_some}
use Rattle.std.specs.List.{AllByRecursion}
use Rattle.std.specs.Io.KnownBytes.{Consumes}
use Rattle.disks.specs.Held.{Held}
use Rattle.ring_model.specs.declared.events.Event.{Event}
use Rattle.ring_model.specs.declared.events.Survey.{Survey}
use Rattle.ring_model.specs.declared.events.Entry.{Entry}
use Rattle.ring_model.specs.Bases.{is_quiet, shifted_reply, shifted_survey}
use Rattle.saved_history.specs.Spelling.{Fits}
use Rattle.journal.specs.Spelling.{journal_head}
use Rattle.journal.specs.Recovery.{IsRecovered}
use Rattle.line_service.specs.Loop.{Written}
use Rattle.ring_service.specs.declared.answers.Answer.{Answer}
use Rattle.ring_service.specs.declared.answers.Answer.TheVariants as answer
use Rattle.ring_service.specs.Permits.{Terms}
use Rattle.ring_service.specs.Standings.{Standing, with_events, with_survey}
use Rattle.ring_service.specs.Saved.{IsRight, content_of}
use Rattle.ring_service.specs.Turns.{RingTrace, events, surveyed, answer_of}
use Rattle.ring_service.specs.Serving.{IsAnswered, Answers, Stops}

abbrev pub IsPrefix : {A : Type 0} → List A → List A → Type 0
IsPrefix {A} front whole = (more : List A) × (whole ≡ front ++ more)

-- ---- rings that have grown

-- the entries in the log of a seat
abbrev pub log_of : Standing → ℕ → List Entry
log_of r seat = (slice_index_or r.clients seat (record { number = seat; log = [] })).log

-- the ring has gone on: its segment is the same, and its events and the entries in each of its logs
-- are the first ones still
pub record HasGrown (old new : Standing) : Type 0 where
  pub base : new.base ≡ old.base
  pub start : new.start ≡ old.start
  pub history : IsPrefix old.history new.history
  pub logs : (seat : ℕ) → IsPrefix (log_of old seat) (log_of new seat)

-- each of the rings has, one by one
abbrev pub HaveGrown : List Standing → List Standing → Type 0
HaveGrown [] new = new ≡ []
HaveGrown (r ∷ rs) [] = ⊥
HaveGrown (r ∷ rs) (s ∷ ss) = HasGrown r s × HaveGrown rs ss

-- ---- the call of a line, in rings

-- the answer to the call that made these events, which came next in the ring: the reply to it,
-- shifted; of a group, the place of its block and how many members that has
abbrev pub IsAnswerTo : Standing → List Event → Answer → Type 0
IsAnswerTo was es (answer.Block first count) =
    (first ≡ was.base.events + length was.history) × (count ≡ length es)
IsAnswerTo was es given =
    (e : Event) × (es ≡ e ∷ []) × (given ≡ answer_of (shifted_reply was.base e.reply))

-- an answer that reports no event
abbrev pub TellsNoEvent : Answer → Type 0
TellsNoEvent (answer.Granted number result) = ⊥
TellsNoEvent (answer.Corrupted old) = ⊥
TellsNoEvent (answer.Block first count) = ⊥
TellsNoEvent _ = Unit {0}

-- The events of an answered call are in the ring of this number: where its history ended when the
-- call came, and with that answer.
pub record HasEvents (old rings : List Standing) (ring : ℕ) (es : List Event) (given : Answer) :
    Type 0 where
  pub was : Standing
  pub is : Standing
  pub there : slice_get old ring ≡ Some was
  pub here : slice_get rings ring ≡ Some is
  pub seat : ℕ
  pub grown : HasGrown (with_events was seat es) is
  pub told : IsAnswerTo was es given

-- The survey of an answered call is in the log of its seat, where that ended when the call came,
-- and shifted it is the answer.
pub record HasSurvey (old rings : List Standing) (ring seat : ℕ) (s : Survey) (given : Answer) :
    Type 0 where
  pub was : Standing
  pub is : Standing
  pub there : slice_get old ring ≡ Some was
  pub here : slice_get rings ring ≡ Some is
  pub grown : HasGrown (with_survey was seat s) is
  pub told : given ≡ answer.Survey (shifted_survey was.base (is_quiet was.history) s)

-- What a call recorded is in these rings, after what the rings had when it came, and the answer is
-- the one to that. If it recorded nothing, the answer reports no event.
abbrev pub IsCallIn : List Standing → List RingTrace → Answer → List Standing → Type 0
IsCallIn old [] given rings = TellsNoEvent given
IsCallIn old (events ring es ∷ []) given rings = HasEvents old rings ring es given
IsCallIn old (surveyed ring seat s ∷ []) given rings = HasSurvey old rings ring seat s given
IsCallIn old (_ ∷ _ ∷ _) given rings = ⊥

-- The lines were answered, one after the other, with this text, and the call of each is in these
-- rings with that answer.
abbrev pub AreCallsIn : Terms → List Standing → Option Held → List (List ℕ) → List ℕ
    → List Standing → Type 0
AreCallsIn terms old was [] said rings = said ≡ []
AreCallsIn terms old was (line ∷ lines) said rings =
    (mid : List Standing)
    × (between : Option Held)
    × (first : List ℕ)
    × (later : List ℕ)
    × (note : List ℕ)
    × (one : IsAnswered terms old was line first note mid between)
    × (said ≡ first ++ later)
    × IsCallIn old one.turn.recorded one.given rings
    × AreCallsIn terms mid between lines later rings

-- ---- what is recovered

-- the rings after some lines
abbrev pub IsReached : Terms → List Standing → Option Held → List (List ℕ) → List Standing → Type 0
IsReached terms old was lines new =
    (said : List ℕ)
    × (noted : List ℕ)
    × (is : Option Held)
    × Answers terms old was lines said noted new is

-- Of these bytes the rings are recovered, as they were after these lines and perhaps some more. The
-- call of each of these lines is in them, with its answer, and the rings have only grown from
-- there.
pub record AreRecovered (terms : Terms) (old : List Standing) (was : Option Held)
    (lines : List (List ℕ)) (said bytes : List ℕ) (new : List Standing) : Type 0 where
  pub rings : List Standing
  pub recovered : IsRecovered bytes (content_of rings)
  pub calls : AreCallsIn terms old was lines said rings
  pub more : List (List ℕ)
  pub reached : IsReached terms old was (lines ++ more) rings
  pub grown : HaveGrown rings new

-- With a journal some lines were delivered, and some more were answered. The journal begins with
-- the rings and continues with the notes of these lines. Of whatever is kept of it, if that has the
-- notes of the delivered lines, rings are recovered that have the call of each delivered line.
abbrev pub AnswersAreRecovered : Type 0
AnswersAreRecovered =
    (terms : Terms) (old mid new : List Standing) (was between is : Option Held)
    (told untold : List (List ℕ)) (said noted unsaid notes kept lost : List ℕ)
    → is_some terms.journal ≡ true → AllByRecursion IsRight old → Fits (content_of old)
    → Answers terms old was told said noted mid between
    → Answers terms mid between untold unsaid notes new is
    → kept ++ lost ≡ journal_head (content_of old) ++ (noted ++ notes)
    → IsPrefix (journal_head (content_of old) ++ noted) kept
    → AreRecovered terms old was told said kept new

-- ---- with the journal of served lines

-- the journal holds the rings as they are, which have a text, and no more
abbrev pub IsJustBegun : Option (List ℕ) → List Standing → Type 0
IsJustBegun journal rings =
    (journal ≡ Some (journal_head (content_of rings))) × Fits (content_of rings)

-- Of whatever is kept of a journal that had just begun, if it has the notes of the delivered lines,
-- rings are recovered that have the call of each delivered line, with its answer.
abbrev pub KeepsAnswers : {terms : Terms} {old new : List Standing} {was is : Option Held}
    {before after : Written} {bytes : List ℕ} → Stops terms old was before after bytes new is
    → Type 0
KeepsAnswers {terms} {old} {new} {was} {is} {before} {after} {bytes} ended =
    IsJustBegun before.journal old → (kept lost : List ℕ) → after.journal ≡ Some (kept ++ lost)
    → IsPrefix (journal_head (content_of old) ++ ended.noted) kept
    → AreRecovered terms old was ended.told.lines ended.said kept new

-- Wherever serving ended: some lines were delivered, the output has a prefix of their answers, and
-- the journal keeps these answers.
pub record AnsweredCallsAreRecovered (terms : Terms) (old new : List Standing)
    (was is : Option Held) (unread rest : Option (List ℕ)) (before after : Written) : Type 0 where
  pub bytes : List ℕ
  pub read : Consumes unread rest bytes
  pub ended : Stops terms old was before after bytes new is
  pub recovered : KeepsAnswers ended
