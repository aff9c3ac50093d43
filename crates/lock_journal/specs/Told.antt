-- What clients were answered about locks, in the rings that a journal records (this project's own).
use Rattle.std.specs.Prelude.{ℕ, List, None, Some, ◌≡◌, slice_get, [], ◌∷◌, ◌⊎◌, ◌++◌}
use Rattle.std.specs.List.{flat_map, AllByRecursion}
use Rattle.ring_model.specs.LockSeats.{grant_seat, release_seat}
use Rattle.ring_model.specs.declared.events.Event.{Event}
use Rattle.ring_model.specs.Bases.{shifted_reply}
use Rattle.ring_service.specs.Standings.{Standing, survey_now, with_survey}
use Rattle.ring_service.specs.Recovered.{HasGrown, HaveGrown}
use Rattle.held_locks.specs.declared.answers.Answer.{Answer}
use Rattle.held_locks.specs.Promises.{number_of}
use Rattle.held_locks.specs.Kept.{LockView}
use Rattle.lock_protocol.specs.declared.answers.Denial.{Denial}
use Rattle.lock_protocol.specs.Names.{Names, name_of, lock_named}
use Rattle.lock_protocol.specs.Answers.{answer_line, denial_line}
use Rattle.lock_journal.specs.declared.terms.Terms.{Terms}
use Rattle.lock_journal.specs.Answering.{IsLineAnswered}
use Rattle.lock_journal.specs.Counting.{SegmentView}
use Rattle.held_locks.specs.declared.answers.Answer.TheVariants as answer
use Rattle.held_locks.specs.declared.answers.Refusal.TheVariants as refusal

-- ---- the rings that a journal records

-- a ring as the journal records it, where surveys that end holds are in the logs, is that of this
-- lock
pub record IsOf (r : Standing) (v : LockView) : Type 0 where
  pub base : r.base ≡ v.ring.base
  pub start : r.start ≡ v.ring.ring.book.start
  pub history : r.history ≡ v.ring.ring.book.history

-- each is
abbrev pub AreOf : List Standing → List LockView → Type 0
AreOf rs vs =
    (i : ℕ) (v : LockView) → slice_get vs i ≡ Some v
    → (r : Standing) × (slice_get rs i ≡ Some r) × IsOf r v

-- ---- what the answers to a line report

-- A grant, from the ring before to the ring after it: the next event is a pass on the seat of
-- grants, and its number, with those before the segment, is the token.
pub record IsGrantIn (was is : Standing) (token : ℕ) : Type 0 where
  pub pass : Event
  pub next : is.history ≡ was.history ++ pass ∷ []
  pub seat : pass.seat ≡ grant_seat
  pub number : number_of (shifted_reply was.base pass.reply) ≡ Some token

-- the same among all rings, of this lock
pub record HasGrant (was is : List Standing) (lock token : ℕ) : Type 0 where
  pub old : Standing
  pub new : Standing
  pub there : slice_get was lock ≡ Some old
  pub here : slice_get is lock ≡ Some new
  pub grant : IsGrantIn old new token

-- a release of a lock: a survey of the ring's end comes next in the log of the seat of releases
pub record HasRelease (was is : List Standing) (lock : ℕ) : Type 0 where
  pub old : Standing
  pub new : Standing
  pub there : slice_get was lock ≡ Some old
  pub here : slice_get is lock ≡ Some new
  pub release : HasGrown (with_survey old release_seat (survey_now old)) new

-- what an answer reports is in the rings; others than these two report no hold
abbrev pub IsToldIn : List Standing → List Standing → ℕ → Answer → Type 0
IsToldIn was is lock (answer.Granted token) = HasGrant was is lock token
IsToldIn was is lock answer.Released = HasRelease was is lock
IsToldIn was is lock _ = Unit {0}

-- an answer about a lock, to a client; and the lines of answers, where locks have these names
pub record Telling : Type 0 where
  pub client : ℕ
  pub lock : ℕ
  pub said : Answer

abbrev pub text_of : Names → List Telling → List ℕ
text_of names ts =
    flat_map (λ (t : Telling). answer_line t.client (name_of names t.lock) t.said) ts

-- it is said that no lock has a name
abbrev pub IsUnknown : Names → List ℕ → Type 0
IsUnknown names said =
    (client : ℕ)
    × (name : List ℕ)
    × (lock_named names name ≡ None)
    × (said ≡ answer_line client name (answer.Refused refusal.Lock))

-- the text of a line is of these answers; or no lock is asked, and the line is denied, of a name
-- that no lock has, or nobody's
abbrev pub IsText : Names → List ℕ → List Telling → Type 0
IsText names said ts =
    (said ≡ text_of names ts)
    ⊎ ((ts ≡ [])
    × (((client : ℕ) × (why : Denial) × (said ≡ denial_line client why)) ⊎ IsUnknown names said))

-- From these locks and rings to those after it the line was answered with this text, and what that
-- reports is in the rings.
pub record IsLineIn (terms : Terms) (old : SegmentView) (was : List Standing) (line said : List ℕ)
    (new : SegmentView) (is : List Standing) : Type 0 where
  pub note : List ℕ
  pub answered : IsLineAnswered terms old line said note new
  pub tellings : List Telling
  pub text : IsText old.names said tellings
  pub each : AllByRecursion (λ (t : Telling). IsToldIn was is t.lock t.said) tellings
  pub grown : HaveGrown was is
  pub of_locks : AreOf is new.locks

-- so it is with each of these lines
abbrev pub AreLinesIn : Terms → SegmentView → List Standing → List (List ℕ) → List ℕ → SegmentView
    → List Standing → Type 0
AreLinesIn terms old was [] said new is = (said ≡ []) × (new ≡ old) × (is ≡ was)
AreLinesIn terms old was (line ∷ lines) said new is =
    (mid : SegmentView)
    × (between : List Standing)
    × (first : List ℕ)
    × (later : List ℕ)
    × IsLineIn terms old was line first mid between
    × (said ≡ first ++ later)
    × AreLinesIn terms mid between lines later new is
