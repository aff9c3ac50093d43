-- A saved ring that is resumed (this project's own).
use Rattle.std.specs.Prelude.{◌≡◌, ℕ, ◌+◌, ◌<◌, ◌≤◌, List, All, length, take, drop, slice_index_or}
use Rattle.ring_model.specs.Limits.{event_limit}
use Rattle.saved_history.specs.declared.saved.SavedSurvey.{SavedSurvey}
use Rattle.saved_history.specs.Content.{Block}
use Rattle.ring_check.specs.Legal.{history}
use Rattle.ring_check.specs.Meaning.{IsRightBlock, AreOnward}
use Rattle.ring_logs.specs.Seats.{AreOfSeats}
use Rattle.one_thread_ring.specs.Clients.{ClientView, StandInOrder}
use Rattle.one_thread_ring.specs.Rings.{IsSeatCount}
use Rattle.one_thread_ring.specs.Texts.{client_surveys}
use Rattle.one_thread_ring.specs.declared.errors.CallError.TheVariants as call
use Rattle.one_thread_ring.specs.declared.errors.OpenError.TheVariants as opens
use Rattle.one_thread_ring.specs.declared.resuming.ResumeError.{ResumeError}
use Rattle.one_thread_ring.specs.declared.resuming.ResumeError.TheVariants as resume

-- A ring of n seats can resume this block: it is right at some place of a text, each call
-- and each survey is by one of the seats, and a history may have this many events.
pub record CanGoOnWith (seats : ℕ) (b : Block) : Type 0 where
  pub version : ℕ
  pub place : ℕ
  pub right : IsRightBlock version place b
  pub count : IsSeatCount seats
  pub callers : AreOfSeats seats (history b)
  pub surveyors : All (λ (s : SavedSurvey). s.seat < seats) b.surveys
  pub few : length (history b) ≤ event_limit

-- this many clients, each with its place as its number and with surveys in their order
pub record AreSeated (count : ℕ) (cs : List ClientView) : Type 0 where
  pub many : length cs ≡ count
  pub numbers : (i : ℕ) (c : ClientView) → i < length cs → (slice_index_or cs i c).number ≡ i
  pub in_order : All (λ (c : ClientView). (end : ℕ) × StandInOrder 0 end c.surveys) cs

-- the client of this number has the first of these surveys, and the next is not its own
pub record IsToldFirst (number : ℕ) (ss : List SavedSurvey) (c : ClientView) : Type 0 where
  pub is : c.number ≡ number
  pub few : length c.surveys ≤ length ss
  pub first : client_surveys c ≡ take (length c.surveys) ss
  pub in_order : (end : ℕ) × StandInOrder 0 end c.surveys
  pub onward : AreOnward number 0 ss → AreOnward (number + 1) 0 (drop (length c.surveys) ss)

-- out of memory, whoever asked for it
abbrev pub IsOutOfMemory : ResumeError → Type 0
IsOutOfMemory resume.OutOfMemory = Unit {0}
IsOutOfMemory (resume.Open opens.OutOfMemory) = Unit {0}
IsOutOfMemory (resume.Call call.OutOfMemory) = Unit {0}
IsOutOfMemory _ = ⊥
