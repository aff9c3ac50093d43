-- The consequences of the headline of a farm, for each of its rings: the laws of settlement and of
-- progress, and how logs and history agree.
use Rattle.std.specs.Prelude.{◌≡◌, ℕ, ◌≤◌, All, length, take, Some, slice_get}
use Rattle.ring_model.specs.Ring.{privileged_count, bound}
use Rattle.ring_model.specs.Runs.{GoesRound}
use Rattle.ring_model.specs.History.{opening}
use Rattle.ring_model.specs.Groups.{IsAlone, IsWhole}
use Rattle.ring_model.specs.HistoryLaws.{between, NoCorruption, values_at, Settlement}
use Rattle.ring_model.specs.Progress.{Progress}
use Rattle.ring_model.specs.Surveys.{calm}
use Rattle.ring_model.specs.Grants.{granted_machines}
use Rattle.ring_model.specs.Logs.{calls_of, receipts_of}
use Rattle.ring_model.specs.Resources.{till}
use Rattle.ring_model.specs.declared.events.Event.{Event}
use Rattle.ring_settings.specs.Contents.{SettingsData, RingData, IsRingSetting}
use Rattle.ring_logs.specs.declared.logs.Log.{Log}
use Rattle.ring_farm.specs.declared.outcomes.Outcome.{Outcome}
use Rattle.ring_logs.specs.declared.outcomes.RingOutcome.{RingOutcome}
use Rattle.ring_farm.specs.Headline.{EachRing, IsFarmRing, IsFarmOf}
use Rattle.ring_farm.specs.Runs.{ring_of_data}

-- there is a start value for each machine, so n is that of the settings
abbrev pub IsOfSize : RingData → Type 0
IsOfSize d = length d.start ≡ d.size.n

-- plans have no groups, so no event is a member's
abbrev pub HasNoMembers : RingOutcome → Type 0
HasNoMembers r = All (λ (e : Event). IsAlone e.op) r.book.history

-- and the history is whole
abbrev pub IsWholeOne : RingData → RingOutcome → Type 0
IsWholeOne d r = IsWhole (length d.start) r.book.history

-- wherever as many granted passes as the bound have followed the last corruption, exactly one
-- machine is privileged
abbrev pub IsRepaired : RingData → RingOutcome → Type 0
IsRepaired d r =
    (q : ℕ) → q ≤ length r.book.history → bound (length d.start) ≤ calm (take q r.book.history)
    → privileged_count (values_at till (opening (ring_of_data d) 0) r.book.history q) ≡ 1

-- and from there until the next corruption grants go round the ring
abbrev pub TakesTurns : RingData → RingOutcome → Type 0
TakesTurns d r =
    (p q : ℕ) → p ≤ q → q ≤ length r.book.history → NoCorruption r.book.history p q
    → bound (length d.start) ≤ calm (take p r.book.history)
    → GoesRound (length d.start) (granted_machines (between r.book.history p q))

-- the laws of settlement, from every place of the ring's history: the rest falls, one machine is
-- privileged once the grants since the place reach the rest there, a settled ring stays settled and
-- grants go round it, and they are fair
abbrev pub IsSettling : RingData → RingOutcome → Type 0
IsSettling d r = Settlement till (opening (ring_of_data d) 0) r.book.history

-- the laws of progress, between any two places: each complete round has a granted pass or a
-- corruption, each n of them grant every machine a pass, and nobody is overtaken more often than it
-- is away
abbrev pub IsProgressing : RingData → RingOutcome → Type 0
IsProgressing d r = Progress till (opening (ring_of_data d) 0) r.book.history

-- each seat's calls in the history are as many as its log has receipts
abbrev pub HasReceipts : RingOutcome → Type 0
HasReceipts r =
    (seat : ℕ) (l : Log) → slice_get r.logs.items seat ≡ Some l
    → length (calls_of seat r.book.history) ≡ length (receipts_of l.entries.items)

-- all that follows of one ring
pub record IsLawfulRing (d : RingData) (r : RingOutcome) : Type 0 where
  pub size : IsOfSize d
  pub alone : HasNoMembers r
  pub whole : IsWholeOne d r
  pub repaired : IsRepaired d r
  pub turns : TakesTurns d r
  pub settlement : IsSettling d r
  pub progress : IsProgressing d r
  pub receipts : HasReceipts r

-- it follows of each ring of the settings
abbrev pub IsLawfulAt : ℕ → RingData → RingOutcome → Type 0
IsLawfulAt ring d r = IsLawfulRing d r

-- and of all of them
abbrev pub IsLawfulFarm : SettingsData → Outcome → Type 0
IsLawfulFarm settings o = EachRing IsLawfulAt settings o

-- the consequences follow from the promise on a ring of allowed settings, and so of a farm
abbrev pub RingsAreLawful : Type 0
RingsAreLawful =
    (settings : SettingsData) (ring : ℕ) (d : RingData) (r : RingOutcome) → IsRingSetting d
    → IsFarmRing settings ring d r → IsLawfulRing d r

abbrev pub FarmsAreLawful : Type 0
FarmsAreLawful =
    (settings : SettingsData) (o : Outcome) → IsFarmOf settings o → IsLawfulFarm settings o
