-- The log of a client after its turn (this project's own).
use Rattle.std.specs.Prelude.{◌≡◌, ◌≢◌, ◌⊎◌, ℕ, ◌+◌, ◌≤◌, true, List, [], ◌∷◌, ◌++◌, All, length, Some, slice_get}
use Rattle.ring_model.specs.History.{Works, State}
use Rattle.ring_model.specs.Groups.{IsHistory}
use Rattle.ring_model.specs.Surveys.{is_granted, survey_at}
use Rattle.ring_model.specs.declared.events.Entry.{Entry}
use Rattle.ring_model.specs.declared.events.Entry.TheVariants as entry
use Rattle.ring_model.specs.declared.events.Op.TheVariants.{Pass}
use Rattle.ring_model.specs.declared.events.Receipt.{Receipt}
use Rattle.ring_model.specs.declared.events.Survey.{Survey}
use Rattle.ring_shared.specs.Client.{Client}
use Rattle.ring_turns.specs.Looking.{IsGrantedPass}
use Rattle.ring_turns.specs.Spared.{on_order}
use Rattle.ring_turns.specs.Waiting.{HasWaited}
use Rattle.ring_turns.specs.declared.turns.Turn.{Turn}

-- the entry is the receipt of a granted pass that client i made to pass on another machine than its
-- own
abbrev pub IsPassedOn : ℕ → Entry → Type 0
IsPassedOn i (entry.Survey s) = ⊥
IsPassedOn i (entry.Receipt r) =
    (m : ℕ)
    × (m ≢ i)
    × (r.event.seat ≡ i)
    × (r.event.op ≡ Pass m on_order)
    × (is_granted r.event.reply ≡ true)

-- all the other entries of a client's log are receipts of machines that it passed on
abbrev pub HasPassedOn : ℕ → List Entry → List Entry → Type 0
HasPassedOn i before after =
    (passed : List Entry) × (after ≡ before ++ passed) × All (IsPassedOn i) passed

-- A client that asked at this place had its turn: it passed on machines of others, and then its own
-- machine was granted its pass.
pub record IsTaken {C : Type 0} (w : Works C) (a : State C) (before after : Client) (at order : ℕ)
    (r : Receipt) : Type 0 where
  pub then : Client
  pub number : then.number ≡ before.number
  pub passed_on : HasPassedOn before.number before.log then.log
  pub own : IsGrantedPass w a then after before.number order r
  pub waited : HasWaited w a after.seen before.number at r.position

-- A client had a turn: it asked at a place no earlier than the end of the events that it had seen,
-- and its log has its survey of that place; then it passed on machines of others, and last its own
-- machine was granted its pass.
pub record IsTurn {C : Type 0} (w : Works C) (a : State C) (before after : Client) (order : ℕ)
    (t : Turn) : Type 0 where
  pub later : length before.seen ≤ t.asked_at
  pub passed : List Entry
  pub logged : after.log
      ≡ before.log
      ++ (entry.Survey (survey_at w a after.seen t.asked_at)
      ∷ (passed ++ entry.Receipt t.receipt ∷ []))
  pub others : All (IsPassedOn before.number) passed
  pub of_seat : t.receipt.event.seat ≡ before.number
  pub of_call : t.receipt.event.op ≡ Pass before.number order
  pub granted : is_granted t.receipt.event.reply ≡ true
  pub last : length after.seen ≡ t.receipt.position + 1
  pub event : slice_get after.seen t.receipt.position ≡ Some t.receipt.event
  pub legal_and_whole : IsHistory w a after.seen

-- A client had no turn: its log is as it was, or has the survey by which it asked and machines that
-- it passed on.
abbrev pub HasNoTurn : Client → Client → Type 0
HasNoTurn before after =
    (after.log ≡ before.log)
    ⊎ ((s : Survey) × HasPassedOn before.number (before.log ++ entry.Survey s ∷ []) after.log)
