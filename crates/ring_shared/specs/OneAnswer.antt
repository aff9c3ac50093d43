-- A ring's call and a ring's group call have one answer.
use Rattle.std.specs.Prelude.{◌≡◌, ℕ, List, take}
use Rattle.ring_model.specs.Ring.{Ring}
use Rattle.ring_model.specs.History.{Works, State}
use Rattle.ring_model.specs.Groups.{IsHistory}
use Rattle.ring_model.specs.declared.events.Op.{Op}
use Rattle.ring_model.specs.declared.events.Event.{Event}
use Rattle.ring_model.specs.declared.events.Receipt.{Receipt}
use Rattle.ring_book.specs.BookView.{BookView}
use Rattle.ring_book.specs.declared.books.groups.GroupReceipt.{GroupReceipt}
use Rattle.ring_shared.specs.Client.{Client, AreAlike}
use Rattle.ring_shared.specs.Calls.{IsToldCall, IsCallUnderLock}
use Rattle.ring_shared.specs.Groups.{IsGroupLogged, IsGroupUnderLock}

-- The answer of a group's call to its client, as the clauses of `Ring::pass_group` say it.
pub record IsToldGroup {C : Type 0} (w : Works C) (a : State C) (n : ℕ) (before after : Client)
    (order : ℕ) (machines : List ℕ) (r : GroupReceipt) : Type 0 where
  pub told : IsGroupLogged n before after order machines r
  pub legal_and_whole : IsHistory w a after.seen

-- Two outcomes of one call after the same events are the same: the receipt, and the seat then,
-- room aside.
abbrev pub CallsAreToldAlike : Type 0 → Type 0
CallsAreToldAlike C =
    (w : Works C) (a : State C) (before one other : Client) (op : Op) (r s : Receipt)
    → IsToldCall w a before one op r → IsToldCall w a before other op s
    → take r.position one.seen ≡ take s.position other.seen → (r ≡ s) × AreAlike one other

-- Two outcomes of one group's call after the same events are the same.
abbrev pub GroupsAreToldAlike : Type 0 → Type 0
GroupsAreToldAlike C =
    (w : Works C) (a : State C) (n : ℕ) (before one other : Client) (order : ℕ) (machines : List ℕ)
    (r s : GroupReceipt) → IsToldGroup w a n before one order machines r
    → IsToldGroup w a n before other order machines s
    → take r.first one.seen ≡ take s.first other.seen → (r ≡ s) × AreAlike one other

-- two books that hold the same, room aside
pub record HoldTheSame {C : Type 0} (one other : BookView C) : Type 0 where
  pub start : one.start ≡ other.start
  pub now : one.now ≡ other.now
  pub history : one.history ≡ other.history

-- Two outcomes of one call that is made under the lock are the same, whichever histories a name
-- calls legal: the receipt, the book, and the seat then, room aside.
abbrev pub CallsHaveOneOutcome : Type 0 → (List Event → Type 0) → Type 0
CallsHaveOneOutcome C legal =
    (w : Works C) (first : C) (start : Ring) (seats : ℕ) (old one other : BookView C)
    (before after then : Client) (op : Op) (r s : Receipt)
    → IsCallUnderLock w first start seats legal old one before after op r
    → IsCallUnderLock w first start seats legal old other before then op s
    → (r ≡ s) × HoldTheSame one other × AreAlike after then

-- Two outcomes of one group's call under the lock are the same.
abbrev pub GroupsHaveOneOutcome : Type 0 → (List Event → Type 0) → Type 0
GroupsHaveOneOutcome C legal =
    (w : Works C) (first : C) (start : Ring) (seats : ℕ) (old one other : BookView C)
    (before after then : Client) (order : ℕ) (machines : List ℕ) (r s : GroupReceipt)
    → IsGroupUnderLock w first start seats legal old one before after order machines r
    → IsGroupUnderLock w first start seats legal old other before then order machines s
    → (r ≡ s) × HoldTheSame one other × AreAlike after then
