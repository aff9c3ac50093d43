-- Which events a book can have: those that its own calls give.
use Rattle.std.specs.Prelude.{◌≡◌, ℕ, ◌+◌, ◌<◌, ◌≤◌, ◌↔◌, List, ◌∷◌, [], ◌++◌, All, length, map, take, drop}
use Rattle.ring_model.specs.Ring.{Ring}
use Rattle.ring_model.specs.History.{Works, State, Step, next, IsLegal}
use Rattle.ring_model.specs.Groups.{IsWhole, IsHistory}
use Rattle.ring_model.specs.Replay.{machine_of}
use Rattle.ring_model.specs.Limits.{seat_limit}
use Rattle.ring_model.specs.declared.events.Event.{Event}
use Rattle.ring_book.specs.TallyView.{TallyView}
use Rattle.ring_book.specs.BookView.{BookView, IsOpenKept}

-- each event is a call of a seat, and what the ring, the resource and the grants before it give
abbrev pub AreGiven : {C : Type 0} → Works C → State C → List Event → Type 0
AreGiven w a h = All (λ (e : Event). e.seat < seat_limit) h × IsLegal w a h

-- so it is, and the events end inside no group
abbrev pub IsBookHistory : {C : Type 0} → Works C → State C → List Event → Type 0
IsBookHistory w a h = All (λ (e : Event). e.seat < seat_limit) h × IsHistory w a h

-- the event at this place is the first that is not given so
pub record IsFirstWrong {C : Type 0} (w : Works C) (a : State C) (h : List Event) (place : ℕ) :
    Type 0 where
  pub within : place < length h
  pub before : AreGiven w a (take place h)
  pub wrong : AreGiven w a (take (place + 1) h) → ⊥

-- one event that is given in the state of a book
abbrev pub IsGiven : {C : Type 0} → Works C → State C → Event → Type 0
IsGiven w a e = (e.seat < seat_limit) × Step w a e (next w a e.op)

-- the book has grown by this event
pub record HasFollowed {C : Type 0} (w : Works C) (first : C) (old new : BookView C) (t : TallyView)
    (e : Event) : Type 0 where
  pub kept : IsOpenKept w first new t
  pub grown : new.history ≡ old.history ++ e ∷ []
  pub room : new.room + 1 ≡ old.room
  pub same_start : new.start ≡ old.start

-- the book has these events, and starts so
pub record HasReplayed {C : Type 0} (w : Works C) (first : C) (start : Ring) (h : List Event)
    (b : BookView C) (t : TallyView) : Type 0 where
  pub kept : IsOpenKept w first b t
  pub begins : b.start ≡ start
  pub history : b.history ≡ h
  pub seats : All (λ (e : Event). e.seat < seat_limit) h

-- the machines that the events name
abbrev pub machines_of : List Event → List ℕ
machines_of h = map (λ (e : Event). machine_of e.op) h

-- how many of the events, at least one, make the first piece of a whole history
pub record IsFirstPiece (n : ℕ) (h : List Event) (count : ℕ) : Type 0 where
  pub some : 1 ≤ count
  pub within : count ≤ length h
  pub whole : IsWhole n h ↔ IsWhole n (drop count h)
