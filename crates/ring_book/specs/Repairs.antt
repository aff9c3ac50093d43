-- How a ring is brought to exactly one privileged machine.
use Rattle.std.specs.Prelude.{◌≡◌, ◌++◌, ◌∷◌, ℕ, List, [], true, false}
use Rattle.ring_model.specs.Ring.{first_privileged, is_settled}
use Rattle.ring_model.specs.History.{Works, State, Step, next, after}
use Rattle.ring_model.specs.Surveys.{is_granted}
use Rattle.ring_model.specs.declared.events.Event.{Event}
use Rattle.ring_model.specs.declared.events.Op.TheVariants.{Pass}
use Rattle.ring_book.specs.BookView.{BookView}

-- each event is a granted pass of the seat, with order 0, by the first privileged machine of a ring
-- that is not settled
abbrev pub AreRepairs : {C : Type 0} → Works C → State C → ℕ → List Event → Type 0
AreRepairs w a seat [] = Unit {0}
AreRepairs w a seat (e ∷ es) =
    (is_settled a.ring.values ≡ false)
    × (e.seat ≡ seat)
    × (e.op ≡ Pass (first_privileged a.ring.values) 0)
    × (is_granted e.reply ≡ true)
    × Step w a e (next w a e.op)
    × AreRepairs w (next w a e.op) seat es

-- the book has made these repairs, and nothing else
pub record IsRepairedBy {C : Type 0} (w : Works C) (old new : BookView C) (seat : ℕ)
    (passes : List Event) : Type 0 where
  pub repairs : AreRepairs w old.now seat passes
  pub grown : new.history ≡ old.history ++ passes
  pub now : new.now ≡ after w old.now passes
  pub same_start : new.start ≡ old.start
