-- The passes and the grants of a turn.
use Rattle.std.proofs.Common.{◌≡◌, ℕ, true, List, [], ◌∷◌, ◌++◌, refl, sym, subst}
use Rattle.ring_model.specs.Ring.{IsRing}
use Rattle.held_locks.specs.declared.answers.Waiter.{Waiter}
use Rattle.held_locks.specs.declared.answers.Answer.{Answer}
use Rattle.held_locks.specs.Queues.{Lock}
use Rattle.held_locks.specs.Locks.{Ask, Turn, granted, advanced, turn}
use Rattle.held_locks.specs.Promises.{grants_in}
use Rattle.held_locks.proofs.Rings.{grant_grants, fault_is}
use Rattle.held_locks.proofs.Moves.{Move, Stays, Waits, Gets, Ends, Drops, Faults, move_of}
use Rattle.held_locks.proofs.Excluded.{no_grants, ended_grants, drop_grants}
use Rattle.held_locks.proofs.Tokens.{Passes, NoPass, Repaired, OnePass}

next_passes : (l : Lock) (queue : List Waiter) (front : List (ℕ × Answer)) → ((more : List (ℕ × Answer)) → grants_in (front ++ more) ≡ grants_in more) → IsRing l.ring.ring →
    Passes l (advanced l.ring queue).lock true (front ++ (advanced l.ring queue).answers)
next_passes l [] front none g = NoPass (none []) refl
next_passes l (w ∷ queue) front none g = OnePass w.client (none (granted l.ring queue w).answers) (grant_grants l.ring w.label g)

moved_passes : (ls : List Lock) (l : Lock) (c : ℕ) (ask : Ask) (t : Turn) → IsRing l.ring.ring → Move ls l c ask t → Passes l t.lock true t.answers
moved_passes ls l c ask t g (Stays a q leave e) = subst (λ (x : Turn). Passes l x.lock true x.answers) (sym e) (NoPass (no_grants c a q) refl)
moved_passes ls l c ask t g (Waits label k a held other free back e) = subst (λ (x : Turn). Passes l x.lock true x.answers) (sym e) (NoPass refl refl)
moved_passes ls l c ask t g (Gets label asking a e) = subst (λ (x : Turn). Passes l x.lock true x.answers) (sym e) (OnePass c refl (grant_grants l.ring label g))
moved_passes ls l c ask t g (Ends k seat queue answers held own is e) =
    subst (λ (x : Turn). Passes l x.lock true x.answers) (sym e) (next_passes l queue answers (ended_grants l c k ask seat queue answers is) g)
moved_passes ls l c ask t g (Drops answers is e) = subst (λ (x : Turn). Passes l x.lock true x.answers) (sym e) (NoPass (drop_grants c ask answers is) refl)
moved_passes ls l c ask t g (Faults i v a lt lk e) = subst (λ (x : Turn). Passes l x.lock true x.answers) (sym e) (Repaired refl (fault_is l.ring i v g lt lk).grants refl)

pub passes_turn : (ls : List Lock) (l : Lock) (c : ℕ) (ask : Ask) → IsRing l.ring.ring → Passes l (turn ls l c ask).lock true (turn ls l c ask).answers
passes_turn ls l c ask g = moved_passes ls l c ask (turn ls l c ask) g (move_of ls l c ask)
