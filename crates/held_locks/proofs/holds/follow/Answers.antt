use Rattle.std.proofs.Common.{sym, ap, ◌∙◌, subst, List, Option, ℕ}
use Rattle.std.specs.Prelude.{slice_set}
use Rattle.held_locks.specs.declared.parts.LockParts.{LockParts}
use Rattle.held_locks.specs.Queues.{client_of}
use Rattle.held_locks.specs.Parts.{views_of}
use Rattle.held_locks.specs.Holding.{AreHolders}
use Rattle.held_locks.proofs.Lifting.{part_at}
use Rattle.held_locks.proofs.Listing.{follow_put, follow_past}
use Rattle.held_locks.proofs.holds.follow.Goals as goal

pub returns-then-place-locks : goal.returns-then-place-locks
returns-then-place-locks c = λ vs s h. follow_past vs c.args.locks.now c.args.holds.now c.args.lock c.if-place-locks.true s h

pub returns : goal.returns
returns c = λ vs s h.
    subst (λ (x : List (Option ℕ)). AreHolders (views_of c.args.locks.now) x) (sym (c.put.ensures ∙ ap (λ (x : Option ℕ). slice_set c.args.holds.now c.args.lock x) (c.client_of.ensures ∙ ap (λ (p : LockParts). client_of p.holder) (sym c.index-locks-place.is))))
    (follow_put vs c.args.locks.now c.args.holds.now c.args.lock c.index-locks-place.result s h (part_at c.args.locks.now c.args.lock c.index-locks-place.result c.if-place-locks.false c.index-locks-place.is))
