use Rattle.std.proofs.Common.{◌≡◌, List, sym, subst, length, ◌<◌, arith}
use Rattle.std.specs.Prelude.{OnOk, OnErr, Result, Ok, Err}
use Rattle.std.proofs.lemmas.List.{length-map}
use Rattle.held_locks.specs.declared.answers.Refusal.{Refusal}
use Rattle.held_locks.specs.declared.parts.LockParts.{LockParts}
use Rattle.held_locks.specs.Kept.{LockView, AreKept, lock_limit}
use Rattle.held_locks.specs.Parts.{view_of, views_of}
use Rattle.held_locks.proofs.Adding.{kept_push}
use Rattle.held_locks.proofs.locks.Locks.add.Goals as goal

either : {P A B C : Type 0} (r : Result (Unit {0}) Refusal) → OnOk r A → OnOk r B → OnErr r C → (A → B → P) → (C → P) → P
either (Ok x) a b e f g = f a b
either (Err x) a b e f g = g e

few_views : (ps : List LockParts) → length ps < lock_limit → length (views_of ps) < lock_limit
few_views ps l = subst (λ n. n < lock_limit) (sym (length-map ps view_of)) l

pub add_to-requires-clause-room : goal.add_to-requires-clause-room
add_to-requires-clause-room c =
    let size : length (views_of c.self.inside.locks.items) ≡ length c.self.inside.locks.items = length-map c.self.inside.locks.items view_of in
    let room = c.self.invariant.room in
    omega (arith, size, room)

pub invariant_of-self : goal.invariant_of-self
invariant_of-self c =
    let size : length (views_of c.add_to.new.locks.items) ≡ length c.add_to.new.locks.items = length-map c.add_to.new.locks.items view_of in
    let room = c.add_to.ensures.room in record {
      kept = either {P = AreKept (views_of c.add_to.new.locks.items) c.self.inside.waits} c.add_to.result c.add_to.ensures.ok c.add_to.ensures.few c.add_to.ensures.err
          (λ e few. subst (λ (x : List LockView). AreKept x c.self.inside.waits) (sym e)
          (kept_push (views_of c.self.inside.locks.items) c.self.inside.waits c.settle.new.ring c.zeroth.result c.self.invariant.kept (few_views c.self.inside.locks.items few) c.in-Ok.ensures.kept c.in-Ok.ensures.settled))
          (λ e. subst (λ (x : List LockParts). AreKept (views_of x) c.self.inside.waits) (sym e) c.self.invariant.kept);
      holders = c.add_to.ensures.holders;
      room = omega (arith, size, room);
    }
