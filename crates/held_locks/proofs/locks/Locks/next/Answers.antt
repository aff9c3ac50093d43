use Rattle.std.proofs.Common.{◌≡◌, ℕ, Option, List, length, sym, ◌∙◌, ap, subst, arith}
use Rattle.std.proofs.lemmas.List.{length-map}
use Rattle.std.specs.Prelude.{slice_get}
use Rattle.held_locks.specs.declared.parts.LockParts.{LockParts}
use Rattle.held_locks.specs.Cuts.{AreNext}
use Rattle.held_locks.specs.Kept.{locks_of}
use Rattle.held_locks.specs.Holding.{AreHolders}
use Rattle.held_locks.specs.Parts.{view_of, views_of}
use Rattle.held_locks.proofs.Lifting.{lock_kept}
use Rattle.held_locks.proofs.Listing.{holders_same, same_many}
use Rattle.held_locks.proofs.NextSegments.{next_all, next_same, lock_right}
use Rattle.held_locks.proofs.locks.Locks.next.Goals as goal

pub next_locks-requires : goal.next_locks-requires
next_locks-requires c = λ i p e.
    let at = ap (λ (x : List LockParts). slice_get x i) (sym c.as_slice.ensures.value) ∙ e in
    (lock_kept c.self.inside.locks.items c.self.inside.waits i p c.self.invariant.kept at, lock_right c.self.inside.locks.items c.self.inside.waits i p c.self.invariant.kept at)

pub invariant_of-result : goal.invariant_of-result
invariant_of-result c =
    let next : AreNext (views_of c.self.inside.locks.items) (views_of c.in-Ok.locks.items) = subst (λ (x : List LockParts). AreNext (views_of x) (views_of c.in-Ok.locks.items)) c.as_slice.ensures.value c.in-Ok.ensures.ok in
    let same : locks_of (views_of c.in-Ok.locks.items) ≡ locks_of (views_of c.self.inside.locks.items) = next_same (views_of c.self.inside.locks.items) (views_of c.in-Ok.locks.items) next in
    let many : length (views_of c.in-Ok.locks.items) ≡ length (views_of c.self.inside.locks.items) = same_many (views_of c.self.inside.locks.items) (views_of c.in-Ok.locks.items) same in
    let size : length (views_of c.self.inside.locks.items) ≡ length c.self.inside.locks.items = length-map c.self.inside.locks.items view_of in
    let len = c.len.ensures in
    let there = c.self.inside.locks.ok.0 in
    let room = c.in-Ok-with_capacity.ensures.exact in record {
      kept = next_all (views_of c.self.inside.locks.items) (views_of c.in-Ok.locks.items) c.self.inside.waits c.in-Ok-copy.waits c.self.invariant.kept next c.in-Ok-copy.ensures;
      holders = subst (λ (x : List (Option ℕ)). AreHolders (views_of c.in-Ok.locks.items) x) (sym c.in-Ok-copy-2.ensures) (holders_same (views_of c.self.inside.locks.items) (views_of c.in-Ok.locks.items) c.self.inside.holds c.self.invariant.holders same);
      room = omega arith;
    }
