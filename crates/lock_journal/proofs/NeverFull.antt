-- No ask is refused since a segment is full, while no lock is short.
use Rattle.std.proofs.Common.{◌≡◌, ◌+◌, false, length, Option, Some, sym, ◌∙◌, ap, subst, inl, inr, arith, ◌<◌, ◌≤◌}
use Rattle.std.proofs.lemmas.Bool.{ltb-false}
use Rattle.ring_model.specs.Limits.{machine_limit, event_limit}
use Rattle.held_locks.specs.Locks.{Ask, Acquire, Try, Release, Cancel, Corrupt, Stats, Leave}
use Rattle.held_locks.specs.Kept.{LockView, IsKeptLock, need}
use Rattle.lock_journal.proofs.Lacks.{done_not}
use Rattle.lock_journal.proofs.Short.{none_at}
use Rattle.lock_journal.specs.Asking.{is_lack}
use Rattle.lock_journal.specs.Due.{is_short, is_short_at, NoAskIsRefusedFull}
use Rattle.held_locks.specs.declared.answers.Answer.TheVariants as answer
use Rattle.held_locks.specs.declared.answers.Refusal.TheVariants as refusal

module _ (v : LockView) (kept : IsKeptLock v) (room : is_short v ≡ false) where
  within : (ask : Ask) → event_limit < length v.ring.ring.book.history + need v ask → ⊥
  within ask l = over (most ask)
    where
      size : length v.ring.ring.book.now.ring.values ≤ machine_limit
      size = kept.ring.endless.ring.book.now_ring.most_machines

      two : 2 ≤ length v.ring.ring.book.now.ring.values
      two = kept.ring.endless.ring.book.now_ring.ring.two

      most : (a : Ask) → need v a ≤ length v.queue + (machine_limit + 1)
      most (Corrupt machine value) = let s = size in let t = two in omega (arith, s, t)
      most (Acquire order) = omega arith
      most (Try order) = omega arith
      most (Release token) = omega arith
      most Cancel = omega arith
      most Leave = omega arith
      most Stats = omega arith

      over : need v ask ≤ length v.queue + (machine_limit + 1) → ⊥
      over m = let few = ltb-false event_limit (length v.ring.ring.book.history + (length v.queue + (machine_limit + 1))) room in omega (arith, l, m, few)

other_why : Some (answer.Refused refusal.Memory) ≡ Some (answer.Refused refusal.Full) → ⊥
other_why e = cc

pub never_full : NoAskIsRefusedFull
never_full old new c i ask r kept none (inl d) = λ e. done_not old new c i ask r d (ap is_lack e)
never_full old new c i ask r kept none (inr w) = λ e. elim w.why [
  | inl f ↦
      let v = f.1.0 in
      within v (kept i v f.1.1) (subst (λ (x : Option LockView). is_short_at x ≡ false) f.1.1 (none_at old i none)) ask f.1.2
  | inr m ↦ other_why (sym m ∙ e)
]
