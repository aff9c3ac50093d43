use Rattle.std.proofs.Common.{List, sym, ap, subst, inl, inr, arith}
use Rattle.std.proofs.lemmas.Bool.{cases_Bool}
use Rattle.held_locks.specs.declared.parts.LockParts.{LockParts}
use Rattle.held_locks.specs.Kept.{AreKept}
use Rattle.held_locks.specs.Holding.{IsSameBut}
use Rattle.held_locks.specs.Parts.{views_of}
use Rattle.held_locks.proofs.HandedOver.{kept_handed}
use Rattle.held_locks.proofs.Listing.{nothing_same, handed_same}
use Rattle.held_locks.proofs.locks.Locks.hand.Goals as goal

pub invariant_of-self : goal.invariant_of-self
invariant_of-self c =
    let old = c.self.inside.locks.items in
    let new = c.hand_and_follow.new.locks.items in
    let same : IsSameBut c.args.handover.lock (views_of old) (views_of new) = elim (cases_Bool c.hand_and_follow.result) [
      | inl done ↦ handed_same (views_of old) (views_of new) c.args.handover (c.hand_and_follow.ensures.yes done)
      | inr not_done ↦ nothing_same (views_of old) (views_of new) c.args.handover.lock (ap (λ (x : List LockParts). views_of x) (c.hand_and_follow.ensures.no not_done).1)
    ] in
    let many = same.many in
    let room = c.self.invariant.room in record {
      kept = elim (cases_Bool c.hand_and_follow.result) [
        | inl done ↦ kept_handed (views_of old) (views_of new) c.self.inside.waits c.args.handover c.self.invariant.kept (c.hand_and_follow.ensures.yes done)
        | inr not_done ↦ subst (λ (x : List LockParts). AreKept (views_of x) c.self.inside.waits) (sym (c.hand_and_follow.ensures.no not_done).1) c.self.invariant.kept
      ];
      holders = c.hand_and_follow.ensures.holders;
      room = omega (arith, many, room);
    }
