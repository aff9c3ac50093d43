use Rattle.std.proofs.Common.{◌≡◌, Bool, true, false, List, ap, inl, inr}
use Rattle.std.proofs.lemmas.Bool.{cases_Bool}
use Rattle.held_locks.specs.declared.parts.LockParts.{LockParts}
use Rattle.held_locks.specs.declared.handing.Handover.{Handover}
use Rattle.held_locks.specs.Parts.{views_of}
use Rattle.held_locks.specs.Handed.{IsHanded, CannotBeHanded}
use Rattle.held_locks.specs.Holding.{IsSameBut}
use Rattle.held_locks.proofs.Listing.{nothing_same, handed_same, as_many, holders_known}
use Rattle.held_locks.proofs.handing.hand_and_follow.Goals as goal

same : (ps qs : List LockParts) (h : Handover) (b : Bool) → (b ≡ true → IsHanded (views_of ps) (views_of qs) h) → (b ≡ false → CannotBeHanded (views_of ps) h × (qs ≡ ps)) → IsSameBut h.lock (views_of ps) (views_of qs)
same ps qs h b done not_done = elim (cases_Bool b) [
  | inl t ↦ handed_same (views_of ps) (views_of qs) h (done t)
  | inr f ↦ nothing_same (views_of ps) (views_of qs) h.lock (ap (λ (x : List LockParts). views_of x) (not_done f).1)
]

pub follow-requires : goal.follow-requires
follow-requires c =
    let new = c.hand_among-handed.new.locks.items in
    as_many c.args.locks.now.items new c.deref.result.now c.args.holds.now c.args.handover.lock c.deref.ensures.value c.requires
    (same c.args.locks.now.items new c.args.handover c.hand_among-handed.result c.hand_among-handed.ensures.yes c.hand_among-handed.ensures.no)

pub returns-clause-holders : goal.returns-clause-holders
returns-clause-holders c =
    let new = c.hand_among-handed.new.locks.items in
    holders_known c.args.locks.now.items new c.deref.result.now c.args.holds.now c.follow.new.holds c.args.handover.lock c.deref.ensures.value c.requires
    (same c.args.locks.now.items new c.args.handover c.hand_among-handed.result c.hand_among-handed.ensures.yes c.hand_among-handed.ensures.no) c.follow.ensures
