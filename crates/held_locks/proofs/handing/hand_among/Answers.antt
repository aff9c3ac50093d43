use Rattle.std.proofs.Common.{◌≡◌, ◌<◌, length, refl, sym, ◌∙◌, arith, subst}
use Rattle.std.proofs.lemmas.List.{map-set}
use Rattle.held_locks.specs.declared.parts.LockParts.{LockParts}
use Rattle.held_locks.specs.Parts.{view_of}
use Rattle.held_locks.specs.Handed.{IsOpen}
use Rattle.held_locks.proofs.Lifting.{part_at, view_there}
use Rattle.held_locks.proofs.HandedOver.{some_is}
use Rattle.held_locks.proofs.handing.hand_among.Goals as goal

pub returns-clause-yes : goal.returns-clause-yes
returns-clause-yes c = λ _.
    let below : c.args.handover.lock < length c.args.locks.now.items = let n = c.len.ensures in let k = c.args.locks.now.ok.0 in let f = c.if-place-len.false in omega arith in
    let at = part_at c.args.locks.now.items c.args.handover.lock c.index_mut.result.now below c.index_mut.ensures.value in
    let seen = part_at c.args.locks.now.items c.args.handover.lock c.index.result.now below c.index.ensures in
    let same : c.index.result.now ≡ c.index_mut.result.now = some_is c.index.result.now c.index_mut.result.now (sym seen ∙ at) in
    record {
      lock = view_of c.index_mut.result.now;
      there = view_there c.args.locks.now.items c.args.handover.lock c.index_mut.result.now at;
      held = subst (λ (p : LockParts). IsOpen (view_of p) c.args.handover.token) same (c.if-not-is_open.ensures.yes refl);
      new_is = map-set view_of c.args.locks.now.items c.args.handover.lock _;
    }
