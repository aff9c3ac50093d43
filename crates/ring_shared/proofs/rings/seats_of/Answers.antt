use Rattle.std.proofs.Common.{◌+◌, List, sym, subst, arith}
use Rattle.ring_shared.specs.Client.{Client}
use Rattle.ring_shared.specs.Opening.{AreFresh}
use Rattle.ring_shared.proofs.Numbers.{fresh_more}
use Rattle.ring_shared.proofs.rings.seats_of.Goals as goal

pub loop-number-preserved : goal.loop-number-preserved
loop-number-preserved g c =
    let n = c.loop-number.number in
    let items = c.push_reserved.ensures.items in
    let cap = c.push_reserved.ensures.capacity in
    let room = c.loop-number.invariant.room in record {
      fresh = subst (λ (ss : List Client). AreFresh (n + 1) ss) (sym items) (fresh_more n c.loop-number.seats.items c.in_ok-seat.seat c.loop-number.invariant.fresh c.in_ok-seat.ensures);
      room = omega arith;
    }
