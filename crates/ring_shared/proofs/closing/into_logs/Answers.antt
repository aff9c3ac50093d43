use Rattle.std.proofs.Common.{◌∷◌, [], length-append, arith}
use Rattle.ring_shared.proofs.Orders.{AreLogsOf-push}
use Rattle.ring_shared.proofs.closing.into_logs.Goals as goal

pub loop-seat-preserved : goal.loop-seat-preserved
loop-seat-preserved g c =
    let i = c.loop-seat.invariant in
    let p = c.push_reserved.ensures in
    record {
      count = let n = p.len in let m = i.count in omega (arith, length-append c.loop-seat.yielded (c.in-Some.seat ∷ []));
      room = let n = p.capacity in let m = i.room in omega arith;
      logs_of = rw p.items (AreLogsOf-push c.loop-seat.yielded c.loop-seat.logs.items c.in-Some.seat c.into_log.result i.logs_of c.into_log.ensures);
    }
