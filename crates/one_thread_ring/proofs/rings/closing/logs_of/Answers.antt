use Rattle.std.proofs.Common.{List, take, subst, sym, arith}
use Rattle.std.proofs.lemmas.List.{map_more}
use Rattle.ring_logs.specs.LogView.{LogView}
use Rattle.one_thread_ring.specs.Clients.{told_of, told_all}
use Rattle.one_thread_ring.specs.Rings.{AreLogsOf}
use Rattle.one_thread_ring.proofs.Closing.{AreLogsOf-push}
use Rattle.one_thread_ring.proofs.rings.closing.logs_of.Goals as goal

pub loop-client-preserved : goal.loop-client-preserved
loop-client-preserved c =
    let i = c.loop-client.invariant in
    let p = c.push_reserved.ensures in
    let h = c.args.history.now in
    let cs = c.args.clients.now in
    let client = c.client-item.result in
    record {
      count = let n = p.len in let m = i.count in omega (arith, n, m);
      room = let n = p.capacity in let m = i.room in omega (arith, n, m);
      logs_of = subst (λ (ts : List LogView). AreLogsOf ts c.push_reserved.new.self.items) (sym (map_more (told_of h) cs c.loop-client.client-index client c.loop-client-test.true))
          (rw (← c.client-item.is) (rw p.items (AreLogsOf-push (told_all h (take c.loop-client.client-index cs)) c.loop-client.logs.items (told_of h client) _ i.logs_of (c.number.ensures.is, c.in_ok-entries.ensures))));
    }
