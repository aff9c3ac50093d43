-- The outcome of a ring that is closed is a right run.
use Rattle.std.proofs.Common.{◌≡◌, ℕ, zero, suc, ◌<◌, List, [], ◌∷◌, ◌++◌, length, get_or, subst, ap, sym, ◌∙◌, refl, arith}
use Rattle.std.proofs.lemmas.Option.{slice_get_within, get_or_from_slice_get}
use Rattle.ring_model.specs.Resources.{till}
use Rattle.ring_model.specs.History.{opening}
use Rattle.ring_model.specs.Logs.{Fits}
use Rattle.ring_model.specs.declared.events.Entry.{Entry}
use Rattle.ring_logs.specs.LogView.{LogView}
use Rattle.ring_logs.specs.Seats.{AreOfSeats}
use Rattle.ring_logs.specs.declared.logs.Log.{Log}
use Rattle.ring_logs.specs.declared.outcomes.RingOutcome.{RingOutcome}
use Rattle.one_thread_ring.specs.Runs.{IsRightRun}
use Rattle.one_thread_ring.specs.Rings.{IsOneThreadRing, AreLogsOf}

-- the logs that a ring hands out
pub AreLogsOf-push : (cs : List LogView) (ls : List Log) (c : LogView) (l : Log) → AreLogsOf cs ls → (l.seat ≡ c.number) × (l.entries.items ≡ c.log) → AreLogsOf (cs ++ c ∷ []) (ls ++ l ∷ [])
AreLogsOf-push [] [] c l h is = (is, refl)
AreLogsOf-push [] (x ∷ ls) c l h is = cc
AreLogsOf-push (d ∷ cs) [] c l h is = absurd h
AreLogsOf-push (d ∷ cs) (x ∷ ls) c l h is = (h.0, AreLogsOf-push cs ls c l h.1 is)

-- as many logs as clients
pub logs_long : (cs : List LogView) (ls : List Log) → AreLogsOf cs ls → length ls ≡ length cs
logs_long [] ls h = ap length h
logs_long (c ∷ cs) [] h = absurd h
logs_long (c ∷ cs) (l ∷ ls) h = ap suc (logs_long cs ls h.1)

log_at : (cs : List LogView) (ls : List Log) (i : ℕ) (d : LogView) (l : Log) → AreLogsOf cs ls → i < length cs → ((get_or ls i l).seat ≡ (get_or cs i d).number) × ((get_or ls i l).entries.items ≡ (get_or cs i d).log)
log_at [] ls i d l h lt = absurd (omega arith)
log_at (c ∷ cs) [] i d l h lt = absurd h
log_at (c ∷ cs) (x ∷ ls) zero d l h lt = h.0
log_at (c ∷ cs) (x ∷ ls) (suc i) d l h lt = log_at cs ls i d l h.1 (omega (arith, lt))

-- the outcome of a ring is a right run
pub right_run : (r : RingOutcome) (cs : List LogView) → IsOneThreadRing till 0 (record { book = r.book; clients = cs }) → AreLogsOf cs r.logs.items → IsRightRun r
right_run r cs d of =
    let long : length r.logs.items ≡ length cs = logs_long cs r.logs.items of in
    let client : (i : ℕ) (l : Log) → i < length r.logs.items → ((get_or r.logs.items i l).seat ≡ i) × Fits till (opening r.book.start 0) r.book.history i (get_or r.logs.items i l).entries.items =
    λ i l lt.
    let c : LogView = record { number = i; log = [] } in
    let same = log_at cs r.logs.items i c l of (omega (arith, long)) in
    let is = d.each i c (omega (arith, long)) in
    (same.0 ∙ is.number, subst (λ (log : List Entry). Fits till (opening r.book.start 0) r.book.history i log) (sym same.1) is.fits) in
    record {
      ring = d.book.start_ring.ring;
      most_machines = d.book.start_ring.most_machines;
      most = d.book.start_ring.most;
      legal_and_whole = (d.book.legal, d.book.whole);
      few = let few = d.few in omega arith;
      by_number = λ seat l at.
          let lt = slice_get_within r.logs.items seat l at in
          subst (λ (x : Log). x.seat ≡ seat) (get_or_from_slice_get r.logs.items seat l l at) (client seat l lt).0;
      seats = subst (λ (n : ℕ). AreOfSeats n r.book.history) (sym long) d.of_seats;
      fits = λ k l lt.
          let one = client k l lt in
          subst (λ (n : ℕ). Fits till (opening r.book.start 0) r.book.history n (get_or r.logs.items k l).entries.items) (sym one.0) one.1;
    }
