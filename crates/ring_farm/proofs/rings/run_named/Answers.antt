use Rattle.std.proofs.Common.{◌≡◌, ℕ, length, sym, subst, arith}
use Rattle.ring_model.specs.Ring.{Ring}
use Rattle.ring_logs.specs.Seats.{AreOfSeats}
use Rattle.ring_shared.specs.Opening.{AreFresh}
use Rattle.ring_farm.specs.Runs.{IsRun}
use Rattle.ring_farm.proofs.Pairing.{logged_of, distinct_of, still_all_fresh}
use Rattle.ring_farm.proofs.rings.run_named.Goals as goal

pub close-requires : goal.close-requires
close-requires g c =
    let e = c.in-Ok-run_threads.ensures in let m = e.count in
    let n : length c.in-Ok-run_threads.seats.items ≡ length c.args.plans.now.items = omega arith in
    distinct_of c.args.number c.args.plans.now.items c.in-Ok-run_threads.seats.items n e.each

pub returns-in-Ok-close : goal.returns-in-Ok-close
returns-in-Ok-close g c =
    let e = c.in-Ok-run_threads.ensures in let m = e.count in
    let n : length c.in-Ok-run_threads.seats.items ≡ length c.args.plans.now.items = omega arith in
    let done = c.in-Ok-close.ensures in
    let has = done.logs in
    let long = has.0 in
    let of_name = c.requires.seats in
    let of_plans = c.requires.count in
    let seats : g.N.Name.seats ≡ length c.args.plans.now.items = omega arith in
    subst (λ (s : Ring). IsRun c.args.plans.now.items c.args.number s c.in-Ok-close.field-0.book c.in-Ok-close.field-0.logs.items) (sym c.requires.start)
    (record {
      begins = done.start;
      book = done.book;
      settlement = done.settlement;
      of_seats = subst (λ (k : ℕ). AreOfSeats k c.in-Ok-close.field-0.book.history) seats done.of_seats;
      fits = done.fits;
      count = omega arith;
      logged = logged_of c.args.number c.args.plans.now.items c.in-Ok-run_threads.seats.items c.in-Ok-close.field-0.logs.items n e.each has.2;
    })

pub run_threads-requires-clause-fresh : goal.run_threads-requires-clause-fresh
run_threads-requires-clause-fresh g c κs within =
    let of_name = c.requires.seats in
    let of_plans = c.requires.count in
    let seats : g.N.Name.seats ≡ length c.args.plans.now.items = omega arith in
    subst (λ (n : ℕ). AreFresh n c.reserve_entries.new.seats.items) seats
    (still_all_fresh g.N.Name.seats _ c.reserve_entries.new.seats.items c.in-Ok.ensures.ok c.reserve_entries.ensures.same)
