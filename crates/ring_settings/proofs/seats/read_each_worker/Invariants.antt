use Rattle.std.proofs.Common.{◌≡◌, drop, map}
use Rattle.serde_json.specs.View.{items_view}
use Rattle.ring_settings.specs.Seats.{seat_from}
use Rattle.ring_settings.specs.Views.{seat_data}
use Rattle.ring_settings.specs.Walk.{each_from}
use Rattle.ring_settings.specs.declared.actions.Role.TheVariants.{Worker}
use Rattle.ring_settings.proofs.Each.{with_rest}
use Rattle.ring_settings.proofs.seats.read_each_worker.Given as goal

abbrev pub invariant-loop-seat : goal.invariant-loop-seat
invariant-loop-seat l =
    each_from (seat_from Worker l.sizes) 0 (items_view l.list)
    ≡ with_rest (map seat_data l.workers.items) (each_from (seat_from Worker l.sizes) l.seat (items_view (drop l.seat l.list)))
