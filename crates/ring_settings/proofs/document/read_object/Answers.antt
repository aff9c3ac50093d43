use Rattle.std.proofs.Common.{rules, ◌≡◌, length, map}
use Rattle.std.proofs.lemmas.List.{length-map}
use Rattle.serde_json.specs.View.{view}
use Rattle.ring_settings.specs.Contents.{sizes_of}
use Rattle.ring_settings.specs.Views.{ring_data, seat_data}
use Rattle.ring_settings.proofs.RingLaws.{AreRings, rings_member-ok}
use Rattle.ring_settings.proofs.SeatLaws.{settings_of_parts}
use Rattle.ring_settings.proofs.document.read_object.Goals as goal

pub read_seats-requires : goal.read_seats-requires
read_seats-requires c =
    let rings = map ring_data c.in_ok-rings.rings.items in
    let sizes : c.as_slice-2.result.now ≡ sizes_of rings = search rules in
    let are : AreRings rings = rings_member-ok (view c.args.document.now) rings c.in_ok-rings.ensures.ok in
    let count : length (sizes_of rings) ≡ length rings = length-map rings (λ ring. ring.size) in
    rw (sizes, count) are.most

pub new-requires : goal.new-requires
new-requires c =
    let rings = map ring_data c.in_ok-rings.rings.items in
    let seats = map seat_data c.in_ok-seats.seats.items in
    let sizes : c.as_slice-2.result.now ≡ sizes_of rings = search rules in
    settings_of_parts (view c.args.document.now) rings seats c.in_ok-rings.ensures.ok (rw sizes at c.in_ok-seats.ensures.ok)
