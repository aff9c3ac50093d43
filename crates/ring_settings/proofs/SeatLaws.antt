-- Facts on the seats that a walk reads, and on the whole settings.
use Rattle.std.proofs.Common.{◌≡◌, ℕ, ◌<◌, ◌≤◌, ◌++◌, ◌∷◌, List, [], length, subst, Result, Ok, Option, Some, None, Bool, true, false, cond, ◌&&◌, nat_lt, arith, codes, length-append}
use Rattle.std.specs.Prelude.{option_and_then, All, nat_le, is_some}
use Rattle.std.specs.Str.{bytes_eq}
use Rattle.std.proofs.lemmas.Bool.Decides.{nat_tests}
use Rattle.std.proofs.lemmas.List.Elements.{All-push}
use Rattle.serde_json.specs.Data.{Data, Items, no_items, item}
use Rattle.serde_json.specs.Find.{as_array, as_null, as_str, get}
use Rattle.ring_settings.specs.Limits.{action_limit, worker_limit}
use Rattle.ring_model.specs.Limits.{seat_limit}
use Rattle.ring_state.specs.Sizes.{Size}
use Rattle.ring_settings.specs.Actions.{IsActionFor, size_at}
use Rattle.ring_settings.specs.Contents.{RingData, SeatData, script, drawing, sizes_of, IsSeatFor, IsSettings}
use Rattle.ring_settings.specs.Rings.{rings_member}
use Rattle.ring_settings.specs.Scripts.{short_action, machine_action, long_action, action_of_items, action_from, script_entry, script_items}
use Rattle.ring_settings.specs.Seats.{field_of, scripted_seat, drawn_seat, seat_by_script, seat_from, workers_items, injector_after, seats_member}
use Rattle.ring_settings.specs.Walk.{each_from, items_count, then_with, is_object, whole_number, number_member, limited}
use Rattle.ring_settings.specs.declared.actions.Action.{Action}
use Rattle.ring_settings.specs.declared.actions.Action.TheVariants.{Pass, Corrupt, Survey}
use Rattle.ring_settings.specs.declared.actions.Role.{Role}
use Rattle.ring_settings.specs.declared.actions.Role.TheVariants.{Worker, Injector}
use Rattle.ring_settings.specs.declared.faults.Field.TheVariants as field
use Rattle.ring_settings.specs.declared.faults.SettingsError.{SettingsError}
use Rattle.ring_settings.specs.declared.faults.SettingsError.TheVariants.{Shape, Limit, Script}
use Rattle.ring_settings.proofs.RingLaws.{rings_member-ok}
use Rattle.ring_settings.proofs.Walks.{both, chosen, kept, then_with-ok, option_and_then-some, ok_or-ok, each_from-all, each_from-length}

-- ---- actions

short_action-some : (sizes : List Size) (name : List ℕ) (ring : ℕ) (a : Action) → short_action sizes name ring ≡ Some a → IsActionFor sizes a
short_action-some sizes name ring a h =
    let parts = kept (bytes_eq name (codes "survey") && nat_lt ring (length sizes)) (Some (Survey ring)) a h in
    let tests = both (bytes_eq name (codes "survey")) (nat_lt ring (length sizes)) parts.0 in
    let there : ring < length sizes = grind (arith, nat_tests, tests.1) in
    let is : Survey ring ≡ a = cc (parts.1) in
    subst (λ (b : Action). IsActionFor sizes b) is there

corrupt-some : (sizes : List Size) (name : List ℕ) (ring machine last : ℕ) (a : Action) → ring < length sizes → machine < (size_at sizes ring).n →
    cond (bytes_eq name (codes "corrupt") && nat_lt last (size_at sizes ring).k) (Some (Corrupt ring machine last)) None ≡ Some a → IsActionFor sizes a
corrupt-some sizes name ring machine last a there one h =
    let parts = kept (bytes_eq name (codes "corrupt") && nat_lt last (size_at sizes ring).k) (Some (Corrupt ring machine last)) a h in
    let tests = both (bytes_eq name (codes "corrupt")) (nat_lt last (size_at sizes ring).k) parts.0 in
    let below : last < (size_at sizes ring).k = grind (arith, nat_tests, tests.1) in
    let is : Corrupt ring machine last ≡ a = cc (parts.1) in
    subst (λ (b : Action). IsActionFor sizes b) is (there, one, below)

-- a pass, where the name says so
pass_or : (sizes : List Size) (is_pass : Bool) (other : Option Action) (ring machine last : ℕ) (a : Action) → ring < length sizes → machine < (size_at sizes ring).n →
    (other ≡ Some a → IsActionFor sizes a) → cond is_pass (Some (Pass ring machine last)) other ≡ Some a → IsActionFor sizes a
pass_or sizes true other ring machine last a there one of_other h =
    let is : Pass ring machine last ≡ a = cc in
    subst (λ (b : Action). IsActionFor sizes b) is (there, one)
pass_or sizes false other ring machine last a there one of_other h = of_other h

long_action-some : (sizes : List Size) (name : List ℕ) (ring machine last : ℕ) (a : Action) → long_action sizes name ring machine last ≡ Some a → IsActionFor sizes a
long_action-some sizes name ring machine last a h =
    let parts = kept (nat_lt ring (length sizes) && nat_lt machine (size_at sizes ring).n) (machine_action sizes name ring machine last) a h in
    let tests = both (nat_lt ring (length sizes)) (nat_lt machine (size_at sizes ring).n) parts.0 in
    let there : ring < length sizes = grind (arith, nat_tests, tests.0) in
    let one : machine < (size_at sizes ring).n = grind (arith, nat_tests, tests.1) in
    pass_or sizes (bytes_eq name (codes "pass")) (cond (bytes_eq name (codes "corrupt") && nat_lt last (size_at sizes ring).k) (Some (Corrupt ring machine last)) None)
    ring machine last a there one (corrupt-some sizes name ring machine last a there one) parts.1

action_of_items-some : (sizes : List Size) (ds : Items) (a : Action) → action_of_items sizes ds ≡ Some a → IsActionFor sizes a
action_of_items-some sizes no_items a h = let no : ⊥ = cc in absurd no
action_of_items-some sizes (item kind no_items) a h = let no : ⊥ = cc in absurd no
action_of_items-some sizes (item kind (item ring no_items)) a h =
    let name = option_and_then-some (λ (name : List ℕ). option_and_then (λ (r : ℕ). short_action sizes name r) (whole_number ring)) (as_str kind) a h in
    let r = option_and_then-some (λ (r : ℕ). short_action sizes name.0 r) (whole_number ring) a name.2 in
    short_action-some sizes name.0 r.0 a r.2
action_of_items-some sizes (item kind (item ring (item machine no_items))) a h = let no : ⊥ = cc in absurd no
action_of_items-some sizes (item kind (item ring (item machine (item last no_items)))) a h =
    let name = option_and_then-some (λ (name : List ℕ). option_and_then (λ (r : ℕ). option_and_then (λ (m : ℕ). option_and_then (λ (l : ℕ). long_action sizes name r m l) (whole_number last)) (whole_number machine)) (whole_number ring)) (as_str kind) a h in
    let r = option_and_then-some (λ (r : ℕ). option_and_then (λ (m : ℕ). option_and_then (λ (l : ℕ). long_action sizes name.0 r m l) (whole_number last)) (whole_number machine)) (whole_number ring) a name.2 in
    let m = option_and_then-some (λ (m : ℕ). option_and_then (λ (l : ℕ). long_action sizes name.0 r.0 m l) (whole_number last)) (whole_number machine) a r.2 in
    let l = option_and_then-some (λ (l : ℕ). long_action sizes name.0 r.0 m.0 l) (whole_number last) a m.2 in
    long_action-some sizes name.0 r.0 m.0 l.0 a l.2
action_of_items-some sizes (item kind (item ring (item machine (item last (item more ds))))) a h = let no : ⊥ = cc in absurd no

action_from-some : (sizes : List Size) (d : Data) (a : Action) → action_from sizes d ≡ Some a → IsActionFor sizes a
action_from-some sizes d a h =
    let list = option_and_then-some (action_of_items sizes) (as_array d) a h in
    action_of_items-some sizes list.0 a list.2

script_entry-ok : (sizes : List Size) (seat place : ℕ) (d : Data) (a : Action) → script_entry sizes seat place d ≡ Ok a → IsActionFor sizes a
script_entry-ok sizes seat place d a h = action_from-some sizes d a (ok_or-ok (action_from sizes d) (Script seat place) a h)

script_items-ok : (sizes : List Size) (seat : ℕ) (ds : Option Items) (actions : List Action) → script_items sizes seat ds ≡ Ok actions → IsSeatFor sizes (script actions)
script_items-ok sizes seat None actions h = let no : ⊥ = cc in absurd no
script_items-ok sizes seat (Some ds) actions h =
    let parts = chosen (nat_le (items_count ds) action_limit) (each_from (script_entry sizes seat) 0 ds) (Limit field.Script) actions h in
    let count = each_from-length (script_entry sizes seat) 0 ds actions parts.1 in
    (grind (arith, nat_tests, parts.0, count), each_from-all (IsActionFor sizes) (script_entry sizes seat) (script_entry-ok sizes seat) 0 ds actions parts.1)

-- ---- seats

scripted_seat-ok : (sizes : List Size) (seat : ℕ) (d : Data) (s : SeatData) → scripted_seat sizes seat d ≡ Ok s → IsSeatFor sizes s
scripted_seat-ok sizes seat d s h =
    let actions = then_with-ok (script_items sizes seat (as_array d)) (λ (actions : List Action). Ok (script actions)) s h in
    let is : script actions.0 ≡ s = cc (actions.2) in
    subst (λ (x : SeatData). IsSeatFor sizes x) is (script_items-ok sizes seat (as_array d) actions.0 actions.1)

limited-ok : (n a : ℕ) → limited field.Actions (nat_le n action_limit) n ≡ Ok a → a ≤ action_limit
limited-ok n a h =
    let parts = chosen (nat_le n action_limit) (Ok n) (Limit field.Actions) a h in
    let is : a ≡ n = cc (parts.1) in
    grind (arith, nat_tests, parts.0, is)

drawn_seat-ok : (sizes : List Size) (role : Role) (d : Data) (s : SeatData) → drawn_seat role d ≡ Ok s → IsSeatFor sizes s
drawn_seat-ok sizes role d s h =
    let seed = then_with-ok (number_member field.Seed (codes "seed") d) (λ (seed : ℕ). then_with (number_member field.Actions (codes "actions") d) (λ (n : ℕ). then_with (limited field.Actions (nat_le n action_limit) n) (λ (actions : ℕ). Ok (drawing role seed actions)))) s h in
    let n = then_with-ok (number_member field.Actions (codes "actions") d) (λ (n : ℕ). then_with (limited field.Actions (nat_le n action_limit) n) (λ (actions : ℕ). Ok (drawing role seed.0 actions))) s seed.2 in
    let actions = then_with-ok (limited field.Actions (nat_le n.0 action_limit) n.0) (λ (actions : ℕ). Ok (drawing role seed.0 actions)) s n.2 in
    let is : drawing role seed.0 actions.0 ≡ s = cc (actions.2) in
    subst (λ (x : SeatData). IsSeatFor sizes x) is (limited-ok n.0 actions.0 actions.1)

seat_by_script-ok : (role : Role) (sizes : List Size) (seat : ℕ) (d : Data) (o : Option Data) (s : SeatData) → seat_by_script role sizes seat d o ≡ Ok s → IsSeatFor sizes s
seat_by_script-ok role sizes seat d (Some x) s h = scripted_seat-ok sizes seat x s h
seat_by_script-ok role sizes seat d None s h = drawn_seat-ok sizes role d s h

seat_from-ok : (role : Role) (sizes : List Size) (seat : ℕ) (d : Data) (s : SeatData) → seat_from role sizes seat d ≡ Ok s → IsSeatFor sizes s
seat_from-ok role sizes seat d s h =
    seat_by_script-ok role sizes seat d (get (codes "script") d) s (chosen (is_object d) (seat_by_script role sizes seat d (get (codes "script") d)) (Shape (field_of role)) s h).1

-- at least one seat, at most the limit, and each is one for these rings
record AreSeats (sizes : List Size) (limit : ℕ) (seats : List SeatData) : Type 0 where
  some : 1 ≤ length seats
  most : length seats ≤ limit
  each : All (IsSeatFor sizes) seats

workers_items-ok : (sizes : List Size) (ds : Option Items) (workers : List SeatData) → workers_items sizes ds ≡ Ok workers → AreSeats sizes worker_limit workers
workers_items-ok sizes None workers h = let no : ⊥ = cc in absurd no
workers_items-ok sizes (Some ds) workers h =
    let parts = chosen (nat_le 1 (items_count ds) && nat_le (items_count ds) worker_limit) (each_from (seat_from Worker sizes) 0 ds) (Limit field.Workers) workers h in
    let limits = both (nat_le 1 (items_count ds)) (nat_le (items_count ds) worker_limit) parts.0 in
    let count = each_from-length (seat_from Worker sizes) 0 ds workers parts.1 in
    record {
      some = grind (arith, nat_tests, limits.0, count);
      most = grind (arith, nat_tests, limits.1, count);
      each = each_from-all (IsSeatFor sizes) (seat_from Worker sizes) (seat_from-ok Worker sizes) 0 ds workers parts.1;
    }

one_more : (sizes : List Size) (workers : List SeatData) (s : SeatData) → AreSeats sizes worker_limit workers → IsSeatFor sizes s → AreSeats sizes seat_limit (workers ++ s ∷ [])
one_more sizes workers s w is = record {
  some = omega (arith, length-append workers (s ∷ []), w.some);
  most = omega (arith, length-append workers (s ∷ []), w.most);
  each = All-push (IsSeatFor sizes) workers s w.each is;
}

no_more : (sizes : List Size) (workers seats : List SeatData) → AreSeats sizes worker_limit workers → ◌≡◌ {A = Result (List SeatData) SettingsError} (Ok workers) (Ok seats) → AreSeats sizes seat_limit seats
no_more sizes workers seats w h =
    let is : workers ≡ seats = cc in
    subst (λ (x : List SeatData). AreSeats sizes seat_limit x) is (record { some = w.some; most = omega (arith, w.most); each = w.each })

after_test : (sizes : List Size) (workers seats : List SeatData) (is_null : Bool) (d : Data) → AreSeats sizes worker_limit workers →
    cond is_null (Ok workers) (then_with (seat_from Injector sizes (length workers) d) (λ injector. Ok (workers ++ injector ∷ []))) ≡ Ok seats → AreSeats sizes seat_limit seats
after_test sizes workers seats true d w h = no_more sizes workers seats w h
after_test sizes workers seats false d w h =
    let injector = then_with-ok (seat_from Injector sizes (length workers) d) (λ (injector : SeatData). Ok (workers ++ injector ∷ [])) seats h in
    let is : workers ++ injector.0 ∷ [] ≡ seats = cc (injector.2) in
    subst (λ (x : List SeatData). AreSeats sizes seat_limit x) is (one_more sizes workers injector.0 w (seat_from-ok Injector sizes (length workers) d injector.0 injector.1))

injector_after-ok : (sizes : List Size) (workers seats : List SeatData) (o : Option Data) → AreSeats sizes worker_limit workers → injector_after sizes workers o ≡ Ok seats → AreSeats sizes seat_limit seats
injector_after-ok sizes workers seats None w h = no_more sizes workers seats w h
injector_after-ok sizes workers seats (Some d) w h = after_test sizes workers seats (is_some (as_null d)) d w h

seats_member-ok : (sizes : List Size) (d : Data) (seats : List SeatData) → seats_member sizes d ≡ Ok seats → AreSeats sizes seat_limit seats
seats_member-ok sizes d seats h =
    let workers = then_with-ok (workers_items sizes (option_and_then as_array (get (codes "workers") d))) (λ (workers : List SeatData). injector_after sizes workers (get (codes "injector") d)) seats h in
    injector_after-ok sizes workers.0 seats (get (codes "injector") d) (workers_items-ok sizes (option_and_then as_array (get (codes "workers") d)) workers.0 workers.1) workers.2

-- ---- the whole

-- the settings that the walk accepts can be run by a farm
pub settings_of_parts : (d : Data) (rings : List RingData) (seats : List SeatData) → rings_member d ≡ Ok rings → seats_member (sizes_of rings) d ≡ Ok seats →
    IsSettings (record { rings = rings; seats = seats })
settings_of_parts d rings seats of_rings of_seats =
    let r = rings_member-ok d rings of_rings in
    let s = seats_member-ok (sizes_of rings) d seats of_seats in
    record { some_rings = r.some; most_rings = r.most; rings = r.each; some_seats = s.some; most_seats = s.most; seats = s.each }
