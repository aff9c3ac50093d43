-- How many entries the logs of a farm have at most, and how many rings it has.
use Rattle.std.proofs.Common.{◌≡◌, ◌==◌, ℕ, ◌<◌, ◌≤◌, ◌*◌, ◌^◌, Some, [], length, ap, arith, get_or}
use Rattle.std.specs.Prelude.{All}
use Rattle.std.proofs.lemmas.List.{length-map}
use Rattle.std.proofs.lemmas.List.Sums.{sum_by-le, length-filter, count_by-le-length}
use Rattle.std.proofs.lemmas.Option.{slice_get-get_or}
use Rattle.ring_settings.specs.Limits.{ring_limit, action_limit}
use Rattle.ring_model.specs.Limits.{seat_limit}
use Rattle.ring_settings.specs.Contents.{SettingsData, IsSettings, RingData, plan_of}
use Rattle.ring_settings.specs.declared.actions.Action.{Action}
use Rattle.ring_settings.proofs.PlanLaws.{plan_of-few}
use Rattle.ring_farm.specs.Log.{Log}
use Rattle.ring_farm.specs.Plans.{part, planned, action_of, actions_of, ring_of}
use Rattle.ring_farm.specs.Headline.{HasLogs, IsFarmOf}
use Rattle.ring_farm.specs.declared.outcomes.Outcome.{Outcome}
use Rattle.ring_farm.specs.RingOutcome.{RingOutcome}
use Rattle.ring_text.specs.Report.{entries_of, entries_in}

-- a client's log of a ring has no more entries than its plan has actions
log_few : (settings : SettingsData) (ring seat : ℕ) (l : Log) → IsSettings settings → seat < length settings.seats →
    actions_of ring l.entries.items ≡ planned ring (plan_of settings seat) → length l.entries.items ≤ action_limit
log_few settings ring seat l is there same =
    let here = λ (a : Action). ring_of a == ring in
    let few = plan_of-few settings seat is there in
    omega
    (arith, ap length same, length-map l.entries.items (action_of ring), length-map (part ring (plan_of settings seat)) (λ (a : Action). Some a), length-filter here (plan_of settings seat), count_by-le-length here (plan_of settings seat))

-- at most ten clients
logs_few : (settings : SettingsData) (ring : ℕ) (r : RingOutcome) → IsSettings settings → HasLogs settings ring r → entries_of r.logs.items ≤ seat_limit * action_limit
logs_few settings ring r is logs =
    let each : All (λ (l : Log). length l.entries.items ≤ action_limit) r.logs.items = λ seat d there.
    log_few settings ring seat (get_or r.logs.items seat d) is (omega (arith, logs.count)) (logs.each seat (get_or r.logs.items seat d) (slice_get-get_or r.logs.items seat d there)).1 in
    omega (arith, sum_by-le (λ (l : Log). length l.entries.items) action_limit r.logs.items each, logs.count, is.most_seats)

-- at most sixteen rings
pub entries_few : (settings : SettingsData) (o : Outcome) → IsFarmOf settings o → entries_in o < 2 ^ 64
entries_few settings o farm =
    let none : RingData = record { size = record { n = 0; k = 0 }; start = [] } in
    let each : All (λ (r : RingOutcome). entries_of r.logs.items ≤ seat_limit * action_limit) o.rings.items = λ i d there.
    let within : i < length settings.rings = omega (arith, farm.count) in
    logs_few settings i (get_or o.rings.items i d) farm.allowed
    (farm.rings i (get_or settings.rings i none) (get_or o.rings.items i d) (slice_get-get_or settings.rings i none within) (slice_get-get_or o.rings.items i d there)).logs in
    omega (arith, sum_by-le (λ (r : RingOutcome). entries_of r.logs.items) (seat_limit * action_limit) o.rings.items each, farm.count, farm.allowed.most_rings)

-- from one ring on
pub rings_some : (settings : SettingsData) (o : Outcome) → IsFarmOf settings o → 1 ≤ length o.rings.items
rings_some settings o farm = omega (arith, farm.count, farm.allowed.some_rings)

pub rings_most : (settings : SettingsData) (o : Outcome) → IsFarmOf settings o → length o.rings.items ≤ ring_limit
rings_most settings o farm = omega (arith, farm.count, farm.allowed.most_rings)
