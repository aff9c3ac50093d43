-- The plans of settings: which actions they have, and which plan is whose.
use Rattle.std.proofs.Common.{◌≡◌, ℕ, zero, suc, ◌<◌, ◌%◌, ◌==◌, List, [], length, sym, ◌∙◌, ap, Bool, true, false, cond, map, arith, get_or, slice_index, ◌≤◌, ◌∷◌, length-append, refl}
use Rattle.std.specs.Prelude.{All}
use Rattle.std.proofs.lemmas.List.{length-map, get_or-map}
use Rattle.std.proofs.lemmas.List.Elements.{All-nil, All-push, All-map}
use Rattle.std.proofs.lemmas.List.FromFn.{length-map-range_with_len, get_or-map-range_with_len}
use Rattle.std.proofs.lemmas.Nat.{mod_below}
use Rattle.std.proofs.lemmas.Option.{unwrap_or-slice_get}
use Rattle.ring_settings.specs.Limits.{action_limit}
use Rattle.rand_core.specs.Stream.{Stream}
use Rattle.ring_state.specs.Sizes.{Size, IsSize}
use Rattle.ring_settings.specs.Actions.{IsActionFor, size_at}
use Rattle.ring_settings.specs.Contents.{RingData, SeatData, script, drawing, SettingsData, sizes_of, seat_at, IsSeatFor, IsSettings, seat_plan, plan_of, plans_of}
use Rattle.ring_settings.specs.Draws.{action_by, action_of_words, next_four, left_after, drawn, seat_stream}
use Rattle.ring_settings.specs.Views.{plan_actions}
use Rattle.ring_settings.specs.declared.actions.Action.{Action}
use Rattle.ring_settings.specs.declared.actions.Action.TheVariants.{Pass, Survey}
use Rattle.ring_settings.specs.declared.actions.Plan.{Plan}
use Rattle.ring_settings.specs.declared.actions.Role.{Role}
use Rattle.ring_settings.specs.declared.actions.Role.TheVariants.{Worker, Injector}

-- the rings' sizes are sizes
pub sizes_of-all : (settings : SettingsData) → IsSettings settings → All IsSize (sizes_of settings.rings)
sizes_of-all settings is = All-map IsSize (λ (ring : RingData). ring.size) settings.rings (λ k d h. (is.rings k d h).size)

pub sizes_of-some : (settings : SettingsData) → IsSettings settings → 0 < length (sizes_of settings.rings)
sizes_of-some settings is = omega (arith, length-map settings.rings (λ (ring : RingData). ring.size), is.some_rings)

size_at-size : (sizes : List Size) (ring : ℕ) → All IsSize sizes → ring < length sizes → IsSize (size_at sizes ring)
size_at-size sizes ring all there = rw (unwrap_or-slice_get sizes ring (record { n = 0; k = 0 })) (all ring (record { n = 0; k = 0 }) there)

-- ---- actions that are drawn

survey_or_pass : (sizes : List Size) (is_survey : Bool) (ring machine order : ℕ) → ring < length sizes → machine < (size_at sizes ring).n →
    IsActionFor sizes (cond is_survey (Survey ring) (Pass ring machine order))
survey_or_pass sizes true ring machine order there one = there
survey_or_pass sizes false ring machine order there one = (there, one)

action_by-fits : (role : Role) (sizes : List Size) (w1 w2 w3 w4 : ℕ) → 0 < length sizes → All IsSize sizes → IsActionFor sizes (action_by role sizes w1 w2 w3 w4)
action_by-fits Worker sizes w1 w2 w3 w4 some all =
    let there : w1 % length sizes < length sizes = mod_below w1 (length sizes) some in
    let size = size_at-size sizes (w1 % length sizes) all there in
    let n : 0 < (size_at sizes (w1 % length sizes)).n = omega (arith, size.machines) in
    survey_or_pass sizes (w2 % 8 == 0) (w1 % length sizes) (w3 % (size_at sizes (w1 % length sizes)).n) w4 there (mod_below w3 (size_at sizes (w1 % length sizes)).n n)
action_by-fits Injector sizes w1 w2 w3 w4 some all =
    let there : w1 % length sizes < length sizes = mod_below w1 (length sizes) some in
    let size = size_at-size sizes (w1 % length sizes) all there in
    let n : 0 < (size_at sizes (w1 % length sizes)).n = omega (arith, size.machines) in
    let k : 0 < (size_at sizes (w1 % length sizes)).k = omega (arith, size.machines, size.values) in
    (there, mod_below w3 (size_at sizes (w1 % length sizes)).n n, mod_below w4 (size_at sizes (w1 % length sizes)).k k)

drawn-fits : (role : Role) (sizes : List Size) (m : ℕ) (s : Stream) → 0 < length sizes → All IsSize sizes → All (IsActionFor sizes) (drawn role sizes m s)
drawn-fits role sizes zero s some all = All-nil (IsActionFor sizes)
drawn-fits role sizes (suc m) s some all =
    let ws = next_four (left_after m s) in
    All-push (IsActionFor sizes) (drawn role sizes m s) (action_of_words role sizes ws) (drawn-fits role sizes m s some all)
    (action_by-fits role sizes (slice_index ws 0) (slice_index ws 1) (slice_index ws 2) (slice_index ws 3) some all)

-- ---- plans

seat_plan-fits : (sizes : List Size) (seat : ℕ) (s : SeatData) → 0 < length sizes → All IsSize sizes → IsSeatFor sizes s → All (IsActionFor sizes) (seat_plan sizes seat s)
seat_plan-fits sizes seat (script actions) some all is = is.1
seat_plan-fits sizes seat (drawing role seed actions) some all is = drawn-fits role sizes actions (seat_stream seed seat) some all

-- a seat of settings is one for their rings
pub seat_at-fits : (settings : SettingsData) (seat : ℕ) → IsSettings settings → seat < length settings.seats → IsSeatFor (sizes_of settings.rings) (seat_at settings seat)
seat_at-fits settings seat is there = rw (unwrap_or-slice_get settings.seats seat (script [])) (is.seats seat (script []) there)

pub plan_of-fits : (settings : SettingsData) (seat : ℕ) → IsSettings settings → seat < length settings.seats → All (IsActionFor (sizes_of settings.rings)) (plan_of settings seat)
plan_of-fits settings seat is there =
    seat_plan-fits (sizes_of settings.rings) seat (seat_at settings seat) (sizes_of-some settings is) (sizes_of-all settings is) (seat_at-fits settings seat is there)

-- as many plans as seats
pub plans_of-count : (settings : SettingsData) (plans : List Plan) → map plan_actions plans ≡ plans_of settings → length plans ≡ length settings.seats
plans_of-count settings plans is =
    sym (length-map plans plan_actions) ∙ ap length is ∙ length-map-range_with_len (plan_of settings) 0 (length settings.seats)

-- each plan is its seat's
pub plans_of-plan : (settings : SettingsData) (plans : List Plan) → map plan_actions plans ≡ plans_of settings →
    (seat : ℕ) (d : Plan) → seat < length plans → plan_actions (get_or plans seat d) ≡ plan_of settings seat
plans_of-plan settings plans is seat d there =
    let within : seat < length settings.seats = omega (arith, plans_of-count settings plans is) in
    sym (get_or-map plan_actions plans seat d (plan_actions d) there)
    ∙ ap (λ (ps : List (List Action)). get_or ps seat (plan_actions d)) is
    ∙ get_or-map-range_with_len (plan_of settings) 0 (length settings.seats) seat seat (plan_actions d) within (omega arith)

-- each action of each plan is for the settings' rings
pub plans_of-fits : (settings : SettingsData) (plans : List Plan) → IsSettings settings → map plan_actions plans ≡ plans_of settings →
    All (λ p. All (IsActionFor (sizes_of settings.rings)) (plan_actions p)) plans
plans_of-fits settings plans of_settings is seat d there =
    let within : seat < length settings.seats = omega (arith, plans_of-count settings plans is) in
    rw (plans_of-plan settings plans is seat d there) (plan_of-fits settings seat of_settings within)

-- ---- how long plans are

drawn-length : (role : Role) (sizes : List Size) (m : ℕ) (s : Stream) → length (drawn role sizes m s) ≡ m
drawn-length role sizes zero s = refl
drawn-length role sizes (suc m) s =
    length-append (drawn role sizes m s) (action_of_words role sizes (next_four (left_after m s)) ∷ []) ∙ omega (arith, drawn-length role sizes m s)

seat_plan-few : (sizes : List Size) (seat : ℕ) (s : SeatData) → IsSeatFor sizes s → length (seat_plan sizes seat s) ≤ action_limit
seat_plan-few sizes seat (script actions) is = is.0
seat_plan-few sizes seat (drawing role seed actions) is = omega (arith, is, drawn-length role sizes actions (seat_stream seed seat))

-- no seat's plan has more than a million actions
pub plan_of-few : (settings : SettingsData) (seat : ℕ) → IsSettings settings → seat < length settings.seats → length (plan_of settings seat) ≤ action_limit
plan_of-few settings seat is there = seat_plan-few (sizes_of settings.rings) seat (seat_at settings seat) (seat_at-fits settings seat is there)

-- nor has any plan
pub plans_of-few : (settings : SettingsData) (plans : List Plan) → IsSettings settings → map plan_actions plans ≡ plans_of settings →
    All (λ (p : Plan). length (plan_actions p) ≤ action_limit) plans
plans_of-few settings plans of_settings is seat d there =
    let within : seat < length settings.seats = omega (arith, plans_of-count settings plans is) in
    rw (plans_of-plan settings plans is seat d there) (plan_of-few settings seat of_settings within)
