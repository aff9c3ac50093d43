-- A drawn plan, as a function of the stream of words that a generator gives (this project's own).
use Rattle.std.specs.Prelude.{◌==◌, ℕ, zero, suc, ◌%◌, if◌then◌else◌, List, [], ◌∷◌, ◌++◌, length, slice_index}
use Rattle.ring_state.specs.Sizes.{Size}
use Rattle.rand_core.specs.Stream.{Stream, next_u32}
use Rattle.rand_core.specs.Steps.{stream_of, steps_u32}
use Rattle.rand_pcg.specs.Lcg.{started, increment_of}
use Rattle.rand_pcg.specs.Pcg.{multiplier_64, pcg32}
use Rattle.ring_settings.specs.Actions.{size_at}
use Rattle.ring_settings.specs.declared.actions.Action.{Action}
use Rattle.ring_settings.specs.declared.actions.Action.TheVariants.{Pass, Corrupt, Survey}
use Rattle.ring_settings.specs.declared.actions.Role.{Role}
use Rattle.ring_settings.specs.declared.actions.Role.TheVariants.{Worker, Injector}

-- the action that four words give: the first chooses the ring, the second the kind, the third the
-- machine, the last the order or the value
abbrev pub action_by : Role → List Size → ℕ → ℕ → ℕ → ℕ → Action
action_by Worker sizes w1 w2 w3 w4 =
    let ring = w1 % length sizes in
    if w2 % 8 == 0 then Survey ring else Pass ring (w3 % (size_at sizes ring).n) w4
action_by Injector sizes w1 w2 w3 w4 =
    let ring = w1 % length sizes in
    Corrupt ring (w3 % (size_at sizes ring).n) (w4 % (size_at sizes ring).k)

-- the same, of a list of four words
abbrev pub action_of_words : Role → List Size → List ℕ → Action
action_of_words role sizes ws =
    action_by role sizes (slice_index ws 0) (slice_index ws 1) (slice_index ws 2) (slice_index ws 3)

-- the next four words of a stream
abbrev pub next_four : Stream → List ℕ
next_four s =
    let a = next_u32 s in
    let b = next_u32 a.1 in
    let c = next_u32 b.1 in
    let d = next_u32 c.1 in
    a.0 ∷ b.0 ∷ c.0 ∷ d.0 ∷ []

-- the rest of a stream after four words
abbrev pub after_four : Stream → Stream
after_four s = (next_u32 (next_u32 (next_u32 (next_u32 s).1).1).1).1

-- the rest of a stream after the words of m actions
abbrev pub left_after : ℕ → Stream → Stream
left_after zero s = s
left_after (suc m) s = after_four (left_after m s)

-- the first m actions that a stream gives
abbrev pub drawn : Role → List Size → ℕ → Stream → List Action
drawn role sizes zero s = []
drawn role sizes (suc m) s =
    drawn role sizes m s ++ action_of_words role sizes (next_four (left_after m s)) ∷ []

-- the stream of a seat's generator: PCG32 with the seed as its state and the seat's number as its
-- stream (O'Neill, "PCG: a family of simple fast space-efficient statistically good algorithms for
-- random number generation")
abbrev pub seat_stream : ℕ → ℕ → Stream
seat_stream seed seat =
    stream_of (steps_u32 pcg32) (started 64 multiplier_64 seed (increment_of 64 seat))
