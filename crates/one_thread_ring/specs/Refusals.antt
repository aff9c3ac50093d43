-- Which refusal of a call comes first, on a ring that is called by numbers (this project's own).
use Rattle.std.specs.Prelude.{◌≡◌, ℕ, suc, ◌+◌, List, [], ◌∷◌, length, Bool, true, not, ◌&&◌, ◌==◌, nat_lt, nat_le, find, if◌then◌else◌, Option, Some, None, Result, Ok, Err, ◌⊎◌}
use Rattle.ring_model.specs.Limits.{event_limit}
use Rattle.ring_model.specs.Ring.{Ring, is_privileged}
use Rattle.one_thread_ring.specs.Rings.{RingView}
use Rattle.one_thread_ring.specs.declared.errors.CallError.{CallError}
use Rattle.one_thread_ring.specs.declared.errors.CallError.TheVariants as call

-- the bounds of a call: the number of seats, the ring's state, and the number of events in its
-- history
pub record Bounds : Type 0 where
  pub seats : ℕ
  pub ring : Ring
  pub events : ℕ

abbrev pub bounds_of : {C : Type 0} → RingView C → Bounds
bounds_of d = record {
  seats = length d.clients;
  ring = d.book.now.ring;
  events = length d.book.history;
}

abbrev pub when : Bool → CallError → Option CallError
when applies why = if applies then Some why else None

-- the first of these refusals that applies
abbrev pub first_of : List (Option CallError) → Option CallError
first_of [] = None
first_of (None ∷ others) = first_of others
first_of (Some why ∷ others) = Some why

-- the numbers rise, each at least low and below high
abbrev pub rise : ℕ → ℕ → List ℕ → Bool
rise low high [] = true
rise low high (m ∷ ms) = nat_le low m && (nat_lt m high && rise (suc m) high ms)

-- the first of these machines that is not privileged
abbrev pub first_without : List ℕ → List ℕ → Option ℕ
first_without s machines = find (λ m. not (is_privileged s m)) machines

abbrev pub unprivileged : Option ℕ → Option CallError
unprivileged None = None
unprivileged (Some m) = Some (call.NotPrivileged m)

abbrev pub seat_refusal : Bounds → ℕ → Option CallError
seat_refusal b seat = when (nat_le b.seats seat) call.NoSeat

abbrev pub pass_refusal : Bounds → ℕ → ℕ → Option CallError
pass_refusal b seat machine = first_of (
    when (nat_le b.seats seat) call.NoSeat
    ∷ when (nat_le (length b.ring.values) machine) call.NoMachine
    ∷ when (b.events == event_limit) call.HistoryFull
    ∷ [])

-- of memory for this many events
abbrev pub reserve_refusal : Bounds → ℕ → Option CallError
reserve_refusal b more = when (nat_lt event_limit (b.events + more)) call.HistoryFull

-- of a call that is not an event
abbrev pub place_refusal : Bounds → ℕ → ℕ → Option CallError
place_refusal b seat machine = first_of (
    when (nat_le b.seats seat) call.NoSeat
    ∷ when (nat_le (length b.ring.values) machine) call.NoMachine
    ∷ [])

-- of a try, which is a pass if the machine is privileged, and else no event
abbrev pub try_refusal : Bounds → ℕ → ℕ → Option CallError
try_refusal b seat machine =
    if is_privileged b.ring.values machine
    then pass_refusal b seat machine
    else place_refusal b seat machine

-- of a fault, which writes a value into a machine
abbrev pub corrupt_refusal : Bounds → ℕ → ℕ → ℕ → Option CallError
corrupt_refusal b seat machine value = first_of (
    when (nat_le b.seats seat) call.NoSeat
    ∷ when (nat_le (length b.ring.values) machine) call.NoMachine
    ∷ when (nat_le b.ring.k value) call.NoValue
    ∷ when (b.events == event_limit) call.HistoryFull
    ∷ [])

-- of a pass by a group of machines at once
abbrev pub group_refusal : Bounds → ℕ → List ℕ → Option CallError
group_refusal b seat machines = first_of (
    when (nat_le b.seats seat) call.NoSeat
    ∷ when (not (nat_lt 0 (length machines) && rise 0 (length b.ring.values) machines))
    call.NotRising
    ∷ when (length machines == length b.ring.values) call.WholeRing
    ∷ unprivileged (first_without b.ring.values machines)
    ∷ when (nat_lt event_limit (b.events + length machines)) call.HistoryFull
    ∷ [])

-- A call is answered only if nothing refuses it; otherwise it is refused so. If nothing refuses it,
-- memory may still run out.
abbrev pub IsDecided : {A : Type 0} → Option CallError → Result A CallError → Type 0
IsDecided why (Ok a) = why ≡ None
IsDecided why (Err e) = (why ≡ Some e) ⊎ ((why ≡ None) × (e ≡ call.OutOfMemory))
