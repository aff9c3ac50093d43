-- The ring of a lock: a grant and a fault leave it settled, each event is a step, and no fault is a grant.
use Rattle.std.proofs.Common.{◌≡◌, ◌≢◌, ℕ, zero, suc, ◌+◌, ◌-◌, ◌<◌, ◌≤◌, Bool, true, false, List, [], ◌∷◌, map, length, refl, sym, ◌∙◌, ap, subst, arith, Option, Some}
use Rattle.std.specs.Prelude.{◌==◌, if◌then◌else◌}
use Rattle.std.proofs.lemmas.Bool.{eqb-true, eqb-false, false_from_ne_true}
use Rattle.ring_model.specs.Ring.{IsRing, is_privileged, moved, written, first_privileged, is_settled}
use Rattle.held_locks.specs.Grants.{most_passes, other_machine}
use Rattle.ring_model.specs.History.{State, Step, next, reply, after, granted_state, IsLegal}
use Rattle.ring_model.specs.Resources.{till}
use Rattle.ring_model.specs.declared.events.Op.TheVariants as op
use Rattle.ring_model.specs.declared.events.Reply.{Reply}
use Rattle.ring_model.specs.declared.events.Reply.TheVariants.{Granted}
use Rattle.ring_model.specs.declared.events.Event.{Event}
use Rattle.std.proofs.lemmas.List.{length-set}
use Rattle.ring_model.proofs.Settled.{move_ring, first_is, only_one, settled_stays}
use Rattle.ring_model.specs.RepairLaws.{passes_left}
use Rattle.ring_model.proofs.FirstPasses.{first_pass as falls, passes_left_means}
use Rattle.ring_model.proofs.Moves.{length_move}
use Rattle.ring_model.proofs.Places.{set_ring}
use Rattle.held_locks.specs.Locks.{Mark, Call, called, first_pass, repairs, fault}
use Rattle.held_locks.specs.Promises.{events_of, number_of, open_after, Alternate}

-- a settled ring
pub record IsGood (a : State ℕ) : Type 0 where
  pub ring : IsRing a.ring
  pub settled : is_settled a.ring.values ≡ true

one : (a : State ℕ) → IsRing a.ring → 1 ≤ length a.ring.values
one a g = let two = g.two in omega arith

-- ---- a grant

pub grant_state : (a : State ℕ) (order : ℕ) → IsRing a.ring → next till a (first_pass a order) ≡ granted_state till a (first_privileged a.ring.values) order
grant_state a order g = let e : is_privileged a.ring.values (first_privileged a.ring.values) ≡ true = (first_is a.ring.values (one a g)).1 in rw e refl

pub grant_reply : (a : State ℕ) (order : ℕ) → IsRing a.ring → reply till a (first_pass a order) ≡ Granted (a.grants + 1) (till.answer a.content (first_privileged a.ring.values) order)
grant_reply a order g = let e : is_privileged a.ring.values (first_privileged a.ring.values) ≡ true = (first_is a.ring.values (one a g)).1 in rw e refl

pub grant_number : (a : State ℕ) (order : ℕ) → IsRing a.ring → number_of (reply till a (first_pass a order)) ≡ Some (a.grants + 1)
grant_number a order g = ap (λ (r : Reply). number_of r) (grant_reply a order g)

pub grant_grants : (a : State ℕ) (order : ℕ) → IsRing a.ring → (next till a (first_pass a order)).grants ≡ a.grants + 1
grant_grants a order g = ap (λ (s : State ℕ). s.grants) (grant_state a order g)

pub grant_step : (a : State ℕ) (seat order : ℕ) → IsRing a.ring → Step till a (called a seat (first_pass a order)) (next till a (first_pass a order))
grant_step a seat order g =
    let f = first_is a.ring.values (one a g) in
    let e : is_privileged a.ring.values (first_privileged a.ring.values) ≡ true = f.1 in
    rw e (f.0, e, refl, refl, refl)

pub grant_ring : (a : State ℕ) (order : ℕ) → IsRing a.ring → IsRing (next till a (first_pass a order)).ring
grant_ring a order g = subst (λ (s : State ℕ). IsRing s.ring) (sym (grant_state a order g)) (move_ring a.ring (first_privileged a.ring.values) g (first_is a.ring.values (one a g)).0)

pub grant_good : (a : State ℕ) (order : ℕ) → IsGood a → IsGood (next till a (first_pass a order))
grant_good a order h =
    let f = first_is a.ring.values (one a h.ring) in record {
      ring = grant_ring a order h.ring;
      settled = subst (λ (s : State ℕ). is_settled s.ring.values ≡ true) (sym (grant_state a order h.ring)) (settled_stays a.ring (first_privileged a.ring.values) h.ring f.0 f.1 h.settled);
    }

-- ---- what is carried

pub other_below : (p n : ℕ) → 2 ≤ n → (if p == 0 then 1 else 0) < n
other_below p n l = go (p == 0)
  where
    go : (b : Bool) → (if b then 1 else 0) < n
    go true = omega (arith, l)
    go false = omega (arith, l)

other_than : (p : ℕ) → (if p == 0 then 1 else 0) ≢ p
other_than p = go (p == 0) refl
  where
    go : (b : Bool) → (p == 0) ≡ b → (if b then 1 else 0) ≢ p
    go true q e = let z = eqb-true p 0 q in omega (arith, z, e)
    go false q e = eqb-false p 0 q (sym e)

-- a machine that is not privileged: its pass is a step that leaves the ring as it is
pub other_waits : (a : State ℕ) → IsGood a → is_privileged a.ring.values (other_machine a) ≡ false
other_waits a g =
    let two = g.ring.two in
    let below : other_machine a < length a.ring.values = other_below (first_privileged a.ring.values) (length a.ring.values) (omega arith) in
    let f = first_is a.ring.values (one a g.ring) in
    false_from_ne_true (is_privileged a.ring.values (other_machine a)) (λ e.
    other_than (first_privileged a.ring.values) (only_one a.ring.values (other_machine a) (first_privileged a.ring.values) g.settled below f.0 e f.1))

pub carry_step : (a : State ℕ) (token : ℕ) → IsGood a →
    Step till a (called a 3 (op.Pass (other_machine a) token)) (next till a (op.Pass (other_machine a) token)) × (next till a (op.Pass (other_machine a) token) ≡ a)
carry_step a token g =
    let e : is_privileged a.ring.values (other_machine a) ≡ false = other_waits a g in
    let two = g.ring.two in
    let below : other_machine a < length a.ring.values = other_below (first_privileged a.ring.values) (length a.ring.values) (omega arith) in
    (rw e (below, e, refl), rw e refl)

-- ---- a repair

repair_size : (a : State ℕ) (order : ℕ) → IsRing a.ring → length (next till a (first_pass a order)).ring.values ≡ length a.ring.values
repair_size a order g = ap (λ (s : State ℕ). length s.ring.values) (grant_state a order g) ∙ length_move a.ring (first_privileged a.ring.values)

repair_falls : (a : State ℕ) (most : ℕ) → IsRing a.ring → passes_left a.ring ≤ suc most → passes_left (next till a (first_pass a 0)).ring ≤ most
repair_falls a most g l =
    let e : passes_left (next till a (first_pass a 0)).ring ≡ passes_left (moved a.ring (first_privileged a.ring.values)) = ap (λ (s : State ℕ). passes_left s.ring) (grant_state a 0 g) in
    let d : passes_left (moved a.ring (first_privileged a.ring.values)) ≡ passes_left a.ring - 1 = falls a.ring (first_privileged a.ring.values) g refl in
    omega arith

-- what repairs do, by whether the ring is settled
pub record AreRepairs (a : State ℕ) (es : List Event) : Type 0 where
  pub good : IsGood (after till a es)
  pub legal : IsLegal till a es
  pub grants : a.grants ≤ (after till a es).grants
  pub size : length (after till a es).ring.values ≡ length a.ring.values

abbrev repaired : ℕ → State ℕ → Bool → List Event
repaired most a settled = if settled then [] else (called a 9 (first_pass a 0) ∷ repairs most (next till a (first_pass a 0)))

one_more : (most : ℕ) (a : State ℕ) → IsRing a.ring → AreRepairs (next till a (first_pass a 0)) (repairs most (next till a (first_pass a 0))) → (s : Bool) → is_settled a.ring.values ≡ s → AreRepairs a (repaired most a s)
one_more most a g more true e = record { good = record { ring = g; settled = e }; legal = tt; grants = omega arith; size = refl }
one_more most a g more false e =
    let n : (next till a (first_pass a 0)).grants ≡ a.grants + 1 = grant_grants a 0 g in
    let m : (next till a (first_pass a 0)).grants ≤ (after till (next till a (first_pass a 0)) (repairs most (next till a (first_pass a 0)))).grants = more.grants in record {
      good = more.good;
      legal = (grant_step a 9 0 g, more.legal);
      grants = omega arith;
      size = more.size ∙ repair_size a 0 g;
    }

pub repairs_are : (most : ℕ) (a : State ℕ) → IsRing a.ring → passes_left a.ring ≤ most → AreRepairs a (repairs most a)
repairs_are zero a g l = record { good = record { ring = g; settled = (passes_left_means a.ring g).0 (omega arith) }; legal = tt; grants = omega arith; size = refl }
repairs_are (suc most) a g l = one_more most a g (repairs_are most (next till a (first_pass a 0)) (grant_ring a 0 g) (repair_falls a most g l)) (is_settled a.ring.values) refl

few_more : (most : ℕ) (a : State ℕ) → length (repairs most (next till a (first_pass a 0))) ≤ most → (s : Bool) → length (repaired most a s) ≤ suc most
few_more most a more true = omega arith
few_more most a more false = omega arith

pub repairs_few : (most : ℕ) (a : State ℕ) → length (repairs most a) ≤ most
repairs_few zero a = omega arith
repairs_few (suc most) a = few_more most a (repairs_few most (next till a (first_pass a 0))) (is_settled a.ring.values)

-- they are not grants of a lock, and end no hold
pub record AreNoHolds (token : Option ℕ) (ms : List Mark) : Type 0 where
  pub alternate : Alternate token ms
  pub same : open_after token ms ≡ token

no_hold_more : (most : ℕ) (a : State ℕ) (token : Option ℕ) → AreNoHolds token (map Call (repairs most (next till a (first_pass a 0)))) → (s : Bool) → AreNoHolds token (map Call (repaired most a s))
no_hold_more most a token more true = record { alternate = tt; same = refl }
no_hold_more most a token more false = record { alternate = ((λ e. absurd (omega (arith, e))), (λ e. absurd (omega (arith, e))), more.alternate); same = more.same }

pub repairs_no_holds : (most : ℕ) (a : State ℕ) (token : Option ℕ) → AreNoHolds token (map Call (repairs most a))
repairs_no_holds zero a token = record { alternate = tt; same = refl }
repairs_no_holds (suc most) a token = no_hold_more most a token (repairs_no_holds most (next till a (first_pass a 0)) token) (is_settled a.ring.values)

-- ---- a fault

pub fault_is : (a : State ℕ) (i v : ℕ) → IsRing a.ring → i < length a.ring.values → v < a.ring.k → AreRepairs a (fault a i v)
fault_is a i v g l m =
    let r : IsRing (written a.ring i v) = set_ring a.ring i v g l m in
    let n : length (written a.ring i v).values ≡ length a.ring.values = simp length-set in
    let few : passes_left (written a.ring i v) ≤ most_passes (length a.ring.values) = subst (λ (x : ℕ). passes_left (written a.ring i v) ≤ most_passes x) n (passes_left_means (written a.ring i v) r).2 in
    let are = repairs_are (most_passes (length a.ring.values)) (next till a (op.Corrupt i v)) r few in record {
      good = are.good;
      legal = ((l, m, refl, refl), are.legal);
      grants = are.grants;
      size = are.size ∙ n;
    }

pub fault_no_holds : (a : State ℕ) (i v : ℕ) (token : Option ℕ) → AreNoHolds token (map Call (fault a i v))
fault_no_holds a i v token =
    let more = repairs_no_holds (most_passes (length a.ring.values)) (next till a (op.Corrupt i v)) token in
    record { alternate = ((λ e. absurd (omega (arith, e))), (λ e. absurd (omega (arith, e))), more.alternate); same = more.same }

pub fault_few : (a : State ℕ) (i v : ℕ) → length (fault a i v) ≤ 1 + most_passes (length a.ring.values)
fault_few a i v = let few : length (repairs (most_passes (length a.ring.values)) (next till a (op.Corrupt i v))) ≤ most_passes (length a.ring.values) = repairs_few (most_passes (length a.ring.values)) (next till a (op.Corrupt i v)) in omega arith

pub events_of_calls : (es : List Event) → events_of (map Call es) ≡ es
events_of_calls [] = refl
events_of_calls (e ∷ es) = ap (λ (xs : List Event). e ∷ xs) (events_of_calls es)
