-- Which refusal comes first; of a group, of the conditions that the code tests and of the book's own
-- refusal.
use Rattle.std.proofs.Common.{◌≡◌, ◌≢◌, ℕ, ◌+◌, ◌<◌, ◌≤◌, Bool, true, false, ◌&&◌, nat_lt, List, length, Option, Some, None, Result, Ok, Err, IsErrOf, refl, sym, subst, ◌∙◌, ◌↔◌, ◌⊎◌, inl, inr, arith, not, nat_le, ◌==◌, ◌∷◌, []}
use Rattle.std.proofs.lemmas.Bool.{ltb-true, le-leb, lt-leb, lt-ltb, le-ltb, eq-eqb, ne_eqb, cases_lt, false≢true, leb-false, ltb-false, eqb-false}
use Rattle.ring_model.specs.Limits.{event_limit}
use Rattle.std.proofs.lemmas.List.{length-map}
use Rattle.ring_model.specs.Groups.{Rises}
use Rattle.ring_model.specs.declared.events.Event.{Event}
use Rattle.ring_book.specs.BookView.{BookView}
use Rattle.ring_model.specs.GroupLaws.{CanMove}
use Rattle.ring_book.specs.GroupView.{IsLeastWithout}
use Rattle.ring_book.specs.declared.books.groups.GroupError.{GroupError}
use Rattle.ring_book.specs.declared.books.groups.GroupError.TheVariants as group
use Rattle.one_thread_ring.specs.Rings.{group_refusal_of}
use Rattle.one_thread_ring.specs.Clients.{ClientView, told_all, told_of}
use Rattle.one_thread_ring.specs.Refusals.{Bounds, IsDecided, seat_refusal, pass_refusal, corrupt_refusal, group_refusal, rise, first_without, when, first_of, unprivileged}
use Rattle.one_thread_ring.specs.declared.errors.CallError.{CallError}
use Rattle.one_thread_ring.specs.declared.errors.CallError.TheVariants as call
use Rattle.one_thread_ring.proofs.Groups.{both, rise_is, rise_at, rises_few, all_able, least_first, none_all, first_is_least}

-- the answer of a book that refuses
abbrev pub refused_by : {A : Type 0} {E : Type 0} → E → Result A E
refused_by e = Err e

-- the bounds of a call, of a book and of its clients
abbrev pub bounds_kept : {C : Type 0} → BookView C → List ClientView → Bounds
bounds_kept b cs = record { seats = length (told_all b.history cs); ring = b.now.ring; events = length b.history }

pub seated : (h : List Event) (cs : List ClientView) (seat : ℕ) → seat < length cs → seat < length (told_all h cs)
seated h cs seat l = subst (λ (n : ℕ). seat < n) (sym (length-map cs (told_of h))) l

-- ---- where nothing refuses a call

pub seat_in : (b : Bounds) (seat : ℕ) → seat < b.seats → seat_refusal b seat ≡ None
seat_in b seat l = rw (lt-leb b.seats seat l) refl

pub pass_admitted : (b : Bounds) (seat machine : ℕ) → seat < b.seats → machine < length b.ring.values → b.events < event_limit → pass_refusal b seat machine ≡ None
pass_admitted b seat machine s m e = rw (lt-leb b.seats seat s, lt-leb (length b.ring.values) machine m, ne_eqb b.events event_limit (λ q. omega (arith, q, e))) refl

pub corrupt_admitted : (b : Bounds) (seat machine value : ℕ) → seat < b.seats → machine < length b.ring.values → value < b.ring.k → b.events < event_limit → corrupt_refusal b seat machine value ≡ None
corrupt_admitted b seat machine value s m v e =
    rw (lt-leb b.seats seat s, lt-leb (length b.ring.values) machine m, lt-leb b.ring.k value v, ne_eqb b.events event_limit (λ q. omega (arith, q, e))) refl

-- ---- what is so where nothing refuses a call

when_none : (applies : Bool) (why : CallError) (others : List (Option CallError)) → first_of (when applies why ∷ others) ≡ None → (applies ≡ false) × (first_of others ≡ None)
when_none true why others e = absurd (differ why e)
  where
    differ : (x : CallError) → Some x ≡ None → ⊥
    differ x e = cc
when_none false why others e = (refl, e)

first_none : (s : Option ℕ) (others : List (Option CallError)) → first_of (unprivileged s ∷ others) ≡ None → (s ≡ None) × (first_of others ≡ None)
first_none None others e = (refl, e)
first_none (Some m) others e = absurd (differ (call.NotPrivileged m) e)
  where
    differ : (x : CallError) → Some x ≡ None → ⊥
    differ x e = cc

below : (most n : ℕ) → nat_le most n ≡ false → n < most
below most n e = let l = leb-false most n e in omega (arith, l)

pub seat_bounds : (b : Bounds) (seat : ℕ) → seat_refusal b seat ≡ None → seat < b.seats
seat_bounds b seat e = below b.seats seat (off (nat_le b.seats seat) e)
  where
    off : (applies : Bool) → when applies call.NoSeat ≡ None → applies ≡ false
    off true e = absurd (differ e)
      where
        differ : Some call.NoSeat ≡ None → ⊥
        differ e = cc
    off false e = refl

pub pass_bounds : (b : Bounds) (seat machine : ℕ) → pass_refusal b seat machine ≡ None → (seat < b.seats) × (machine < length b.ring.values) × (b.events ≢ event_limit)
pass_bounds b seat machine e =
    let s = when_none (nat_le b.seats seat) call.NoSeat _ e in
    let m = when_none (nat_le (length b.ring.values) machine) call.NoMachine _ s.1 in
    let f = when_none (b.events == event_limit) call.HistoryFull [] m.1 in
    (below b.seats seat s.0, below (length b.ring.values) machine m.0, eqb-false b.events event_limit f.0)

pub corrupt_bounds : (b : Bounds) (seat machine value : ℕ) → corrupt_refusal b seat machine value ≡ None →
    (seat < b.seats) × (machine < length b.ring.values) × (value < b.ring.k) × (b.events ≢ event_limit)
corrupt_bounds b seat machine value e =
    let s = when_none (nat_le b.seats seat) call.NoSeat _ e in
    let m = when_none (nat_le (length b.ring.values) machine) call.NoMachine _ s.1 in
    let v = when_none (nat_le b.ring.k value) call.NoValue _ m.1 in
    let f = when_none (b.events == event_limit) call.HistoryFull [] v.1 in
    (below b.seats seat s.0, below (length b.ring.values) machine m.0, below b.ring.k value v.0, eqb-false b.events event_limit f.0)

pub group_bounds : (b : Bounds) (seat : ℕ) (machines : List ℕ) → group_refusal b seat machines ≡ None →
    (seat < b.seats) × CanMove b.ring.values machines × (b.events + length machines ≤ event_limit)
group_bounds b seat machines e =
    let size : ℕ = length b.ring.values in
    let s = when_none (nat_le b.seats seat) call.NoSeat _ e in
    let r = when_none (not (nat_lt 0 (length machines) && rise 0 size machines)) call.NotRising _ s.1 in
    let w = when_none (length machines == size) call.WholeRing _ r.1 in
    let u = first_none (first_without b.ring.values machines) _ w.1 in
    let f = when_none (nat_lt event_limit (b.events + length machines)) call.HistoryFull [] u.1 in
    let x = both (nat_lt 0 (length machines)) (rise 0 size machines) (not_not _ r.0) in
    let rising = rise_is 0 size machines x.1 in
    let few = rises_few 0 size machines (omega arith) rising in
    let ne = eqb-false (length machines) size w.0 in
    let some : 1 ≤ length machines = omega (arith, ltb-true 0 (length machines) x.0) in (
      below b.seats seat s.0,
      record { rising = rising; some = some; fewer = omega (arith, few, ne); able = none_all b.ring.values machines u.0 },
      omega (arith, ltb-false event_limit (b.events + length machines) f.0),
    )
  where
    not_not : (b : Bool) → not b ≡ false → b ≡ true
    not_not true e = refl
    not_not false e = absurd (false≢true (sym e))

-- it is refused only if memory runs out
pub only_memory : (why : Option CallError) (x : CallError) → why ≡ None → (why ≡ Some x) ⊎ ((why ≡ None) × (x ≡ call.OutOfMemory)) → x ≡ call.OutOfMemory
only_memory why x none (inl e) = absurd (differ x (sym none ∙ e))
  where
    differ : (x : CallError) → None ≡ Some x → ⊥
    differ x e = cc
only_memory why x none (inr p) = p.1

-- ---- groups

module _ (b : Bounds) (seat : ℕ) (machines : List ℕ) where
  abbrev values : List ℕ
  values = b.ring.values

  abbrev size : ℕ
  size = length values

  abbrev is_group : Bool
  is_group = nat_lt 0 (length machines) && rise 0 size machines

  is_rising : Rises 0 size machines → 1 ≤ length machines → is_group ≡ true
  is_rising r some = rw (lt-ltb 0 (length machines) (omega (arith, some))) (rise_at 0 size machines r)

  not_rising : (Rises 0 size machines × (1 ≤ length machines) → ⊥) → is_group ≡ false
  not_rising none = go (nat_lt 0 (length machines)) (rise 0 size machines) refl refl
    where
      go : (x y : Bool) → nat_lt 0 (length machines) ≡ x → rise 0 size machines ≡ y → (x && y) ≡ false
      go false y p q = refl
      go true false p q = refl
      go true true p q = absurd (none (rise_is 0 size machines q, omega (arith, ltb-true 0 (length machines) p)))

  pub group_seat : b.seats ≤ seat → group_refusal b seat machines ≡ Some call.NoSeat
  group_seat l = rw (le-leb b.seats seat l) refl

  pub group_rising : seat < b.seats → (Rises 0 size machines × (1 ≤ length machines) → ⊥) → group_refusal b seat machines ≡ Some call.NotRising
  group_rising s none = rw (lt-leb b.seats seat s, not_rising none) refl

  pub group_whole : seat < b.seats → Rises 0 size machines → 1 ≤ length machines → length machines ≡ size → group_refusal b seat machines ≡ Some call.WholeRing
  group_whole s r some e = rw (lt-leb b.seats seat s, is_rising r some, eq-eqb (length machines) size e) refl

  pub group_unprivileged : (m : ℕ) → seat < b.seats → Rises 0 size machines → 1 ≤ length machines → length machines ≢ size → IsLeastWithout values machines m → group_refusal b seat machines ≡ Some (call.NotPrivileged m)
  group_unprivileged m s r some ne least = rw (lt-leb b.seats seat s, is_rising r some, ne_eqb (length machines) size ne, least_first values 0 size machines m r least) refl

  pub group_full : seat < b.seats → CanMove values machines → event_limit < b.events + length machines → group_refusal b seat machines ≡ Some call.HistoryFull
  group_full s c l =
      let fewer = c.fewer in
      rw (lt-leb b.seats seat s, is_rising c.rising c.some, ne_eqb (length machines) size (λ e. omega (arith, e, fewer)), all_able values machines c.able, lt-ltb event_limit (b.events + length machines) l) refl

  pub group_none : seat < b.seats → CanMove values machines → b.events + length machines ≤ event_limit → group_refusal b seat machines ≡ None
  group_none s c l =
      let fewer = c.fewer in
      rw (lt-leb b.seats seat s, is_rising c.rising c.some, ne_eqb (length machines) size (λ e. omega (arith, e, fewer)), all_able values machines c.able, le-ltb event_limit (b.events + length machines) l) refl

  -- a book that refuses none of these lets the group pass, if memory suffices
  pub group_admitted : {A : Type 0} (r : Result A GroupError) → seat < b.seats → Rises 0 size machines → 1 ≤ length machines →
      (IsErrOf r group.WholeRing ↔ length machines ≡ size) → ((m : ℕ) → IsErrOf r (group.NotPrivileged m) ↔ (length machines ≢ size) × IsLeastWithout values machines m) →
      (IsErrOf r group.HistoryFull ↔ CanMove values machines × (event_limit < b.events + length machines)) →
      (r ≡ Err group.WholeRing → ⊥) → ((m : ℕ) → r ≡ Err (group.NotPrivileged m) → ⊥) → (r ≡ Err group.HistoryFull → ⊥) → group_refusal b seat machines ≡ None
  group_admitted r s rising some whole without full w u f =
      let ne : length machines ≢ size = λ e. w (whole.1 e) in
      let first : first_without values machines ≡ None = go (first_without values machines) refl (λ m e. u m ((without m).1 (ne, first_is_least values 0 size machines m rising e))) in
      let few = rises_few 0 size machines (omega arith) rising in
      let can : CanMove values machines = record { rising = rising; some = some; fewer = omega (arith, few, ne); able = none_all values machines first } in
      group_none s can (elim (cases_lt event_limit (b.events + length machines)) [ inl l ↦ absurd (f (full.1 (can, l))) | inr l ↦ l ])
    where
      go : (o : Option ℕ) → first_without values machines ≡ o → ((m : ℕ) → first_without values machines ≡ Some m → ⊥) → first_without values machines ≡ None
      go None e none = e
      go (Some m) e none = absurd (none m e)

  pub group_refused : {A : Type 0} (e : GroupError) → seat < b.seats → Rises 0 size machines → 1 ≤ length machines →
      (refused_by {A = A} e ≡ refused_by group.WholeRing ↔ length machines ≡ size) → ((m : ℕ) → refused_by {A = A} e ≡ refused_by (group.NotPrivileged m) ↔ (length machines ≢ size) × IsLeastWithout values machines m) →
      (refused_by {A = A} e ≡ refused_by group.HistoryFull ↔ CanMove values machines × (event_limit < b.events + length machines)) → IsDecided {A = A} (group_refusal b seat machines) (Err (group_refusal_of e))
  group_refused group.WholeRing s rising some whole without full = inl (group_whole s rising some (whole.0 refl))
  group_refused (group.NotPrivileged m) s rising some whole without full = let x = (without m).0 refl in inl (group_unprivileged m s rising some x.0 x.1)
  group_refused group.HistoryFull s rising some whole without full = let x = full.0 refl in inl (group_full s x.0 x.1)
  group_refused {A} group.OutOfMemory s rising some whole without full =
      inr (group_admitted (refused_by {A = A} group.OutOfMemory) s rising some whole without full (λ e. no_whole e) (λ m e. no_machine m e) (λ e. no_full e), refl)
    where
      no_whole : refused_by {A = A} group.OutOfMemory ≡ Err group.WholeRing → ⊥
      no_whole e = cc

      no_machine : (m : ℕ) → refused_by {A = A} group.OutOfMemory ≡ Err (group.NotPrivileged m) → ⊥
      no_machine m e = cc

      no_full : refused_by {A = A} group.OutOfMemory ≡ Err group.HistoryFull → ⊥
      no_full e = cc

  pub group_answered : {A : Type 0} (a : A) → seat < b.seats → Rises 0 size machines → 1 ≤ length machines →
      (IsErrOf (Ok a) group.WholeRing ↔ length machines ≡ size) → ((m : ℕ) → IsErrOf (Ok a) (group.NotPrivileged m) ↔ (length machines ≢ size) × IsLeastWithout values machines m) →
      (IsErrOf (Ok a) group.HistoryFull ↔ CanMove values machines × (event_limit < b.events + length machines)) → group_refusal b seat machines ≡ None
  group_answered a s rising some whole without full = group_admitted (Ok a) s rising some whole without full (λ e. no_err a group.WholeRing e) (λ m e. no_err a (group.NotPrivileged m) e) (λ e. no_err a group.HistoryFull e)
    where
      no_err : {A : Type 0} (a : A) (e : GroupError) → Ok a ≡ Err e → ⊥
      no_err a e q = cc
