-- Lines that are counted down.
use Rattle.std.proofs.Common.{◌≡◌, ℕ, ◌+◌, Bool, true, false, List, [], ◌∷◌, ◌++◌, map, length, get_or, Option, Some, refl, sym, ◌∙◌, ap, subst, arith, slice_get, ◌<◌, ◌-◌, take}
use Rattle.std.specs.List.{sum_by}
use Rattle.std.proofs.lemmas.Bool.{or_parts, or_from}
use Rattle.std.proofs.lemmas.List.{take-map, take_more}
use Rattle.std.proofs.lemmas.List.Sums.{sum_by_more, sum_by-cons}
use Rattle.one_thread_ring.specs.Clients.{ClientView}
use Rattle.endless_ring.specs.Endless.{EndlessView}
use Rattle.ring_service.specs.Standings.{standing_of}
use Rattle.ring_service.specs.Due.{lines_of, lines_in}
use Rattle.held_locks.specs.declared.answers.Left.{Left}
use Rattle.held_locks.specs.Kept.{LockView}
use Rattle.ring_service.proofs.Counting.{kept_count}
use Rattle.std.proofs.lemmas.Option.{get_or_from_slice_get}
use Rattle.held_locks.proofs.AllLeft.{there_is}
use Rattle.lock_journal.proofs.Places.{ring_at, below_map}
use Rattle.lock_journal.proofs.Short.{none_at}
use Rattle.lock_journal.specs.Counting.{count_of_all, lines_at_start, count_of_left}
use Rattle.lock_journal.specs.Due.{has_short, is_short, is_short_at}
use Rattle.lock_journal.specs.Segments.{ring_of}

-- one client's surveys more
pub client_more : (cs : List ClientView) (i from was now : ℕ) (d : ClientView) → i < length cs → d ≡ get_or cs i d → was ≡ from - kept_count (take i cs) → now ≡ was - length d.surveys → now ≡ from - kept_count (take (i + 1) cs)
client_more cs i from was now d l is p q =
    let more : kept_count (take (i + 1) cs) ≡ kept_count (take i cs) + length (get_or cs i d).surveys = sum_by_more (λ (c : ClientView). length c.surveys) cs i d l in
    let size : length d.surveys ≡ length (get_or cs i d).surveys = ap (λ (c : ClientView). length c.surveys) is in
    omega (arith, more, size, p, q)

-- one ring's lines more
pub ring_more : (vs : List LockView) (i from was now : ℕ) (e : EndlessView) → i < length vs → ((v : LockView) → slice_get vs i ≡ Some v → e ≡ v.ring) → was ≡ from - lines_at_start (take i vs) → now ≡ was - lines_in (standing_of e) → now ≡ from - lines_at_start (take (i + 1) vs)
ring_more vs i from was now e l is p q =
    let es : List EndlessView = map ring_of vs in
    let sum : (n : ℕ) → lines_at_start (take n vs) ≡ sum_by (λ (x : EndlessView). lines_in (standing_of x)) (take n es) = λ n. sum_of n in
    let more : sum_by (λ (x : EndlessView). lines_in (standing_of x)) (take (i + 1) es) ≡ sum_by (λ (x : EndlessView). lines_in (standing_of x)) (take i es) + lines_in (standing_of (get_or es i e)) = sum_by_more (λ (x : EndlessView). lines_in (standing_of x)) es i e (below_map vs i l) in
    let size : lines_in (standing_of e) ≡ lines_in (standing_of (get_or es i e)) = ap (λ (x : EndlessView). lines_in (standing_of x)) (ring_at vs i e l is) in
    let before = sum i in
    let after = sum (i + 1) in
    omega (arith, more, size, before, after, p, q)
  where
    counted : (xs : List EndlessView) → lines_of (map standing_of xs) ≡ sum_by (λ (x : EndlessView). lines_in (standing_of x)) xs
    counted [] = refl
    counted (x ∷ xs) = cons (lines_in (standing_of x)) (counted xs)
      where
        cons : (n : ℕ) → lines_of (map standing_of xs) ≡ sum_by (λ (y : EndlessView). lines_in (standing_of y)) xs → lines_of (map standing_of (x ∷ xs)) ≡ sum_by (λ (y : EndlessView). lines_in (standing_of y)) (x ∷ xs)
        cons n e =
            let a : lines_of (map standing_of (x ∷ xs)) ≡ lines_in (standing_of x) + lines_of (map standing_of xs) = sum_by-cons lines_in (standing_of x) (map standing_of xs) in
            let b : sum_by (λ (y : EndlessView). lines_in (standing_of y)) (x ∷ xs) ≡ lines_in (standing_of x) + sum_by (λ (y : EndlessView). lines_in (standing_of y)) xs = sum_by-cons (λ (y : EndlessView). lines_in (standing_of y)) x xs in
            omega (arith, a, b, e)

    sum_of : (n : ℕ) → lines_at_start (take n vs) ≡ sum_by (λ (x : EndlessView). lines_in (standing_of x)) (take n (map ring_of vs))
    sum_of n = counted (map ring_of (take n vs)) ∙ ap (λ (xs : List EndlessView). sum_by (λ (x : EndlessView). lines_in (standing_of x)) xs) (sym (take-map ring_of n vs))

-- the lines of one lock more that a client left
pub left_more : (new : List LockView) (left : List Left) (i from was now : ℕ) (d : Left) → i < length left → d ≡ get_or left i d → was ≡ from - count_of_all new (take i left) → now ≡ was - count_of_left new d → now ≡ from - count_of_all new (take (i + 1) left)
left_more new left i from was now d l is p q =
    let more : count_of_all new (take (i + 1) left) ≡ count_of_all new (take i left) + count_of_left new (get_or left i d) = sum_by_more (count_of_left new) left i d l in
    let size : count_of_left new d ≡ count_of_left new (get_or left i d) = ap (count_of_left new) is in
    omega (arith, more, size, p, q)

-- one lock more that is not short
pub short_push : (vs : List LockView) (v : LockView) → has_short vs ≡ false → is_short v ≡ false → has_short (vs ++ v ∷ []) ≡ false
short_push [] v e f = or_from (is_short v) false f refl
short_push (x ∷ vs) v e f =
    let p = or_parts (is_short x) (has_short vs) e in
    or_from (is_short x) (has_short (vs ++ v ∷ [])) p.0 (short_push vs v p.1 f)

pub short_more : (vs : List LockView) (i : ℕ) → i < length vs → has_short (take i vs) ≡ false → is_short_at (slice_get vs i) ≡ false → has_short (take (i + 1) vs) ≡ false
short_more vs i l e f =
    let v = there_is vs i l in
    let at : get_or vs i v.0 ≡ v.0 = get_or_from_slice_get vs i v.0 v.0 v.1 in
    let more : take (i + 1) vs ≡ take i vs ++ v.0 ∷ [] = take_more vs i v.0 l ∙ ap (λ (x : LockView). take i vs ++ x ∷ []) at in
    subst (λ (x : List LockView). has_short x ≡ false) (sym more) (short_push (take i vs) v.0 e (subst (λ (x : Option LockView). is_short_at x ≡ false) v.1 f))

pub short_there : (vs : List LockView) (i : ℕ) → is_short_at (slice_get vs i) ≡ true → has_short vs ≡ true
short_there vs i e = go (has_short vs) refl
  where
    go : (b : Bool) → has_short vs ≡ b → b ≡ true
    go true f = refl
    go false f = sym (none_at vs i f) ∙ e
