-- The sums over locks with the ring of one lock more.
use Rattle.std.proofs.Common.{◌≡◌, ℕ, ◌+◌, ◌<◌, ◌≤◌, List, length, take, get_or, Some, slice_get, sym, ap, subst, ◌∙◌, inl, inr, arith}
use Rattle.std.specs.List.{sum_by}
use Rattle.std.proofs.lemmas.List.Sums.{sum_by_more, sum_by_more_le}
use Rattle.std.proofs.lemmas.Option.{get_or_from_slice_get}
use Rattle.endless_ring.specs.Endless.{EndlessView}
use Rattle.held_locks.proofs.AllLeft.{there_is}
use Rattle.held_locks.specs.Kept.{LockView}
use Rattle.lock_commands.specs.declared.totals.Sums.{Sums}
use Rattle.lock_commands.specs.Totals.{events_of, grants_of, sums_of, with_ring, AreTooLarge}

-- what a number adds up to with the lock at a place
more : (f : EndlessView → ℕ) (vs : List LockView) (i : ℕ) (e : EndlessView) → i < length vs → ((v : LockView) → slice_get vs i ≡ Some v → e ≡ v.ring) →
    sum_by (λ (v : LockView). f v.ring) (take (i + 1) vs) ≡ sum_by (λ (v : LockView). f v.ring) (take i vs) + f e
more f vs i e below is =
    let v = there_is vs i below in
    let here : get_or vs i v.0 ≡ v.0 = get_or_from_slice_get vs i v.0 v.0 v.1 in
    let same : f (get_or vs i v.0).ring ≡ f e = ap (λ (x : LockView). f x.ring) here ∙ sym (ap f (is v.0 v.1)) in
    sum_by_more (λ (x : LockView). f x.ring) vs i v.0 below ∙ ap (λ (n : ℕ). sum_by (λ (x : LockView). f x.ring) (take i vs) + n) same

within : (f : EndlessView → ℕ) (vs : List LockView) (i : ℕ) (e : EndlessView) → i < length vs → ((v : LockView) → slice_get vs i ≡ Some v → e ≡ v.ring) →
    sum_by (λ (v : LockView). f v.ring) (take i vs) + f e ≤ sum_by (λ (v : LockView). f v.ring) vs
within f vs i e below is =
    let v = there_is vs i below in
    let here : get_or vs i v.0 ≡ v.0 = get_or_from_slice_get vs i v.0 v.0 v.1 in
    let same : f (get_or vs i v.0).ring ≡ f e = ap (λ (x : LockView). f x.ring) here ∙ sym (ap f (is v.0 v.1)) in
    let less : sum_by (λ (x : LockView). f x.ring) (take i vs) + f (get_or vs i v.0).ring ≤ sum_by (λ (x : LockView). f x.ring) vs = sum_by_more_le (λ (x : LockView). f x.ring) vs i v.0 below in
    omega (arith, same, less)

pub sums_more : (vs : List LockView) (i : ℕ) (e : EndlessView) (all now : Sums) → i < length vs → ((v : LockView) → slice_get vs i ≡ Some v → e ≡ v.ring) → all ≡ sums_of (take i vs) → now ≡ with_ring all e →
    now ≡ sums_of (take (i + 1) vs)
sums_more vs i e all now below is was with =
    let events = more events_of vs i e below is in
    let granted = more grants_of vs i e below is in
    with ∙ (ap (λ (s : Sums). with_ring s e) was ∙ (λ j. record { events = sym events j; granted = sym granted j }))

large_at : (vs : List LockView) (i : ℕ) (e : EndlessView) → i < length vs → ((v : LockView) → slice_get vs i ≡ Some v → e ≡ v.ring) → AreTooLarge (with_ring (sums_of (take i vs)) e) → AreTooLarge (sums_of vs)
large_at vs i e below is (inl many) = let less = within events_of vs i e below is in inl (omega (arith, less, many))
large_at vs i e below is (inr many) = let less = within grants_of vs i e below is in inr (omega (arith, less, many))

-- sums that are too large with one ring more are too large with all
pub large_with : (vs : List LockView) (i : ℕ) (e : EndlessView) (all : Sums) → i < length vs → ((v : LockView) → slice_get vs i ≡ Some v → e ≡ v.ring) → all ≡ sums_of (take i vs) → AreTooLarge (with_ring all e) → AreTooLarge (sums_of vs)
large_with vs i e all below is was many = large_at vs i e below is (subst (λ (s : Sums). AreTooLarge (with_ring s e)) was many)
