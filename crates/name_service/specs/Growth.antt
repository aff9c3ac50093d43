-- The pool of rings grows where a segment begins (this project's own).
use Rattle.std.specs.Prelude.{◌≡◌, ℕ, zero, suc, ◌+◌, ◌-◌, ◌<◌, ◌≤◌, min, max, false, length, ◌⊎◌}
use Rattle.ring_state.specs.Sizes.{Size}
use Rattle.endless_ring.specs.Endless.{EndlessView}
use Rattle.held_locks.specs.declared.answers.Refusal.{Refusal}
use Rattle.held_locks.specs.declared.answers.Refusal.TheVariants as refusal
use Rattle.held_locks.specs.Kept.{lock_limit, IsKeptRing}
use Rattle.fresh_rings.specs.Fresh.{IsFreshRing, pool_ring}
use Rattle.lock_names.specs.Kept.{NamedView, IsKeptNamed, top_limit}
use Rattle.lock_names.specs.Grown.{AreNextNames, IsGrown}
use Rattle.lock_names.specs.Sizes.{AreUsedUntil, IsWanted}
use Rattle.lock_journal.specs.Due.{HaveNoSegment}
use Rattle.name_service.specs.Naming.{is_wanting}

-- how many rings the pool has
abbrev pub pool_of : NamedView → ℕ
pool_of v = length v.locks - v.fixed

-- The pool should have this number of rings: as many as are wanted beside those in use, but no more
-- than it may have; and none that it has leaves.
pub record IsPoolWanted (most : ℕ) (v : NamedView) (rings : ℕ) : Type 0 where
  pub used : ℕ
  pub until : AreUsedUntil v.names (v.fixed + used)
  pub wanted : ℕ
  pub wanted_is : IsWanted used wanted
  pub is : rings ≡ max (pool_of v) (min wanted most)

-- a fresh ring of this size was added
pub record HasFreshRing (size : Size) (old new : NamedView) : Type 0 where
  pub ring : EndlessView
  pub kept : IsKeptRing ring
  pub fresh : IsFreshRing (pool_ring size) ring
  pub added : IsGrown old new ring

-- n fresh rings were added, one after the other
abbrev pub AreGrown : Size → NamedView → ℕ → NamedView → Type 0
AreGrown size old zero new = new ≡ old
AreGrown size old (suc n) new =
    (mid : NamedView) × AreGrown size old n mid × HasFreshRing size mid new

-- The names of the next segment: nothing of them has changed, and the pool has grown to what it
-- should have.
pub record AreNextGrown (most : ℕ) (size : Size) (old new : NamedView) : Type 0 where
  pub mid : NamedView
  pub continues : AreNextNames old mid
  pub rings : ℕ
  pub wanted : IsPoolWanted most old rings
  pub grown : AreGrown size mid (rings - pool_of old) new

-- a number of rings cannot be added: there would be more locks than there may be, or as many grants
-- were made as are counted
abbrev pub CannotAdd : NamedView → ℕ → Type 0
CannotAdd v more = (0 < more) × ((lock_limit < length v.locks + more) ⊎ (top_limit ≤ v.top))

-- the pool should grow, and cannot
pub record IsUngrown (most : ℕ) (v : NamedView) : Type 0 where
  pub rings : ℕ
  pub wanted : IsPoolWanted most v rings
  pub why : CannotAdd v (rings - pool_of v)

-- there are no names of a next segment: the locks have none, or the pool cannot grow
abbrev pub HaveNoNextGrown : ℕ → NamedView → Refusal → Type 0
HaveNoNextGrown most v why =
    HaveNoSegment v.locks why ⊎ ((why ≡ refusal.Full) × IsUngrown most v)

-- ---- laws

-- a pool should have one number of rings
abbrev pub PoolWantedIsOne : Type 0
PoolWantedIsOne =
    (most : ℕ) (v : NamedView) (a b : ℕ) → IsPoolWanted most v a → IsPoolWanted most v b → a ≡ b

-- The next segment is not due because no ring is free: one is, or the pool has as many as it may
-- have.
abbrev pub NextWantsNoRing : Type 0
NextWantsNoRing =
    (most : ℕ) (size : Size) (old new : NamedView) → IsKeptNamed old
    → AreNextGrown most size old new → is_wanting most new ≡ false
