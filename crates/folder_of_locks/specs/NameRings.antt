-- The rings of locks by any name when these start, and their names (this project's own).
use Rattle.std.specs.Prelude.{◌≡◌, ℕ, suc, ◌+◌, ◌-◌, ◌≤◌, List, [], ◌∷◌, ◌++◌, drop, length, replicate, Option, Some, None, option_map, ◌⊎◌}
use Rattle.std.specs.List.{sum_by}
use Rattle.ring_model.specs.declared.bases.Base.{Base}
use Rattle.ring_state.specs.Sizes.{Size}
use Rattle.saved_history.specs.declared.saved.SavedRing.{SavedRing}
use Rattle.one_thread_ring.specs.Journals.{event_lines}
use Rattle.held_locks.specs.declared.answers.Holder.{Holder}
use Rattle.held_locks.specs.Queues.{Lock}
use Rattle.held_locks.specs.Kept.{LockView, locks_of}
use Rattle.lock_names.specs.Names.{Bound, total}
use Rattle.lock_names.specs.Kept.{NamedView, top_limit}
use Rattle.lock_names.specs.Restored.{IsRestored, CannotRestore}
use Rattle.lock_names.specs.declared.restoring.NotRestored.TheVariants as not_restored
use Rattle.name_remarks.specs.Remarks.{Binding, free, remark_text}
use Rattle.name_remarks.specs.Bindings.{Bindings, bound_at}
use Rattle.folder_of_locks.specs.Lists.{Listed}
use Rattle.folder_of_locks.specs.Pools.{pool_ring}
use Rattle.folder_of_locks.specs.declared.faults.StartFault.{StartFault}
use Rattle.folder_of_locks.specs.declared.faults.StartFault.TheVariants as fault

-- fixed locks, and after them n rings of a pool
abbrev pub with_rings : List Listed → Size → ℕ → List Listed
with_rings ls s n = ls ++ replicate n (pool_ring s)

-- ---- their names

-- the same binding, for the machine
abbrev pub bound_in : Binding → Bound
bound_in b = record { name = b.name; before = b.before; floor = b.floor }

-- a ring that a client holds has the name to which it is bound, and no other ring has one: the line
-- that it lost its name may be torn off
abbrev pub name_held : Option Holder → Option Binding → Option Bound
name_held None o = None
name_held (Some h) o = option_map bound_in o

-- the names of these locks, of which the first has this number
abbrev pub names_held : ℕ → List (Option Binding) → List LockView → List (Option Bound)
names_held i os [] = []
names_held i os (v ∷ vs) = name_held v.holder (bound_at os i) ∷ names_held (suc i) os vs

-- ---- all grants

-- the grants that these rings had before a segment
abbrev pub grants_before : List Base → ℕ
grants_before bs = sum_by (λ (b : Base). b.grants) bs

-- How many grants there were of all rings for ever: those before the segment, as it says, and those
-- since. If it does not say it, no ring has ever left the folder.
abbrev pub top_now : Option ℕ → List Base → List Lock → ℕ
top_now None bs ls = total ls
top_now (Some floor) bs ls = floor + (total ls - grants_before bs)

-- ---- locks that have names again

-- The first locks have these names for ever, and the others those that were recorded, as far as
-- they are held.
abbrev pub AreNamed : List LockView → List (List ℕ) → List Base → Bindings → NamedView → Type 0
AreNamed vs ns bs t s =
    IsRestored vs ns (names_held (length ns) t.rings (drop (length ns) vs))
    (top_now t.top bs (locks_of vs)) s

-- what was recorded is not right for these locks, or there were as many grants as there may be
abbrev pub AreUnnamed : List LockView → List (List ℕ) → List Base → Bindings → StartFault → Type 0
AreUnnamed vs ns bs t (fault.Names why) =
    CannotRestore vs ns (names_held (length ns) t.rings (drop (length ns) vs))
    (top_now t.top bs (locks_of vs)) why
    ⊎ ((why ≡ not_restored.Full) × (top_limit ≤ total (locks_of vs)))
AreUnnamed vs ns bs t fault.OutOfMemory = Unit {0}
AreUnnamed vs ns bs t _ = ⊥

-- ---- what is added to the lines of a segment that ends where locks start

-- a ring of the pool has no name any more: its hold has ended, and no line says so
abbrev pub freed : ℕ → Option Binding → List ℕ
freed i None = []
freed i (Some b) = remark_text (free i)

abbrev pub free_line : ℕ → Option Holder → Option Binding → List ℕ
free_line i None o = freed i o
free_line i (Some h) o = []

-- the same of these locks, of which the first has this number
abbrev pub free_lines : ℕ → List (Option Binding) → List LockView → List ℕ
free_lines i os [] = []
free_lines i os (v ∷ vs) = free_line i v.holder (bound_at os i) ++ free_lines (suc i) os vs

-- the events of rings since they were recorded so, of which the first has this number: those of their
-- repair
abbrev pub repair_lines : ℕ → List SavedRing → List LockView → List ℕ
repair_lines i [] vs = []
repair_lines i (s ∷ ss) [] = []
repair_lines i (s ∷ ss) (v ∷ vs) =
    event_lines i (drop (length s.events.items) v.ring.ring.book.history)
    ++ repair_lines (suc i) ss vs

-- The lines that are kept, and after them what is missing: so each hold that has ended in the pool is
-- followed by the loss of its name, and each ring is settled.
abbrev pub front_text : List ℕ → ℕ → Bindings → List SavedRing → List LockView → List ℕ
front_text kept fixed t ss vs =
    kept ++ (free_lines fixed t.rings (drop fixed vs) ++ repair_lines 0 ss vs)
