-- A handle of C after what it lent was written (this project's own).
use Rattle.wozgirt_c.specs.declared.handle.Handle.{Handle}
use Rattle.wozgirt_c.specs.declared.lock_handle.LockHandle.{LockHandle}
use Rattle.c_calls.specs.declared.kept.Kept.{Kept}
use Rattle.c_calls.specs.declared.desks.LockDesk.{LockDesk}

-- the handle with another ring in its box
abbrev pub with_ring : Handle → Kept → Handle
with_ring h ring = record { at = h.at; alloc = h.alloc; full = h.full; value = ring }

-- the handle with other locks in its box
abbrev pub with_locks : LockHandle → LockDesk → LockHandle
with_locks h locks = record { at = h.at; alloc = h.alloc; full = h.full; value = locks }
