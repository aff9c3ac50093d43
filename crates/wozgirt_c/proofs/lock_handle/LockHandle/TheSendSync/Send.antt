-- What a handle has says the same to every thread.
use mathlib.Core.Bool.{Bool, true, false}
use mir.Raw.{raw}
use base.Fml.{Fml}
use base.Shift.{Keyless}
use denote.Memory.{lone}
use denote.Builtin.{RawPtr}
use denote.RawPtr.{Ptr, block_ptr, null_ptr}
use denote.Struct.Struct.{exits_of}
use denote.Struct.Owning.{shape, fields, to}
use denote.Param.Send.{IsSend, AllSend, owning_send, struct_send, sendable}
use Rattle.std.proofs.Crossing.{frees}
use Rattle.std.proofs.alloc.Global.TheSendSync as heap
use Rattle.std_alloc.proofs.SendSync.{quiet, lies}
use Rattle.wozgirt_c.specs.Held.{held}
use Rattle.c_calls.specs.contracts.desks.LockDesk as kept
use Rattle.c_calls.proofs.desks.LockDesk.TheSendSync as kept_sent
use Rattle.wozgirt_c.specs.contracts.lock_handle.LockHandle as handle

ps : IsSend RawPtr
ps = search sendable

held_keyless : (p : Ptr) (full : Bool) (F : Fml) → Keyless F → Keyless (held p full F)
held_keyless null_ptr false F k = tt
held_keyless null_ptr true F k = tt
held_keyless (block_ptr b o) true F k = ((λ _. tt), k)
held_keyless (block_ptr b o) false F k = tt

pub send : IsSend handle.the_row
send = let O = handle.the_type in let all : AllSend (fields O) = (ps, (heap.the_field_send, tt)) in
    owning_send O all (λ d. held_keyless d.at d.full _ (lies kept.the_row kept_sent.the_send d.at d.value, frees.frees d.alloc (raw (lone kept.the_row.mir)) d.at)) (λ k. quiet (to O) (exits_of k (fields O)) ((struct_send (shape O) all).leaving k))
