-- A handle may move to another thread: so may the log that it holds, and the token names no key.
use mir.Raw.{raw}
use base.Shift.{Keyless}
use denote.Memory.{lone}
use denote.RawPtr.{Ptr}
use denote.Struct.Struct.{exits_of}
use denote.Struct.Owning.{shape, fields, to}
use denote.Param.Send.{IsSend, AllSend, owning_send, struct_send, sendable}
use Rattle.std.specs.Prelude.{Option, Some, None}
use Rattle.std.proofs.Crossing.{frees}
use Rattle.std_alloc.proofs.SendSync.{quiet, lies}
use Rattle.broadcast_c.specs.Holding.{heap, holds_log}
use Rattle.broadcast_c.specs.contracts.log_handle.OwnLog as Log
use Rattle.broadcast_c.proofs.log_handle.OwnLog.TheSendSync.{the_send as log}
use Rattle.broadcast_c.specs.contracts.log_handle.LogHandle.{the_row, the_type}

held_keyless : (p : Ptr) (o : Option (Log.the_row).Denot) → Keyless (holds_log p o)
held_keyless p (Some x) = (lies Log.the_row log p x, frees.frees heap (raw (lone (Log.the_row).mir)) p)
held_keyless p None = tt

pub send : IsSend the_row
send =
    let all : AllSend (fields the_type) = (search sendable, (search sendable, tt)) in
    owning_send the_type all (λ d. held_keyless d.at d.value)
    (λ k. quiet (to the_type) (exits_of k (fields the_type)) ((struct_send (shape the_type) all).leaving k))
