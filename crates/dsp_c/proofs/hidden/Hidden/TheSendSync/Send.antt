-- What a handle leads to may go to another thread, and so may nothing.
use Rattle.std.specs.Prelude.{Option, Some, None}
use mir.Raw.{raw}
use denote.Memory.{lone}
use denote.Struct.Struct.{exits_of}
use denote.Struct.Owning.{shape, fields, to}
use denote.Param.Send.{IsSend, AllSend, owning_send, struct_send, sendable}
use Rattle.std.proofs.Crossing as heap
use Rattle.std_alloc.proofs.SendSync.{quiet, lies}
use Rattle.std_heap.proofs.Global.TheSendSync as handle
use Rattle.dsp_c.specs.contracts.held.Held as row
use Rattle.dsp_c.specs.declared.held.Held as Held
use Rattle.dsp_c.specs.Holding.{if_some}
use Rattle.std.specs.declared.alloc.Global.{Global}
use Rattle.std.specs.contracts.impls.GlobalAllocator.TheImpl.{ghosts}
use Rattle.std_alloc.specs.Box.Ownership.{box_owns}
use base.Shift.{Keyless}
use denote.RawPtr.{Ptr}
use Rattle.dsp_c.proofs.held.Held.TheSendSync.{the_send as held}
use Rattle.dsp_c.specs.contracts.hidden.Hidden.{the_row, the_type}

keyless : (alloc : Global) (at : Ptr) (o : Option Held.Held) →
    Keyless (if_some (λ (x : Held.Held). box_owns (ghosts.dealloc_token alloc) row.the_row at x) o)
keyless alloc at (Some x) = (lies row.the_row held at x, heap.frees.frees alloc (raw (lone (row.the_row).mir)) at)
keyless alloc at None = tt

pub send : IsSend the_row
send =
    let all : AllSend (fields the_type) = (search sendable, (handle.the_field_send, tt)) in
    owning_send the_type all (λ d. keyless d.alloc d.at d.held)
    (λ k. quiet (to the_type) (exits_of k (fields the_type)) ((struct_send (shape the_type) all).leaving k))
