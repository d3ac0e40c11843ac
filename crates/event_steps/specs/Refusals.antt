-- What the kernel refused a client since its last reply.
use Rattle.std.specs.Prelude.{Bool, true, false}
use Rattle.libfs.specs.declared.denial.Denied.{Denied}
use Rattle.libfs.specs.declared.denial.Denied.TheVariants as denied
use Rattle.event_steps.specs.declared.outcome.Refusal.{Refusal}
use Rattle.event_steps.specs.declared.outcome.Refusal.TheVariants as refusals
use Rattle.event_steps.specs.declared.refusals.Refusals.{Refusals}

abbrev pub no_refusals : Refusals
no_refusals = record { units = false; inode = false; device = false; failed = false; memory = false }

-- with one more; turns are nothing that the kernel refuses
abbrev pub with_refusal : Refusals → Denied → Refusals
with_refusal r denied.NoUnits = record r { units = true }
with_refusal r denied.NoInode = record r { inode = true }
with_refusal r denied.Device = record r { device = true }
with_refusal r denied.KernelFailed = record r { failed = true }
with_refusal r denied.Memory = record r { memory = true }
with_refusal r denied.Turns = r

abbrev pub has_refusal : Refusals → Denied → Bool
has_refusal r denied.NoUnits = r.units
has_refusal r denied.NoInode = r.inode
has_refusal r denied.Device = r.device
has_refusal r denied.KernelFailed = r.failed
has_refusal r denied.Memory = r.memory
has_refusal r denied.Turns = false

-- the refusal for what a client was denied
abbrev pub refusal_of : Denied → Refusal
refusal_of denied.NoUnits = refusals.NoUnits
refusal_of denied.NoInode = refusals.NoInode
refusal_of denied.Device = refusals.DeviceFault
refusal_of denied.KernelFailed = refusals.KernelFailed
refusal_of denied.Memory = refusals.Memory
refusal_of denied.Turns = refusals.Busy
