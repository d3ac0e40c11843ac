-- Why a request is refused.
use Rattle.std.specs.Prelude.{◌≡◌}
use Rattle.posix_calls.specs.declared.errno.Errno.TheVariants as errno
use Rattle.fuse_wire.specs.declared.errno.Refusal.{Refusal}
use Rattle.fuse_wire.specs.declared.errno.Refusal.TheVariants as refusal

-- memory was wanting
abbrev pub IsMemory : Refusal → Type 0
IsMemory e = e ≡ refusal.Posix errno.NoMemory
