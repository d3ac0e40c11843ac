-- What a call is answered whose need was denied.
use Rattle.posix_calls.specs.declared.errno.Errno.{Errno}
use Rattle.posix_calls.specs.declared.errno.Errno.TheVariants.{Again, IoError, NoMemory, NoSpace}
use Rattle.libfs.specs.declared.denial.Denied.{Denied}
use Rattle.libfs.specs.declared.denial.Denied.TheVariants.{NoUnits, NoInode, Device, KernelFailed, Memory, Turns}

abbrev pub errno_of : Denied → Errno
errno_of NoUnits = NoSpace
errno_of NoInode = NoSpace
errno_of Device = IoError
errno_of KernelFailed = IoError
errno_of Memory = NoMemory
errno_of Turns = Again
