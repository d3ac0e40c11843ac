-- The numbers of errors, as asm-generic/errno-base.h and asm-generic/errno.h have them.
use Rattle.std.specs.Prelude.{ℕ}
use Rattle.posix_calls.specs.declared.errno.Errno.{Errno}
use Rattle.posix_calls.specs.declared.errno.Errno.TheVariants as errno
use Rattle.fuse_wire.specs.declared.errno.Refusal.{Refusal}
use Rattle.fuse_wire.specs.declared.errno.Refusal.TheVariants as refusal

abbrev pub errno_number : Errno → ℕ
errno_number errno.NotPermitted = 1
errno_number errno.NoEntry = 2
errno_number errno.IoError = 5
errno_number errno.BadDescriptor = 9
errno_number errno.Again = 11
errno_number errno.NoMemory = 12
errno_number errno.Busy = 16
errno_number errno.Exists = 17
errno_number errno.NotDirectory = 20
errno_number errno.IsDirectory = 21
errno_number errno.Invalid = 22
errno_number errno.TooManyOpen = 24
errno_number errno.FileTooBig = 27
errno_number errno.NoSpace = 28
errno_number errno.TooManyLinks = 31
errno_number errno.NameTooLong = 36
errno_number errno.NotEmpty = 39

-- ENOSYS for what is not served, and ESTALE for a node that is gone
abbrev pub refusal_number : Refusal → ℕ
refusal_number (refusal.Posix e) = errno_number e
refusal_number refusal.NotServed = 38
refusal_number refusal.StaleNode = 116
