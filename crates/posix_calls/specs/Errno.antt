-- The names that the standard has for the errors.
use Rattle.std.specs.Prelude.{ℕ, List, codes}
use Rattle.posix_calls.specs.declared.errno.Errno.{Errno}
use Rattle.posix_calls.specs.declared.errno.Errno.TheVariants.{Again, BadDescriptor, Busy, Exists, FileTooBig, Invalid, IoError, IsDirectory, TooManyOpen, TooManyLinks, NameTooLong, NoEntry, NoMemory, NoSpace, NotDirectory, NotEmpty, NotPermitted}

-- the bytes of each error's name in `errno.h`
abbrev pub standard_name : Errno → List ℕ
standard_name Again = codes "EAGAIN"
standard_name BadDescriptor = codes "EBADF"
standard_name Busy = codes "EBUSY"
standard_name Exists = codes "EEXIST"
standard_name FileTooBig = codes "EFBIG"
standard_name Invalid = codes "EINVAL"
standard_name IoError = codes "EIO"
standard_name IsDirectory = codes "EISDIR"
standard_name TooManyOpen = codes "EMFILE"
standard_name TooManyLinks = codes "EMLINK"
standard_name NameTooLong = codes "ENAMETOOLONG"
standard_name NoEntry = codes "ENOENT"
standard_name NoMemory = codes "ENOMEM"
standard_name NoSpace = codes "ENOSPC"
standard_name NotDirectory = codes "ENOTDIR"
standard_name NotEmpty = codes "ENOTEMPTY"
standard_name NotPermitted = codes "EPERM"
