-- How long fields are.
use Rattle.std.proofs.Common.{◌≡◌, ℕ, length, length-append}
use Rattle.byteorder.specs.Numbers.{length-bytes_low_first}
use Rattle.fuse_wire.specs.Fields.{u16, u32, u64}

pub length-u16 : (n : ℕ) → length (u16 n) ≡ 2
unfolding u16
length-u16 n = length-bytes_low_first 0 2 n

pub length-u32 : (n : ℕ) → length (u32 n) ≡ 4
unfolding u32
length-u32 n = length-bytes_low_first 0 4 n

pub length-u64 : (n : ℕ) → length (u64 n) ≡ 8
unfolding u64
length-u64 n = length-bytes_low_first 0 8 n

pub ruleset lengths = (length-u16, length-u32, length-u64, length-append)
