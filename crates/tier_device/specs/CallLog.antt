-- The calls of a log that keeps the bytes of all writes in one row.
use Rattle.std.specs.Prelude.{ℕ, ◌+◌, List, [], ◌∷◌, take, drop}
use Rattle.tier_device.specs.declared.record.Entry.{Entry}
use Rattle.tier_device.specs.declared.record.Entry.TheVariants as entry
use Rattle.tier_device.specs.DeviceCall.{DeviceCall, Write, Fence}

-- how many bytes of the row are the call's
abbrev pub len_of : Entry → ℕ
len_of (entry.Write t at n) = n
len_of (entry.Fence t) = 0

-- the call whose bytes stand first in the row
abbrev pub call_of : Entry → List ℕ → DeviceCall
call_of (entry.Write t at n) bytes = Write t at (take n bytes)
call_of (entry.Fence t) bytes = Fence t

-- each call's bytes stand behind those of the calls before it
abbrev pub calls_of : List Entry → List ℕ → List DeviceCall
calls_of [] bytes = []
calls_of (e ∷ es) bytes = call_of e bytes ∷ calls_of es (drop (len_of e) bytes)

-- how many bytes of the row are theirs
abbrev pub total_len : List Entry → ℕ
total_len [] = 0
total_len (e ∷ es) = len_of e + total_len es
