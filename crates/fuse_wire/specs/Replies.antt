-- What bytes a reply is: the fields of the structures of linux/fuse.h in their order.
use Rattle.std.specs.Prelude.{ℕ, ◌+◌, ◌-◌, ◌%◌, ◌^◌, ◌≤◌, ◌<◌, List, [], ◌∷◌, ◌++◌, length, take, replicate}
use Rattle.std.specs.List.{flat_map}
use Rattle.fuse_wire.specs.declared.fields.Field.{Field}
use Rattle.fuse_wire.specs.declared.fields.Field.TheVariants.{Two, Four, Eight}
use Rattle.fuse_wire.specs.declared.replies.Time.{Time}
use Rattle.fuse_wire.specs.declared.replies.Attr.{Attr}
use Rattle.fuse_wire.specs.declared.replies.Entry.{Entry}
use Rattle.fuse_wire.specs.declared.replies.OpenFile.{OpenFile}
use Rattle.fuse_wire.specs.declared.replies.StatFs.{StatFs}
use Rattle.fuse_wire.specs.declared.init.InitReply.{InitReply}
use Rattle.fuse_wire.specs.declared.dirents.DirentKind.{DirentKind}
use Rattle.fuse_wire.specs.declared.dirents.DirentKind.TheVariants as dirent_kind
use Rattle.fuse_wire.specs.declared.dirents.Dirent.{Dirent}
use Rattle.fuse_wire.specs.Fields.{fields_bytes}

-- the header: the length of the reply, the error, and the request that it answers
abbrev pub header_fields : ℕ → ℕ → ℕ → List Field
header_fields len error unique = Four len ∷ Four error ∷ Eight unique ∷ []

-- a reply without error: the header, and a body
unfoldable pub reply_bytes : ℕ → List ℕ → List ℕ
reply_bytes unique body = fields_bytes (header_fields (16 + length body) 0 unique) ++ body

-- a reply with the error of a number, which stands below zero: its two's complement of four bytes
unfoldable pub error_bytes : ℕ → ℕ → List ℕ
error_bytes unique number = fields_bytes (header_fields 16 (2 ^ 32 - number) unique)

-- attributes: 88 bytes
abbrev pub attr_fields : Attr → List Field
attr_fields a =
    Eight a.inode
    ∷ Eight a.size
    ∷ Eight a.blocks
    ∷ Eight a.accessed.seconds
    ∷ Eight a.modified.seconds
    ∷ Eight a.changed.seconds
    ∷ Four a.accessed.nanoseconds
    ∷ Four a.modified.nanoseconds
    ∷ Four a.changed.nanoseconds
    ∷ Four a.mode
    ∷ Four a.links
    ∷ Four a.uid
    ∷ Four a.gid
    ∷ Four a.device
    ∷ Four a.block_size
    ∷ Four 0
    ∷ []

-- an entry: the node and for how long it counts, 40 bytes, before its attributes
abbrev pub entry_fields : Entry → List Field
entry_fields e =
    Eight e.node
    ∷ Eight e.generation
    ∷ Eight e.entry_valid.seconds
    ∷ Eight e.attr_valid.seconds
    ∷ Four e.entry_valid.nanoseconds
    ∷ Four e.attr_valid.nanoseconds
    ∷ []

-- an entry of node 0 that counts for so long, with attributes of zeros
abbrev pub absence_fields : Time → List Field
absence_fields valid =
    Eight 0
    ∷ Eight 0
    ∷ Eight valid.seconds
    ∷ Eight 0
    ∷ Four valid.nanoseconds
    ∷ Four 0
    ∷ replicate 11 (Eight 0)

-- for how long attributes count, before them
abbrev pub valid_fields : Time → List Field
valid_fields valid = Eight valid.seconds ∷ Four valid.nanoseconds ∷ Four 0 ∷ []

-- an open file: 16 bytes
abbrev pub open_fields : OpenFile → List Field
open_fields f = Eight f.handle ∷ Four f.flags ∷ Four 0 ∷ []

-- the count of the bytes that were written
abbrev pub count_fields : ℕ → List Field
count_fields count = Four count ∷ Four 0 ∷ []

-- the file system: 80 bytes, of which the last 28 are zero
abbrev pub statfs_fields : StatFs → List Field
statfs_fields s =
    Eight s.blocks
    ∷ Eight s.blocks_free
    ∷ Eight s.blocks_available
    ∷ Eight s.files
    ∷ Eight s.files_free
    ∷ Four s.block_size
    ∷ Four s.name_len
    ∷ Four s.block_size
    ∷ replicate 7 (Four 0)

-- the answer to INIT: 64 bytes, of which the last 34 are zero
abbrev pub init_fields : InitReply → List Field
init_fields r =
    Four r.major
    ∷ Four r.minor
    ∷ Four r.max_readahead
    ∷ Four r.flags
    ∷ Two r.max_background
    ∷ Two r.congestion
    ∷ Four r.max_write
    ∷ Four r.time_gran
    ∷ Two r.max_pages
    ∷ Two 0
    ∷ replicate 8 (Four 0)

abbrev pub attr_bytes : Attr → List ℕ
attr_bytes a = fields_bytes (attr_fields a)

-- 128 bytes
abbrev pub entry_bytes : Entry → List ℕ
entry_bytes e = fields_bytes (entry_fields e) ++ attr_bytes e.attr

-- ---- entries of a folder

abbrev pub kind_number : DirentKind → ℕ
kind_number dirent_kind.Unknown = 0
kind_number dirent_kind.Folder = 4
kind_number dirent_kind.File = 8

abbrev pub dirent_fields : Dirent → List Field
dirent_fields d = Eight d.inode ∷ Eight d.next ∷ Four (length d.name.now) ∷ Four (kind_number d.kind) ∷ []

-- the number of bytes that are lacking to a multiple of 8
abbrev pub pad_len : ℕ → ℕ
pad_len n = (8 - n % 8) % 8

-- an entry: its fields, its name, and zeros up to a multiple of 8
unfoldable pub dirent_bytes : Dirent → List ℕ
dirent_bytes d = fields_bytes (dirent_fields d) ++ (d.name.now ++ replicate (pad_len (length d.name.now)) 0)

abbrev pub dirents_bytes : List Dirent → List ℕ
dirents_bytes ds = flat_map dirent_bytes ds

-- `count` of the entries are as many from the first on as have room in `size` bytes
pub record FitsMost (size count : ℕ) (ds : List Dirent) : Type 0 where
  pub some : count ≤ length ds
  pub fits : length (dirents_bytes (take count ds)) ≤ size
  pub most : count < length ds → size < length (dirents_bytes (take (count + 1) ds))
