-- What bytes carry an answer.
use Rattle.std.specs.Prelude.{◌≡◌, ◌⊎◌, ◌<◌, ◌≤◌, ◌+◌, ◌%◌, Bool, ℕ, List, [], ◌++◌, length, if◌then◌else◌}
use Rattle.std.specs.Int.{div_ceil}
use Rattle.posix_calls.specs.declared.errno.Errno.TheVariants as errno
use Rattle.posix_calls.specs.declared.limits.TheConstants.{MAX_FILE}
use Rattle.fuse_wire.specs.declared.errno.Refusal.TheVariants as refusal
use Rattle.fuse_wire.specs.declared.header.Header.{Header}
use Rattle.fuse_wire.specs.declared.replies.Attr.{Attr}
use Rattle.fuse_wire.specs.declared.replies.Entry.{Entry}
use Rattle.fuse_wire.specs.declared.replies.StatFs.{StatFs}
use Rattle.fuse_wire.specs.declared.replies.Time.{Time}
use Rattle.fuse_wire.specs.Errno.{refusal_number}
use Rattle.fuse_wire.specs.Fields.{fields_bytes}
use Rattle.fuse_wire.specs.Replies.{absence_fields, attr_bytes, count_fields, entry_bytes, error_bytes, init_fields, open_fields, reply_bytes, statfs_fields, valid_fields}
use Rattle.fuse_server.specs.declared.answer.Answer.{Answer}
use Rattle.fuse_server.specs.declared.answer.Answer.TheVariants as answer
use Rattle.fuse_server.specs.declared.owner.Owner.{Owner}
use Rattle.mount_nodes.specs.declared.attributes.Attributes.{Attributes}
use Rattle.fuse_server.specs.declared.server.Server.{Server}
use Rattle.mount_nodes.specs.declared.tree.Usage.{Usage}
use Rattle.fuse_server.specs.Listings.{CarriesListing, listing_at}
use Rattle.mount_nodes.specs.Times.{stamp_at, told_of}

-- for as long as the mount lasts
abbrev pub for_ever : Time
for_ever = record { seconds = 1000000; nanoseconds = 0 }

-- the mode of a directory, 040000 and the rights, or of a file, 0100000 and the rights
abbrev pub mode_of : Owner → Bool → ℕ
mode_of owner is_dir = if is_dir then 16384 + owner.dir_mode % 512 else 32768 + owner.file_mode % 512

-- the attributes of a node, with the times that its server has of it; one owner has all of the mount
abbrev pub attr_of : Server → Attributes → Attr
attr_of server a = record {
  inode = a.node;
  size = a.size;
  blocks = div_ceil a.size 512;
  accessed = (told_of (stamp_at server.tables.times a.node)).accessed;
  modified = (told_of (stamp_at server.tables.times a.node)).modified;
  changed = (told_of (stamp_at server.tables.times a.node)).changed;
  mode = mode_of server.owner a.is_dir;
  links = a.links;
  uid = server.owner.uid;
  gid = server.owner.gid;
  device = 0;
  block_size = 4096;
}

-- what has a name, kept by the kernel for ever; its generation is how many nodes had its number
abbrev pub entry_of : Server → Attributes → Entry
entry_of server a = record { node = a.node; generation = (stamp_at server.tables.times a.node).generation; entry_valid = for_ever; attr_valid = for_ever; attr = attr_of server a }

-- how much there is, in units of 4,096 bytes, and of 1,024 files, whose names have 64 bytes at most
abbrev pub stat_fs_of : Usage → StatFs
stat_fs_of usage = record { blocks = usage.units; blocks_free = usage.free; blocks_available = usage.free; files = 1024; files_free = usage.free_nodes; block_size = 4096; name_len = 64 }

-- The bytes of a server's reply carry this answer; no file has more bytes than the greatest.
abbrev pub Carries : Server → Header → Answer → List ℕ → Type 0
Carries server h answer.Done reply = reply ≡ reply_bytes h.unique []
Carries server h (answer.Refused why) reply = reply ≡ error_bytes h.unique (refusal_number why)
Carries server h (answer.Agreed agreed) reply = reply ≡ reply_bytes h.unique (fields_bytes (init_fields agreed))
Carries server h (answer.Entry a) reply = reply ≡ reply_bytes h.unique (entry_bytes (entry_of server a))
Carries server h answer.Absence reply = reply ≡ reply_bytes h.unique (fields_bytes (absence_fields for_ever))
Carries server h (answer.Attributes a) reply = reply ≡ reply_bytes h.unique (fields_bytes (valid_fields for_ever) ++ attr_bytes (attr_of server a))
Carries server h (answer.Data bytes) reply = (length bytes ≤ MAX_FILE → reply ≡ reply_bytes h.unique bytes) × (MAX_FILE < length bytes → reply ≡ error_bytes h.unique (refusal_number (refusal.Posix errno.IoError)))
Carries server h (answer.Count count) reply = reply ≡ reply_bytes h.unique (fields_bytes (count_fields count))
Carries server h (answer.Opened handle) reply = reply ≡ reply_bytes h.unique (fields_bytes (open_fields (record { handle = handle; flags = 2 })))
Carries server h (answer.Created a) reply = reply ≡ reply_bytes h.unique (entry_bytes (entry_of server a) ++ fields_bytes (open_fields (record { handle = 0; flags = 2 })))
Carries server h (answer.Usage usage) reply = reply ≡ reply_bytes h.unique (fields_bytes (statfs_fields (stat_fs_of usage)))
Carries server h (answer.Entries handle at size) reply = CarriesListing server.tables.nodes (listing_at server.listings.items handle) h.unique at size reply

-- a buffer with room for `room` bytes takes the answer without asking for memory
abbrev pub HasRoom : ℕ → Answer → Type 0
HasRoom room (answer.Data bytes) = (272 ≤ room) × (16 + length bytes ≤ room)
HasRoom room (answer.Entries handle at size) = ⊥
HasRoom room a = 272 ≤ room

-- The bytes carry the answer, or say that memory was wanting where there was no room for it.
abbrev pub IsReplyFor : Server → Header → Answer → ℕ → List ℕ → Type 0
IsReplyFor server h a room reply = Carries server h a reply ⊎ ((HasRoom room a → ⊥) × (reply ≡ error_bytes h.unique (refusal_number (refusal.Posix errno.NoMemory))))
