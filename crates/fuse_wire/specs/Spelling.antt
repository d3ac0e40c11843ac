-- What bytes a request spells: its fields by their places in the structures of linux/fuse.h.
use Rattle.std.specs.Prelude.{◌≡◌, ℕ, ◌+◌, ◌*◌, ◌≤◌, List, length, drop, Option, Some, None, if◌then◌else◌}
use Rattle.fuse_wire.specs.declared.header.Header.{Header}
use Rattle.fuse_wire.specs.declared.init.Init.{Init}
use Rattle.fuse_wire.specs.declared.request.NewTime.{NewTime}
use Rattle.fuse_wire.specs.declared.request.NewTime.TheVariants as times
use Rattle.fuse_wire.specs.declared.request.SetAttr.{SetAttr}
use Rattle.fuse_wire.specs.declared.request.Request.{Request}
use Rattle.fuse_wire.specs.declared.request.Request.TheVariants as request
use Rattle.fuse_wire.specs.declared.opcode.Opcode.{Opcode}
use Rattle.fuse_wire.specs.declared.opcode.Opcode.TheVariants as opcode
use Rattle.fuse_wire.specs.Fields.{u32_at, u64_at, has_bit, if_bit}
use Rattle.fuse_wire.specs.Names.{EndsWithName, EndsWithNames}
use Rattle.fuse_wire.specs.Opcodes.{opcode_of}

-- the header, which is the first 40 bytes
unfoldable pub header_of : List ℕ → Header
header_of bytes = record {
  opcode = u32_at 4 bytes;
  unique = u64_at 8 bytes;
  node = u64_at 16 bytes;
  uid = u32_at 24 bytes;
  gid = u32_at 28 bytes;
  pid = u32_at 32 bytes;
}

-- a whole message: a header at least, which names the length
pub record IsWhole (bytes : List ℕ) : Type 0 where
  pub header : 40 ≤ length bytes
  pub count : u32_at 0 bytes ≡ length bytes

-- the fields of INIT
unfoldable pub init_of : List ℕ → Init
init_of body = record { major = u32_at 0 body; minor = u32_at 4 body; max_readahead = u32_at 8 body; flags = u32_at 12 body }

-- a time that counts only where a bit is set; where another is, too, it is that of the request
abbrev pub new_time : ℕ → ℕ → ℕ → ℕ → ℕ → Option NewTime
new_time given now flags seconds nanoseconds =
    if has_bit given flags
    then Some (if has_bit now flags then times.Now else times.At (record { seconds = seconds; nanoseconds = nanoseconds }))
    else None

-- the fields of SETATTR: bit 6 of the first says that the handle counts, and bit 3 that the size does; bits 4 and 7 tell of the time of the last
-- reading, and 5 and 8 of that of the last change
unfoldable pub set_attr_of : List ℕ → SetAttr
set_attr_of body = record {
  valid = u32_at 0 body;
  handle = if_bit 6 (u32_at 0 body) (u64_at 8 body);
  size = if_bit 3 (u32_at 0 body) (u64_at 16 body);
  accessed = new_time 4 7 (u32_at 0 body) (u64_at 32 body) (u32_at 56 body);
  modified = new_time 5 8 (u32_at 0 body) (u64_at 40 body) (u32_at 60 body);
}

-- a body of this opcode spells this request
abbrev pub SpellsBody : Opcode → List ℕ → Request → Type 0
SpellsBody o body (request.Init init) = (o ≡ opcode.Init) × (16 ≤ length body) × (init ≡ init_of body)
SpellsBody o body (request.Lookup name) = (o ≡ opcode.Lookup) × EndsWithName 0 body name.now
SpellsBody o body (request.Forget count) = (o ≡ opcode.Forget) × (length body ≡ 8) × (count ≡ u64_at 0 body)
SpellsBody o body (request.BatchForget nodes) = (o ≡ opcode.BatchForget) × (length body ≡ 8 + 16 * u32_at 0 body) × (nodes.now ≡ drop 8 body)
SpellsBody o body (request.GetAttr handle) = (o ≡ opcode.GetAttr) × (length body ≡ 16) × (handle ≡ if_bit 0 (u32_at 0 body) (u64_at 8 body))
SpellsBody o body (request.SetAttr changes) = (o ≡ opcode.SetAttr) × (length body ≡ 88) × (changes ≡ set_attr_of body)
SpellsBody o body (request.MkNod name mode) = (o ≡ opcode.MkNod) × EndsWithName 16 body name.now × (mode ≡ u32_at 0 body)
SpellsBody o body (request.MkDir name mode) = (o ≡ opcode.MkDir) × EndsWithName 8 body name.now × (mode ≡ u32_at 0 body)
SpellsBody o body (request.Unlink name) = (o ≡ opcode.Unlink) × EndsWithName 0 body name.now
SpellsBody o body (request.RmDir name) = (o ≡ opcode.RmDir) × EndsWithName 0 body name.now
SpellsBody o body (request.Rename name folder new) = (o ≡ opcode.Rename) × EndsWithNames 8 body name.now new.now × (folder ≡ u64_at 0 body)
SpellsBody o body (request.Rename2 name folder new flags) = (o ≡ opcode.Rename2) × EndsWithNames 16 body name.now new.now × (folder ≡ u64_at 0 body) × (flags ≡ u32_at 8 body)
SpellsBody o body (request.Link node name) = (o ≡ opcode.Link) × EndsWithName 8 body name.now × (node ≡ u64_at 0 body)
SpellsBody o body (request.Open flags) = (o ≡ opcode.Open) × (length body ≡ 8) × (flags ≡ u32_at 0 body)
SpellsBody o body (request.Create name flags mode) = (o ≡ opcode.Create) × EndsWithName 16 body name.now × (flags ≡ u32_at 0 body) × (mode ≡ u32_at 4 body)
SpellsBody o body (request.Read handle at size) = (o ≡ opcode.Read) × (length body ≡ 40) × (handle ≡ u64_at 0 body) × (at ≡ u64_at 8 body) × (size ≡ u32_at 16 body)
SpellsBody o body (request.Write handle at flags new) = (o ≡ opcode.Write) × (length body ≡ 40 + u32_at 16 body) × (handle ≡ u64_at 0 body) × (at ≡ u64_at 8 body) × (flags ≡ u32_at 20 body) × (new.now ≡ drop 40 body)
SpellsBody o body (request.Release handle) = (o ≡ opcode.Release) × (length body ≡ 24) × (handle ≡ u64_at 0 body)
SpellsBody o body request.StatFs = (o ≡ opcode.StatFs) × (length body ≡ 0)
SpellsBody o body (request.OpenDir flags) = (o ≡ opcode.OpenDir) × (length body ≡ 8) × (flags ≡ u32_at 0 body)
SpellsBody o body (request.ReadDir handle at size) = (o ≡ opcode.ReadDir) × (length body ≡ 40) × (handle ≡ u64_at 0 body) × (at ≡ u64_at 8 body) × (size ≡ u32_at 16 body)
SpellsBody o body (request.ReleaseDir handle) = (o ≡ opcode.ReleaseDir) × (length body ≡ 24) × (handle ≡ u64_at 0 body)
SpellsBody o body (request.Interrupt unique) = (o ≡ opcode.Interrupt) × (length body ≡ 8) × (unique ≡ u64_at 0 body)
SpellsBody o body request.Flush = o ≡ opcode.Flush
SpellsBody o body request.Fsync = o ≡ opcode.Fsync
SpellsBody o body request.FsyncDir = o ≡ opcode.FsyncDir
SpellsBody o body request.Access = o ≡ opcode.Access
SpellsBody o body request.SymLink = o ≡ opcode.SymLink
SpellsBody o body request.Destroy = o ≡ opcode.Destroy
SpellsBody o body (request.Other number) = o ≡ opcode.Other number

-- the bytes spell this request, under this header
pub record Spells (bytes : List ℕ) (h : Header) (r : Request) : Type 0 where
  pub whole : IsWhole bytes
  pub header : h ≡ header_of bytes
  pub body : SpellsBody (opcode_of (u32_at 4 bytes)) (drop 40 bytes) r
