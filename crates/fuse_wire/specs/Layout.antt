-- How the body of each request is laid out.
use Rattle.std.specs.Prelude.{◌≡◌, ℕ, ◌+◌, ◌*◌, ◌≤◌, List, [], length, drop, Some}
use Rattle.fuse_wire.specs.declared.opcode.Opcode.{Opcode}
use Rattle.fuse_wire.specs.declared.opcode.Opcode.TheVariants as opcode
use Rattle.fuse_wire.specs.declared.layout.Body.{Body}
use Rattle.fuse_wire.specs.declared.layout.Body.TheVariants.{Named, Counted, Longer}
use Rattle.fuse_wire.specs.Fields.{u32_at}
use Rattle.fuse_wire.specs.Names.{behind_names}

-- the body of an opcode: the bytes of its structure in linux/fuse.h, and the names or data behind it
abbrev pub body_of : Opcode → Body
body_of opcode.Init = Longer 16
body_of opcode.Lookup = Named 0 1
body_of opcode.Forget = Named 8 0
body_of opcode.BatchForget = Counted 8 0 16
body_of opcode.GetAttr = Named 16 0
body_of opcode.SetAttr = Named 88 0
body_of opcode.MkNod = Named 16 1
body_of opcode.MkDir = Named 8 1
body_of opcode.Unlink = Named 0 1
body_of opcode.RmDir = Named 0 1
body_of opcode.Rename = Named 8 2
body_of opcode.Rename2 = Named 16 2
body_of opcode.Link = Named 8 1
body_of opcode.Open = Named 8 0
body_of opcode.Create = Named 16 1
body_of opcode.Read = Named 40 0
body_of opcode.Write = Counted 40 16 1
body_of opcode.Release = Named 24 0
body_of opcode.StatFs = Named 0 0
body_of opcode.OpenDir = Named 8 0
body_of opcode.ReadDir = Named 40 0
body_of opcode.ReleaseDir = Named 24 0
body_of opcode.Interrupt = Named 8 0
body_of opcode.Flush = Longer 0
body_of opcode.Fsync = Longer 0
body_of opcode.FsyncDir = Longer 0
body_of opcode.Access = Longer 0
body_of opcode.SymLink = Longer 0
body_of opcode.Destroy = Longer 0
body_of (opcode.Other number) = Longer 0

-- a count of four bytes is among the fields
abbrev pub IsSound : Body → Type 0
IsSound (Named n names) = Unit {0}
IsSound (Counted n place each) = place + 4 ≤ n
IsSound (Longer n) = Unit {0}

-- the bytes are a body of this layout
abbrev pub IsLaidOut : Body → List ℕ → Type 0
IsLaidOut (Named n names) body = (n ≤ length body) × (behind_names names (drop n body) ≡ Some [])
IsLaidOut (Counted n place each) body = (n ≤ length body) × (length body ≡ n + each * u32_at place body)
IsLaidOut (Longer n) body = n ≤ length body
