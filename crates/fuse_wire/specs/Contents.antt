-- The contents of a request: which it is, its numbers, and its texts.
use Rattle.std.specs.Prelude.{ℕ, List, [], ◌∷◌, ◌++◌, Option, Some, None}
use Rattle.fuse_wire.specs.declared.opcode.Opcode.{Opcode}
use Rattle.fuse_wire.specs.declared.opcode.Opcode.TheVariants as opcode
use Rattle.fuse_wire.specs.declared.request.NewTime.{NewTime}
use Rattle.fuse_wire.specs.declared.request.NewTime.TheVariants as times
use Rattle.fuse_wire.specs.declared.request.Request.{Request}
use Rattle.fuse_wire.specs.declared.request.Request.TheVariants as request

abbrev pub Contents : Type 0
Contents = Opcode × List ℕ × List (List ℕ)

-- a number that may be lacking, behind whether it is there
abbrev pub numbers : Option ℕ → List ℕ
numbers None = 0 ∷ []
numbers (Some n) = 1 ∷ n ∷ []

-- a time that may be lacking, behind whether it is there, and is that of the request
abbrev pub time_numbers : Option NewTime → List ℕ
time_numbers None = 0 ∷ []
time_numbers (Some times.Now) = 1 ∷ []
time_numbers (Some (times.At t)) = 2 ∷ t.seconds ∷ t.nanoseconds ∷ []

abbrev pub contents : Request → Contents
contents (request.Init i) = (opcode.Init, i.major ∷ i.minor ∷ i.max_readahead ∷ i.flags ∷ [], [])
contents (request.Lookup name) = (opcode.Lookup, [], name.now ∷ [])
contents (request.Forget count) = (opcode.Forget, count ∷ [], [])
contents (request.BatchForget nodes) = (opcode.BatchForget, [], nodes.now ∷ [])
contents (request.GetAttr handle) = (opcode.GetAttr, numbers handle, [])
contents (request.SetAttr s) = (opcode.SetAttr, s.valid ∷ numbers s.handle ++ numbers s.size ++ time_numbers s.accessed ++ time_numbers s.modified, [])
contents (request.MkNod name mode) = (opcode.MkNod, mode ∷ [], name.now ∷ [])
contents (request.MkDir name mode) = (opcode.MkDir, mode ∷ [], name.now ∷ [])
contents (request.Unlink name) = (opcode.Unlink, [], name.now ∷ [])
contents (request.RmDir name) = (opcode.RmDir, [], name.now ∷ [])
contents (request.Rename name folder new) = (opcode.Rename, folder ∷ [], name.now ∷ new.now ∷ [])
contents (request.Rename2 name folder new flags) = (opcode.Rename2, folder ∷ flags ∷ [], name.now ∷ new.now ∷ [])
contents (request.Link node name) = (opcode.Link, node ∷ [], name.now ∷ [])
contents (request.Open flags) = (opcode.Open, flags ∷ [], [])
contents (request.Create name flags mode) = (opcode.Create, flags ∷ mode ∷ [], name.now ∷ [])
contents (request.Read handle at size) = (opcode.Read, handle ∷ at ∷ size ∷ [], [])
contents (request.Write handle at flags new) = (opcode.Write, handle ∷ at ∷ flags ∷ [], new.now ∷ [])
contents (request.Release handle) = (opcode.Release, handle ∷ [], [])
contents request.StatFs = (opcode.StatFs, [], [])
contents (request.OpenDir flags) = (opcode.OpenDir, flags ∷ [], [])
contents (request.ReadDir handle at size) = (opcode.ReadDir, handle ∷ at ∷ size ∷ [], [])
contents (request.ReleaseDir handle) = (opcode.ReleaseDir, handle ∷ [], [])
contents (request.Interrupt unique) = (opcode.Interrupt, unique ∷ [], [])
contents request.Flush = (opcode.Flush, [], [])
contents request.Fsync = (opcode.Fsync, [], [])
contents request.FsyncDir = (opcode.FsyncDir, [], [])
contents request.Access = (opcode.Access, [], [])
contents request.SymLink = (opcode.SymLink, [], [])
contents request.Destroy = (opcode.Destroy, [], [])
contents (request.Other number) = (opcode.Other number, [], [])
