-- What becomes of the times of nodes by a request.
use Rattle.std.specs.Prelude.{◌≡◌, ℕ, None, IsSome}
use Rattle.fuse_wire.specs.declared.errno.Refusal.{Refusal}
use Rattle.fuse_wire.specs.declared.request.Request.{Request}
use Rattle.fuse_wire.specs.declared.request.Request.TheVariants as request
use Rattle.fuse_wire.specs.declared.request.SetAttr.{SetAttr}
use Rattle.fuse_server.specs.declared.answer.Answer.{Answer}
use Rattle.fuse_server.specs.declared.answer.Answer.TheVariants as answer
use Rattle.mount_nodes.specs.declared.times.Times.{Times}
use Rattle.mount_nodes.specs.Times.{GoesOn, IsNamed, IsSet, IsTouched, IsWritten, Meets}

-- a request is not refused
abbrev pub IsDone : Answer → Type 0
IsDone a = (why : Refusal) → a ≡ answer.Refused why → ⊥

-- the entries of a directory change, where the request is not refused
abbrev pub ChangesFolder : Times → Times → ℕ → Answer → Type 0
ChangesFolder old new folder a = GoesOn old new × (IsDone a → IsWritten old new folder)

-- what is set is told, and a size that is set is a change; without either no time changes
abbrev pub SetsTimes : Times → Times → ℕ → SetAttr → Answer → Type 0
SetsTimes old new node set a =
    GoesOn old new
    × (IsDone a → (IsSome set.size → IsTouched old new node) × IsSet new node set.accessed set.modified)
    × (set.size ≡ None → set.accessed ≡ None → set.modified ≡ None → new ≡ old)

-- CREATE and MKNOD change the directory; RENAME and RENAME2 what they move and replace; all that are not named here change no time
abbrev pub NameTimes : Times → Times → ℕ → Request → Answer → Type 0
NameTimes old new node (request.Create name flags mode) a = ChangesFolder old new node a
NameTimes old new node (request.MkNod name mode) a = ChangesFolder old new node a
NameTimes old new node (request.Rename name folder to) a = GoesOn old new
NameTimes old new node (request.Rename2 name folder to flags) a = GoesOn old new
NameTimes old new node r a = new ≡ old

-- SETATTR
abbrev pub FileTimes : Times → Times → ℕ → Request → Answer → Type 0
FileTimes old new node (request.SetAttr set) a = SetsTimes old new node set a
FileTimes old new node (request.Open flags) a = new ≡ old
FileTimes old new node (request.Read handle at count) a = new ≡ old
FileTimes old new node (request.Release handle) a = new ≡ old
FileTimes old new node r a = NameTimes old new node r a

-- So do all others: LOOKUP meets nodes, of which no change was seen; MKDIR, RMDIR, UNLINK and LINK change the directory, LINK the node, too, and
-- WRITE the file.
abbrev pub ServesTimes : Times → Times → ℕ → Request → Answer → Type 0
ServesTimes old new node (request.Lookup name) a = Meets old new
ServesTimes old new node (request.GetAttr handle) a = new ≡ old
ServesTimes old new node (request.MkDir name mode) a = ChangesFolder old new node a
ServesTimes old new node (request.RmDir name) a = ChangesFolder old new node a
ServesTimes old new node (request.Unlink name) a = ChangesFolder old new node a
ServesTimes old new node (request.Link id name) a = ChangesFolder old new node a × (IsDone a → IsNamed old new id)
ServesTimes old new node (request.Write handle at flags bytes) a = GoesOn old new × (IsDone a → IsWritten old new node)
ServesTimes old new node r a = FileTimes old new node r a
