-- Times go on by whatever a request changes.
use Rattle.std.proofs.Common.{◌≡◌, ℕ, Result, Ok, Err, OnOk, refl, subst, sym}
use Rattle.fuse_wire.specs.declared.errno.Refusal.{Refusal}
use Rattle.fuse_wire.specs.declared.request.Request.{Request}
use Rattle.fuse_wire.specs.declared.request.Request.TheVariants as request
use Rattle.fuse_server.specs.declared.answer.Answer.{Answer}
use Rattle.fuse_server.specs.Requests.{answer_of}
use Rattle.fuse_server.specs.TimeChanges.{IsDone, ServesTimes}
use Rattle.mount_nodes.specs.declared.times.Times.{Times}
use Rattle.mount_nodes.specs.Times.{GoesOn}
use Rattle.mount_nodes.proofs.TimeLemmas.{goes_none, met_goes}

-- what holds where something was done holds of its answer that is no refusal
pub done_so : {A : Type 0} (make : A → Answer) (result : Result A Refusal) (a : Answer) (P : Type 0) → a ≡ answer_of make result → OnOk result P → IsDone a → P
done_so make (Ok x) a P is held done = held
done_so make (Err e) a P is held done = absurd (done e is)

pub same_goes : (old new : Times) → new ≡ old → GoesOn old new
same_goes old new is = subst (λ x. GoesOn old x) (sym is) (goes_none old)

pub served_goes : (old new : Times) (node : ℕ) (r : Request) (a : Answer) → ServesTimes old new node r a → GoesOn old new
served_goes old new node (request.Lookup name) a s = met_goes old new s
served_goes old new node (request.MkDir name mode) a s = s.0
served_goes old new node (request.RmDir name) a s = s.0
served_goes old new node (request.Unlink name) a s = s.0
served_goes old new node (request.Link id name) a s = s.0.0
served_goes old new node (request.Write handle at flags bytes) a s = s.0
served_goes old new node (request.SetAttr set) a s = s.0
served_goes old new node (request.Create name flags mode) a s = s.0
served_goes old new node (request.MkNod name mode) a s = s.0
served_goes old new node (request.Rename name folder to) a s = s
served_goes old new node (request.Rename2 name folder to flags) a s = s
served_goes old new node r a s = same_goes old new s
