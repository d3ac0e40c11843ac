-- A reply that carries an answer.
use Rattle.std.proofs.Common.{◌≡◌, ℕ, List, Result, Ok, Err, OnOk, refl, subst}
use Rattle.fuse_wire.specs.declared.header.Header.{Header}
use Rattle.fuse_wire.specs.declared.request.Request.{Request}
use Rattle.fuse_wire.specs.declared.request.Request.TheVariants as request
use Rattle.fuse_wire.specs.Spelling.{header_of}
use Rattle.fuse_server.specs.declared.answer.Answer.{Answer}
use Rattle.fuse_server.specs.declared.server.Server.{Server}
use Rattle.fuse_server.specs.declared.server.ServeError.{ServeError}
use Rattle.mount_nodes.specs.declared.tree.Tree.{Ghosts}
use Rattle.fuse_server.specs.Replies.{IsReplyFor}
use Rattle.fuse_server.specs.Requests.{IsAnswerTo, IsServed, Serves, ServesRequest}
use Rattle.fuse_server.specs.TimeChanges.{ServesTimes}

pub served : {S : Type 0} (tree : Ghosts S) (before after : Server) (message : List ℕ) (old room : ℕ) (reply : List ℕ) (s t : S) (h : Header) (said : Answer) (result : Result (Unit {0}) ServeError) → h ≡ header_of message → room ≡ old → IsAnswerTo tree before after message said s t → OnOk result (IsReplyFor after h said room reply) → OnOk result (IsServed tree before after message old reply s t)
served tree before after message old room reply s t h said (Ok x) is same answers carried = record {
  said = said;
  answers = answers;
  carried = λ loud. subst (λ n. IsReplyFor after (header_of message) said n reply) same (subst (λ k. IsReplyFor after k said room reply) is carried);
}
served tree before after message old room reply s t h said (Err e) is same answers carried = tt

-- a request about no open directory leaves each as it is
pub serves_other : {S : Type 0} (tree : Ghosts S) (old new : Server) (node : ℕ) (r : Request) (a : Answer) (s t : S) → ((flags : ℕ) → r ≡ request.OpenDir flags → ⊥) → ((handle at size : ℕ) → r ≡ request.ReadDir handle at size → ⊥) → ((handle : ℕ) → r ≡ request.ReleaseDir handle → ⊥) → new.listings ≡ old.listings → Serves tree old.tables new.tables node r a s t → ServesTimes old.tables.times new.tables.times node r a → ServesRequest tree old new node r a s t
serves_other tree old new node (request.OpenDir flags) a s t opens reads closes kept done times = absurd (opens flags refl)
serves_other tree old new node (request.ReadDir handle at size) a s t opens reads closes kept done times = absurd (reads handle at size refl)
serves_other tree old new node (request.ReleaseDir handle) a s t opens reads closes kept done times = absurd (closes handle refl)
serves_other tree old new node r a s t opens reads closes kept done times = (kept, done, times)
