-- What each request asks of the tree, and how it is answered by what the tree answers.
use Rattle.std.specs.Prelude.{◌≡◌, ◌⊎◌, ℕ, List, false, min, Result, Ok, Err, OnErr}
use Rattle.posix_calls.specs.declared.errno.Errno.TheVariants as errno
use Rattle.fuse_wire.specs.declared.errno.Refusal.{Refusal}
use Rattle.fuse_wire.specs.declared.errno.Refusal.TheVariants as refusal
use Rattle.fuse_wire.specs.declared.header.Header.{Header}
use Rattle.fuse_wire.specs.declared.init.Init.{Init}
use Rattle.fuse_wire.specs.declared.init.InitReply.{InitReply}
use Rattle.fuse_wire.specs.declared.request.Request.{Request}
use Rattle.fuse_wire.specs.declared.request.Request.TheVariants as request
use Rattle.fuse_wire.specs.Fields.{u32_at}
use Rattle.fuse_wire.specs.Negotiation.{IsOld, LeavesToKernel, TakesOffer}
use Rattle.fuse_wire.specs.Spelling.{Spells, header_of}
use Rattle.fuse_server.specs.declared.answer.Answer.{Answer}
use Rattle.fuse_server.specs.declared.answer.Answer.TheVariants as answer
use Rattle.mount_nodes.specs.declared.attributes.Attributes.{Attributes}
use Rattle.fuse_server.specs.declared.server.Server.{Server}
use Rattle.mount_nodes.specs.declared.tables.Tables.{Tables}
use Rattle.mount_nodes.specs.declared.tree.Tree.{Ghosts}
use Rattle.mount_nodes.specs.declared.tree.Usage.{Usage}
use Rattle.fuse_server.specs.Answers.{is_silent}
use Rattle.mount_nodes.specs.Creations.{MakesAt}
use Rattle.fuse_server.specs.Creations.{MakesNode, creation_by}
use Rattle.mount_nodes.specs.Files.{Links, Releases, Unlinks, Writes, handle_of}
use Rattle.fuse_server.specs.Listings.{ClosesListing, OpensDir}
use Rattle.mount_nodes.specs.Nodes.{Describes, LooksUp, MakesDir, RemovesDir}
use Rattle.mount_nodes.specs.Paths.{node_at}
use Rattle.mount_nodes.specs.Reads.{Reads}
use Rattle.mount_nodes.specs.Renames.{Renames}
use Rattle.fuse_server.specs.Replies.{IsReplyFor}
use Rattle.mount_nodes.specs.Sizes.{SetsAttributes}
use Rattle.fuse_server.specs.TimeChanges.{ServesTimes}

-- what came of a request is its answer, or why it is refused
abbrev pub answer_of : {A : Type 0} → (A → Answer) → Result A Refusal → Answer
answer_of make (Ok x) = make x
answer_of make (Err e) = answer.Refused e

-- a name that nothing has is answered as an absence
abbrev pub lookup_answer : Result Attributes Refusal → Answer
lookup_answer (Ok a) = answer.Entry a
lookup_answer (Err (refusal.Posix errno.NoEntry)) = answer.Absence
lookup_answer (Err e) = answer.Refused e

-- by which version, sizes and flags an offer is answered
pub record IsAgreed (init : Init) (r : InitReply) : Type 0 where
  pub version : (r.major ≡ 7) × (r.minor ≡ 31)
  pub sizes : (r.max_write ≡ 65536) × (r.max_pages ≡ 16) × (r.max_background ≡ 12) × (r.congestion ≡ 9) × (r.time_gran ≡ 1)
  pub readahead : r.max_readahead ≡ min init.max_readahead 131072
  pub offer : TakesOffer init.flags r.flags
  pub left : LeavesToKernel r.flags

-- an offer is answered so, and one by an older protocol than 7.23 refused
abbrev pub Agrees : Init → Answer → Type 0
Agrees init a = ((r : InitReply) × (IsOld init.major init.minor → ⊥) × IsAgreed init r × (a ≡ answer.Agreed r))
    ⊎ (IsOld init.major init.minor × (a ≡ answer.Refused (refusal.Posix errno.Invalid)))

-- the answer to a request by which something ends; others are not served
abbrev pub end_answer : Request → Answer
end_answer (request.Forget count) = answer.Done
end_answer (request.BatchForget nodes) = answer.Done
end_answer request.Destroy = answer.Done
end_answer r = answer.Refused refusal.NotServed

module _ {S : Type 0} where
  -- it ends with something, which is the answer
  abbrev pub AnswersResult : {A : Type 0} → (Result A Refusal → Answer) → (Result A Refusal → S → S → Type 0) → Answer → S → S → Type 0
  AnswersResult {A = A} make does a s t = (result : Result A Refusal) × does result s t × (a ≡ make result)

  -- so it does, and where it is refused, the nodes and the open files are as they were
  abbrev pub OrKeeps : {A : Type 0} → Tables → Tables → (Result A Refusal → S → S → Type 0) → Result A Refusal → S → S → Type 0
  OrKeeps old new does result s t = does result s t × OnErr result (new ≡ old)

module _ {S : Type 0} (tree : Ghosts S) where
  -- What a request about the mount asks of the tree, and its answer: INIT, STATFS, and those that end something or are refused.
  abbrev pub ServesOther : Tables → Tables → ℕ → Request → Answer → S → S → Type 0
  ServesOther old new node (request.Init init) a s t = Agrees init a × (t ≡ s) × (new ≡ old)
  ServesOther old new node request.StatFs a s t = (usage : Usage) × tree.measures s usage t × (a ≡ answer.Usage usage) × (new ≡ old)
  ServesOther old new node request.SymLink a s t = (a ≡ answer.Refused (refusal.Posix errno.NotPermitted)) × (t ≡ s) × (new ≡ old)
  ServesOther old new node r a s t = (a ≡ end_answer r) × (t ≡ s) × ((e : Refusal) → a ≡ answer.Refused e → new ≡ old)

  -- What one that makes or moves a name of a file asks, and its answer: CREATE, MKNOD, RENAME, RENAME2. Where two names are exchanged (flag 2)
  -- and that is refused, the nodes and the open files are as they were.
  abbrev pub ServesName : Tables → Tables → ℕ → Request → Answer → S → S → Type 0
  ServesName old new node (request.Create name flags mode) a s t = AnswersResult (answer_of answer.Created) (MakesAt tree old.nodes node name.now (creation_by flags)) a s t
  ServesName old new node (request.MkNod name mode) a s t = AnswersResult (answer_of answer.Entry) (MakesNode tree old.nodes node name.now mode) a s t
  ServesName old new node (request.Rename name folder to) a s t = AnswersResult (answer_of (λ _. answer.Done)) (Renames tree old.nodes (node, name.now) (folder, to.now) 0) a s t
  ServesName old new node (request.Rename2 name folder to flags) a s t = AnswersResult (answer_of (λ _. answer.Done)) (λ result s t. Renames tree old.nodes (node, name.now) (folder, to.now) flags result s t × (flags ≡ 2 → OnErr result (new ≡ old))) a s t
  ServesName old new node r a s t = ServesOther old new node r a s t

  -- What one about a file asks, and its answer: SETATTR, OPEN, READ, RELEASE.
  abbrev pub ServesFile : Tables → Tables → ℕ → Request → Answer → S → S → Type 0
  ServesFile old new node (request.SetAttr set) a s t = AnswersResult (answer_of answer.Attributes) (SetsAttributes tree old.nodes node set.size) a s t
  ServesFile old new node (request.Open flags) a s t = AnswersResult (answer_of answer.Opened) (OrKeeps old new (λ result s t. (result ≡ handle_of (node_at old.nodes node)) × (t ≡ s))) a s t
  ServesFile old new node (request.Read handle at count) a s t = AnswersResult (answer_of answer.Data) (Reads tree old.nodes node at count) a s t
  ServesFile old new node (request.Release handle) a s t = AnswersResult (answer_of (λ _. answer.Done)) (OrKeeps old new (Releases tree old.nodes node)) a s t
  ServesFile old new node r a s t = ServesName old new node r a s t

  -- What any request that opens and closes no directory asks, and its answer: LOOKUP, GETATTR, MKDIR, RMDIR, UNLINK, LINK, WRITE, and those above.
  abbrev pub Serves : Tables → Tables → ℕ → Request → Answer → S → S → Type 0
  Serves old new node (request.Lookup name) a s t = AnswersResult lookup_answer (LooksUp tree old.nodes node name.now) a s t
  Serves old new node (request.GetAttr handle) a s t = AnswersResult (answer_of answer.Attributes) (OrKeeps old new (Describes tree old.nodes node)) a s t
  Serves old new node (request.MkDir name mode) a s t = AnswersResult (answer_of answer.Entry) (MakesDir tree old.nodes node name.now) a s t
  Serves old new node (request.RmDir name) a s t = AnswersResult (answer_of (λ _. answer.Done)) (OrKeeps old new (RemovesDir tree old.nodes node name.now)) a s t
  Serves old new node (request.Unlink name) a s t = AnswersResult (answer_of (λ _. answer.Done)) (Unlinks tree old.nodes node name.now) a s t
  Serves old new node (request.Link id name) a s t = AnswersResult (answer_of answer.Entry) (Links tree old.nodes id node name.now) a s t
  Serves old new node (request.Write handle at flags bytes) a s t = AnswersResult (answer_of answer.Count) (Writes tree old.nodes node at bytes.now) a s t
  Serves old new node r a s t = ServesFile old new node r a s t

  -- What any request asks, its answer, what becomes of times, and which directories are open behind it: OPENDIR opens one, READDIR lists one and
  -- changes nothing, RELEASEDIR closes one, and all others leave each as it is.
  abbrev pub ServesRequest : Server → Server → ℕ → Request → Answer → S → S → Type 0
  ServesRequest old new node (request.OpenDir flags) a s t = (new.tables ≡ old.tables) × AnswersResult (answer_of answer.Opened) (OpensDir tree old.tables.nodes node old.listings.items new.listings.items) a s t
  ServesRequest old new node (request.ReadDir handle at size) a s t = (new ≡ old) × (a ≡ answer.Entries handle at size) × (t ≡ s)
  ServesRequest old new node (request.ReleaseDir handle) a s t = (new.tables ≡ old.tables) × ClosesListing old.listings.items new.listings.items handle × (a ≡ answer.Done) × (t ≡ s)
  ServesRequest old new node r a s t = (new.listings ≡ old.listings) × Serves old.tables new.tables node r a s t × ServesTimes old.tables.times new.tables.times node r a

  -- A message that spells a request is answered so; any other is refused as invalid, and asks and changes nothing.
  unfoldable pub IsAnswerTo : Server → Server → List ℕ → Answer → S → S → Type 0
  IsAnswerTo old new message a s t =
      ((r : Request) × Spells message (header_of message) r × ServesRequest old new (header_of message).node r a s t)
      ⊎ (((h : Header) (r : Request) → Spells message h r → ⊥) × (a ≡ answer.Refused (refusal.Posix errno.Invalid)) × (t ≡ s) × (new ≡ old))

  -- So it is, and the reply, where its opcode takes one, carries the answer, if there is room for it.
  pub record IsServed (old new : Server) (message : List ℕ) (room : ℕ) (reply : List ℕ) (s t : S) : Type 0 where
    pub said : Answer
    pub answers : IsAnswerTo old new message said s t
    pub carried : is_silent (u32_at 4 message) ≡ false → IsReplyFor new (header_of message) said room reply
