-- What a client knows of the whole, and what it can answer by that.
use Rattle.std.specs.Prelude.{◌≡◌, ◌⊎◌, ℕ, ◌+◌, ◌*◌, ◌<◌, ◌≤◌, ◌==◌, ◌&&◌, ◌||◌, List, Bool, true, false, Option, Some, None, Ok, not, unwrap_or, option_map, if◌then◌else◌}
use Rattle.std.specs.List.{list_any}
use Rattle.std.specs.FinMap as fin
use Rattle.posix_calls.specs.Content.{Entries, range}
use Rattle.posix_calls.specs.Tree.{Own, Descriptors, any_up_to}
use Rattle.posix_calls.specs.Query.{Seen, Query, Look, Range, View, run}
use Rattle.posix_calls.specs.Part.{Part, Known, IsPart, blocks_missing, run_part}
use Rattle.posix_calls.specs.Decide.{decide}
use Rattle.posix_calls.specs.Operations.{is_client, makes, own_after}
use Rattle.posix_calls.specs.declared.operation.Location.{Location}
use Rattle.posix_calls.specs.declared.operation.Operation.{Operation}
use Rattle.posix_calls.specs.declared.operation.Missing.{Missing}
use Rattle.posix_calls.specs.declared.operation.Missing.TheVariants as missing
use Rattle.posix_calls.specs.declared.call.Call.{Call}
use Rattle.posix_calls.specs.declared.limits.TheConstants.{ROOT, MAX_INODE, UNIT_BYTES}
use Rattle.log_record.specs.file_graph.Graph.{Graph, Node, FileBody}
pub use Rattle.log_record.specs.file_graph.Numbers.{in_run}
use Rattle.log_record.specs.file_graph.declared.effect.Kind.{Kind}
use Rattle.log_record.specs.file_graph.declared.effect.Kind.TheVariants as kind
use Rattle.log_record.specs.file_graph.declared.effect.Effect.{Effect}
use Rattle.call_effects.specs.Blocks.{block_at, block_after, range_by}
use Rattle.call_effects.specs.Fits.{IsNew}
use Rattle.call_effects.specs.KnownCopies.{known_after}
use Rattle.call_effects.specs.NodeView.{NodeView, FileView, DirView, view_at, view_seen, view_is_dir, view_after}
use Rattle.call_effects.specs.Records.{effects_asked}
use Rattle.call_effects.specs.Wholes.{node_is_dir, node_seen, node_bytes}

-- what a client knows of the whole
pub record Knowledge : Type 0 where
  pub client : ℕ
  -- what it has open
  pub own : Own
  -- its copies of nodes, without the bytes of files: none where it has no copy, Some None where it knows that nothing stands there
  pub copies : ℕ → Option (Option NodeView)
  -- its copies of the blocks of files, by inode and block
  pub blocks : ℕ → ℕ → Option (List ℕ)
  -- whether it was granted an inode number for a new node
  pub granted : ℕ → Bool

-- ---- when the whole is as the client knows its part

-- nothing stands any more where a file without a name stood
pub record IsGone (now before : Option Node) : Type 0 where
  pub nothing : now ≡ None
  pub bytes : List ℕ
  pub file : before ≡ Some (record { names = 0; body = FileBody bytes })

-- a whole with some of the files put back that are gone from it
abbrev pub IsPutBack : Graph → Graph → Type 0
IsPutBack g back = (i : ℕ) → (back i ≡ g i) ⊎ IsGone (g i) (back i)

-- the whole is as the client knows its part; what it has copies of may be gone, since a lease and a copy outlive a file
pub record Agrees (k : Knowledge) (g : Graph) (held : Descriptors) : Type 0 where
  pub client : is_client k.client ≡ true
  pub own : (number : ℕ) → held k.client number ≡ k.own number
  -- the whole with the files put back that are gone and that the client has copies of
  pub back : Graph
  pub put_back : IsPutBack g back
  pub copies : (i : ℕ) (copy : Option NodeView) → k.copies i ≡ Some copy → view_at back i ≡ copy
  pub blocks : (i b : ℕ) (bytes : List ℕ) → k.blocks i b ≡ Some bytes → block_at back i b ≡ Some bytes
  -- a number is granted where nothing stands, or nothing any more
  pub granted : (i : ℕ) → k.granted i ≡ true → IsNew g i

-- ---- more copies

-- one client has all the copies that another has
pub record HasCopies (more k : Knowledge) : Type 0 where
  pub nodes : (i : ℕ) (copy : Option NodeView) → k.copies i ≡ Some copy → more.copies i ≡ Some copy
  pub blocks : (i b : ℕ) (bytes : List ℕ) → k.blocks i b ≡ Some bytes → more.blocks i b ≡ Some bytes

-- the same client with no more copies and granted numbers
pub record IsForgetful (k less : Knowledge) : Type 0 where
  pub client : less.client ≡ k.client
  pub own : (number : ℕ) → less.own number ≡ k.own number
  pub copies : HasCopies k less
  pub granted : (i : ℕ) → less.granted i ≡ true → k.granted i ≡ true

-- what a client knows with one more copy
abbrev pub with_copy : Knowledge → ℕ → Option NodeView → Knowledge
with_copy k i copy = record k { copies = λ j. if j == i then Some copy else k.copies j }

-- what a client knows with one more number that it was granted
abbrev pub with_granted : Knowledge → ℕ → Knowledge
with_granted k i = record k { granted = λ j. j == i || k.granted j }

-- what a client knows with `count` more blocks of a file
abbrev pub with_blocks : Knowledge → ℕ → ℕ → ℕ → (ℕ → List ℕ) → Knowledge
with_blocks k i first count block = record k { blocks = λ j b. if j == i && in_run first count b then Some (block b) else k.blocks j b }

-- ---- what entries say of the inodes that they name

-- whether two kinds are the same
abbrev pub same_kind : Kind → Kind → Bool
same_kind kind.File kind.File = true
same_kind kind.Directory kind.Directory = true
same_kind _ _ = false

-- whether an entry of a directory names an inode as of this kind
abbrev pub lists_as : ℕ → Kind → Option NodeView → Bool
lists_as i what None = false
lists_as i what (Some (FileView names size)) = false
lists_as i what (Some (DirView names es)) = list_any (λ e. e.1.0 == i && same_kind e.1.1 what) (fin.entries es)

-- what a client knows to stand at an inode
abbrev pub copy_of : Knowledge → ℕ → Option NodeView
copy_of k i = unwrap_or (k.copies i) None

-- a name of a node in a directory of which there is a copy
pub record IsCopiedEntry (k : Knowledge) (at : Location) (e : ℕ × Kind) : Type 0 where
  pub names : ℕ
  pub entries : Entries (ℕ × Kind)
  pub copy : k.copies at.parent ≡ Some (Some (DirView names entries))
  pub there : fin.get entries at.name ≡ Some e

-- whether an entry of one of the copies names an inode as of this kind
abbrev pub is_listed : Knowledge → ℕ → Kind → Bool
is_listed k i what = any_up_to MAX_INODE (λ d. lists_as i what (copy_of k d))

-- ---- what the client answers

-- whether an inode is a directory: by its copy, or else by the kind that an entry names
abbrev pub is_dir_by : Option (Option NodeView) → Bool → Bool → Option (Option Bool)
is_dir_by (Some copy) dir file = Some (option_map view_is_dir copy)
is_dir_by None true file = Some (Some true)
is_dir_by None false true = Some (Some false)
is_dir_by None false false = None

-- whether an inode is a directory, as far as a client can tell; the root is one
abbrev pub known_dir : Knowledge → ℕ → Option (Option Bool)
known_dir k i = if i == ROOT then Some (Some true) else is_dir_by (k.copies i) (is_listed k i kind.Directory) (is_listed k i kind.File)

-- the part of the whole that a client answers: its copies, what they say of kinds, and its blocks
abbrev pub part_of : Knowledge → Part
part_of k = record {
  is_dir = known_dir k;
  node = λ i. option_map (λ copy. option_map view_seen copy) (k.copies i);
  bytes = λ i at count. range_by (k.blocks i) at count;
}

-- the answers of the graph as it stands stored, with the files that have no name and that nobody has open
abbrev pub stored_view : Graph → View
stored_view g = record { is_dir = λ i. option_map node_is_dir (g i); node = λ i. option_map node_seen (g i); bytes = λ i at count. range at count (node_bytes (g i)) }

-- ---- what is missing

-- once a part has answered what it can, what is left begins with a look at this inode, of which it knows no node
pub record IsLookedAtNext (p : Part) (i : ℕ) (q : Query Operation) : Type 0 where
  pub next : Option Seen → Query Operation
  pub unknown : p.node i ≡ None
  pub same : (v : View) → IsPart p v → run v q ≡ run v (Look i next)

-- once a part has answered what it can, what is left begins with a range of a file that touches these blocks, and that it doesn't know
pub record IsReadNext (p : Part) (i first count : ℕ) (q : Query Operation) : Type 0 where
  pub at : ℕ
  pub bytes : ℕ
  pub touches : blocks_missing i at bytes ≡ missing.Blocks i first count
  pub next : List ℕ → Query Operation
  pub unknown : p.bytes i at bytes ≡ None
  pub same : (v : View) → IsPart p v → run v q ≡ run v (Range i at bytes next)

-- what is missing is a node of which a client has no copy
pub record IsNodeMissing (k : Knowledge) (what : Missing) : Type 0 where
  pub inode : ℕ
  pub is : what ≡ missing.Node inode
  pub unknown : k.copies inode ≡ None

-- these blocks are within a file of which a client has a copy, and one of them it doesn't know
pub record AreBlocksMissing (k : Knowledge) (i first count : ℕ) : Type 0 where
  pub names : ℕ
  pub size : ℕ
  pub copy : k.copies i ≡ Some (Some (FileView names size))
  pub within : (b : ℕ) → b < first + count → UNIT_BYTES * b < size
  pub block : ℕ
  pub low : first ≤ block
  pub high : block < first + count
  pub unknown : k.blocks i block ≡ None

-- ---- a planned call

-- by what the client knows a call has this operation, with these effects, and a new node gets a number that was granted
pub record IsPlanned (k : Knowledge) (call : Call) (new : ℕ) (operation : Operation) (es : List Effect) : Type 0 where
  pub comes : run_part (part_of k) (decide k.own call) ≡ Known (Ok operation)
  pub effects : run_part (part_of k) (effects_asked new operation) ≡ Known (Ok es)
  pub number : makes operation ≡ true → k.granted new ≡ true

-- what the client knows after it: its copies and blocks with the effects, its descriptors, and the numbers that it has not used
abbrev pub knows_after : Knowledge → ℕ → Operation → List Effect → Knowledge
knows_after k new operation es = record {
  client = k.client;
  own = own_after new k.own operation;
  copies = known_after es k.copies;
  blocks = λ i b. block_after es i b (k.blocks i b);
  granted = λ i. k.granted i && not (makes operation && i == new);
}

-- the same with a copy of the node that the operation made
abbrev pub knows_made : Knowledge → ℕ → Operation → List Effect → Knowledge
knows_made k new operation es = with_copy (knows_after k new operation es) new (view_after es new None)
