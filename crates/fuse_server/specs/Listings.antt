-- Directories that are open, and the entries that replies list of them.
use Rattle.std.specs.Prelude.{◌≡◌, ◌≢◌, ◌<◌, ◌+◌, ◌/◌, ℕ, List, [], ◌∷◌, Option, Some, None, Result, IsSome, OnErr, MatchResult, codes, drop, map, min, slice_index_or, take, if◌then◌else◌}
use Rattle.std.specs.Option.{option_map_or}
use Rattle.posix_calls.specs.declared.call.Call.TheVariants as call
use Rattle.posix_calls.specs.declared.errno.Errno.TheVariants as errno
use Rattle.fuse_wire.specs.declared.dirents.Dirent.{Dirent}
use Rattle.fuse_wire.specs.declared.dirents.DirentKind.{DirentKind}
use Rattle.fuse_wire.specs.declared.dirents.DirentKind.TheVariants as dirent_kind
use Rattle.fuse_wire.specs.declared.errno.Refusal.{Refusal}
use Rattle.fuse_wire.specs.declared.errno.Refusal.TheVariants as refusal
use Rattle.fuse_wire.specs.Errno.{refusal_number}
use Rattle.fuse_wire.specs.Replies.{FitsMost, dirents_bytes, error_bytes, reply_bytes}
use Rattle.fuse_server.specs.declared.listings.Listing.{Listing}
use Rattle.mount_nodes.specs.declared.nodes.Nodes.{Nodes}
use Rattle.mount_nodes.specs.declared.tree.Tree.{Ghosts}
use Rattle.mount_nodes.specs.Calls.{AtPath, MayAsk, listed_of}
use Rattle.mount_nodes.specs.Paths.{first_name, node_at, path_of}
use Rattle.mount_nodes.specs.Refusals.{IsMemory}
use Rattle.mount_nodes.specs.Upkeep.{child_at}

-- ---- entries

-- an entry: the number for its node, the place behind it, its kind and its name
pub record DirEntry : Type 0 where
  pub inode : ℕ
  pub next : ℕ
  pub kind : DirentKind
  pub name : List ℕ

-- the entry that a reply has, wherever its name lies in memory
abbrev pub dir_entry : Dirent → DirEntry
dir_entry d = record { inode = d.inode; next = d.next; kind = d.kind; name = d.name.now }

-- the kind of the node that has a number
abbrev pub kind_of : Nodes → ℕ → DirentKind
kind_of nodes id = option_map_or (λ node. if node.is_dir then dirent_kind.Folder else dirent_kind.File) (node_at nodes id) dirent_kind.Unknown

-- the directory above a node: that of its first name; the node itself where none is known, as of the root
abbrev pub folder_above : Nodes → ℕ → ℕ
folder_above nodes id = option_map_or (λ known. known.folder) (first_name nodes id) id

-- the entry of a directory
abbrev pub folder_entry : ℕ → ℕ → List ℕ → DirEntry
folder_entry inode next name = record { inode = inode; next = next; kind = dirent_kind.Folder; name = name }

-- the entry of a name, by the node that is known under it; without one its number is 0xFFFFFFFF
abbrev pub entry_of_node : Nodes → Option ℕ → ℕ → List ℕ → DirEntry
entry_of_node nodes None next name = record { inode = 4294967295; next = next; kind = dirent_kind.Unknown; name = name }
entry_of_node nodes (Some id) next name = record { inode = id; next = next; kind = kind_of nodes id; name = name }

abbrev pub named_entry : Nodes → ℕ → ℕ → List ℕ → DirEntry
named_entry nodes folder next name = entry_of_node nodes (child_at nodes folder name) next name

-- the entries of names of a directory, of which the first stands at a place
abbrev pub named_entries : Nodes → ℕ → ℕ → List (List ℕ) → List DirEntry
named_entries nodes folder place [] = []
named_entries nodes folder place (name ∷ names) = named_entry nodes folder (place + 1) name ∷ named_entries nodes folder (place + 1) names

-- all entries of a directory that was opened: itself at place 0, the one above it at 1, and behind them the names that it had then
abbrev pub all_entries : Nodes → Listing → List DirEntry
all_entries nodes listing =
    folder_entry listing.folder 1 (codes ".")
    ∷ folder_entry (folder_above nodes listing.folder) 2 (codes "..")
    ∷ named_entries nodes listing.folder 2 listing.names

-- those from a place on, one for each 32 bytes of a reply at most
abbrev pub entries_from : Nodes → Listing → ℕ → ℕ → List DirEntry
entries_from nodes listing at size = take (size / 32) (drop at (all_entries nodes listing))

-- the reply carries of these entries as many from the first on as have room in `size` bytes, and in 65,536
abbrev pub CarriesEntries : ℕ → ℕ → List DirEntry → List ℕ → Type 0
CarriesEntries unique size entries reply =
    (ds : List Dirent) × (map dir_entry ds ≡ entries) × (count : ℕ) × FitsMost (min size 65536) count ds × (reply ≡ reply_bytes unique (dirents_bytes (take count ds)))

-- the reply carries those of a directory that is open, from a place on; where none is, it says that the handle is no descriptor
abbrev pub CarriesListing : Nodes → Option Listing → ℕ → ℕ → ℕ → List ℕ → Type 0
CarriesListing nodes None unique at size reply = reply ≡ error_bytes unique (refusal_number (refusal.Posix errno.BadDescriptor))
CarriesListing nodes (Some listing) unique at size reply = CarriesEntries unique size (entries_from nodes listing at size) reply

-- ---- which directories are open

-- the directory that is open under a handle
abbrev pub listing_at : List (Option Listing) → ℕ → Option Listing
listing_at listings handle = slice_index_or listings handle None

-- a directory, with its names
abbrev pub listing_of : ℕ → List (List ℕ) → Listing
listing_of folder names = record { folder = folder; names = names }

-- under every handle but one the same is open
abbrev pub SameBeside : List (Option Listing) → List (Option Listing) → ℕ → Type 0
SameBeside old new handle = (other : ℕ) → other ≢ handle → listing_at new other ≡ listing_at old other

-- a directory was opened under the lowest handle that was free, and all others are as before
pub record OpensListing (old new : List (Option Listing)) (handle : ℕ) (listing : Listing) : Type 0 where
  pub free : listing_at old handle ≡ None
  pub lowest : (lower : ℕ) → lower < handle → IsSome (listing_at old lower)
  pub opened : listing_at new handle ≡ Some listing
  pub others : SameBeside old new handle

-- nothing is open under a handle any more, and all others are as before
pub record ClosesListing (old new : List (Option Listing)) (handle : ℕ) : Type 0 where
  pub closed : listing_at new handle ≡ None
  pub others : SameBeside old new handle

module _ {S : Type 0} where
  -- the directory is open with these names, under the handle that is answered, unless memory is wanting
  abbrev pub Lists : ℕ → List (Option Listing) → List (Option Listing) → List (List ℕ) → Result ℕ Refusal → S → S → Type 0
  Lists id old new names result s t = (t ≡ s) × MatchResult result (λ handle. OpensListing old new handle (listing_of id names)) IsMemory

module _ {S : Type 0} (tree : Ghosts S) where
  -- `List` is asked at the node's path, and the directory is open with the names that are answered; where it is refused, all are as before
  abbrev pub OpensDir : Nodes → ℕ → List (Option Listing) → List (Option Listing) → Result ℕ Refusal → S → S → Type 0
  OpensDir nodes id old new result s t =
      AtPath (path_of nodes id) (λ path. MayAsk tree (call.List path) listed_of (Lists id old new)) result s t × OnErr result (new ≡ old)
