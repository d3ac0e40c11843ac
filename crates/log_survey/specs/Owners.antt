-- Which client's records touch an inode, and which records touch another client's. What an effect touches it reads and writes: an inode
-- that the records of two clients touch is written by either. An inode that is entered under a name is not touched by that.
use Rattle.std.specs.Prelude.{◌≡◌, ◌≢◌, ℕ, zero, suc, ◌==◌, Bool, true, false, not, List, find, map, slice_index_or, Option, Some, None, if◌then◌else◌}
use Rattle.std.specs.List.{flat_map}
use Rattle.update_log.specs.file_graph.Graph.{is_among, touches}
use Rattle.update_log.specs.log_record.Grammar.{IsInode}
use Rattle.update_log.specs.log_record.Touches.{inodes_of}
use Rattle.update_log.specs.log_record.declared.format.Record.{Record}
use Rattle.world_invariant.specs.Logs.{is_written}
use Rattle.log_survey.specs.declared.owners.SharedInode.{SharedInode}

-- the client whose records touch an inode, by a table that has it at the inode's number
abbrev pub owner : List (Option ℕ) → ℕ → Option ℕ
owner clients i = slice_index_or clients i None

-- the inodes that records touch, in the order of the records and of their effects
abbrev pub touched_inodes : List Record → List ℕ
touched_inodes rs = flat_map (λ r. touches r.effects) rs

-- the lists have the inodes that records touch, one list for each record
abbrev pub AreTouchedBy : List Record → List (List ℕ) → Type 0
AreTouchedBy rs lists = lists ≡ map inodes_of rs

-- the inodes in all lists
abbrev pub listed : List (List ℕ) → List ℕ
listed lists = flat_map (λ is. is) lists

-- the numbers that records touch are those of inodes
abbrev pub TouchInodes : List Record → Type 0
TouchInodes rs = (i : ℕ) → is_written i rs ≡ true → IsInode i

-- whether there is a client, and another than this one
abbrev pub is_other : ℕ → Option ℕ → Bool
is_other client None = false
is_other client (Some holder) = not (holder == client)

-- whether another client's records touch an inode
abbrev pub is_foreign : (ℕ → Option ℕ) → ℕ → ℕ → Bool
is_foreign own client i = is_other client (own i)

-- records of a client touch no inode that another client's do
abbrev pub IsClear : (ℕ → Option ℕ) → ℕ → List Record → Type 0
IsClear own client rs = (i : ℕ) → is_written i rs ≡ true → is_foreign own client i ≡ false

-- the first of these inodes that another client's records touch, and whose; none where there is none
abbrev pub IsFirstShared : (ℕ → Option ℕ) → ℕ → List ℕ → Option SharedInode → Type 0
IsFirstShared own client is None = find (is_foreign own client) is ≡ None
IsFirstShared own client is (Some shared) =
    (find (is_foreign own client) is ≡ Some shared.inode) × (own shared.inode ≡ Some shared.client) × (shared.client ≢ client)

-- the owner of each inode, once these inodes are a client's
abbrev pub with_owner : (ℕ → Option ℕ) → ℕ → List ℕ → ℕ → Option ℕ
with_owner own client is i = if is_among i is then Some client else own i

-- the owner of each inode, once records of a client are added: the client, where they touch it
abbrev pub owner_after : (ℕ → Option ℕ) → ℕ → List Record → ℕ → Option ℕ
owner_after own client rs i = if is_written i rs then Some client else own i

-- the owner of each inode, once the logs of clients 1 to n are added, one after the other
abbrev pub owner_among : (ℕ → List Record) → ℕ → ℕ → Option ℕ
owner_among logs zero = λ i. None
owner_among logs (suc n) = owner_after (owner_among logs n) (suc n) (logs (suc n))

-- the owners are those that the logs of clients 1 to n make
abbrev pub AreOwners : (ℕ → Option ℕ) → (ℕ → List Record) → ℕ → Type 0
AreOwners own logs n = (i : ℕ) → IsInode i → own i ≡ owner_among logs n i

-- new owners are the old ones, once records of a client are added
abbrev pub AreAdded : (ℕ → Option ℕ) → (ℕ → Option ℕ) → ℕ → List Record → Type 0
AreAdded old new client rs = (i : ℕ) → IsInode i → new i ≡ owner_after old client rs i
