-- What a change changes, as lists of entries and of blocks.
use Rattle.std.specs.Prelude.{◌≡◌, ℕ, ◌+◌, ◌==◌, List, [], ◌∷◌, Bool, true, ◌&&◌, Option, Some, None}
use Rattle.std.specs.List.{IsDistinct, AllByRecursion, sum_by}
use Rattle.std.specs.Ordering.{nat_cmp, eq_by_cmp}
use Rattle.std.specs.Cmp.Lexicographic.{slice_cmp}
use Rattle.std.specs.FinMap as fin
use Rattle.graph_change.specs.file_graph.declared.effect.Effect.{Effect}
use Rattle.graph_change.specs.file_graph.declared.effect.Effect.TheVariants as effect
use Rattle.graph_change.specs.Net.{Child, EntryChanges}
use Rattle.graph_change.specs.Change.{Changes, change_at, writes_block}
use Rattle.coalescer.specs.Weight.{same_block}

-- the entry that an effect adds or takes out, if it does: its directory and its name
abbrev pub entry_named : Effect → List (ℕ × List ℕ)
entry_named (effect.Make i kind) = []
entry_named (effect.Enter d i kind name) = (d, name) ∷ []
entry_named (effect.Leave d name) = (d, name) ∷ []
entry_named (effect.Names i n) = []
entry_named (effect.Size i size) = []
entry_named (effect.Bytes i at bytes) = []
entry_named (effect.Drop i) = []
entry_named (effect.Swap d a e b) = []

-- one name of one directory
abbrev pub same_entry : ℕ × List ℕ → ℕ × List ℕ → Bool
same_entry a b = a.0 == b.0 && eq_by_cmp (slice_cmp nat_cmp) a.1 b.1

-- some entries, no two of them one, each of which a change changes
abbrev pub AreEntriesIn : Changes → List (ℕ × List ℕ) → Type 0
AreEntriesIn cs ns = IsDistinct same_entry ns × AllByRecursion (λ n. fin.contains_key (change_at cs n.0).entries n.1 ≡ true) ns

-- some blocks of files, no two of them one, into each of which a change put bytes or within which it cuts the file
abbrev pub AreBlocksIn : Changes → List (ℕ × ℕ) → Type 0
AreBlocksIn cs bs = IsDistinct same_block bs × AllByRecursion (λ b. writes_block (change_at cs b.0) b.1 ≡ true) bs

-- how many blocks of its directory a name that changes writes at most: the one where it is entered; where it is taken out, that one and the last
abbrev pub entry_images : Option Child → ℕ
entry_images None = 2
entry_images (Some child) = 1

-- those of all names of a directory that change
abbrev pub images_in : EntryChanges → ℕ
images_in cs = sum_by (λ e. entry_images e.1) (fin.entries cs)

-- how many images a batch takes for the nodes of a change at most: four for each inode, and those of the entries that change
abbrev pub images_of : Changes → ℕ
images_of cs = sum_by (λ e. 4 + images_in e.1.entries) (fin.entries cs)
