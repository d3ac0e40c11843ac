-- A change of many inodes, with the new bytes of files by blocks, as it is kept and written.
use Rattle.std.specs.Prelude.{◌≡◌, ◌<◌, map, IsSome, ℕ, ◌+◌, ◌-◌, ◌*◌, ◌/◌, ◌%◌, List, [], ◌∷◌, length, get_or, Bool, true, false, ◌&&◌, ◌||◌, not, Option, Some, None, ◌==◌, nat_eq, nat_lt, unwrap_or, if◌then◌else◌}
use Rattle.std.specs.List.{range_with_len, list_any}
use Rattle.std.specs.Ordering.{nat_cmp}
use Rattle.std.specs.FinMap as fin
use Rattle.posix_calls.specs.declared.limits.TheConstants.{UNIT_BYTES}
use Rattle.file_graph.specs.Graph.{Graph, acted_all}
pub use Rattle.file_graph.specs.Subject.{subject}
use Rattle.file_graph.specs.declared.effect.Effect.{Effect}
use Rattle.file_graph.specs.declared.effect.Effect.TheVariants as effect
use Rattle.graph_change.specs.Bytes.{Length, Grown, Cut, grown_to, sized_to, in_run}
use Rattle.graph_change.specs.Net.{Base, Kept, Made, Gone, Net, EntryChanges, node_after}

-- ---- the new bytes of a file, by blocks

-- the byte that was put at each place of a block, if one was
abbrev pub Patch : Type 0
Patch = ℕ → Option ℕ

-- of each of some blocks
abbrev pub Patches : Type 0
Patches = fin.FinMap nat_cmp Patch

-- nothing was put
abbrev pub blank : Patch
blank p = None

-- what was put into a block
abbrev pub patch_at : Patches → ℕ → Patch
patch_at ps b = unwrap_or (fin.get ps b) blank

-- the byte that was put at a place of the file, if one was
abbrev pub new_in : Patches → ℕ → Option ℕ
new_in ps i = patch_at ps (i / UNIT_BYTES) (i % UNIT_BYTES)

-- the blocks that `count` bytes from an offset on lie in
abbrev pub span : ℕ → ℕ → List ℕ
span at count = if count == 0 then [] else range_with_len (at / UNIT_BYTES) ((at + count - 1) / UNIT_BYTES + 1 - at / UNIT_BYTES)

-- a block with bytes put at a place of it
abbrev pub put_patch : ℕ → List ℕ → Patch → Patch
put_patch place bytes old p = if in_run place (length bytes) p then Some (get_or bytes (p - place) 0) else old p

-- a block with its part of bytes that are put at an offset of the file
abbrev pub over_patch : ℕ → List ℕ → ℕ → Patch → Patch
over_patch at bytes b old p = if nat_lt p UNIT_BYTES && in_run at (length bytes) (UNIT_BYTES * b + p) then Some (get_or bytes (UNIT_BYTES * b + p - at) 0) else old p

-- with one block's part
abbrev pub put_block : ℕ → List ℕ → ℕ → Patches → Patches
put_block at bytes b ps = fin.insert ps b (over_patch at bytes b (patch_at ps b))

-- with the parts of these blocks
abbrev pub put_blocks : ℕ → List ℕ → List ℕ → Patches → Patches
put_blocks at bytes [] ps = ps
put_blocks at bytes (b ∷ bs) ps = put_blocks at bytes bs (put_block at bytes b ps)

-- a block with nothing from a place on
abbrev pub cut_patch : ℕ → Patch → Patch
cut_patch place old p = if nat_lt p place then old p else None

-- with the block cut within which a size ends
abbrev pub cut_last : ℕ → Patches → Patches
cut_last n ps = elim (fin.get ps (n / UNIT_BYTES)) [ None ↦ ps | Some old ↦ fin.insert ps (n / UNIT_BYTES) (cut_patch (n % UNIT_BYTES) old) ]

-- with nothing behind a size
abbrev pub cut_patches : ℕ → Patches → Patches
cut_patches n ps = cut_last n (fin.retain_keys ps (λ b. nat_lt (UNIT_BYTES * b) n))

-- ---- one inode

-- the net change of one inode, as it is kept
pub record Change : Type 0 where
  pub base : Base
  pub names : Option ℕ
  pub length : Length
  pub patches : Patches
  pub entries : EntryChanges

-- the net change that it stands for
abbrev pub net_of : Change → Net
net_of c = record { base = c.base; names = c.names; bytes = record { length = c.length; new = new_in c.patches }; entries = c.entries }

-- nothing but a base
abbrev pub new_change : Base → Change
new_change base = record { base = base; names = None; length = Grown 0; patches = fin.empty; entries = fin.empty }

-- with one more effect on the inode
abbrev pub change_after : Effect → Change → Change
change_after (effect.Make i kind) c = new_change (Made kind)
change_after (effect.Enter d i kind name) c = record c { entries = fin.insert c.entries name (Some (i, kind)) }
change_after (effect.Leave d name) c = record c { entries = fin.insert c.entries name None }
change_after (effect.Names i n) c = record c { names = Some n }
change_after (effect.Size i size) c = record c { length = sized_to size c.length; patches = cut_patches size c.patches }
change_after (effect.Bytes i at bytes) c = record c { length = grown_to (at + length bytes) c.length; patches = put_blocks at bytes (span at (length bytes)) c.patches }
change_after (effect.Drop i) c = new_change Gone
change_after (effect.Swap d a e b) c = c

-- the bytes of a block, with those that are put over them
abbrev pub patched_bytes : Patch → List ℕ → List ℕ
patched_bytes patch old = map (λ p. unwrap_or (patch p) (get_or old p 0)) (range_with_len 0 (length old))

-- a byte is put at each place of the block
abbrev pub IsWhole : Patch → Type 0
IsWhole patch = (p : ℕ) → p < UNIT_BYTES → IsSome (patch p)

-- whether a size ends within a block
abbrev pub ends_within : ℕ → ℕ → Bool
ends_within n b = not (n % UNIT_BYTES == 0) && n / UNIT_BYTES == b

-- whether a length cuts within a block
abbrev pub cuts_within : Length → ℕ → Bool
cuts_within (Grown to) b = false
cuts_within (Cut least to) b = ends_within least b

-- whether a block of the file has to be written for it: bytes were put into it, or it was cut within it
abbrev pub writes_block : Change → ℕ → Bool
writes_block c b = fin.contains_key c.patches b || cuts_within c.length b

-- ---- many inodes

-- the change of each of some inodes
abbrev pub Changes : Type 0
Changes = fin.FinMap nat_cmp Change

-- that of an inode; one of which nothing is said stays
abbrev pub change_at : Changes → ℕ → Change
change_at cs i = unwrap_or (fin.get cs i) (new_change Kept)

-- the graph after it
abbrev pub changed_graph : Changes → Graph → Graph
changed_graph cs g i = node_after (net_of (change_at cs i)) (g i)

-- with one more effect
abbrev pub with_effect : Effect → Changes → Changes
with_effect e cs = fin.insert cs (subject e) (change_after e (change_at cs (subject e)))

-- with these effects, one after the other
abbrev pub with_effects : Changes → List Effect → Changes
with_effects cs [] = cs
with_effects cs (e ∷ es) = with_effects (with_effect e cs) es

-- the change that effects sum up to
abbrev pub coalesced_changes : List Effect → Changes
coalesced_changes = with_effects fin.empty

-- ---- what effects touch

-- whether an effect puts bytes into a block of its file, or cuts within it
abbrev pub touches_block : Effect → ℕ → Bool
touches_block (effect.Size i size) b = ends_within size b
touches_block (effect.Bytes i at bytes) b = list_any (nat_eq b) (span at (length bytes))
touches_block _ b = false

-- whether one of the effects changes an inode
abbrev pub changes_inode : List Effect → ℕ → Bool
changes_inode es i = list_any (λ e. i == subject e) es

-- whether one of the effects puts bytes into a block of this file, or cuts within it
abbrev pub changes_block : List Effect → ℕ → ℕ → Bool
changes_block es i b = list_any (λ e. i == subject e && touches_block e b) es

-- a change makes of every graph what effects make of it without their Swaps; the inodes in it are those that the effects are on, and no block changes that they leave
-- alone; each stands in it once, since it is a map
pub record Coalesces (es : List Effect) (cs : Changes) : Type 0 where
  pub meaning : (g : Graph) → changed_graph cs g ≡ acted_all g es
  pub inodes : (i : ℕ) → fin.contains_key cs i ≡ changes_inode es i
  pub blocks : (i b : ℕ) → writes_block (change_at cs i) b ≡ true → changes_block es i b ≡ true
