-- Records, the bytes that spell each, and the record that bytes spell.
use Rattle.std.specs.Prelude.{◌≡◌, ℕ, zero, suc, ◌+◌, ◌^◌, ◌<◌, ◌≤◌, ◌==◌, Bool, true, ◌&&◌, nat_le, List, [], ◌∷◌, ◌++◌, length, drop, Option, Some, None, if◌then◌else◌}
use Rattle.std.specs.List.{flat_map, AllByRecursion}
use Rattle.posix_calls.specs.Name.{is_name}
use Rattle.posix_calls.specs.declared.limits.TheConstants.{MAX_TRANSFER, MAX_INODE, MAX_NAMES, MAX_FILE}
use Rattle.file_graph.specs.declared.effect.Effect.{Effect}
use Rattle.file_graph.specs.declared.effect.Effect.TheVariants as effect
pub use Rattle.file_graph.specs.Numbers.{is_inode}
pub use Rattle.file_graph.specs.Fields.{◌>>=◌, AreBytes, Field, byte_at, run_at, number_at}
unfoldable pub use Rattle.file_graph.specs.Fields.{u32, u64}
use Rattle.log_record.specs.declared.format.Record.{Record}
use Rattle.file_graph.specs.Kinds.{kind_byte, kind_field}
use Rattle.log_record.specs.declared.format.TheConstants.{MAX_EFFECTS, MAKE, ENTER, LEAVE, NAMES, SIZE, BYTES, DROP, SWAP}

-- ---- what has a spelling

-- an inode number from 1 on, up to the highest
abbrev pub IsInode : ℕ → Type 0
IsInode i = (1 ≤ i) × (i ≤ MAX_INODE)

-- what keeps the limits: inodes and names as they may be, and a size or the end of a write of some bytes within the greatest file
abbrev pub FitsLimits : Effect → Type 0
FitsLimits (effect.Make i k) = IsInode i
FitsLimits (effect.Enter d i k name) = IsInode d × IsInode i × (is_name name ≡ true)
FitsLimits (effect.Leave d name) = IsInode d × (is_name name ≡ true)
FitsLimits (effect.Names i n) = IsInode i × (n ≤ MAX_NAMES)
FitsLimits (effect.Size i size) = IsInode i × (size ≤ MAX_FILE)
FitsLimits (effect.Bytes i at new) = IsInode i × (1 ≤ length new) × (length new ≤ MAX_TRANSFER) × (at + length new ≤ MAX_FILE)
FitsLimits (effect.Drop i) = IsInode i
FitsLimits (effect.Swap d a e b) = IsInode d × (is_name a ≡ true) × IsInode e × (is_name b ≡ true)

-- a record that has a spelling: a u32 of units, and 1 to 8 effects that keep the limits
pub record IsRecord (r : Record) : Type 0 where
  pub units : r.units < 2 ^ 32
  pub some : 1 ≤ length r.effects
  pub few : length r.effects ≤ MAX_EFFECTS
  pub fit : AllByRecursion FitsLimits r.effects

-- ---- the spelling

-- a tag, and the fields in their order; a name and bytes stand behind their length
abbrev pub effect_bytes : Effect → List ℕ
effect_bytes (effect.Make i k) = MAKE ∷ (u32 i ++ kind_byte k ∷ [])
effect_bytes (effect.Enter d i k name) = ENTER ∷ (u32 d ++ (u32 i ++ kind_byte k ∷ length name ∷ name))
effect_bytes (effect.Leave d name) = LEAVE ∷ (u32 d ++ length name ∷ name)
effect_bytes (effect.Names i n) = NAMES ∷ (u32 i ++ u32 n)
effect_bytes (effect.Size i size) = SIZE ∷ (u32 i ++ u64 size)
effect_bytes (effect.Bytes i at new) = BYTES ∷ (u32 i ++ (u64 at ++ (u32 (length new) ++ new)))
effect_bytes (effect.Drop i) = DROP ∷ u32 i
effect_bytes (effect.Swap d a e b) = SWAP ∷ (u32 d ++ (length a ∷ (a ++ (u32 e ++ length b ∷ b))))

-- the units, the count of the effects, and each of them
abbrev pub record_bytes : Record → List ℕ
record_bytes r = u32 r.units ++ (length r.effects ∷ flat_map effect_bytes r.effects)

-- ---- the reading

-- the fields of a Make: the inode and the kind
unfoldable pub make_at : Field Effect
make_at bytes = do
  i ← number_at 4 bytes
  k ← kind_field i.1
  Some (effect.Make i.0 k.0, k.1)

-- a name behind its length
abbrev pub name_at : Field (List ℕ)
name_at bytes = do
  n ← byte_at bytes
  run_at n.0 n.1

-- the fields of an Enter: the directory, the inode, the kind, and the name behind its length
unfoldable pub enter_at : Field Effect
enter_at bytes = do
  d ← number_at 4 bytes
  i ← number_at 4 d.1
  k ← kind_field i.1
  n ← byte_at k.1
  name ← run_at n.0 n.1
  Some (effect.Enter d.0 i.0 k.0 name.0, name.1)

-- the fields of a Leave: the directory, and the name behind its length
unfoldable pub leave_at : Field Effect
leave_at bytes = do
  d ← number_at 4 bytes
  n ← byte_at d.1
  name ← run_at n.0 n.1
  Some (effect.Leave d.0 name.0, name.1)

-- the fields of a Names: the inode and the count
unfoldable pub names_at : Field Effect
names_at bytes = do
  i ← number_at 4 bytes
  n ← number_at 4 i.1
  Some (effect.Names i.0 n.0, n.1)

-- the fields of a Size: the inode and the size
unfoldable pub size_at : Field Effect
size_at bytes = do
  i ← number_at 4 bytes
  size ← number_at 8 i.1
  Some (effect.Size i.0 size.0, size.1)

-- the fields of a Bytes: the inode, the offset, and the bytes behind their count
unfoldable pub bytes_at : Field Effect
bytes_at bytes = do
  i ← number_at 4 bytes
  at ← number_at 8 i.1
  n ← number_at 4 at.1
  new ← run_at n.0 n.1
  Some (effect.Bytes i.0 at.0 new.0, new.1)

-- the field of a Drop: the inode
unfoldable pub dropped_at : Field Effect
dropped_at bytes = do
  i ← number_at 4 bytes
  Some (effect.Drop i.0, i.1)

-- the fields of a Swap: twice a directory, and a name behind its length
unfoldable pub swap_at : Field Effect
swap_at bytes = do
  d ← number_at 4 bytes
  a ← name_at d.1
  e ← number_at 4 a.1
  b ← name_at e.1
  Some (effect.Swap d.0 a.0 e.0 b.0, b.1)

-- a tag, and the fields of its effect; another tag is none
unfoldable pub fields_at : Field Effect
fields_at bytes = do
  tag ← byte_at bytes
  if tag.0 == MAKE then make_at tag.1 else (if tag.0 == ENTER then enter_at tag.1 else (if tag.0 == LEAVE then leave_at tag.1 else (if tag.0 == NAMES then names_at tag.1 else (if tag.0 == SIZE then size_at tag.1 else (if tag.0 == BYTES then bytes_at tag.1 else (if tag.0 == DROP then dropped_at tag.1 else (if tag.0 == SWAP then swap_at tag.1 else None)))))))

-- whether n bytes from an offset on are a write within the greatest file
abbrev pub is_write : ℕ → ℕ → Bool
is_write at n = nat_le 1 n && nat_le n MAX_TRANSFER && nat_le (at + n) MAX_FILE

-- whether an effect keeps the limits
abbrev pub fits : Effect → Bool
fits (effect.Make i k) = is_inode i
fits (effect.Enter d i k name) = is_inode d && is_inode i && is_name name
fits (effect.Leave d name) = is_inode d && is_name name
fits (effect.Names i n) = is_inode i && nat_le n MAX_NAMES
fits (effect.Size i size) = is_inode i && nat_le size MAX_FILE
fits (effect.Bytes i at new) = is_inode i && is_write at (length new)
fits (effect.Drop i) = is_inode i
fits (effect.Swap d a e b) = is_inode d && is_name a && is_inode e && is_name b

-- an effect that keeps the limits
unfoldable pub effect_at : Field Effect
effect_at bytes = do
  e ← fields_at bytes
  if fits e.0 then Some e else None

-- this number of effects
unfoldable pub effects_at : ℕ → Field (List Effect)
effects_at zero bytes = Some ([], bytes)
effects_at (suc n) bytes = do
  first ← effect_at bytes
  others ← effects_at n first.1
  Some (first.0 ∷ others.0, others.1)

-- the units and the count of the effects, 1 to 8
unfoldable pub header_at : Field (ℕ × ℕ)
header_at bytes = do
  units ← number_at 4 bytes
  count ← byte_at units.1
  if nat_le 1 count.0 && nat_le count.0 MAX_EFFECTS then Some ((units.0, count.0), count.1) else None

-- the record at the front of the bytes
unfoldable pub record_at : Field Record
record_at bytes = do
  h ← header_at bytes
  es ← effects_at h.0.1 h.1
  Some (record { units = h.0.0; effects = es.0 }, es.1)

-- the record that exactly these bytes spell
unfoldable pub record_of : List ℕ → Option Record
record_of bytes = do
  r ← record_at bytes
  if length r.1 == 0 then Some r.0 else None

-- ---- bytes that begin with a record

-- the first n bytes are the spelling of this record
pub record Begins (bytes : List ℕ) (r : Record) (n : ℕ) : Type 0 where
  pub is : IsRecord r
  pub front : bytes ≡ record_bytes r ++ drop n bytes
  pub count : n ≡ length (record_bytes r)

-- no beginning of the bytes is a spelling
abbrev pub NoneBegins : List ℕ → Type 0
NoneBegins bytes = (r : Record) (rest : List ℕ) → IsRecord r → bytes ≡ record_bytes r ++ rest → ⊥
