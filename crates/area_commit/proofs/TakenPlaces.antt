-- Which blocks inodes that are written anew take, and which they give up.
use Rattle.std.proofs.Common.{◌≡◌, ◌≢◌, ◌≤◌, ◌<◌, inl, inr, ℕ, Bool, true, false, refl, sym, ap, subst, ◌∙◌, arith, Option, Some, None}
use Rattle.std.specs.Prelude.{◌↔◌, ◌==◌, nat_le, nat_lt, unwrap_or, if◌then◌else◌}
use Rattle.std.specs.Option.{option_map}
use Rattle.std.proofs.lemmas.Bool.{cases_Bool, true≢false, and_parts, leb-true, ltb-true, eqb-false, cond-true, cond-false}
use Rattle.tier_device.specs.declared.media.Tier.{Tier}
use Rattle.tier_device.specs.declared.media.Tier.TheVariants.{Fast}
use Rattle.area_reader.specs.layout.declared.slot.Slot.{Slot}
use Rattle.area_reader.specs.layout.declared.slot.Slot.TheVariants as slots
use Rattle.area_reader.specs.layout.Places.{Sizes, is_inode, is_node, node_end}
use Rattle.area_reader.specs.layout.Slot.{slot_of}
use Rattle.area_reader.specs.tree_blocks.Inode.{Inode, IsConsistent, inode_of, AreAlike, ReadAlike, LogicalBlocks}
use Rattle.area_reader.specs.file_graph.declared.effect.Kind.{Kind}
use Rattle.area_reader.specs.file_graph.declared.effect.Kind.TheVariants as kind
use Rattle.area_reader.specs.extent_tree.Map.{TierRuns}
use Rattle.area_reader.specs.Store.{Store, slot_bytes, slot_read, slot, root_of, length_of, place, logical_block, inode}
use Rattle.area_reader.specs.Reads.{IsRoom, IsPlaced, Free}
use Rattle.area_reader.specs.Format.{Use, used_block, SpellsInode, AreUsedOnce}
use Rattle.area_reader.specs.Rewrites.{Rewrites}
use Rattle.area_commit.specs.InodeRewrite.{block_by}
use Rattle.area_commit.specs.StoreRewrite.{MayTake, HasBlockFor, TakeOnce, KeepOrTakeFree, TakeFreeOnce, AreWrittenAnew}

-- ---- blocks in use lie in a pool or among a tier's data

node_room : (g : Sizes) (k : ℕ) → is_node g k ≡ true → IsRoom g Fast k
node_room g k is =
    let p = and_parts (nat_le 292 k) (nat_lt k (node_end g)) is in
    let low : 292 ≤ k = leb-true 292 k p.0 in
    let high : k < node_end g = ltb-true k (node_end g) p.1 in
    record { first = low; last = omega (arith, high) }

-- What area_image tells of the blocks of an inode.
pub record LieInPools (g : Sizes) (s : Store) : Type 0 where
  pub roots : (i : ℕ) (t : Tier) → root_of (slot g s i) t ≢ 0 → is_node g (root_of (slot g s i) t) ≡ true
  pub places : (i : ℕ) (t : Tier) (k at : ℕ) → place g s i t k ≡ Some at → IsPlaced g t (length_of (slot g s i)) k at

abbrev InRoom : Sizes → Tier × ℕ → Type 0
InRoom g b = IsRoom g b.0 b.1

root_room : (g : Sizes) (root : ℕ) (b : Tier × ℕ) → (root ≢ 0 → is_node g root ≡ true) → (if root == 0 then None else Some (Fast, root)) ≡ Some b → InRoom g b
root_room g root b node at = elim (cases_Bool (root == 0)) [
  | inl zero ↦ absurd (no_block b (sym (cond-true (root == 0) None (Some (Fast, root)) zero) ∙ at))
  | inr some ↦ subst (InRoom g) (the_block (Fast, root) b (sym (cond-false (root == 0) None (Some (Fast, root)) some) ∙ at)) (node_room g root (node (λ e. eqb-false root 0 some e)))
] where
  no_block : (b : Tier × ℕ) → None ≡ Some b → ⊥
  no_block b e = cc

  the_block : (a b : Tier × ℕ) → Some a ≡ Some b → a ≡ b
  the_block a b e = cc

place_room : (g : Sizes) (t : Tier) (o : Option ℕ) (b : Tier × ℕ) → ((at : ℕ) → o ≡ Some at → IsRoom g t at) → option_map {U = Tier × ℕ} (λ p. (t, p)) o ≡ Some b → InRoom g b
place_room g t None b room at = absurd cc
place_room g t (Some p) b room at = subst (InRoom g) (the_block (t, p) b at) (room p refl)
  where
    the_block : (a b : Tier × ℕ) → Some a ≡ Some b → a ≡ b
    the_block a b e = cc

module _ (g : Sizes) (s : Store) (pools : LieInPools g s) where
  room_by : (i : ℕ) (t : Tier) (k : Option ℕ) (b : Tier × ℕ) → used_block g s (record { inode = i; tier = t; logical = k }) ≡ Some b → InRoom g b
  room_by i t None b at = root_room g (root_of (slot g s i) t) b (pools.roots i t) at
  room_by i t (Some k) b at = place_room g t (place g s i t k) b (λ p is. (pools.places i t k p is).room) at

  pub use_room : (u : Use) (b : Tier × ℕ) → used_block g s u ≡ Some b → InRoom g b
  use_room u b at = room_by u.inode u.tier u.logical b at

-- ---- blocks that are kept or were free

abbrev pub FreeIsUnused : Sizes → Store → Type 0
FreeIsUnused g s = (t : Tier) (k : ℕ) → Free g s t k ↔ (IsRoom g t k × ((u : Use) → used_block g s u ≡ Some (t, k) → ⊥))

module _ (g : Sizes) (rewritten : ℕ → Bool) (s : Store) (x : ℕ → Slot) (m : ℕ → TierRuns) where
  pub kept_apart : FreeIsUnused g s → AreUsedOnce g s → KeepOrTakeFree g rewritten s x m → TakeFreeOnce g rewritten s x m → TakeOnce rewritten x m
  kept_apart unused once keep free_once u v b one two = elim (keep u b one) [
    | inl mine ↦ elim (keep v b two) [
      | inl its ↦ once u v b mine its
      | inr free ↦ absurd (((unused b.0 b.1).0 free).1 u mine)
    ]
    | inr free ↦ free_once u v b free one two
  ]

  pub kept_taken : KeepOrTakeFree g rewritten s x m → (u : Use) (b : Tier × ℕ) → HasBlockFor rewritten x m u b → MayTake g rewritten s b
  kept_taken keep u b one = elim (keep u b one) [ inl mine ↦ inr (u, one.0, mine) | inr free ↦ inl free ]

-- ---- all that are written anew

module _ (g : Sizes) (rewritten : ℕ → Bool) (s : Store) (unused : FreeIsUnused g s) (once : AreUsedOnce g s) where
  -- a block that may be taken is none of another inode
  not_others : (v : Use) (b : Tier × ℕ) → rewritten v.inode ≡ false → used_block g s v ≡ Some b → MayTake g rewritten s b → ⊥
  not_others v b other at (inl free) = ((unused b.0 b.1).0 free).1 v at
  not_others v b other at (inr (u, its, here)) = true≢false (sym its ∙ (ap (λ (w : Use). rewritten w.inode) (once u v b here at) ∙ other))

module _ (g : Sizes) (rewritten : ℕ → Bool) (x : ℕ → Slot) (m : ℕ → TierRuns) (old new : Store) (pools : LieInPools g old) (unused : FreeIsUnused g old) (once : AreUsedOnce g old) (anew : AreWrittenAnew g rewritten x m old new) where
  pub are_rewritten : ((i : ℕ) → rewritten i ≡ true → SpellsInode g new i) → ((i : ℕ) → rewritten i ≡ true → (t : Tier) (k : Option ℕ) → used_block g new (record { inode = i; tier = t; logical = k }) ≡ block_by (x i) (m i) t k) → Rewrites g rewritten old new
  are_rewritten spelled uses = record {
    superblock = anew.superblock;
    marks = anew.marks;
    spells = λ i number its. spelled i its;
    slots_stay = anew.slots_stay;
    blocks_stay = λ u b other at. anew.blocks_stay b.0 b.1 (use_room g old pools u b at) (not_others g rewritten old unused once u b other at);
    apart = λ u v b one two here there. anew.apart u v b (taken u b one here) (taken v b two there);
    takes = λ u v b one other here there. not_others g rewritten old unused once v b other there (anew.takes u b (taken u b one here));
  }
    where
      taken : (u : Use) (b : Tier × ℕ) → rewritten u.inode ≡ true → used_block g new u ≡ Some b → HasBlockFor rewritten x m u b
      taken u b its at = (its, sym (uses u.inode its u.tier u.logical) ∙ at)

-- ---- what is free then

module _ (g : Sizes) (rewritten : ℕ → Bool) (old new : Store) (t : Tier) (k : ℕ) (stay : (u : Use) → rewritten u.inode ≡ false → used_block g new u ≡ used_block g old u) where
  pub given_up : LieInPools g old → FreeIsUnused g old → FreeIsUnused g new → AreUsedOnce g old → MayTake g rewritten old (t, k) → ((u : Use) → rewritten u.inode ≡ true → used_block g new u ≡ Some (t, k) → ⊥) → Free g new t k
  given_up pools unused unused' once may none = (unused' t k).1 (room may, no_use)
    where
      room : MayTake g rewritten old (t, k) → IsRoom g t k
      room (inl free) = free.room
      room (inr (u, its, at)) = use_room g old pools u (t, k) at

      no_use : (u : Use) → used_block g new u ≡ Some (t, k) → ⊥
      no_use u at = elim (cases_Bool (rewritten u.inode)) [
        | inl its ↦ none u its at
        | inr other ↦ not_others g rewritten old unused once u (t, k) other (sym (stay u other) ∙ at) may
      ]

  pub no_other : FreeIsUnused g old → FreeIsUnused g new → Free g new t k → (MayTake g rewritten old (t, k) → ⊥) → ⊥
  no_other unused unused' free not = not (inl ((unused t k).1 (((unused' t k).0 free).0, no_use)))
    where
      no_use : (u : Use) → used_block g old u ≡ Some (t, k) → ⊥
      no_use u at = elim (cases_Bool (rewritten u.inode)) [
        | inl its ↦ not (inr (u, its, at))
        | inr other ↦ ((unused' t k).0 free).1 u (stay u other ∙ at)
      ]

-- ---- the graph

-- what is no inode's number has a free slot
no_slot : (g : Sizes) (s : Store) (i : ℕ) → is_inode i ≡ false → slot g s i ≡ slots.Free
unfolding slot_read
no_slot g s i other = ap (λ o. unwrap_or o slots.Free) (cond-false (is_inode i) (slot_of g (slot_bytes s i)) None other)

-- so it is consistent, too
pub all_consistent : (g : Sizes) (s : Store) → ((i : ℕ) → is_inode i ≡ true → SpellsInode g s i) → (i : ℕ) → IsConsistent i (inode g s i)
all_consistent g s inodes i = elim (cases_Bool (is_inode i)) [
  | inl number ↦ (inodes i number).consistent
  | inr other ↦ subst (λ (y : Slot). IsConsistent i (inode_of y (logical_block g s i))) (sym (no_slot g s i other)) tt
]

read_self : (k : Option Kind) (size : ℕ) (b : LogicalBlocks) → ReadAlike k size b b
read_self None size b = tt
read_self (Some kind.File) size b = λ at. refl
read_self (Some kind.Directory) size b = λ k lt. refl

pub alike_same : (old new : Inode) → new ≡ old → AreAlike old new
alike_same old new same = subst (AreAlike old) (sym same) (record { kind = refl; names = refl; size = refl; blocks = read_self old.kind old.size old.blocks })
