-- The part of a planned directory.
use Rattle.std.proofs.Common.{◌≡◌, ◌≢◌, ◌⊎◌, ◌≤◌, ◌<◌, ◌∙◌, ◌↔◌, inl, inr, ℕ, List, [], Option, Some, None, refl, sym, ap, subst, arith, true}
use Rattle.std.specs.Prelude.{IsSome, option_map, nat_le, nat_lt}
use Rattle.std.specs.List.{Contains}
use Rattle.std.proofs.lemmas.Bool.{eq-eqb, eqb-true, and_parts, ltb-true}
use Rattle.std.proofs.lemmas.Option.{none-some}
use Rattle.tier_device.specs.declared.media.Tier.{Tier}
use Rattle.tier_device.specs.declared.media.Tier.TheVariants.{Fast}
use Rattle.inode_plan.specs.file_graph.declared.effect.Kind.{Kind}
use Rattle.inode_plan.specs.file_graph.declared.effect.Kind.TheVariants as kind
use Rattle.inode_plan.specs.graph_change.Change.{Change}
use Rattle.inode_plan.specs.graph_change.Net.{Base, Kept, Made, Gone}
use Rattle.inode_plan.specs.layout.declared.slot.Slot.TheVariants as slots
use Rattle.inode_plan.specs.layout.Places.{Sizes, is_node, node_end, data_first}
use Rattle.block_alloc.specs.declared.runs.Run.{Run}
use Rattle.block_alloc.specs.Runs.{blocks_of}
use Rattle.block_alloc.specs.Value.{FreeBlocks}
use Rattle.inode_plan.specs.batch_journal.Images.{image_for, with_images}
use Rattle.inode_plan.specs.extent_tree.Map.{TierRuns, runs_in}
use Rattle.inode_plan.specs.area_reader.Store.{Store, root_of, touch_of}
use Rattle.inode_plan.specs.area_reader.Format.{Use, used_block}
use Rattle.inode_plan.specs.area_commit.InodeRewrite.{IsFit, IsListed, block_by}
use Rattle.inode_plan.specs.area_commit.InodeChange.{IsDirectoryWritten}
use Rattle.inode_plan.specs.area_commit.Batches.{AreNodes}
use Rattle.inode_plan.specs.area_commit.Release.{AreUsed, IsInUse}
use Rattle.inode_plan.specs.area_commit.declared.plan.FreedBlocks.{FreedBlocks}
use Rattle.inode_plan.specs.area_commit.Plan.{Loses, IsLost, LieApart, HoldLost}
use Rattle.inode_plan.proofs.area_commit_lemmas.Chosen.{no_use}
use Rattle.inode_plan.specs.PlannedDirectory.{IsPlannedFrom, StandThere, on_fast}
use Rattle.inode_plan.specs.DirectoryStart.{use_from}
use Rattle.inode_plan.specs.declared.directory_start.StartedDirectory.{StartedDirectory}
use Rattle.inode_plan.specs.declared.directory_change.ChangedDirectory.{ChangedDirectory}
use Rattle.inode_plan.specs.declared.plan.DirectoryPlan.{DirectoryPlan}
use Rattle.change_plan.specs.Part.{IsPart, IsIn, IsPut, is_one}
use Rattle.change_plan.specs.PlanAddition.{GivesAll, no_runs}
use Rattle.change_plan.specs.Directory.{of_nodes, WereFreeNodes, LosesNodes, LosesFor}
use Rattle.change_plan.proofs.Laid.{lays_none}
use Rattle.change_plan.proofs.NoNode.{no_number, no_pair, no_block}

-- what the rest of a change starts from is there
pub from_used : (base : Base) (o : Option (Tier × ℕ)) (b : Tier × ℕ) → use_from base o ≡ Some b → o ≡ Some b
from_used Kept o b is = is
from_used (Made kind) o b is = absurd (none-some b is)
from_used Gone o b is = absurd (none-some b is)

not_last : (g : Sizes) (p : ℕ) → is_node g p ≡ true → p < node_end g
not_last g p is = ltb-true p (node_end g) (and_parts (nat_le 292 p) (nat_lt p (node_end g)) is).1

-- a directory is no file
pub no_file : {o : Option Kind} → o ≡ Some kind.Directory → o ≡ Some kind.File → ⊥
no_file is file = differ (sym is ∙ file)
  where
    differ : Some kind.Directory ≡ Some kind.File → ⊥
    differ e = cc

abbrev pub use_at : ℕ → Tier → Option ℕ → Use
use_at i t k = record { inode = i; tier = t; logical = k }

-- What the laws on directories tell of a planned one.
pub record AreTold (g : Sizes) (s : Store) (c : Change) (i : ℕ) (start : StartedDirectory) (x : ChangedDirectory) (spares : List ℕ) (old new : List (ℕ × List ℕ)) (plan : DirectoryPlan) (m : TierRuns) : Type 0 where
  pub fit : IsFit g plan.slot m
  pub listed : (t : Tier) → IsListed (with_images new (s Fast)) i (root_of plan.slot t) (runs_in m t)
  pub written : (after : Store) → StandThere new s after m → IsDirectoryWritten g c start.entries x.entries s after i plan.slot m
  pub kept : (t : Tier) (k : Option ℕ) (b : Tier × ℕ) → block_by plan.slot m t k ≡ Some b → (use_from c.base (used_block g s (use_at i t k)) ≡ Some b) ⊎ ((b.0 ≡ Fast) × Contains spares b.1)
  pub once : (t u : Tier) (j k : Option ℕ) (b : Tier × ℕ) → block_by plan.slot m t j ≡ Some b → block_by plan.slot m u k ≡ Some b → (t ≡ u) × (j ≡ k)
  pub all : (p : ℕ) → Contains spares p → (k : Option ℕ) × (block_by plan.slot m Fast k ≡ Some (Fast, p))
  pub images : (p : ℕ) → ((k : Option ℕ) → block_by plan.slot m Fast k ≢ Some (Fast, p)) → image_for p new ≡ image_for p old
  pub imaged : (p : ℕ) → Contains spares p → IsSome (image_for p new)
  pub nodes : (t : Tier) (k : Option ℕ) (b : Tier × ℕ) → block_by plan.slot m t k ≡ Some b → (b.0 ≡ Fast) × (is_node g b.1 ≡ true)
  pub exact : (p : ℕ) → Contains (blocks_of plan.lost.items) p ↔ (((k : Option ℕ) × (use_from c.base (used_block g s (use_at i Fast k)) ≡ Some (Fast, p))) × ((k : Option ℕ) → block_by plan.slot m Fast k ≢ Some (Fast, p)))
  pub had : (t : Tier) (k : Option ℕ) (b : Tier × ℕ) → use_from c.base (used_block g s (use_at i t k)) ≡ Some b → (b.0 ≡ Fast) × (is_node g b.1 ≡ true)
  pub each : (t : Tier) (k : Option ℕ) (b : Tier × ℕ) → use_from c.base (used_block g s (use_at i t k)) ≡ Some b → block_by plan.slot m t k ≢ Some b → Contains (blocks_of plan.lost.items) b.1
  pub given : (pool : FreeBlocks) → ((k : Option ℕ) (b : ℕ) → use_from c.base (used_block g s (use_at i Fast k)) ≡ Some (Fast, b) → IsInUse pool b) → AreUsed pool plan.lost.items
  pub apart : (pool : FreeBlocks) (runs : List Run) → AreUsed pool runs → LieApart runs

module _ (g : Sizes) (s : Store) (c : Change) (i touch : ℕ) (start : StartedDirectory) (x : ChangedDirectory) (spares : List ℕ) (old new : List (ℕ × List ℕ)) (plan : DirectoryPlan) (lost : FreedBlocks) (p : IsPlannedFrom g s c i start x touch spares old new plan) (are : AreNodes g old → AreNodes g new) (free : WereFreeNodes g s spares) (told : AreTold g s c i start x spares old new plan (on_fast plan.list.extents)) where
  abbrev m : TierRuns
  m = on_fast plan.list.extents

  -- ---- what is lost, where the directory stays

  one_here : is_one i i ≡ true
  one_here = eq-eqb i i refl

  here : (j : ℕ) (t : Tier) (k : ℕ) → is_one i j ≡ true → Loses g s j plan.slot m t k → Loses g s i plan.slot m t k
  here j t k its loses = subst (λ n. Loses g s n plan.slot m t k) (eqb-true j i its) loses

  -- a pool of which no block is free
  abbrev full : FreeBlocks
  full = record { first = 0; end = node_end g; free = []; room = 0 }

  lie_apart : LieApart plan.lost.items
  lie_apart = told.apart full plan.lost.items (told.given full (λ k b was. (let high = not_last g b (told.had Fast k (Fast, b) was).1 in record { low = omega arith; high = high; used = no_number b })))

  stays : c.base ≡ Kept → LosesNodes plan.lost.items lost → HoldLost g (is_one i) s (λ _. plan.slot) (λ _. m) lost
  stays kept lose = record {
    nodes = λ k. (
      λ at.
          (let r = (told.exact k).0 (subst (λ (rs : List Run). Contains (blocks_of rs) k) lose.nodes at) in
          let was = r.0.1 in
          ((i, one_here, record { tier = Fast; logical = r.0.0; was = from_used c.base (used_block g s (use_at i Fast r.0.0)) (Fast, k) was; none = r.1 r.0.0 }), not_last g k (told.had Fast r.0.0 (Fast, k) was).1)),
      λ both.
          (let l = here both.0.0 Fast k both.0.1 both.0.2 in
          subst (λ (rs : List Run). Contains (blocks_of rs) k) (sym lose.nodes) (told.each l.tier l.logical (Fast, k) (still l.tier l.logical (Fast, k) l.was) l.none)),
    );
    per_tier = λ t k. (
      λ at. absurd (no_number k (subst (λ (rs : List Run). Contains (blocks_of rs) k) (lose.none t) at)),
      λ both.
          (let l = here both.0.0 t k both.0.1 both.0.2 in
          let r = told.had l.tier l.logical (t, k) (still l.tier l.logical (t, k) l.was) in
          let low : node_end g ≤ k = subst (λ (u : Tier). data_first g u ≤ k) r.0 both.1 in
          let high = not_last g k r.1 in
          absurd (omega (arith, low, high))),
    );
    nodes_apart = subst LieApart (sym lose.nodes) lie_apart;
    apart = λ t. subst LieApart (sym (lose.none t)) tt;
  }
    where
      still : (t : Tier) (k : Option ℕ) (b : Tier × ℕ) → used_block g s (use_at i t k) ≡ Some b → use_from c.base (used_block g s (use_at i t k)) ≡ Some b
      still t k b was = subst (λ (base : Base). use_from base (used_block g s (use_at i t k)) ≡ Some b) (sym kept) was

  -- ---- and where it is made

  -- what a block is for is none of what stood there, where nothing of that stays
  made_other : ((o : Option (Tier × ℕ)) → use_from c.base o ≡ None) → (u : Tier) (l : Option ℕ) (t : Tier) (k : ℕ) → used_block g s (use_at i u l) ≡ Some (t, k) → block_by plan.slot m u l ≡ Some (t, k) → ⊥
  made_other none u l t k was is = elim (told.kept u l (t, k) is) [
    | inl had ↦ none-some (t, k) (sym (none (used_block g s (use_at i u l))) ∙ had)
    | inr spare ↦ no_use g s Fast k (free k spare.1) (use_at i u l) (was ∙ ap (λ (v : Tier). Some (v, k)) spare.0)
  ]

  to_made : ((o : Option (Tier × ℕ)) → use_from c.base o ≡ None) → (t : Tier) (k : ℕ) → IsLost g (is_one i) s (λ _. slots.Free) (λ _. no_runs) t k → IsLost g (is_one i) s (λ _. plan.slot) (λ _. m) t k
  to_made none t k (j, its, l) =
      let was : used_block g s (use_at i l.tier l.logical) ≡ Some (t, k) = subst (λ n. used_block g s (use_at n l.tier l.logical) ≡ Some (t, k)) (eqb-true j i its) l.was in
      (j, its, record { tier = l.tier; logical = l.logical; was = l.was; none = made_other none l.tier l.logical t k was })

  from_made : (t : Tier) (k : ℕ) → IsLost g (is_one i) s (λ _. plan.slot) (λ _. m) t k → IsLost g (is_one i) s (λ _. slots.Free) (λ _. no_runs) t k
  from_made t k (j, its, l) = (j, its, record { tier = l.tier; logical = l.logical; was = l.was; none = no_block l.tier l.logical (t, k) })

  made : ((o : Option (Tier × ℕ)) → use_from c.base o ≡ None) → GivesAll g s i lost → HoldLost g (is_one i) s (λ _. plan.slot) (λ _. m) lost
  made none all = record {
    nodes = λ k. (λ at. (let r = (all.nodes k).0 at in (to_made none Fast k r.0, r.1)), λ both. (all.nodes k).1 (from_made Fast k both.0, both.1));
    per_tier = λ t k. (λ at. (let r = (all.per_tier t k).0 at in (to_made none t k r.0, r.1)), λ both. (all.per_tier t k).1 (from_made t k both.0, both.1));
    nodes_apart = all.nodes_apart;
    apart = all.apart;
  }

  holds : (base : Base) → c.base ≡ base → LosesFor base g s i plan.lost.items lost → HoldLost g (is_one i) s (λ _. plan.slot) (λ _. m) lost
  holds Kept is lose = stays is lose
  holds (Made kind) is all = made (λ o. ap (λ (b : Base). use_from b o) is) all
  holds Gone is all = made (λ o. ap (λ (b : Base). use_from b o) is) all

  -- ---- the part

  spare_used : (b : Tier × ℕ) → IsIn (of_nodes spares) b → (t : Tier) × (k : Option ℕ) × (block_by plan.slot m t k ≡ Some b)
  spare_used b (inl fast) = let a = told.all b.1 fast.1 in (Fast, a.0, a.1 ∙ ap (λ (t : Tier). Some (t, b.1)) (sym fast.0))
  spare_used b (inr other) = absurd (no_pair b other)

  stand : (after : Store) → IsPut g s (of_nodes spares) [] new i plan.slot m after → StandThere new s after m
  stand after put k q at =
      let is : block_by plan.slot m Fast (Some k) ≡ Some (Fast, q) = ap (option_map (λ r. (Fast, r))) at in
      put.node_blocks Fast (Some k) q is (told.nodes Fast (Some k) (Fast, q) is).1

  pub directory_part : LosesFor c.base g s i plan.lost.items lost → IsPart g s c touch i plan.slot m (of_nodes spares) [] old new lost
  directory_part lose = record {
    fit = told.fit;
    listed = told.listed;
    uses = λ t k b is. elim (told.kept t k b is) [ inl was ↦ inl (from_used c.base (used_block g s (use_at i t k)) b was) | inr spare ↦ inr (inl spare) ];
    once = λ t u j k b its is also. told.once t u j k b is also;
    all = spare_used;
    imaged = told.imaged;
    images = λ q not. told.images q (λ k. not Fast k);
    nodes = are;
    size = refl;
    given_up = holds c.base refl lose;
    touched = inr (ap touch_of p.planned.slot_is);
    laid = lays_none g s c i m (λ file. no_file p.starts.kind_is file);
    written = λ after put. inr (inl (start.entries, x.entries, told.written after (stand after put)));
  }
