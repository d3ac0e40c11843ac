-- Extents, roots and places of one file.
use Rattle.std.proofs.Common.{◌≡◌, ◌≢◌, ◌<◌, inl, inr, ℕ, suc, ◌∙◌, List, [], ◌∷◌, length, get_or, Option, Some, None, refl, sym, ap, subst, arith, true}
use Rattle.std.specs.Prelude.{IsSome, unwrap_or, if◌then◌else◌}
use Rattle.std.specs.Option.{option_map}
use Rattle.std.specs.List.{Contains}
use Rattle.std.proofs.lemmas.Bool.{false≢true}
use Rattle.tier_device.specs.declared.media.Tier.{Tier}
use Rattle.tier_device.specs.declared.media.Tier.TheVariants as tiers
use Rattle.inode_plan.specs.file_graph.declared.effect.Kind.TheVariants as kind
use Rattle.inode_plan.specs.layout.declared.extents.Extent.{Extent}
use Rattle.inode_plan.specs.layout.declared.geometry.Space.TheVariants as space
use Rattle.inode_plan.specs.layout.declared.slot.Slot.{Slot}
use Rattle.inode_plan.specs.layout.declared.slot.Slot.TheVariants as slots
use Rattle.inode_plan.specs.layout.Extents.{ExtentList}
use Rattle.inode_plan.specs.layout.Places.{Sizes}
use Rattle.inode_plan.specs.extent_tree.Places.{place_of, place_in, extent_with}
use Rattle.inode_plan.specs.extent_tree.Normal.{IsNormal}
use Rattle.inode_plan.specs.extent_tree.Map.{TierRuns, runs_in}
use Rattle.inode_plan.specs.tree_blocks.Inode.{inode_of}
use Rattle.inode_plan.specs.area_reader.Store.{Store, slot, root_of, touch_of, length_of, space_of, extents_read, place}
use Rattle.inode_plan.proofs.area_reader_lemmas.Shown.{extents_none}
use Rattle.inode_plan.specs.Lists.{IsListOf}
use Rattle.inode_plan.proofs.area_commit_lemmas.Given.{cons_cases, nothing}
use Rattle.inode_plan.proofs.Steps.{inside}
use Rattle.inode_plan.specs.area_commit.InodeMove.{with_roots}

-- ---- lists

pub contains_at : (xs : List ℕ) (y : ℕ) → Contains xs y → (n : ℕ) × (n < length xs) × (get_or xs n 0 ≡ y)
contains_at [] y at = absurd (nothing y at)
contains_at (x ∷ xs) y at = elim (cons_cases x xs y at) [
  | inl here ↦ (0, omega arith, here)
  | inr later ↦ (let r = contains_at xs y later in (suc r.0, omega (arith, r.1), r.2))
]

-- ---- extents

pub some_block : (es : List Extent) → IsNormal es → es ≢ [] → (k : ℕ) × IsSome (place_of es k)
some_block [] normal some = absurd (some refl)
some_block (e ∷ es) normal some =
    let there : IsSome (option_map (place_in e.logical) (if true then Some e else extent_with e.logical es)) = refl in
    (e.logical, subst (λ b. IsSome (option_map (place_in e.logical) (if b then Some e else extent_with e.logical es))) (sym (inside e.logical e.length e.logical (omega arith) (omega (arith, normal.rising.1)))) there)

pub list_some : (i : ℕ) (m : TierRuns) (t : Tier) (o : Option ExtentList) → IsListOf i m t o → IsSome o → runs_in m t ≢ []
list_some i m t None is some = absurd (false≢true some)
list_some i m t (Some v) is some = is.0

pub list_from : (i : ℕ) (m : TierRuns) (t : Tier) (o : Option ExtentList) → IsListOf i m t o → runs_in m t ≢ [] → IsSome o
list_from i m t None is some = absurd (some is)
list_from i m t (Some v) is some = refl

pub no_runs : (m : TierRuns) (t : Tier) (k p : ℕ) → place_of (runs_in m t) k ≡ Some p → runs_in m t ≢ []
no_runs m t k p at none = false≢true (subst IsSome (sym at ∙ ap (λ es. place_of es k) none) refl)

-- ---- an inode

pub rootless : (g : Sizes) (s : Store) (i : ℕ) (t : Tier) (k : ℕ) → root_of (slot g s i) t ≡ 0 → place g s i t k ≡ None
unfolding extents_read
rootless g s i t k none = ap (λ o. place_of (unwrap_or o []) k) (extents_none g (s tiers.Fast) i (slot g s i) t none)

file_only : (x : Slot) (P : Slot → Type 0) → ((names size touch fast block slow : ℕ) → P (slots.File names size touch fast block slow)) → (inode_of x (λ k. [])).kind ≡ Some kind.File → P x
file_only slots.Free P each is = absurd cc
file_only (slots.File names size touch fast block slow) P each is = each names size touch fast block slow
file_only (slots.Directory names entries touch root) P each is = absurd cc

pub data_space : (x : Slot) (t : Tier) → (inode_of x (λ k. [])).kind ≡ Some kind.File → space_of x t ≡ space.Data t
data_space x t is = file_only x (λ y. space_of y t ≡ space.Data t) (λ names size touch fast block slow. refl) is

pub roots_kind : (x : Slot) (roots : Tier → ℕ) → (inode_of x (λ k. [])).kind ≡ Some kind.File → (inode_of (with_roots roots x) (λ k. [])).kind ≡ Some kind.File
roots_kind x roots is = file_only x (λ y. (inode_of (with_roots roots y) (λ k. [])).kind ≡ Some kind.File) (λ names size touch fast block slow. refl) is

pub roots_long : (x : Slot) (roots : Tier → ℕ) → length_of (with_roots roots x) ≡ length_of x
roots_long slots.Free roots = refl
roots_long (slots.File names size touch fast block slow) roots = refl
roots_long (slots.Directory names entries touch root) roots = refl

pub roots_touch : (x : Slot) (roots : Tier → ℕ) → touch_of (with_roots roots x) ≡ touch_of x
roots_touch slots.Free roots = refl
roots_touch (slots.File names size touch fast block slow) roots = refl
roots_touch (slots.Directory names entries touch root) roots = refl

pub roots_space : (x : Slot) (roots : Tier → ℕ) (t : Tier) → space_of (with_roots roots x) t ≡ space_of x t
roots_space slots.Free roots t = refl
roots_space (slots.File names size touch fast block slow) roots t = refl
roots_space (slots.Directory names entries touch root) roots t = refl

-- a file's slot is another's with its own roots, where they tell the same node and touch
pub slot_with : (x y : Slot) → (inode_of x (λ k. [])).kind ≡ Some kind.File → inode_of y (λ k. []) ≡ inode_of x (λ k. []) → touch_of y ≡ touch_of x → y ≡ with_roots (root_of y) x
slot_with slots.Free y is same touch = absurd cc
slot_with (slots.Directory names entries touch root) y is same touched = absurd cc
slot_with (slots.File names size touch fast block slow) slots.Free is same touched = absurd (none (ap (λ n. n.kind) same))
  where
    none : None ≡ Some kind.File → ⊥
    none e = cc
slot_with (slots.File names size touch fast block slow) (slots.Directory n e t r) is same touched = absurd (other (ap (λ n. n.kind) same))
  where
    other : Some kind.Directory ≡ Some kind.File → ⊥
    other e = cc
slot_with (slots.File names size touch fast block slow) (slots.File n s t a b c) is same touched =
    ap (λ k. slots.File k s t a b c) (ap (λ v. v.names) same) ∙ ap (λ k. slots.File names k t a b c) (ap (λ v. v.size) same) ∙ ap (λ k. slots.File names size k a b c) touched
