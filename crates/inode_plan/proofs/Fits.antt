-- The slot and the runs of a planned directory keep the limits of the format.
use Rattle.std.proofs.Common.{◌≡◌, ◌≤◌, ◌<◌, ◌+◌, ◌^◌, ◌∙◌, ◌&&◌, ℕ, List, [], length, true, Option, Some, None, refl, sym, subst, arith}
use Rattle.std.specs.Prelude.{IsSome, nat_le, nat_lt}
use Rattle.std.proofs.lemmas.Bool.{and_from, and_parts, le-leb, lt-ltb, ltb-true, false≢true}
use Rattle.std.proofs.lemmas.Option.{none-some}
use Rattle.tier_device.specs.declared.media.Tier.{Tier}
use Rattle.tier_device.specs.declared.media.Tier.TheVariants.{Fast, Block, Slow}
use Rattle.posix_calls.specs.declared.limits.TheConstants.{MAX_NAMES, MAX_ENTRIES}
use Rattle.area_commit.specs.layout.declared.slot.Slot.{Slot}
use Rattle.area_commit.specs.layout.declared.slot.Slot.TheVariants as slots
use Rattle.area_commit.specs.layout.declared.geometry.Space.TheVariants as space
use Rattle.area_commit.specs.layout.declared.extents.Extent.{Extent}
use Rattle.area_commit.specs.layout.Places.{Sizes, is_node, is_run, node_end}
use Rattle.area_commit.specs.layout.Slot.{fits_slot, is_root_block}
use Rattle.area_commit.specs.extent_tree.Normal.{IsNormal}
use Rattle.area_commit.specs.extent_tree.Places.{place_of}
use Rattle.area_commit.specs.extent_tree.BlockFormat.{LiesWithin, IsOneToOne}
use Rattle.area_commit.proofs.extent_tree_lemmas.Unique.{one-list}
use Rattle.area_commit.specs.extent_tree.Map.{runs_in, lies_at, LieBelow}
use Rattle.area_commit.specs.area_reader.Store.{length_of, space_of}
use Rattle.area_commit.proofs.extent_tree_lemmas.Runs.{few_below}
use Rattle.area_commit.specs.InodeRewrite.{IsFit}
use Rattle.inode_plan.specs.Blocks.{HaveOwnPlaces, AreNodeBlocks}
use Rattle.inode_plan.specs.PlacedDirectory.{ListPlaces}
use Rattle.inode_plan.specs.PlannedDirectory.{on_fast}
use Rattle.inode_plan.proofs.Uses.{lies_at_place}

-- a block of the node pool may hold entries
node_run : (g : Sizes) (p : ℕ) → is_node g p ≡ true → is_run g space.Nodes p 1 ≡ true
node_run g p is =
    let parts = and_parts (nat_le 292 p) (nat_lt p (node_end g)) is in
    let high = ltb-true p (node_end g) parts.1 in
    and_from (nat_le 292 p) (nat_le (p + 1) (node_end g)) parts.0 (le-leb (p + 1) (node_end g) (omega (arith, high)))

-- where there is no block, there is no run
pub no_places : (places : List ℕ) (runs : List Extent) → ListPlaces places runs → length places ≡ 0 → runs ≡ []
no_places places runs lie none = one-list 0 4294967295 runs [] lie.normal.rising tt lie.normal.apart tt (λ k. lie.none k (omega (arith, none)))

some_at : (o : Option ℕ) → IsSome o → (p : ℕ) × (o ≡ Some p)
some_at None is = absurd (false≢true is)
some_at (Some p) is = (p, refl)

module _ (g : Sizes) (places : List ℕ) (runs : List Extent) (lie : ListPlaces places runs) (nodes : AreNodeBlocks g places) (apart : HaveOwnPlaces places) where
  normal : (t : Tier) → IsNormal (runs_in (on_fast runs) t)
  normal Fast = lie.normal
  normal Block = record { rising = tt; apart = tt; places = tt }
  normal Slow = record { rising = tt; apart = tt; places = tt }

  below : (n : ℕ) → length places ≡ n → LieBelow n (on_fast runs)
  below n long Fast k some = let p = some_at (place_of runs k) some in let lt = (lies_at_place places runs lie k p.0 p.1).0 in omega (arith, lt, long)
  below n long Block k some = absurd (false≢true some)
  below n long Slow k some = absurd (false≢true some)

  on_nodes : length places ≤ 64 → LiesWithin g space.Nodes runs
  on_nodes few k p at =
      let q = lies_at_place places runs lie k p at in
      let lt = q.0 in
      (omega (arith, lt, few), node_run g p (subst (λ b. is_node g b ≡ true) q.1 (nodes k q.0)))

  one_to_one : (t : Tier) → IsOneToOne (runs_in (on_fast runs) t)
  one_to_one Fast j k p one two =
      let a = lies_at_place places runs lie j p one in
      let b = lies_at_place places runs lie k p two in
      apart j k a.0 b.0 (a.1 ∙ sym b.1)
  one_to_one Block j k p one two = absurd (none-some p one)
  one_to_one Slow j k p one two = absurd (none-some p one)

  fast_alone : (t : Tier) (k : ℕ) → IsSome (lies_at (on_fast runs) t k) → t ≡ Fast
  fast_alone Fast k some = refl
  fast_alone Block k some = absurd (false≢true some)
  fast_alone Slow k some = absurd (false≢true some)

  module _ (names entries touch root : ℕ) where
    abbrev slot_then : Slot
    slot_then = slots.Directory names entries touch root

    limits : touch < 2 ^ 64 → names ≤ MAX_NAMES → entries ≤ MAX_ENTRIES → is_root_block g root ≡ true → fits_slot g slot_then ≡ true
    limits touches named counted rooted =
        and_from (nat_lt touch (2 ^ 64)) (nat_le names MAX_NAMES && nat_le entries MAX_ENTRIES && is_root_block g root) (lt-ltb touch (2 ^ 64) touches)
        (and_from (nat_le names MAX_NAMES && nat_le entries MAX_ENTRIES) (is_root_block g root) (and_from (nat_le names MAX_NAMES) (nat_le entries MAX_ENTRIES) (le-leb names MAX_NAMES named) (le-leb entries MAX_ENTRIES counted)) rooted)

    within : length places ≤ 64 → (t : Tier) → LiesWithin g (space_of slot_then t) (runs_in (on_fast runs) t)
    within few Fast k p at = on_nodes few k p at
    within few Block k p at = absurd (none-some p at)
    within few Slow k p at = absurd (none-some p at)

    pub is_fit : touch < 2 ^ 64 → names ≤ MAX_NAMES → entries ≤ MAX_ENTRIES → is_root_block g root ≡ true → length places ≡ length_of slot_then → IsFit g slot_then (on_fast runs)
    is_fit touches named counted rooted long =
        let few : length places ≤ 64 = omega (arith, long, counted) in
        record {
          limits = limits touches named counted rooted;
          normal = normal;
          below = below (length_of slot_then) long;
          within = within few;
          apart = one_to_one;
          once = λ t u k one two. fast_alone t k one ∙ sym (fast_alone u k two);
        }

-- there are no more runs than blocks
pub few_runs : (places : List ℕ) (runs : List Extent) → ListPlaces places runs → length runs ≤ length places
few_runs places runs lie = let fits = few_below (length places) 0 4294967295 runs lie.normal.rising (λ k p at. (lies_at_place places runs lie k p at).0) (omega arith) in omega (arith, fits)
