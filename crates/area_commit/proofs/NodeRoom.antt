-- Each block of the node pool is free, or a root or a directory's block.
use Rattle.std.proofs.Common.{◌≡◌, ◌≢◌, ◌≤◌, ◌<◌, ◌+◌, ◌*◌, ℕ, List, [], ◌∷◌, ◌++◌, length, inl, inr, refl, sym, arith, subst, true, Option, Some}
use Rattle.std.specs.List.{Contains}
use Rattle.std.proofs.lemmas.List.{length-append}
use Rattle.std.proofs.lemmas.List.Elements.{Contains-append_left, Contains-append_right}
use Rattle.posix_calls.specs.Tree.{sum_up_to}
use Rattle.tier_device.specs.declared.media.Tier.{Tier}
use Rattle.tier_device.specs.declared.media.Tier.TheVariants.{Fast, Block, Slow}
use Rattle.area_reader.specs.file_graph.Graph.{cost}
use Rattle.area_reader.specs.file_graph.Units.{charge}
use Rattle.area_reader.specs.layout.declared.geometry.Space.TheVariants as space
use Rattle.area_reader.specs.layout.declared.slot.Slot.{Slot}
use Rattle.area_reader.specs.layout.declared.slot.Slot.TheVariants as slots
use Rattle.area_reader.specs.layout.Places.{Sizes, is_inode, slot_block, node_blocks, node_end}
use Rattle.area_reader.specs.Store.{Store, slot, root_of, length_of, space_of, place, graph}
use Rattle.area_reader.specs.Reads.{InodeReads}
use Rattle.area_reader.specs.Format.{IsSpelled, KeepsUnits}
use Rattle.area_reader.specs.Units.{slot_units}
use Rattle.area_reader.proofs.Complete.{root_inode}
use Rattle.area_reader.proofs.Lists.{place_placed}
use Rattle.area_commit.specs.Value.{PoolsView, AreFree}
use Rattle.area_commit.proofs.Members.{cons_here, cons_there}
use Rattle.area_commit.proofs.Counting.{in_or_not, covers, pieces, in_pieces, pieces_few, sum_more, sum_times}
use Rattle.area_commit.proofs.FilePlaces.{file_place}
use Rattle.area_commit.proofs.RoomHeld.{mapped, in_mapped, mapped_few, inode_low, charge_is, place_inode, cost_told}
use Rattle.area_commit.proofs.DataRoom.{slot_low}

-- what an inode has in the node pool: its roots, and a directory's blocks
abbrev roots_in : Slot → List ℕ
roots_in slots.Free = []
roots_in (slots.File names size touch fast block slow) = fast ∷ block ∷ slow ∷ []
roots_in (slots.Directory names entries touch root) = root ∷ []

abbrev entries_in : Slot → (ℕ → Option ℕ) → List ℕ
entries_in slots.Free places = []
entries_in (slots.File names size touch fast block slow) places = []
entries_in (slots.Directory names entries touch root) places = mapped (length_of (slots.Directory names entries touch root)) places

in_roots : (x : Slot) (t : Tier) (k : ℕ) → root_of x t ≢ 0 → k ≡ root_of x t → Contains (roots_in x) k
in_roots slots.Free t k some is = absurd (some refl)
in_roots (slots.File names size touch fast block slow) Fast k some is = cons_here fast (block ∷ slow ∷ []) k (sym is)
in_roots (slots.File names size touch fast block slow) Block k some is = cons_there fast (block ∷ slow ∷ []) k (cons_here block (slow ∷ []) k (sym is))
in_roots (slots.File names size touch fast block slow) Slow k some is = cons_there fast (block ∷ slow ∷ []) k (cons_there block (slow ∷ []) k (cons_here slow [] k (sym is)))
in_roots (slots.Directory names entries touch root) Fast k some is = cons_here root [] k (sym is)
in_roots (slots.Directory names entries touch root) Block k some is = absurd (some refl)
in_roots (slots.Directory names entries touch root) Slow k some is = absurd (some refl)

in_entries : (x : Slot) (places : ℕ → Option ℕ) (j k : ℕ) → (space_of x Fast ≡ space.Data Fast → ⊥) → j < length_of x → places j ≡ Some k → Contains (entries_in x places) k
in_entries slots.Free places j k directory few is = absurd (directory refl)
in_entries (slots.File names size touch fast block slow) places j k directory few is = absurd (directory refl)
in_entries (slots.Directory names entries touch root) places j k directory few is = in_mapped (length_of (slots.Directory names entries touch root)) places j k few is

-- so many blocks at most
record FewNodes (held units : ℕ) : Type 0 where
  and_two : held ≤ units + 2
  times : held ≤ 3 * units

few_nodes : (x : Slot) (places : ℕ → Option ℕ) → FewNodes (length (roots_in x ++ entries_in x places)) (slot_units x)
few_nodes slots.Free places = record { and_two = omega arith; times = omega arith }
few_nodes (slots.File names size touch fast block slow) places = record { and_two = omega arith; times = omega arith }
few_nodes (slots.Directory names entries touch root) places =
    let few : length (mapped (length_of (slots.Directory names entries touch root)) places) ≤ length_of (slots.Directory names entries touch root) = mapped_few (length_of (slots.Directory names entries touch root)) places in
    record { and_two = omega (arith, few); times = omega (arith, few) }

module _ (g : Sizes) (s : Store) (spelled : IsSpelled g s) where
  abbrev of_inode : ℕ → List ℕ
  of_inode i = roots_in (slot g s i) ++ entries_in (slot g s i) (place g s i Fast)

  abbrev held_nodes : List ℕ
  held_nodes = pieces 1024 of_inode

  here : (i k : ℕ) → is_inode i ≡ true → Contains (of_inode i) k → Contains held_nodes k
  here i k number at = in_pieces 1024 of_inode i k (inode_low i number).0 (inode_low i number).1 at

  unread : (k : ℕ) → 292 ≤ k → k < node_end g → (Contains held_nodes k → ⊥) → (i : ℕ) → InodeReads g s i Fast k → ⊥
  unread k low high none i (inl (number, fast, at)) = let before : slot_block i < 292 = slot_low i number in omega (arith, low, before, at)
  unread k low high none i (inr (inl (t, fast, some, at))) = none (here i k (root_inode g s i t some) (Contains-append_left (roots_in (slot g s i)) (entries_in (slot g s i) (place g s i Fast)) k (in_roots (slot g s i) t k some at)))
  unread k low high none i (inr (inr (j, at))) =
      none (here i k (place_inode g s i Fast j k at) (Contains-append_right (roots_in (slot g s i)) (entries_in (slot g s i) (place g s i Fast)) k (in_entries (slot g s i) (place g s i Fast) j k (λ of_data. (let after : node_end g ≤ k = file_place g s i Fast j k of_data at in omega (arith, after, high))) ((place_placed g s i Fast j k at).within) at)))

  few : (i : ℕ) → 1 ≤ i → i ≤ 1024 → FewNodes (length (of_inode i)) (cost (graph g s i))
  few i low high = subst (FewNodes (length (of_inode i))) (sym (cost_told g s spelled i low high)) (few_nodes (slot g s i) (place g s i Fast))

  few_by_inodes : length held_nodes ≤ charge (graph g s) + 2048
  few_by_inodes =
      let each : length held_nodes ≤ sum_up_to 1024 (λ i. cost (graph g s i) + 2) = pieces_few 1024 of_inode (λ i. cost (graph g s i) + 2) (λ i low high. (few i low high).and_two) in
      let sum : sum_up_to 1024 (λ i. cost (graph g s i) + 2) ≡ sum_up_to 1024 (λ i. cost (graph g s i)) + 2 * 1024 = sum_more 1024 2 (λ i. cost (graph g s i)) in
      let all : sum_up_to 1024 (λ i. cost (graph g s i)) ≡ charge (graph g s) = charge_is (graph g s) in
      omega (arith, each, sum, all)

  few_by_units : length held_nodes ≤ 3 * charge (graph g s)
  few_by_units =
      let each : length held_nodes ≤ sum_up_to 1024 (λ i. 3 * cost (graph g s i)) = pieces_few 1024 of_inode (λ i. 3 * cost (graph g s i)) (λ i low high. (few i low high).times) in
      let sum : sum_up_to 1024 (λ i. 3 * cost (graph g s i)) ≡ 3 * sum_up_to 1024 (λ i. cost (graph g s i)) = sum_times 1024 3 (λ i. cost (graph g s i)) in
      let all : sum_up_to 1024 (λ i. cost (graph g s i)) ≡ charge (graph g s) = charge_is (graph g s) in
      omega (arith, each, sum, all)

  covered : (p : PoolsView) → AreFree g s p → node_blocks g ≤ length held_nodes + length p.nodes.free
  covered p free =
      let all : node_blocks g ≤ length (held_nodes ++ p.nodes.free) =
      covers (node_blocks g) 292 (held_nodes ++ p.nodes.free) (λ k low high. elim (in_or_not held_nodes k) [
        | inl held ↦ Contains-append_left held_nodes p.nodes.free k held
        | inr none ↦ Contains-append_right held_nodes p.nodes.free k ((free.nodes k).1 (record { room = record { first = low; last = omega (arith, high) }; unread = unread k low high none }, high))
      ]) in
      let long : length (held_nodes ++ p.nodes.free) ≡ length held_nodes + length p.nodes.free = length-append held_nodes p.nodes.free in
      omega (arith, all, long)

pub nodes_by_inodes : (g : Sizes) (s : Store) (p : PoolsView) → IsSpelled g s → AreFree g s p → node_blocks g ≤ length p.nodes.free + charge (graph g s) + 2 * 1024
nodes_by_inodes g s p spelled free =
    let all : node_blocks g ≤ length (held_nodes g s spelled) + length p.nodes.free = covered g s spelled p free in
    let held : length (held_nodes g s spelled) ≤ charge (graph g s) + 2048 = few_by_inodes g s spelled in
    omega (arith, all, held)

pub nodes_by_units : (g : Sizes) (s : Store) (p : PoolsView) → IsSpelled g s → AreFree g s p → node_blocks g ≤ length p.nodes.free + 3 * charge (graph g s)
nodes_by_units g s p spelled free =
    let all : node_blocks g ≤ length (held_nodes g s spelled) + length p.nodes.free = covered g s spelled p free in
    let held : length (held_nodes g s spelled) ≤ 3 * charge (graph g s) = few_by_units g s spelled in
    omega (arith, all, held)

pub nodes_spare : (g : Sizes) (s : Store) (p : PoolsView) → IsSpelled g s → KeepsUnits g s → AreFree g s p → 2048 ≤ length p.nodes.free
nodes_spare g s p spelled keeps free =
    let one : node_blocks g ≤ length p.nodes.free + charge (graph g s) + 2 * 1024 = nodes_by_inodes g s p spelled free in
    let two : node_blocks g ≤ length p.nodes.free + 3 * charge (graph g s) = nodes_by_units g s p spelled free in
    let units : charge (graph g s) ≤ g.units = keeps in
    omega (arith, one, two, units)
