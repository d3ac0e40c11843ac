-- The blocks of an inode are no more than its units.
use Rattle.std.proofs.Common.{◌≡◌, ◌≢◌, ◌≤◌, ◌<◌, ◌+◌, ◌-◌, ℕ, suc, List, [], ◌∷◌, length, true, Option, Some, None, refl, sym, ap, ◌∙◌, arith, subst}
use Rattle.std.specs.Prelude.{nat_le, nat_lt, option_map}
use Rattle.std.specs.List.{Contains}
use Rattle.std.proofs.lemmas.Bool.{and_parts, leb-true, ltb-true}
use Rattle.posix_calls.specs.Tree.{sum_up_to}
use Rattle.tier_device.specs.declared.media.Tier.{Tier}
use Rattle.tier_device.specs.declared.media.Tier.TheVariants.{Fast, Block, Slow}
use Rattle.area_reader.specs.file_graph.Graph.{Graph, cost}
use Rattle.area_reader.specs.file_graph.Units.{charge}
use Rattle.area_reader.specs.layout.declared.slot.Slot.{Slot}
use Rattle.area_reader.specs.layout.declared.slot.Slot.TheVariants as slots
use Rattle.area_reader.specs.layout.Places.{Sizes, is_inode, node_end}
use Rattle.area_reader.specs.Store.{Store, slot, root_of, length_of, place, graph}
use Rattle.area_reader.specs.Format.{IsSpelled}
use Rattle.area_reader.specs.Units.{slot_units}
use Rattle.area_reader.proofs.Complete.{used_root, root_inode}
use Rattle.area_reader.proofs.Costs.{units_told}
use Rattle.area_reader.proofs.Damages.{is_some_at}
use Rattle.area_reader.proofs.Lists.{place_placed, slot_here_fits}
use Rattle.area_reader.proofs.Shown.{slot_limits, inode_is}
use Rattle.area_commit.proofs.Members.{cons_here}
use Rattle.area_commit.proofs.Counting.{pieces, in_pieces, pieces_few, three_few, sum_ones}

-- the number that there may be
abbrev pub at_place : Option ℕ → List ℕ
at_place None = []
at_place (Some k) = k ∷ []

one_few : (o : Option ℕ) → length (at_place o) ≤ 1
one_few None = omega arith
one_few (Some k) = omega arith

-- the places of the first so many logical blocks
abbrev pub mapped : ℕ → (ℕ → Option ℕ) → List ℕ
mapped n places = pieces n (λ j. at_place (places (j - 1)))

pub in_mapped : (n : ℕ) (places : ℕ → Option ℕ) (j k : ℕ) → j < n → places j ≡ Some k → Contains (mapped n places) k
in_mapped n places j k few is =
    let back : suc j - 1 ≡ j = omega arith in
    let at : at_place (places (suc j - 1)) ≡ k ∷ [] = ap (λ m. at_place (places m)) back ∙ ap at_place is in
    in_pieces n (λ j. at_place (places (j - 1))) (suc j) k (omega arith) (omega (arith, few)) (subst (λ xs. Contains xs k) (sym at) (cons_here k [] k refl))

pub mapped_few : (n : ℕ) (places : ℕ → Option ℕ) → length (mapped n places) ≤ n
mapped_few n places =
    let few : length (mapped n places) ≤ sum_up_to n (λ i. 1) = pieces_few n (λ j. at_place (places (j - 1))) (λ i. 1) (λ i low high. one_few (places (i - 1))) in
    let ones : sum_up_to n (λ i. 1) ≡ n = sum_ones n in
    omega (arith, few, ones)

-- ---- inodes

pub inode_low : (i : ℕ) → is_inode i ≡ true → (1 ≤ i) × (i ≤ 1024)
inode_low i number = let p = and_parts (nat_le 1 i) (nat_le i 1024) number in (leb-true 1 i p.0, leb-true i 1024 p.1)

pub charge_is : (x : Graph) → sum_up_to 1024 (λ i. cost (x i)) ≡ charge x
unfolding charge
charge_is x = refl

pub length_units : (x : Slot) → length_of x ≤ slot_units x
length_units slots.Free = omega arith
length_units (slots.File names size touch fast block slow) = omega arith
length_units (slots.Directory names entries touch root) = omega arith

pub place_inode : (g : Sizes) (s : Store) (i : ℕ) (t : Tier) (j k : ℕ) → place g s i t j ≡ Some k → is_inode i ≡ true
place_inode g s i t j k is = root_inode g s i t (used_root g s i t (Some j) (t, k) (ap (option_map (λ p. (t, p))) is))

pub root_within : (g : Sizes) (s : Store) (i : ℕ) (t : Tier) → root_of (slot g s i) t ≢ 0 → (292 ≤ root_of (slot g s i) t) × (root_of (slot g s i) t < node_end g)
root_within g s i t some =
    let p = and_parts (nat_le 292 (root_of (slot g s i) t)) (nat_lt (root_of (slot g s i) t) (node_end g)) ((slot_limits g (slot g s i) (slot_here_fits g s i)).roots t some) in
    (leb-true _ _ p.0, ltb-true _ _ p.1)

-- ---- logical blocks

abbrev NotBoth : Option ℕ → Option ℕ → Type 0
NotBoth a b = (j k : ℕ) → a ≡ Some j → b ≡ Some k → ⊥

one_of_three : (a b c : Option ℕ) → NotBoth a b → NotBoth a c → NotBoth b c → length (at_place a) + length (at_place b) + length (at_place c) ≤ 1
one_of_three None None c ab ac bc = omega (arith, one_few c)
one_of_three None (Some j) None ab ac bc = omega arith
one_of_three None (Some j) (Some k) ab ac bc = absurd (bc j k refl refl)
one_of_three (Some j) None None ab ac bc = omega arith
one_of_three (Some j) None (Some k) ab ac bc = absurd (ac j k refl refl)
one_of_three (Some j) (Some k) c ab ac bc = absurd (ab j k refl refl)

fast_block : Fast ≡ Block → ⊥
fast_block e = cc

fast_slow : Fast ≡ Slow → ⊥
fast_slow e = cc

block_slow : Block ≡ Slow → ⊥
block_slow e = cc

module _ (g : Sizes) (s : Store) (spelled : IsSpelled g s) where
  pub cost_told : (i : ℕ) → 1 ≤ i → i ≤ 1024 → cost (graph g s i) ≡ slot_units (slot g s i)
  cost_told i low high = units_told g s i (spelled.inodes i (inode_is i low high))

  -- the places of an inode's logical blocks in a tier, and those of all inodes
  abbrev pub of_inode : Tier → ℕ → List ℕ
  of_inode t i = mapped (length_of (slot g s i)) (place g s i t)

  abbrev pub held : Tier → List ℕ
  held t = pieces 1024 (of_inode t)

  pub is_held : (i j : ℕ) (t : Tier) (k : ℕ) → place g s i t j ≡ Some k → Contains (held t) k
  is_held i j t k is =
      let number = inode_low i (place_inode g s i t j k is) in
      in_pieces 1024 (of_inode t) i k number.0 number.1 (in_mapped (length_of (slot g s i)) (place g s i t) j k ((place_placed g s i t j k is).within) is)

  apart : (i j : ℕ) (t u : Tier) → (t ≡ u → ⊥) → NotBoth (place g s i t j) (place g s i u j)
  apart i j t u differ k l one two = differ ((spelled.inodes i (place_inode g s i t j k one)).once t u j (is_some_at (place g s i t j) k one) (is_some_at (place g s i u j) l two))

  each_few : (i : ℕ) → 1 ≤ i → i ≤ 1024 → length (of_inode Fast i) + length (of_inode Block i) + length (of_inode Slow i) ≤ cost (graph g s i)
  each_few i low high =
      let n : ℕ = length_of (slot g s i) in
      let few : length (of_inode Fast i) + length (of_inode Block i) + length (of_inode Slow i) ≤ sum_up_to n (λ j. 1) =
      three_few n (λ j. at_place (place g s i Fast (j - 1))) (λ j. at_place (place g s i Block (j - 1))) (λ j. at_place (place g s i Slow (j - 1))) (λ j. 1) (λ j one last. one_of_three (place g s i Fast (j - 1)) (place g s i Block (j - 1)) (place g s i Slow (j - 1)) (apart i (j - 1) Fast Block fast_block) (apart i (j - 1) Fast Slow fast_slow) (apart i (j - 1) Block Slow block_slow)) in
      let ones : sum_up_to n (λ j. 1) ≡ n = sum_ones n in
      let units : n ≤ slot_units (slot g s i) = length_units (slot g s i) in
      let told : cost (graph g s i) ≡ slot_units (slot g s i) = cost_told i low high in
      omega (arith, few, ones, units, told)

  pub held_few : length (held Fast) + length (held Block) + length (held Slow) ≤ charge (graph g s)
  held_few =
      let few : length (held Fast) + length (held Block) + length (held Slow) ≤ sum_up_to 1024 (λ i. cost (graph g s i)) = three_few 1024 (of_inode Fast) (of_inode Block) (of_inode Slow) (λ i. cost (graph g s i)) each_few in
      let all : sum_up_to 1024 (λ i. cost (graph g s i)) ≡ charge (graph g s) = charge_is (graph g s) in
      omega (arith, few, all)
