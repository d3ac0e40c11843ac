-- The places behind those that are used were free, and serve for the next inode.
use Rattle.std.proofs.Common.{◌≡◌, ◌≤◌, ◌<◌, ◌+◌, ◌^◌, ◌∙◌, ℕ, zero, suc, List, [], ◌∷◌, ◌++◌, length, get_or, drop, take, true, refl, sym, ap, subst, arith}
use Rattle.std.specs.Prelude.{nat_le}
use Rattle.std.specs.List.{Contains}
use Rattle.std.proofs.lemmas.Bool.{and_from, le-leb}
use Rattle.std.proofs.lemmas.List.{take-append-drop, drop-map, length-map, length-drop, get_or-map}
use Rattle.std.proofs.lemmas.List.Elements.{Contains-get_or}
use Rattle.tier_device.specs.declared.media.Tier.{Tier}
use Rattle.tier_device.specs.declared.media.Tier.TheVariants as tiers
use Rattle.inode_plan.specs.graph_change.Change.{Change}
use Rattle.inode_plan.specs.layout.Places.{Sizes, IsAllowed, data_first, tier_blocks, is_data}
use Rattle.inode_plan.specs.extent_tree.declared.map.Place.{Place}
use Rattle.inode_plan.specs.area_reader.Store.{Store}
use Rattle.inode_plan.specs.area_commit.declared.allocation.Allocation.{Allocation}
use Rattle.inode_plan.specs.area_commit.Allocations.{taken_data}
use Rattle.inode_plan.specs.PlacedFile.{nth_place}
use Rattle.inode_plan.specs.PlannedFile.{pair_of, pairs_of}
use Rattle.inode_plan.specs.area_commit.Plan.{WereFree}
use Rattle.inode_plan.proofs.area_commit_lemmas.Chosen.{data_has, data_range}
use Rattle.change_plan.specs.File.{AreFreePlaces}
use Rattle.change_plan.specs.Next.{WantsData, HasPlaces}
use Rattle.change_plan.proofs.Firsts.{Once, in_drop, data_once, data_free}
use Rattle.change_plan.proofs.Climbs.{mapped_in}
use Rattle.change_plan.proofs.Wants.{wants_same}

-- each block of a tier has a number of 32 bits
tier_fits : (g : Sizes) (t : Tier) → IsAllowed g → tier_blocks g t < 2 ^ 32
tier_fits g tiers.Fast allowed = omega (arith, allowed.few_units, allowed.fast)
tier_fits g tiers.Block allowed = omega (arith, allowed.block)
tier_fits g tiers.Slow allowed = omega (arith, allowed.slow)

once_back : {A : Type 0} (xs ys : List A) → Once (xs ++ ys) → Once ys
once_back [] ys once = once
once_back (x ∷ xs) ys once = once_back xs ys once.1

-- one element stands at one place
once_at : {A : Type 0} (xs : List A) (d : A) (m n : ℕ) → Once xs → m < length xs → n < length xs → get_or xs m d ≡ get_or xs n d → m ≡ n
once_at [] d m n once one two same = absurd (omega (arith, one))
once_at (x ∷ xs) d zero zero once one two same = refl
once_at (x ∷ xs) d zero (suc n) once one two same = absurd (once.0 (subst (λ y. Contains xs y) (sym same) (Contains-get_or xs n d (omega (arith, two)))))
once_at (x ∷ xs) d (suc m) zero once one two same = absurd (once.0 (subst (λ y. Contains xs y) same (Contains-get_or xs m d (omega (arith, one)))))
once_at (x ∷ xs) d (suc m) (suc n) once one two same = (let less = once_at xs d m n once.1 (omega (arith, one)) (omega (arith, two)) same in omega (arith, less))

one_pair : (a b : Place) → a.tier ≡ b.tier → a.block ≡ b.block → pair_of a ≡ pair_of b
one_pair a b tier block = ap (λ (t : Tier). (t, a.block)) tier ∙ ap (λ (k : ℕ). (b.tier, k)) block

module _ (g : Sizes) (s : Store) (taken : Allocation) (free : WereFree g s taken) (places : List Place) (all : pairs_of places ≡ taken_data taken) (used : ℕ) where
  abbrev rest : List Place
  rest = drop used places

  abbrev no_place : Place
  no_place = record { tier = tiers.Fast; block = 0 }

  rest_pairs : pairs_of rest ≡ drop used (pairs_of places)
  rest_pairs = sym (drop-map pair_of used places)

  taken_at : (n : ℕ) → n < length rest → Contains (taken_data taken) (pair_of (nth_place rest n))
  taken_at n lt =
      let p : Tier × ℕ = pair_of (nth_place rest n) in
      let here : Contains (pairs_of rest) p = mapped_in pair_of rest (nth_place rest n) (Contains-get_or rest n no_place lt) in
      let back : Contains (drop used (pairs_of places)) p = subst (λ (ps : List (Tier × ℕ)). Contains ps p) rest_pairs here in
      subst (λ (ps : List (Tier × ℕ)). Contains ps p) all (in_drop used (pairs_of places) p back)

  within : (n : ℕ) → n < length rest → (data_first g (nth_place rest n).tier ≤ (nth_place rest n).block) × ((nth_place rest n).block < tier_blocks g (nth_place rest n).tier)
  within n lt = data_range g s taken free (nth_place rest n).tier (nth_place rest n).block (data_has taken (pair_of (nth_place rest n)) (taken_at n lt))

  is_data_at : (n : ℕ) → n < length rest → is_data g (nth_place rest n).tier (nth_place rest n).block 1 ≡ true
  is_data_at n lt =
      let r = within n lt in
      let t : Tier = (nth_place rest n).tier in
      let k : ℕ = (nth_place rest n).block in
      and_from (nat_le (data_first g t) k) (nat_le (k + 1) (tier_blocks g t)) (le-leb (data_first g t) k r.0) (le-leb (k + 1) (tier_blocks g t) (let high = r.1 in omega (arith, high)))

  rest_once : Once (pairs_of rest)
  rest_once =
      let whole : Once (pairs_of places) = subst Once (sym all) (data_once g s taken free) in
      subst Once (sym rest_pairs) (once_back (take used (pairs_of places)) (drop used (pairs_of places)) (subst Once (sym (take-append-drop used (pairs_of places))) whole))

  apart : (m n : ℕ) → m < length rest → n < length rest → (nth_place rest m).tier ≡ (nth_place rest n).tier → (nth_place rest m).block ≡ (nth_place rest n).block → m ≡ n
  apart m n one two tier block =
      let long : length (pairs_of rest) ≡ length rest = length-map rest pair_of in
      let same : get_or (pairs_of rest) m (pair_of no_place) ≡ get_or (pairs_of rest) n (pair_of no_place) =
      get_or-map pair_of rest m no_place (pair_of no_place) one ∙ (one_pair (nth_place rest m) (nth_place rest n) tier block ∙ sym (get_or-map pair_of rest n no_place (pair_of no_place) two)) in
      once_at (pairs_of rest) (pair_of no_place) m n rest_once (omega (arith, one, long)) (omega (arith, two, long)) same

  rest_free : AreFreePlaces g s rest
  rest_free = record { free = λ n lt. data_free g s taken free (pair_of (nth_place rest n)) (taken_at n lt); are_data = is_data_at; apart = apart }

  -- they serve for an inode, where it wants no more than are left
  pub has_places : IsAllowed g → (c : Change) (i its more : ℕ) → WantsData g s c i its → used + (its + more) ≡ length places → HasPlaces g s c i rest
  has_places allowed c i its more wants left = record {
    free = rest_free;
    fit = λ n lt. (let high = (within n lt).1 in let end = tier_fits g (nth_place rest n).tier allowed in omega (arith, high, end));
    enough = λ count also. (let same = wants_same g s c i count its also wants in let long = length-drop used places in omega (arith, same, long, left));
  }
