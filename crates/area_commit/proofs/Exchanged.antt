-- Which blocks are free after a change.
use Rattle.std.proofs.Common.{◌≡◌, ◌≤◌, ◌<◌, ◌↔◌, inl, inr, ◌⊎◌, ℕ, List, Bool, Option, Some, None, refl, sym, ap, ◌∙◌, arith, subst}
use Rattle.std.specs.Prelude.{◌==◌, option_map}
use Rattle.std.specs.List.{Contains}
use Rattle.std.proofs.lemmas.Bool.{cases_Bool, cond-true, cond-false, eqb-false, true≢false}
use Rattle.std.proofs.lemmas.List.Elements.{Contains-append_left}
use Rattle.tier_device.specs.declared.media.Tier.{Tier}
use Rattle.tier_device.specs.declared.media.Tier.TheVariants.{Fast}
use Rattle.area_reader.specs.layout.Places.{Sizes, node_end, data_first}
use Rattle.block_alloc.specs.Runs.{blocks_of}
use Rattle.block_alloc.specs.Value.{InOrder}
use Rattle.area_reader.specs.Store.{Store, slot, root_of, place}
use Rattle.area_reader.specs.Reads.{IsRoom, Free}
use Rattle.area_reader.specs.Format.{Use, used_block, AreUsedOnce, IsSpelled}
use Rattle.area_reader.proofs.Lists.{place_placed}
use Rattle.area_reader.proofs.Rewriting.{free_unused}
use Rattle.area_commit.specs.Value.{PoolsView, data_pool, AreInOrder, AreFree}
use Rattle.area_commit.specs.declared.allocation.Allocation.{Allocation}
use Rattle.area_commit.specs.Allocations.{WereTaken, runs_of}
use Rattle.area_commit.proofs.Departed.{taken_left}
use Rattle.area_commit.proofs.Members.{each_tier}
use Rattle.area_commit.specs.BlockExchange.{Exchanges, BlockIsGivenUp, BlockIsTaken, WereGiven, HaveExchanged}
use Rattle.area_commit.proofs.Counting.{in_or_not}
use Rattle.area_commit.proofs.RoomHeld.{root_within}

-- ---- what is used lies in a pool

abbrev tier_in : Option (Tier × ℕ) → Tier
tier_in None = Fast
tier_in (Some b) = b.0

abbrev block_in : Option (Tier × ℕ) → ℕ
block_in None = 0
block_in (Some b) = b.1

none_some : (b : Tier × ℕ) → None ≡ Some b → ⊥
none_some b e = cc

root_room : (g : Sizes) (s : Store) (i : ℕ) (u t : Tier) (k : ℕ) → used_block g s (record { inode = i; tier = u; logical = None }) ≡ Some (t, k) → IsRoom g t k
root_room g s i u t k is = elim (cases_Bool (root_of (slot g s i) u == 0)) [
  | inl none ↦ absurd (none_some (t, k) (sym (cond-true (root_of (slot g s i) u == 0) None (Some (Fast, root_of (slot g s i) u)) none) ∙ is))
  | inr some ↦
      let within = root_within g s i u (λ e. eqb-false (root_of (slot g s i) u) 0 some e) in
      let room : IsRoom g Fast (root_of (slot g s i) u) = record { first = within.0; last = omega (arith, within.1) } in
      let at : Some (Fast, root_of (slot g s i) u) ≡ Some (t, k) = sym (cond-false (root_of (slot g s i) u == 0) None (Some (Fast, root_of (slot g s i) u)) some) ∙ is in
      subst (λ (v : Tier). IsRoom g v k) (ap tier_in at) (subst (IsRoom g Fast) (ap block_in at) room)
]

place_room : (g : Sizes) (s : Store) (i : ℕ) (u t : Tier) (j k : ℕ) (o : Option ℕ) → place g s i u j ≡ o → option_map {U = Tier × ℕ} (λ p. (u, p)) o ≡ Some (t, k) → IsRoom g t k
place_room g s i u t j k None there is = absurd cc
place_room g s i u t j k (Some p) there is = subst (λ (v : Tier). IsRoom g v k) (ap tier_in is) (subst (IsRoom g u) (ap block_in is) (place_placed g s i u j p there).room)

part_room : (g : Sizes) (s : Store) (i : ℕ) (u : Tier) (o : Option ℕ) (t : Tier) (k : ℕ) → used_block g s (record { inode = i; tier = u; logical = o }) ≡ Some (t, k) → IsRoom g t k
part_room g s i u None t k is = root_room g s i u t k is
part_room g s i u (Some j) t k is = place_room g s i u t j k (place g s i u j) refl is

use_room : (g : Sizes) (s : Store) (u : Use) (t : Tier) (k : ℕ) → used_block g s u ≡ Some (t, k) → IsRoom g t k
use_room g s u t k is = part_room g s u.inode u.tier u.logical t k is

-- ---- free blocks before and after

no_use : (g : Sizes) (s : Store) (t : Tier) (k : ℕ) → Free g s t k → (u : Use) → used_block g s u ≡ Some (t, k) → ⊥
no_use g s t k free = ((free_unused g s t k).0 free).1

pub given_used : (g : Sizes) (rewritten : ℕ → Bool) (old new : Store) (t : Tier) (k : ℕ) → BlockIsGivenUp g rewritten old new t k → Free g old t k → ⊥
given_used g rewritten old new t k it free = no_use g old t k free it.was.0 it.was.2

pub given_room : (g : Sizes) (rewritten : ℕ → Bool) (old new : Store) (t : Tier) (k : ℕ) → BlockIsGivenUp g rewritten old new t k → IsRoom g t k
given_room g rewritten old new t k it = use_room g old it.was.0 t k it.was.2

module _ (g : Sizes) (rewritten : ℕ → Bool) (old new : Store) (taken : Tier → ℕ → Type 0) (is : Exchanges g rewritten old new taken) where
  free_stays : (t : Tier) (k : ℕ) → Free g old t k → (taken t k → ⊥) → Free g new t k
  free_stays t k free untaken = (free_unused g new t k).1 (
    free.room,
    λ u at. elim (cases_Bool (rewritten u.inode)) [
      | inl its ↦ elim (is.gets u.inode t k its (u, refl, at)) [ inl was ↦ no_use g old t k free was.0 was.2 | inr it ↦ untaken it ]
      | inr other ↦ no_use g old t k free u (sym (is.others u other) ∙ at)
    ],
  )

  module _ (once : AreUsedOnce g old) (were_free : (t : Tier) (k : ℕ) → taken t k → Free g old t k) where
    given_free : (t : Tier) (k : ℕ) → BlockIsGivenUp g rewritten old new t k → Free g new t k
    given_free t k it = (free_unused g new t k).1 (
      given_room g rewritten old new t k it,
      λ v there. elim (cases_Bool (rewritten v.inode)) [
        | inl one ↦ elim (is.gets v.inode t k one (v, refl, there)) [
          | inl was ↦ it.none (v, sym (was.1) ∙ (ap (λ (w : Use). w.inode) (once (was.0) it.was.0 (t, k) (was.2) it.was.2) ∙ it.was.1), there)
          | inr took ↦ no_use g old t k (were_free t k took) it.was.0 it.was.2
        ]
        | inr other ↦
            let same : v ≡ it.was.0 = once v it.was.0 (t, k) (sym (is.others v other) ∙ there) it.was.2 in
            let here : v.inode ≡ it.inode = ap (λ (w : Use). w.inode) same ∙ it.was.1 in
            true≢false (sym it.its ∙ (ap rewritten (sym here) ∙ other))
      ],
    )

  -- what is free now was so before and is not taken, or is given up
  back : (t : Tier) (k : ℕ) (P : Type 0) → Free g new t k → (Free g old t k → (taken t k → ⊥) → P) → (BlockIsGivenUp g rewritten old new t k → P) → P ⊎ (P → ⊥) → P
  back t k P free stays gives (inl known) = known
  back t k P free stays gives (inr none) =
      let ungiven : BlockIsGivenUp g rewritten old new t k → ⊥ = λ it. none (gives it) in
      let was : Free g old t k = (free_unused g old t k).1 (
        free.room,
        λ u at. elim (cases_Bool (rewritten u.inode)) [
          | inl its ↦ ungiven (record { inode = u.inode; its = its; was = (u, refl, at); none = λ v. no_use g new t k free v.0 v.2 })
          | inr other ↦ no_use g new t k free u (is.others u other ∙ at)
        ],
      ) in
      let untaken : taken t k → ⊥ = λ it. (let v = is.all t k it in no_use g new t k free v.0 v.1) in
      absurd (none (stays was untaken))

pub sets_free : (g : Sizes) (rewritten : ℕ → Bool) (old new : Store) (before after : PoolsView) (taken : Tier → ℕ → Type 0) → IsSpelled g old → Exchanges g rewritten old new taken → ((t : Tier) (k : ℕ) → taken t k → Free g old t k) → AreFree g old before → HaveExchanged g before after taken (BlockIsGivenUp g rewritten old new) → AreFree g new after
sets_free g rewritten old new before after taken spelled is were_free free have = record {
  nodes = λ k. (
    λ at. elim ((have.nodes k).0 at) [
      | inl stays ↦ (let was = (free.nodes k).0 stays.0 in (free_stays g rewritten old new taken is Fast k was.0 stays.1, was.1))
      | inr it ↦ (given_free g rewritten old new taken is spelled.apart were_free Fast k it.0, it.1)
    ],
    λ now. back g rewritten old new taken is Fast k (Contains after.nodes.free k) now.0 (λ was untaken. (have.nodes k).1 (inl ((free.nodes k).1 (was, now.1), untaken))) (λ it. (have.nodes k).1 (inr (it, now.1))) (in_or_not after.nodes.free k),
  );
  per_tier = λ t k. (
    λ at. elim ((have.per_tier t k).0 at) [
      | inl stays ↦ (let was = (free.per_tier t k).0 stays.0 in (free_stays g rewritten old new taken is t k was.0 stays.1, was.1))
      | inr it ↦ (given_free g rewritten old new taken is spelled.apart were_free t k it.0, it.1)
    ],
    λ now. back g rewritten old new taken is t k (Contains (data_pool after t).free k) now.0 (λ was untaken. (have.per_tier t k).1 (inl ((free.per_tier t k).1 (was, now.1), untaken))) (λ it. (have.per_tier t k).1 (inr (it, now.1))) (in_or_not (data_pool after t).free k),
  );
}

-- ---- what was taken of the pools, and what was given to them

module _ (g : Sizes) (old : Store) (before left : PoolsView) (taken : Allocation) (order : AreInOrder before) (free : AreFree g old before) (took : WereTaken before left taken) where
  of_nodes : (k : ℕ) → Contains (blocks_of taken.nodes.items) k → Free g old Fast k × (k < node_end g)
  of_nodes k at = (free.nodes k).0 (subst (λ (xs : List ℕ). Contains xs k) took.nodes.front (Contains-append_left (blocks_of taken.nodes.items) left.nodes.free k at))

  of_data : (t : Tier) (k : ℕ) → Contains (blocks_of (runs_of taken t)) k → Free g old t k × (data_first g t ≤ k)
  of_data t k at = (free.per_tier t k).0 (subst (λ (xs : List ℕ). Contains xs k) (took.per_tier t).front (Contains-append_left (blocks_of (runs_of taken t)) (data_pool left t).free k at))

  pub taken_were_free : (t : Tier) (k : ℕ) → BlockIsTaken taken t k → Free g old t k
  taken_were_free t k (inl (fast, at)) = subst (λ (u : Tier). Free g old u k) (sym fast) (of_nodes k at).0
  taken_were_free t k (inr at) = (of_data t k at).0

  data_order : (t : Tier) → InOrder (data_pool before t)
  data_order t = each_tier (λ u. InOrder (data_pool before u)) order.fast order.block order.slow t

  nodes_left : (k : ℕ) → Contains left.nodes.free k ↔ (Contains before.nodes.free k × (BlockIsTaken taken Fast k → ⊥))
  nodes_left k = (
    λ at. (let p = (taken_left before.nodes left.nodes taken.nodes.items order.nodes took.nodes k).0 at in (
      p.0,
      λ it. elim it [
        | inl node ↦ p.1 (node.1)
        | inr other ↦ (let high : node_end g ≤ k = (of_data Fast k other).1 in let low : k < node_end g = ((free.nodes k).0 p.0).1 in omega (arith, low, high))
      ],
    )),
    λ p. (taken_left before.nodes left.nodes taken.nodes.items order.nodes took.nodes k).1 (p.0, λ at. p.1 (inl (refl, at))),
  )

  data_left : (t : Tier) (k : ℕ) → Contains (data_pool left t).free k ↔ (Contains (data_pool before t).free k × (BlockIsTaken taken t k → ⊥))
  data_left t k = (
    λ at. (let p = (taken_left (data_pool before t) (data_pool left t) (runs_of taken t) (data_order t) (took.per_tier t) k).0 at in (
      p.0,
      λ it. elim it [
        | inl node ↦ (let high : node_end g ≤ k = subst (λ (u : Tier). data_first g u ≤ k) (node.0) ((free.per_tier t k).0 p.0).1 in let low : k < node_end g = (of_nodes k (node.1)).1 in omega (arith, low, high))
        | inr here ↦ p.1 here
      ],
    )),
    λ p. (taken_left (data_pool before t) (data_pool left t) (runs_of taken t) (data_order t) (took.per_tier t) k).1 (p.0, λ at. p.1 (inr at)),
  )

  through : {A B C D : Type 0} → A ↔ (B ⊎ C) → B ↔ D → A ↔ (D ⊎ C)
  through whole part = (
    λ a. elim (whole.0 a) [ inl b ↦ inl (part.0 b) | inr c ↦ inr c ],
    λ e. elim e [ inl d ↦ whole.1 (inl (part.1 d)) | inr c ↦ whole.1 (inr c) ],
  )

  pub have_exchanged : (after : PoolsView) (given : Tier → ℕ → Type 0) → WereGiven g left after given → HaveExchanged g before after (BlockIsTaken taken) given
  have_exchanged after given gave = record { nodes = λ k. through (gave.nodes k) (nodes_left k); per_tier = λ t k. through (gave.per_tier t k) (data_left t k) }

pub runs_free : (g : Sizes) (rewritten : ℕ → Bool) (old new : Store) (before left after : PoolsView) (taken : Allocation) → IsSpelled g old → AreInOrder before → AreFree g old before → WereTaken before left taken → Exchanges g rewritten old new (BlockIsTaken taken) → WereGiven g left after (BlockIsGivenUp g rewritten old new) → AreFree g new after
runs_free g rewritten old new before left after taken spelled order free took is gave =
    sets_free g rewritten old new before after (BlockIsTaken taken) spelled is (taken_were_free g old before left taken order free took) free (have_exchanged g old before left taken order free took after (BlockIsGivenUp g rewritten old new) gave)

pub lists_free : (g : Sizes) (rewritten : ℕ → Bool) (old new : Store) (before after : PoolsView) (taken : Tier → List ℕ) → IsSpelled g old → Exchanges g rewritten old new (λ t. Contains (taken t)) → ((t : Tier) (k : ℕ) → Contains (taken t) k → Free g old t k) → AreFree g old before → HaveExchanged g before after (λ t. Contains (taken t)) (BlockIsGivenUp g rewritten old new) → AreFree g new after
lists_free g rewritten old new before after taken = sets_free g rewritten old new before after (λ t. Contains (taken t))

pub given_no_node : (g : Sizes) (rewritten : ℕ → Bool) (old new : Store) (pools : PoolsView) → AreFree g old pools → (k : ℕ) → BlockIsGivenUp g rewritten old new Fast k → Contains pools.nodes.free k → ⊥
given_no_node g rewritten old new pools free k it at = given_used g rewritten old new Fast k it ((free.nodes k).0 at).0

pub given_no_data : (g : Sizes) (rewritten : ℕ → Bool) (old new : Store) (pools : PoolsView) → AreFree g old pools → (t : Tier) (k : ℕ) → BlockIsGivenUp g rewritten old new t k → Contains (data_pool pools t).free k → ⊥
given_no_data g rewritten old new pools free t k it at = given_used g rewritten old new t k it ((free.per_tier t k).0 at).0
