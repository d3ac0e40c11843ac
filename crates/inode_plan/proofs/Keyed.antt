-- The numbers of the blocks that a change writes.
use Rattle.std.proofs.Common.{◌≡◌, ◌≢◌, ◌≤◌, ◌<◌, ◌∙◌, ◌↔◌, ℕ, List, Bool, true, false, Option, Some, None, inl, inr, sym, ap, subst, refl, arith}
use Rattle.std.specs.Prelude.{Result, Ok, Err, OnErr, IsSome, is_some}
use Rattle.std.specs.List.{Contains}
use Rattle.std.specs.Ordering.{nat_cmp}
use Rattle.std.specs.BTreeMap.{get}
use Rattle.std.specs.FinMap as fin
use Rattle.std.proofs.lemmas.Bool.{false≢true, cases_Bool, cases_eq, false_from_ne_true}
use Rattle.tier_device.specs.declared.media.Tier.{Tier}
use Rattle.area_commit.specs.graph_change.Change.{cuts_within}
use Rattle.area_commit.specs.graph_change.View.{change_of, new_length, patches_of}
use Rattle.area_commit.specs.graph_change.declared.node_change.NodeChange.{NodeChange}
use Rattle.area_commit.specs.extent_tree.Map.{TierRuns, lies_at, LieBelow}
use Rattle.area_commit.specs.InodeChange.{is_mapped, writes_over}
use Rattle.area_commit.proofs.graph_change_lemmas.Making.{has_is}
use Rattle.area_commit.proofs.Holes.{over_uncut, over_put, over_cut}
use Rattle.inode_plan.specs.BlockWrites.{AreNumbers, AreKeys, HasOneMore}

-- what holds anyhow holds where there is an error
pub with_err : {T E : Type 0} (P : Type 0) (r : Result T E) → P → OnErr r P
with_err P (Ok t) p = tt
with_err P (Err e) p = p

-- no block lies anywhere that is past all of a map
pub none_past : (m : TierRuns) (t : Tier) (most k : ℕ) → LieBelow most m → most ≤ k → lies_at m t k ≡ None
none_past m t most k below past = by (lies_at m t k) (λ some. below t k some)
  where
    by : (o : Option ℕ) → (IsSome o → k < most) → o ≡ None
    by None less = refl
    by (Some p) less = absurd (let lt = less refl in omega (arith, lt, past))

-- ---- the block that is written for no byte

abbrev put_at : NodeChange → ℕ → Bool
put_at c k = fin.contains_key (patches_of c.blocks) k

abbrev IsCutAlone : NodeChange → ℕ → Type 0
IsCutAlone c k = (put_at c k ≡ false) × ((j : ℕ) → (cuts_within (new_length c.length) j ≡ true) ↔ (j ≡ k))

pub is_put : (c : NodeChange) (k : ℕ) → IsSome (get nat_cmp c.blocks k) → put_at c k ≡ true
is_put c k some = has_is c.blocks k ∙ some

pub not_put : (c : NodeChange) (k : ℕ) → get nat_cmp c.blocks k ≡ None → put_at c k ≡ false
not_put c k none = has_is c.blocks k ∙ ap is_some none

module _ (c : NodeChange) (lay : Tier → ℕ → Option ℕ) where
  abbrev over : ℕ → Bool
  over k = writes_over lay (change_of c) k

  pub put_written : (k : ℕ) → IsSome (get nat_cmp c.blocks k) → over k ≡ true
  put_written k some = over_put lay k (change_of c) (is_put c k some) ∙ is_put c k some

  pub alone_over : (k : ℕ) → IsCutAlone c k → over k ≡ is_mapped lay k
  alone_over k is = over_cut lay k (change_of c) is.0 ((is.1 k).1 refl)

  pub others_over : (k : ℕ) → ((j : ℕ) → (cuts_within (new_length c.length) j ≡ true) ↔ (j ≡ k)) → (j : ℕ) → j ≢ k → over j ≡ put_at c j
  others_over k cuts j other = over_uncut lay j (change_of c) (false_from_ne_true (cuts_within (new_length c.length) j) (λ cut. other ((cuts j).0 cut)))

  pub none_over : ((j : ℕ) → cuts_within (new_length c.length) j ≡ true → ⊥) → (j : ℕ) → over j ≡ put_at c j
  none_over none j = over_uncut lay j (change_of c) (false_from_ne_true (cuts_within (new_length c.length) j) (none j))

  -- where it has bytes too
  pub put_over : (k : ℕ) → put_at c k ≡ true → ((j : ℕ) → (cuts_within (new_length c.length) j ≡ true) ↔ (j ≡ k)) → (j : ℕ) → over j ≡ put_at c j
  put_over k put cuts j = elim (cases_Bool (cuts_within (new_length c.length) j)) [
    | inl cut ↦ over_put lay j (change_of c) (subst (λ i. put_at c i ≡ true) (sym ((cuts j).0 cut)) put)
    | inr out ↦ over_uncut lay j (change_of c) out
  ]

  -- where it lay nowhere
  pub hole_over : (k : ℕ) → over k ≡ is_mapped lay k → is_mapped lay k ≡ false → ((j : ℕ) → j ≢ k → over j ≡ put_at c j) → (j : ℕ) → over j ≡ put_at c j
  hole_over k is out others j = elim (cases_eq j k) [
    | inr other ↦ others j other
    | inl same ↦
        let none : over k ≡ false = is ∙ out in
        subst (λ i. over i ≡ put_at c i) (sym same) (none ∙ sym (false_from_ne_true (put_at c k) (λ put. false≢true (sym none ∙ over_put lay k (change_of c) put ∙ put))))
  ]

  -- ---- the numbers

  module _ (keys : List ℕ) (are : AreKeys c.blocks keys) where
    key_put : (k : ℕ) → Contains keys k ↔ (put_at c k ≡ true)
    key_put k = (λ at. is_put c k ((are.each k).0 at), λ put. (are.each k).1 (sym (has_is c.blocks k) ∙ put))

    pub with_cut : (new : List ℕ) (number : ℕ) → over number ≡ true → ((j : ℕ) → j ≢ number → over j ≡ put_at c j) → HasOneMore number keys new → AreNumbers lay (change_of c) new
    with_cut new number is others more = record {
      rising = more.rising;
      each = λ k. elim (cases_eq k number) [
        | inl same ↦ (λ has. ap over same ∙ is, λ put. (more.each k).1 (inr same))
        | inr other ↦ (
          λ has. elim ((more.each k).0 has) [ inl key ↦ others k other ∙ (key_put k).0 key | inr same ↦ absurd (other same) ],
          λ put. (more.each k).1 (inl ((key_put k).1 (sym (others k other) ∙ put))),
        )
      ];
    }

    pub without_cut : ((j : ℕ) → over j ≡ put_at c j) → AreNumbers lay (change_of c) keys
    without_cut same = record { rising = are.rising; each = λ k. (λ has. same k ∙ (key_put k).0 has, λ put. (key_put k).1 (sym (same k) ∙ put)) }
