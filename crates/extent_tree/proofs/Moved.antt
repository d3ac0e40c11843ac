-- Places of blocks that are put elsewhere, or fall off.
use Rattle.std.proofs.Common.{◌≡◌, ◌≢◌, ◌≤◌, ◌<◌, ◌⊎◌, inl, inr, ℕ, ◌+◌, ◌-◌, List, true, false, Option, Some, None, sym, ◌∙◌, refl, subst, arith}
use Rattle.std.specs.Option.{option_map}
use Rattle.std.specs.Prelude.{nat_le, nat_lt, if◌then◌else◌}
use Rattle.std.proofs.lemmas.Bool.{cases_Bool, and_parts, and_from, leb-true, ltb-true, le-leb, lt-ltb, cond-true, cond-false, false≢true}
use Rattle.std.proofs.lemmas.Option.{none-some, same_Some}
use Rattle.tier_device.specs.declared.media.Tier.{Tier}
use Rattle.tier_device.specs.declared.media.Tier.TheVariants.{Fast, Block, Slow}
use Rattle.layout.specs.declared.extents.Extent.{Extent}
use Rattle.layout.specs.declared.geometry.Space.{Space}
use Rattle.layout.specs.declared.geometry.Space.TheVariants as space
use Rattle.layout.specs.Places.{Sizes, is_run, blocks_in, data_first, tier_blocks, node_end}
use Rattle.extent_tree.specs.Places.{in_run, place_of}
use Rattle.extent_tree.specs.Changes.{after}
use Rattle.extent_tree.specs.BlockFormat.{LiesWithin, IsOneToOne}
use Rattle.extent_tree.specs.Map.{TierRuns, runs_in, lies_at, ArePut, AreCut}

-- ---- a run

in_parts : (first count k : ℕ) → in_run first count k ≡ true → (first ≤ k) × (k < first + count)
in_parts first count k is = let p = and_parts (nat_le first k) (nat_lt k (first + count)) is in (leb-true first k p.0, ltb-true k (first + count) p.1)

in_from : (first count k : ℕ) → first ≤ k → k < first + count → in_run first count k ≡ true
in_from first count k low high = and_from (nat_le first k) (nat_lt k (first + count)) (le-leb first k low) (lt-ltb k (first + count) high)

after_in : (first count place : ℕ) (es : List Extent) (k : ℕ) → in_run first count k ≡ true → after first count (Some place) es k ≡ Some (place + (k - first))
after_in first count place es k is = cond-true (in_run first count k) (Some (place + (k - first))) (place_of es k) is

after_gone : (first count : ℕ) (es : List Extent) (k : ℕ) → in_run first count k ≡ true → after first count None es k ≡ None
after_gone first count es k is = cond-true (in_run first count k) None (place_of es k) is

after_out : (first count : ℕ) (place : Option ℕ) (es : List Extent) (k : ℕ) → in_run first count k ≡ false → after first count place es k ≡ place_of es k
after_out first count place es k out = cond-false (in_run first count k) (option_map (λ p. p + (k - first)) place) (place_of es k) out

-- ---- one map with no more than another

-- each block that the new one maps lies where it lay
abbrev NoMore : List Extent → List Extent → Type 0
NoMore old new = (k p : ℕ) → place_of new k ≡ Some p → place_of old k ≡ Some p

fewer_apart : (old new : List Extent) → NoMore old new → IsOneToOne old → IsOneToOne new
fewer_apart old new less one b c p at_b at_c = one b c p (less b p at_b) (less c p at_c)

fewer_within : (g : Sizes) (s : Space) (old new : List Extent) → NoMore old new → LiesWithin g s old → LiesWithin g s new
fewer_within g s old new less within k p at_k = within k p (less k p at_k)

gone_fewer : (first count : ℕ) (old new : List Extent) → ((k : ℕ) → place_of new k ≡ after first count None old k) → NoMore old new
gone_fewer first count old new is k p at_k = elim (cases_Bool (in_run first count k)) [
  | inl inside ↦ absurd (none-some p (sym (is k ∙ after_gone first count old k inside) ∙ at_k))
  | inr out ↦ sym (is k ∙ after_out first count None old k out) ∙ at_k
]

cut_fewer : (from : ℕ) (old new : List Extent) → ((k : ℕ) → place_of new k ≡ (if nat_le from k then None else place_of old k)) → NoMore old new
cut_fewer from old new is k p at_k = elim (cases_Bool (nat_le from k)) [
  | inl past ↦ absurd (none-some p (sym (is k ∙ cond-true (nat_le from k) None (place_of old k) past) ∙ at_k))
  | inr before ↦ sym (is k ∙ cond-false (nat_le from k) None (place_of old k) before) ∙ at_k
]

-- ---- where blocks are put

there : (first count place : ℕ) (old new : List Extent) → ((k : ℕ) → place_of new k ≡ after first count (Some place) old k) → (k p : ℕ) → in_run first count k ≡ true → place_of new k ≡ Some p → p ≡ place + (k - first)
there first count place old new is k p inside at_k = same_Some p (place + (k - first)) (sym at_k ∙ is k ∙ after_in first count place old k inside)

stays : (first count place : ℕ) (old new : List Extent) → ((k : ℕ) → place_of new k ≡ after first count (Some place) old k) → (k p : ℕ) → in_run first count k ≡ false → place_of new k ≡ Some p → place_of old k ≡ Some p
stays first count place old new is k p out at_k = sym (is k ∙ after_out first count (Some place) old k out) ∙ at_k

module _ (first count place : ℕ) (old new : List Extent) (is : (k : ℕ) → place_of new k ≡ after first count (Some place) old k) where
  -- a block that is put and one that stays have two places
  put_apart_from : ((k p : ℕ) → place_of old k ≡ Some p → in_run place count p ≡ false) → (k j p : ℕ) → in_run first count k ≡ true → in_run first count j ≡ false → place_of new k ≡ Some p → place_of new j ≡ Some p → ⊥
  put_apart_from fresh k j p inside out at_k at_j =
      let l = in_parts first count k inside in
      let is_there = there first count place old new is k p inside at_k in
      let hit : in_run place count p ≡ true = in_from place count p (omega (arith, is_there)) (omega (arith, is_there, l.0, l.1)) in
      false≢true (sym (fresh j p (stays first count place old new is j p out at_j)) ∙ hit)

  pub put_one : ((k p : ℕ) → place_of old k ≡ Some p → in_run place count p ≡ false) → IsOneToOne old → IsOneToOne new
  put_one fresh one b c p at_b at_c = elim (cases_Bool (in_run first count b)) [
    | inl b_in ↦ elim (cases_Bool (in_run first count c)) [
      | inl c_in ↦
          let lb = in_parts first count b b_in in
          let lc = in_parts first count c c_in in
          let pb = there first count place old new is b p b_in at_b in
          let pc = there first count place old new is c p c_in at_c in
          omega (arith, pb, pc, lb.0, lc.0)
      | inr c_out ↦ absurd (put_apart_from fresh b c p b_in c_out at_b at_c)
    ]
    | inr b_out ↦ elim (cases_Bool (in_run first count c)) [
      | inl c_in ↦ absurd (put_apart_from fresh c b p c_in b_out at_c at_b)
      | inr c_out ↦ one b c p (stays first count place old new is b p b_out at_b) (stays first count place old new is c p c_out at_c)
    ]
  ]

  -- a part of a run that may be a node's content may be so
  part_of : (g : Sizes) (s : Space) (p : ℕ) → is_run g s place count ≡ true → place ≤ p → p < place + count → is_run g s p 1 ≡ true
  part_of g space.Nodes p run low high =
      let r = and_parts (nat_le 292 place) (nat_le (place + count) (node_end g)) run in
      let a = leb-true 292 place r.0 in
      let b = leb-true (place + count) (node_end g) r.1 in
      and_from (nat_le 292 p) (nat_le (p + 1) (node_end g)) (le-leb 292 p (omega (arith, a, low))) (le-leb (p + 1) (node_end g) (omega (arith, b, high)))
  part_of g (space.Data t) p run low high =
      let r = and_parts (nat_le (data_first g t) place) (nat_le (place + count) (tier_blocks g t)) run in
      let a = leb-true (data_first g t) place r.0 in
      let b = leb-true (place + count) (tier_blocks g t) r.1 in
      and_from (nat_le (data_first g t) p) (nat_le (p + 1) (tier_blocks g t)) (le-leb (data_first g t) p (omega (arith, a, low))) (le-leb (p + 1) (tier_blocks g t) (omega (arith, b, high)))

  pub put_inside : (g : Sizes) (s : Space) → first + count ≤ blocks_in s → is_run g s place count ≡ true → LiesWithin g s old → LiesWithin g s new
  put_inside g s few run within k p at_k = elim (cases_Bool (in_run first count k)) [
    | inl inside ↦
        let l = in_parts first count k inside in
        let is_there = there first count place old new is k p inside at_k in
        (omega (arith, l.1, few), part_of g s p run (omega (arith, is_there)) (omega (arith, is_there, l.0, l.1)))
    | inr out ↦ within k p (stays first count place old new is k p out at_k)
  ]

-- ---- all tiers

tier_is : (t u : Tier) → (t ≡ u) ⊎ (t ≢ u)
tier_is Fast Fast = inl refl
tier_is Fast Block = inr (λ e. cc)
tier_is Fast Slow = inr (λ e. cc)
tier_is Block Fast = inr (λ e. cc)
tier_is Block Block = inl refl
tier_is Block Slow = inr (λ e. cc)
tier_is Slow Fast = inr (λ e. cc)
tier_is Slow Block = inr (λ e. cc)
tier_is Slow Slow = inl refl

pub put_apart : (first count place : ℕ) (tier : Tier) (old new : TierRuns) → ArePut first count tier place old new → ((k p : ℕ) → lies_at old tier k ≡ Some p → in_run place count p ≡ false) → ((t : Tier) → IsOneToOne (runs_in old t)) → (t : Tier) → IsOneToOne (runs_in new t)
put_apart first count place tier old new put fresh one t = elim (tier_is t tier) [
  | inl same ↦ subst (λ (u : Tier). IsOneToOne (runs_in new u)) (sym same) (put_one first count place (runs_in old tier) (runs_in new tier) put.there fresh (one tier))
  | inr other ↦ fewer_apart (runs_in old t) (runs_in new t) (gone_fewer first count (runs_in old t) (runs_in new t) (put.others t other)) (one t)
]

pub cut_apart : (from : ℕ) (old new : TierRuns) → AreCut from old new → ((t : Tier) → IsOneToOne (runs_in old t)) → (t : Tier) → IsOneToOne (runs_in new t)
cut_apart from old new cut one t = fewer_apart (runs_in old t) (runs_in new t) (cut_fewer from (runs_in old t) (runs_in new t) (cut t)) (one t)

pub put_within : (g : Sizes) (s : Space) (first count place : ℕ) (tier : Tier) (old new : TierRuns) → ArePut first count tier place old new → first + count ≤ blocks_in s → is_run g s place count ≡ true → LiesWithin g s (runs_in old tier) → LiesWithin g s (runs_in new tier)
put_within g s first count place tier old new put few run within = put_inside first count place (runs_in old tier) (runs_in new tier) put.there g s few run within

pub others_within : (g : Sizes) (s : Space) (first count place : ℕ) (tier t : Tier) (old new : TierRuns) → ArePut first count tier place old new → t ≢ tier → LiesWithin g s (runs_in old t) → LiesWithin g s (runs_in new t)
others_within g s first count place tier t old new put other within = fewer_within g s (runs_in old t) (runs_in new t) (gone_fewer first count (runs_in old t) (runs_in new t) (put.others t other)) within

pub cut_within : (g : Sizes) (s : Space) (from : ℕ) (t : Tier) (old new : TierRuns) → AreCut from old new → LiesWithin g s (runs_in old t) → LiesWithin g s (runs_in new t)
cut_within g s from t old new cut within = fewer_within g s (runs_in old t) (runs_in new t) (cut_fewer from (runs_in old t) (runs_in new t) (cut t)) within
