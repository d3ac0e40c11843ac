-- What a directory gives up whose node goes.
use Rattle.std.proofs.Common.{◌≡◌, ◌≢◌, ◌≤◌, ◌<◌, ◌-◌, ◌++◌, ◌∷◌, ◌∙◌, ◌↔◌, ℕ, zero, suc, List, [], length, map, Bool, Option, Some, None, refl, sym, ap, subst, arith, inl, inr}
use Rattle.std.specs.Prelude.{if◌then◌else◌}
use Rattle.std.specs.List.{Contains}
use Rattle.std.proofs.lemmas.Bool.{cases_lt, cases_eq, eq-eqb, ne_eqb}
use Rattle.std.proofs.lemmas.List.{length-append, get_or_append_left, get_or-append_right}
use Rattle.std.proofs.lemmas.List.Elements.{Contains-append_left, Contains-append_right, Contains-append_cases}
use Rattle.tier_device.specs.declared.media.Tier.TheVariants.{Fast}
use Rattle.area_commit.specs.layout.Places.{Sizes}
use Rattle.block_alloc.specs.declared.runs.Run.{Run}
use Rattle.block_alloc.specs.Runs.{blocks_of}
use Rattle.block_alloc.specs.Value.{FreeBlocks}
use Rattle.area_commit.specs.Release.{AreUsed, IsInUse}
use Rattle.inode_plan.specs.Blocks.{nth_block, HaveOwnPlaces, AreSound, use_on_fast, use_of, root_blocks, one_block}
use Rattle.inode_plan.specs.declared.blocks.DirectoryBlocks.{DirectoryBlocks}
use Rattle.inode_plan.proofs.Uses.{nth_contained, contains_nth, use_root, use_place, root_use, place_use, fast_use, use_fast}
use Rattle.inode_plan.proofs.Given.{blocks_are, all_used}

module _ (root : ℕ) (places : List ℕ) where
  no_root : root ≡ 0 → root_blocks root ≡ []
  no_root zero' = ap (λ (b : Bool). if b then [] else root ∷ []) (eq-eqb root 0 zero')

  one_root : root ≢ 0 → root_blocks root ≡ root ∷ []
  one_root some = ap (λ (b : Bool). if b then [] else root ∷ []) (ne_eqb root 0 some)

  nothing : (p : ℕ) → Contains [] p → ⊥
  nothing p (n, below, is) = omega (arith, below)

  one_is : (n p : ℕ) → n < length (root ∷ []) → nth_block (root ∷ []) n ≡ p → root ≡ p
  one_is zero p lt is = is
  one_is (suc n) p lt is = absurd (omega (arith, lt))

  was_used : (p : ℕ) → Contains (places ++ root_blocks root) p → (k : Option ℕ) × (use_on_fast root places k ≡ Some p)
  was_used p has = elim (Contains-append_cases places (root_blocks root) p has) [
    | inl place ↦ (let at = nth_contained places p place in (Some at.0, use_place root places at.0 at.1 ∙ ap Some at.2))
    | inr its_root ↦ elim (cases_eq root 0) [
      | inl zero' ↦ absurd (nothing p (subst (λ xs. Contains xs p) (no_root zero') its_root))
      | inr some ↦ (let at = nth_contained (root ∷ []) p (subst (λ xs. Contains xs p) (one_root some) its_root) in (None, use_root root places some ∙ ap Some (one_is at.0 p at.1 at.2)))
    ]
  ]

  is_given : (p : ℕ) (k : Option ℕ) → use_on_fast root places k ≡ Some p → Contains (places ++ root_blocks root) p
  is_given p None used =
      let r = root_use root places p used in
      Contains-append_right places (root_blocks root) p (subst (λ xs. Contains xs p) (sym (one_root r.0)) (subst (Contains (root ∷ [])) r.1 (contains_nth (root ∷ []) 0 (omega arith))))
  is_given p (Some k) used = let q = place_use root places k p used in Contains-append_left places (root_blocks root) p (subst (Contains places) q.1 (contains_nth places k q.0))

  record IsRootAt (j : ℕ) : Type 0 where
    some : root ≢ 0
    first : j ≡ 0
    is : nth_block (root_blocks root) j ≡ root

  root_at : (j : ℕ) → j < length (root_blocks root) → IsRootAt j
  root_at j lt = elim (cases_eq root 0) [
    | inl zero' ↦ absurd (let l : length (root_blocks root) ≡ 0 = ap (λ (xs : List ℕ). length xs) (no_root zero') in omega (arith, l, lt))
    | inr some ↦
        let l : length (root_blocks root) ≡ 1 = ap (λ (xs : List ℕ). length xs) (one_root some) in
        let first : j ≡ 0 = omega (arith, l, lt) in
        record { some = some; first = first; is = ap (λ (xs : List ℕ). nth_block xs j) (one_root some) ∙ ap (nth_block (root ∷ [])) first }
  ]

  behind : (j : ℕ) → j < length (places ++ root_blocks root) → length places ≤ j → IsRootAt (j - length places)
  behind j lt past = root_at (j - length places) (omega (arith, lt, past, length-append places (root_blocks root)))

  is_root_there : (j : ℕ) → j < length (places ++ root_blocks root) → length places ≤ j → nth_block (places ++ root_blocks root) j ≡ root
  is_root_there j lt past = get_or-append_right places (root_blocks root) (length places) j 0 refl past ∙ (behind j lt past).is

  all_apart : HaveOwnPlaces places → (root ≢ 0 → (k : ℕ) → k < length places → nth_block places k ≢ root) → HaveOwnPlaces (places ++ root_blocks root)
  all_apart apart root_apart j k lj lk same = elim (cases_lt j (length places)) [
    | inl j_in ↦ elim (cases_lt k (length places)) [
      | inl k_in ↦ apart j k j_in k_in (sym (get_or_append_left places (root_blocks root) 0 j j_in) ∙ same ∙ get_or_append_left places (root_blocks root) 0 k k_in)
      | inr k_past ↦ absurd (root_apart (behind k lk k_past).some j j_in (sym (get_or_append_left places (root_blocks root) 0 j j_in) ∙ same ∙ is_root_there k lk k_past))
    ]
    | inr j_past ↦ elim (cases_lt k (length places)) [
      | inl k_in ↦ absurd (root_apart (behind j lj j_past).some k k_in (sym (get_or_append_left places (root_blocks root) 0 k k_in) ∙ sym same ∙ is_root_there j lj j_past))
      | inr k_past ↦ let a = (behind j lj j_past).first in let b = (behind k lk k_past).first in omega (arith, a, b, j_past, k_past)
    ]
  ]

-- what goes is all that it had
pub gone_exact : (x : DirectoryBlocks) (runs : List Run) → runs ≡ map one_block (x.places.items ++ root_blocks x.root) → (p : ℕ) → Contains (blocks_of runs) p ↔ ((k : Option ℕ) × (use_of x Fast k ≡ Some (Fast, p)))
gone_exact x runs is p =
    let blocks : blocks_of runs ≡ x.places.items ++ root_blocks x.root = ap blocks_of is ∙ blocks_are (x.places.items ++ root_blocks x.root) in (
      λ has. (let u = was_used x.root x.places.items p (subst (λ xs. Contains xs p) blocks has) in (u.0, use_fast x.root x.places.items u.0 p u.1)),
      λ used. (let f = fast_use x.root x.places.items Fast used.0 (Fast, p) used.1 in subst (λ xs. Contains xs p) (sym blocks) (is_given x.root x.places.items p used.0 f.use_is)),
    )

pub gone_given : (g : Sizes) (x : DirectoryBlocks) (runs : List Run) (pool : FreeBlocks) → AreSound g x → runs ≡ map one_block (x.places.items ++ root_blocks x.root) → ((k : Option ℕ) (b : ℕ) → use_of x Fast k ≡ Some (Fast, b) → IsInUse pool b) → AreUsed pool runs
gone_given g x runs pool sound is each = subst (AreUsed pool) (sym is)
    (all_used pool (x.places.items ++ root_blocks x.root) (all_apart x.root x.places.items sound.apart sound.root_apart)
    (λ q has. (let u = was_used x.root x.places.items q has in each u.0 q (use_fast x.root x.places.items u.0 q u.1))))
