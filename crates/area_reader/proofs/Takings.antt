-- Marking the blocks of some uses.
use Rattle.std.proofs.Common.{◌≡◌, ℕ, true, false, refl, sym, ap, subst, ◌∙◌, Option, Some, inl, inr, ◌⊎◌}
use Rattle.std.specs.Prelude.{◌↔◌}
use Rattle.std.proofs.lemmas.Bool.{true≢false}
use Rattle.tier_device.specs.declared.media.Tier.{Tier}
use Rattle.area_reader.specs.BlockMarks.{UsedMarks, is_marked, Adds, TakesBlocks, Clashes}

abbrev pair : Tier → ℕ → Tier × ℕ
pair t k = (t, k)

abbrev spot : Tier → ℕ → Option (Tier × ℕ)
spot t k = Some (pair t k)

pair_is : (t u : Tier) (k j : ℕ) → spot t k ≡ spot u j → (t ≡ u) × (k ≡ j)
pair_is t u k j e = let same : pair t k ≡ pair u j = cc in (ap (λ (x : Tier × ℕ). x.0) same, ap (λ (x : Tier × ℕ). x.1) same)

module _ {A : Type 0} (of : A → Option (Tier × ℕ)) where
  -- uses that have no block
  pub take_none : (m : UsedMarks) (these : A → Type 0) → ((a : A) (t : Tier) (k : ℕ) → these a → of a ≡ Some (t, k) → ⊥) → TakesBlocks m m of these
  take_none m these none = record {
    adds = record { room = λ t. refl; marked = λ t k. (λ now. inl now, λ was. elim was [ inl before ↦ before | inr (a, is, at) ↦ absurd (none a t k is at) ]) };
    fresh = λ a t k is at. absurd (none a t k is at);
    once = λ a c t k is other at. absurd (none a t k is at);
  }

  -- the block of one use
  pub take_one : (old new : UsedMarks) (a : A) (t : Tier) (k : ℕ) → of a ≡ Some (t, k) → is_marked old t k ≡ false → Adds old new (λ u j. (u ≡ t) × (j ≡ k)) → TakesBlocks old new of (λ c. c ≡ a)
  take_one old new a t k at unmarked adds = record {
    adds = record { room = adds.room; marked = λ u j. (λ now. elim ((adds.marked u j).0 now) [ inl before ↦ inl before | inr x ↦ inr (a, refl, at ∙ sym (same_block u j x.0 x.1)) ], λ was. (adds.marked u j).1 (elim was [ inl before ↦ inl before | inr (c, is, there) ↦ inr (pair_is u t j k (sym there ∙ ap of is ∙ at)) ])) };
    fresh = λ c u j is there was. let e = pair_is u t j k (sym there ∙ ap of is ∙ at) in true≢false (sym was ∙ other_mark u j e.0 e.1 ∙ unmarked);
    once = λ c d u j one two _ _. one ∙ sym two;
  } where
    same_block : (u : Tier) (j : ℕ) → u ≡ t → j ≡ k → spot u j ≡ spot t k
    same_block u j one two = ap (λ v. spot v j) one ∙ ap (spot t) two

    other_mark : (u : Tier) (j : ℕ) → u ≡ t → j ≡ k → is_marked old u j ≡ is_marked old t k
    other_mark u j one two = ap (λ v. is_marked old v j) one ∙ ap (is_marked old t) two

  -- first those, then these
  pub take_more : (old mid new : UsedMarks) (those these : A → Type 0) → TakesBlocks old mid of those → TakesBlocks mid new of these → TakesBlocks old new of (λ a. those a ⊎ these a)
  take_more old mid new those these first second = record {
    adds = record {
      room = λ t. second.adds.room t ∙ first.adds.room t;
      marked = λ t k. (
        λ now. elim ((second.adds.marked t k).0 now) [
          | inl between ↦ elim ((first.adds.marked t k).0 between) [ inl before ↦ inl before | inr (a, is, at) ↦ inr (a, inl is, at) ]
          | inr (a, is, at) ↦ inr (a, inr is, at)
        ],
        λ was. (second.adds.marked t k).1 (elim was [
          | inl before ↦ inl ((first.adds.marked t k).1 (inl before))
          | inr (a, is, at) ↦ elim is [ inl one ↦ inl ((first.adds.marked t k).1 (inr (a, one, at))) | inr two ↦ inr (a, two, at) ]
        ]),
      );
    };
    fresh = λ a t k is at was. elim is [ inl one ↦ first.fresh a t k one at was | inr two ↦ second.fresh a t k two at ((first.adds.marked t k).1 (inl was)) ];
    once = λ a c t k is other at there. elim is [
      | inl one ↦ elim other [ inl two ↦ first.once a c t k one two at there | inr two ↦ absurd (second.fresh c t k two there ((first.adds.marked t k).1 (inr (a, one, at)))) ]
      | inr one ↦ elim other [ inl two ↦ absurd (second.fresh a t k one at ((first.adds.marked t k).1 (inr (c, two, there)))) | inr two ↦ second.once a c t k one two at there ]
    ];
  }

  -- the same uses, told otherwise; those without a block count for nothing
  pub take_same : (old new : UsedMarks) (those these : A → Type 0) → TakesBlocks old new of those → ((a : A) (t : Tier) (k : ℕ) → of a ≡ Some (t, k) → those a ↔ these a) → TakesBlocks old new of these
  take_same old new those these takes same = record {
    adds = record {
      room = takes.adds.room;
      marked = λ t k. (
        λ now. elim ((takes.adds.marked t k).0 now) [ inl before ↦ inl before | inr (a, is, at) ↦ inr (a, (same a t k at).0 is, at) ],
        λ was. (takes.adds.marked t k).1 (elim was [ inl before ↦ inl before | inr (a, is, at) ↦ inr (a, (same a t k at).1 is, at) ]),
      );
    };
    fresh = λ a t k is at. takes.fresh a t k ((same a t k at).1 is) at;
    once = λ a c t k one two at there. takes.once a c t k ((same a t k at).1 one) ((same c t k there).1 two) at there;
  }

  -- one use whose block was marked
  pub clash_one : (old : UsedMarks) (these : A → Type 0) (a : A) (t : Tier) (k : ℕ) → these a → of a ≡ Some (t, k) → is_marked old t k ≡ true → Clashes old of these
  clash_one old these a t k is at marked = record { one = a; tier = t; block = k; is = is; here = at; there = inl marked }

  -- behind others
  pub clash_after : (old mid : UsedMarks) (those these all : A → Type 0) → TakesBlocks old mid of those → Clashes mid of these → ((a : A) → those a → these a → ⊥) → ((a : A) → these a → all a) → Clashes old of all
  clash_after old mid those these all takes clash apart more = record {
    one = clash.one;
    tier = clash.tier;
    block = clash.block;
    is = more clash.one clash.is;
    here = clash.here;
    there = elim (clash.there) [
      | inr other ↦ inr other
      | inl marked ↦ elim ((takes.adds.marked clash.tier clash.block).0 marked) [ inl before ↦ inl before | inr (a, is, at) ↦ inr (a, λ same. apart clash.one (subst those same is) clash.is, at) ]
    ];
  }

  pub clash_more : (old : UsedMarks) (these all : A → Type 0) → Clashes old of these → ((a : A) → these a → all a) → Clashes old of all
  clash_more old these all clash more = record { one = clash.one; tier = clash.tier; block = clash.block; is = more clash.one clash.is; here = clash.here; there = clash.there }
