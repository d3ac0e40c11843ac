-- What may be left while data is written to free blocks.
use Rattle.std.proofs.Common.{◌≡◌, ◌≢◌, ◌≤◌, inl, inr, ◌⊎◌, ℕ, ◌*◌, List, sym, ◌∙◌, refl, arith, subst}
use Rattle.std.proofs.lemmas.Bool.{cases_lt}
use Rattle.tier_device.specs.declared.media.Tier.{Tier}
use Rattle.tier_device.specs.declared.media.Tier.TheVariants.{Fast, Block, Slow}
use Rattle.tier_device.specs.StopsSince.{LeftSince}
use Rattle.area_reader.specs.layout.Places.{Sizes}
use Rattle.area_reader.specs.batch_journal.Course.{Since, TornFrom, OutsideRunFrom}
use Rattle.area_reader.proofs.batch_journal_lemmas.Views.{which}
use Rattle.area_reader.specs.Store.{Store, store_of, content_blocks}
use Rattle.area_reader.specs.Reads.{Loose, LooseIn, IsFreeRun}
use Rattle.area_reader.proofs.Torn.{torn_data, torn_fast, loose_left}
use Rattle.area_commit.specs.DataWrite.{IsLooseLeft, IsJournalLeft, StaysLoose}

module _ (g : Sizes) (s : Store) where
  -- no call at all
  pub loose_start : (a : ℕ) (L : ℕ → Tier → List ℕ → Type 0) → StaysLoose g s a a L L
  loose_start a L = record {
    later = omega arith;
    past = λ m t c le l. l;
    kept = λ m t c le l. l;
    any_moment = λ loose m lo hi. (let same : a ≡ m = omega (arith, lo, hi) in subst (λ n. IsLooseLeft g s (L n)) same loose);
    journal = λ is m lo hi. (let same : a ≡ m = omega (arith, lo, hi) in subst (λ n. IsJournalLeft g (L n)) same is);
  }

  -- one course after another
  pub loose_then : (a b c : ℕ) (L M N : ℕ → Tier → List ℕ → Type 0) → StaysLoose g s a b L M → StaysLoose g s b c M N → StaysLoose g s a c L N
  loose_then a b c L M N one two = record {
    later = omega (arith, one.later, two.later);
    past = λ m t x le l. one.past m t x le (two.past m t x (omega (arith, le, one.later)) l);
    kept = λ m t x le l. two.kept m t x (omega (arith, le, one.later)) (one.kept m t x le l);
    any_moment = λ loose m lo hi. elim (cases_lt m b) [
      | inl early ↦ λ t x l. one.any_moment loose m lo (omega (arith, early)) t x (two.past m t x (omega (arith, early)) l)
      | inr late ↦ two.any_moment (one.any_moment loose b one.later (omega arith)) m late hi
    ];
    journal = λ is m lo hi. elim (cases_lt m b) [
      | inl early ↦ λ x l. one.journal is m lo (omega (arith, early)) x (two.past m Fast x (omega (arith, early)) l)
      | inr late ↦ two.journal (one.journal is b one.later (omega arith)) m late hi
    ];
  }

  tier_is : (t u : Tier) → (t ≡ u) ⊎ (t ≢ u)
  tier_is Fast Fast = inl refl
  tier_is Fast Block = inr (λ e. cc)
  tier_is Fast Slow = inr (λ e. cc)
  tier_is Block Fast = inr (λ e. cc)
  tier_is Block Block = inl refl
  tier_is Block Slow = inr (λ e. cc)
  tier_is Slow Fast = inr (λ e. cc)
  tier_is Slow Block = inr (λ e. cc)
  tier_is Slow Slow = inl refl

  module _ (h : Sizes) (tier : Tier) (first n a b : ℕ) (L M : ℕ → Tier → List ℕ → Type 0) (since : Since tier (TornFrom (L a tier) (4096 * first) n) a b L M)
      (stay : (c : List ℕ) → LeftSince M b a Fast c → OutsideRunFrom h (L a Fast) first n c) (run : IsFreeRun g s tier first n) (loose : IsLooseLeft g s (L a)) (m : ℕ) (lo : a ≤ m) (hi : m ≤ b) where
    written_data : (t : Tier) (c : List ℕ) → t ≢ Fast → t ≡ tier → M m t c → LooseIn g s t (content_blocks t c)
    written_data t c other same l =
        let torn = since.all m c lo hi (subst (λ u. M m u c) same l) in
        let back : tier ≢ Fast = λ e. other (same ∙ e) in
        subst (λ u. LooseIn g s u (content_blocks u c)) (sym same) (torn_data g s tier first n torn.0 c back run (loose tier torn.0 torn.1) torn.2)

    written_fast : (c : List ℕ) → tier ≡ Fast → M m Fast c → LooseIn g s Fast (content_blocks Fast c)
    written_fast c same l =
        let out = stay c (m, lo, hi, l) in
        torn_fast g s first n out.blocks.0 c (subst (λ u. IsFreeRun g s u first n) same run) (loose Fast out.blocks.0 out.blocks.1) out.blocks.2

    pub while_written : (t : Tier) (c : List ℕ) → M m t c → LooseIn g s t (content_blocks t c)
    while_written t c l = elim (tier_is t tier) [
      | inr other ↦ loose t c (since.others m t c other lo hi l)
      | inl same ↦ elim (which t) [
        | inr data' ↦ written_data t c data' same l
        | inl fast ↦ subst (λ u. LooseIn g s u (content_blocks u c)) (sym fast) (written_fast c (sym same ∙ fast) (subst (λ u. M m u c) fast l))
      ]
    ]

  pub loose_write : (tier : Tier) (first n a b : ℕ) (L M : ℕ → Tier → List ℕ → Type 0) → Since tier (TornFrom (L a tier) (4096 * first) n) a b L M
      → ((c : List ℕ) → LeftSince M b a Fast c → OutsideRunFrom g (L a Fast) first n c) → IsFreeRun g s tier first n → StaysLoose g s a b L M
  loose_write tier first n a b L M since stay run = record {
    later = since.later;
    past = since.past;
    kept = since.kept;
    any_moment = λ loose m lo hi. while_written g tier first n a b L M since stay run loose m lo hi;
    journal = λ is m lo hi x l. (stay x (m, lo, hi, l)).journal;
  }

-- a course after another, of the same geometry
pub loose_next : (x y : Sizes) (s : Store) (a b c : ℕ) (L M N : ℕ → Tier → List ℕ → Type 0) → x ≡ y → StaysLoose y s a b L M → StaysLoose x s b c M N → StaysLoose y s a c L N
loose_next x y s a b c L M N same one two = loose_then y s a b c L M N one (subst (λ g. StaysLoose g s b c M N) same two)

-- what is seen is among what may be left
pub loose_seen : (g : Sizes) (s : Store) (a b : ℕ) (L M : ℕ → Tier → List ℕ → Type 0) (seen : Tier → List ℕ) → ((t : Tier) → M b t (seen t)) → StaysLoose g s a b L M → IsLooseLeft g s (L a) → Loose g s (store_of seen)
loose_seen g s a b L M seen now course loose t = course.any_moment loose b course.later (omega arith) t (seen t) (now t)

-- what may be left in the end differs from what is seen then in free blocks alone
pub loose_after : (g : Sizes) (s : Store) (a b : ℕ) (L M : ℕ → Tier → List ℕ → Type 0) (seen : Tier → List ℕ) → ((t : Tier) → M b t (seen t)) → StaysLoose g s a b L M → IsLooseLeft g s (L a) → IsLooseLeft g (store_of seen) (M b)
loose_after g s a b L M seen now course loose t c l = loose_left g s (store_of seen) (loose_seen g s a b L M seen now course loose) t (content_blocks t c) (course.any_moment loose b course.later (omega arith) t c l)
