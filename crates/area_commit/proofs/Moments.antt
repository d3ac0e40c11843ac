-- What a stop leaves while a plan is carried out.
use Rattle.std.proofs.Common.{◌≡◌, ◌≢◌, ◌≤◌, ◌<◌, ◌*◌, inl, inr, ℕ, List, Option, length, refl, ap, ◌∙◌, subst, arith}
use Rattle.std.proofs.lemmas.Bool.{cases_lt}
use Rattle.tier_device.specs.declared.media.Tier.{Tier}
use Rattle.tier_device.specs.declared.media.Tier.TheVariants.{Fast, Block, Slow}
use Rattle.tier_device.specs.AfterStop.{AtRest}
use Rattle.area_reader.specs.layout.declared.marks.Marks.{Marks}
use Rattle.area_reader.specs.layout.declared.slot.Slot.{Slot}
use Rattle.area_reader.specs.layout.Places.{Sizes, tier_blocks}
use Rattle.area_reader.specs.batch_journal.Blocks.{Blocks, block_of, home, after_batch}
use Rattle.area_reader.specs.batch_journal.Course.{Since, Unmoved, BeforeOrAfter}
use Rattle.area_reader.specs.extent_tree.Map.{TierRuns}
use Rattle.area_reader.specs.Store.{Store, store_of, content_blocks}
use Rattle.area_reader.specs.Reads.{Loose}
use Rattle.area_commit.specs.declared.slots.ChangedSlot.{ChangedSlot}
use Rattle.area_commit.specs.Slots.{RiseIn}
use Rattle.area_commit.specs.Batches.{IsBatchOf, IsPutIn}
use Rattle.area_commit.specs.Allocations.{taken_data}
use Rattle.area_commit.specs.DataWrite.{HoldData, IsLooseLeft, IsJournalLeft, StaysLoose}
use Rattle.area_commit.specs.declared.plan.Rewrite.{Rewrite}
use Rattle.area_commit.specs.Plan.{IsPlanned}
use Rattle.area_commit.specs.PlanOutcome.{IsCarriedOut, AllOrNothing}
use Rattle.area_commit.proofs.Put.{block_fast, slow_fast, carried_out}

-- ---- tiers at rest

pub rest_loose : (g : Sizes) (seen : Tier → List ℕ) (left : Tier → List ℕ → Type 0) → ((t : Tier) → AtRest seen left t) → IsLooseLeft g (store_of seen) left
rest_loose g seen left rest t c l k used = ap (λ (d : List ℕ). content_blocks t d k) (rest t c l)

-- reads leave what might be left before
pub loose_unmoved : (g : Sizes) (s : Store) (a b : ℕ) (seen seen' : Tier → List ℕ) (L M : ℕ → Tier → List ℕ → Type 0) → Unmoved a b seen seen' L M → StaysLoose g s a b L M
loose_unmoved g s a b seen seen' L M un = record {
  later = omega (arith, un.clock);
  past = un.past;
  kept = un.kept;
  any_moment = λ loose m lo hi t c l. loose t c (back m lo hi t c l);
  journal = λ is m lo hi c l. is c (back m lo hi Fast c l);
} where
  back : (m : ℕ) → a ≤ m → m ≤ b → (t : Tier) (c : List ℕ) → M m t c → L a t c
  back m lo hi t c l = subst (λ (n : ℕ). L n t c) (omega (arith, lo, hi, un.clock)) (un.past m t c (omega (arith, hi, un.clock)) l)

-- ---- a batch over the data

-- What is known of batches.
abbrev pub BatchIsPut : Type 0
BatchIsPut = (s old new : Store) (c : List ℕ) (slots : List ChangedSlot) (m : Option Marks) (nodes batch : List (ℕ × List ℕ)) → IsBatchOf s slots m nodes batch → RiseIn 1 1024 slots → ((k : ℕ) → k < 33 → old Fast k ≡ s Fast k)
    → old Fast ≡ home c → new Fast ≡ after_batch batch (old Fast) → ((t : Tier) → t ≢ Fast → new t ≡ old t) → IsPutIn slots m nodes old new

module _ (law : BatchIsPut) (g : Sizes) (s : Store) (x : ℕ → Slot) (m : ℕ → TierRuns) (plan : Rewrite) (planned : IsPlanned g s x m plan) (seen : Tier → List ℕ) (batch : List (ℕ × List ℕ))
    (is : IsBatchOf s plan.slots.items plan.marks plan.nodes batch) (loose : Loose g s (store_of seen)) (holds : HoldData (store_of seen) (taken_data plan.taken) plan.bytes.items) where
  pub batch_done : (content : Tier → List ℕ) → home (content Fast) ≡ after_batch batch (home (seen Fast)) → ((t : Tier) → t ≢ Fast → content t ≡ seen t) → IsCarriedOut g s plan (store_of content)
  batch_done content after others =
      carried_out g s x m plan planned (store_of seen) (store_of content) loose
      (law s (store_of seen) (store_of content) (seen Fast) plan.slots.items plan.marks plan.nodes batch is planned.rise
      (λ k lt. loose Fast k (λ free. (let first : 292 ≤ k = free.room.first in omega (arith, first, lt)))) refl after others')
      holds
    where
      others' : (t : Tier) → t ≢ Fast → store_of content t ≡ store_of seen t
      others' Fast other = absurd (other refl)
      others' Block other = ap block_of (others Block other)
      others' Slow other = ap block_of (others Slow other)

-- ---- each moment

module _ (g : Sizes) (s : Store) (plan : Rewrite) where
  -- one course after another
  pub all_then : (a b c : ℕ) (L M N : ℕ → Tier → List ℕ → Type 0) → AllOrNothing g s plan a b L M → AllOrNothing g s plan b c M N → AllOrNothing g s plan a c L N
  all_then a b c L M N one two = record {
    later = omega (arith, one.later, two.later);
    past = λ m t x le l. one.past m t x le (two.past m t x (omega (arith, le, one.later)) l);
    kept = λ m t x le l. two.kept m t x (omega (arith, le, one.later)) (one.kept m t x le l);
    any_moment = λ m content lo hi left. elim (cases_lt m b) [
      | inl early ↦ one.any_moment m content lo (omega (arith, early)) (λ t. two.past m t (content t) (omega (arith, early)) (left t))
      | inr late ↦ two.any_moment m content late hi left
    ];
  }

  -- each content that may be left is as long as its tier
  abbrev AreSized : ℕ → (ℕ → Tier → List ℕ → Type 0) → Type 0
  AreSized b M = (m : ℕ) (t : Tier) (c : List ℕ) → m ≤ b → M m t c → length c ≡ 4096 * tier_blocks g t

  -- while data is written
  pub while_loose : (a b : ℕ) (L M : ℕ → Tier → List ℕ → Type 0) → StaysLoose g s a b L M → IsLooseLeft g s (L a) → IsJournalLeft g (L a) → AreSized b M → AllOrNothing g s plan a b L M
  while_loose a b L M course loose journals sized = record {
    later = course.later;
    past = course.past;
    kept = course.kept;
    any_moment = λ m content lo hi left. record {
      volume = record { sizes = λ t. sized m t (content t) hi (left t); journal = course.journal journals m lo hi (content Fast) (left Fast) };
      store = inl (λ t. course.any_moment loose m lo hi t (content t) (left t));
    };
  }

  -- while the batch is committed
  pub while_committed : (a b : ℕ) (L M : ℕ → Tier → List ℕ → Type 0) (seen : Tier → List ℕ) (batch : List (ℕ × List ℕ)) → Since Fast (BeforeOrAfter g (L a Fast) batch (seen Fast)) a b L M
      → ((t : Tier) → AtRest seen (L a) t) → Loose g s (store_of seen) → AreSized b M
      → ((content : Tier → List ℕ) → home (content Fast) ≡ after_batch batch (home (seen Fast)) → ((t : Tier) → t ≢ Fast → content t ≡ seen t) → IsCarriedOut g s plan (store_of content)) → AllOrNothing g s plan a b L M
  while_committed a b L M seen batch since rest loose sized done = record {
    later = since.later;
    past = since.past;
    kept = since.kept;
    any_moment = λ m content lo hi left.
        let either = since.all m (content Fast) lo hi (left Fast) in
        let others : (t : Tier) → t ≢ Fast → content t ≡ seen t = λ t other. rest t (content t) (since.others m t (content t) other lo hi (left t)) in
        record {
          volume = record { sizes = λ t. sized m t (content t) hi (left t); journal = either.journal };
          store = elim either.blocks [
            | inl same ↦ inl (still content (same.2 ∙ ap home (rest Fast same.0 same.1)) others)
            | inr after ↦ inr (done content after others)
          ];
        };
  }
    where
      still : (content : Tier → List ℕ) → home (content Fast) ≡ home (seen Fast) → ((t : Tier) → t ≢ Fast → content t ≡ seen t) → Loose g s (store_of content)
      still content homes others Fast k used = ap (λ (f : Blocks). f k) homes ∙ loose Fast k used
      still content homes others Block k used = ap (λ (d : List ℕ). block_of d k) (others Block block_fast) ∙ loose Block k used
      still content homes others Slow k used = ap (λ (d : List ℕ). block_of d k) (others Slow slow_fast) ∙ loose Slow k used
