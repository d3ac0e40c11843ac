-- A plan is written: its data, and then its batch.
use Rattle.std.proofs.Common.{◌≡◌, ◌≢◌, ◌≤◌, ◌*◌, ℕ, List, length, sym, ◌∙◌, arith}
use Rattle.tier_device.specs.declared.media.Media.{Ghosts}
use Rattle.tier_device.specs.declared.media.Tier.{Tier}
use Rattle.tier_device.specs.declared.media.Tier.TheVariants.{Fast}
use Rattle.tier_device.specs.AfterStop.{AtRest}
use Rattle.area_reader.specs.layout.declared.slot.Slot.{Slot}
use Rattle.area_reader.specs.layout.Places.{Sizes, tier_blocks}
use Rattle.area_reader.specs.batch_journal.Blocks.{home, after_batch}
use Rattle.area_reader.specs.batch_journal.Course.{Since, SameLengths, BeforeOrAfter}
use Rattle.area_reader.specs.extent_tree.Map.{TierRuns}
use Rattle.area_reader.specs.Store.{store_of}
use Rattle.area_reader.specs.Reads.{Loose}
use Rattle.area_commit.specs.Batches.{IsBatchOf}
use Rattle.area_commit.specs.Allocations.{taken_data}
use Rattle.area_commit.specs.DataWrite.{HoldData, IsJournalLeft, StaysLoose}
use Rattle.area_commit.specs.declared.plan.Rewrite.{Rewrite}
use Rattle.area_commit.specs.Plan.{IsPlanned}
use Rattle.area_commit.specs.PlanOutcome.{IsCarriedOut, AllOrNothing}
use Rattle.area_commit.proofs.Moments.{BatchIsPut, rest_loose, batch_done, all_then, while_loose, while_committed}

-- What is known of a medium at rest: the lengths of its tiers, that a journal opens from what may be left of it, and that nothing is pending.
pub record Rests {M : Type 0} (device : Ghosts M) (g : Sizes) (old : M) : Type 0 where
  pub sizes : (t : Tier) → length (device.seen old t) ≡ 4096 * tier_blocks g t
  pub journal : IsJournalLeft g (device.left old (device.moment old))
  pub rest : (t : Tier) → AtRest (device.seen old) (device.left old (device.moment old)) t

module _ {M : Type 0} (device : Ghosts M) (sized : (x : M) (n : ℕ) (t : Tier) (c : List ℕ) → n ≤ device.moment x → device.left x n t c → length c ≡ length (device.seen x t)) (g : Sizes) (plan : Rewrite) where
  module _ (old mid : M) (rests : Rests device g old) (course : StaysLoose g (store_of (device.seen old)) (device.moment old) (device.moment mid) (device.left old) (device.left mid)) (lengths : SameLengths (device.seen old) (device.seen mid)) where
    pub data_written : AllOrNothing g (store_of (device.seen old)) plan (device.moment old) (device.moment mid) (device.left old) (device.left mid)
    data_written = while_loose g (store_of (device.seen old)) plan (device.moment old) (device.moment mid) (device.left old) (device.left mid) course (rest_loose g (device.seen old) (device.left old (device.moment old)) rests.rest) rests.journal
        (λ n t c le l. sized mid n t c le l ∙ lengths t ∙ rests.sizes t)

    module _ (new : M) (batch : List (ℕ × List ℕ)) (since : Since Fast (BeforeOrAfter g (device.left mid (device.moment mid) Fast) batch (device.seen mid Fast)) (device.moment mid) (device.moment new) (device.left mid) (device.left new))
        (rest : (t : Tier) → AtRest (device.seen mid) (device.left mid (device.moment mid)) t) where
      -- nothing is pending on a tier beside the fast one
      pub others_rest : ((t : Tier) → t ≢ Fast → device.seen new t ≡ device.seen mid t) → (t : Tier) → t ≢ Fast → AtRest (device.seen new) (device.left new (device.moment new)) t
      others_rest others t other c l = rest t c (since.others (device.moment new) t c other since.later (omega arith) l) ∙ sym (others t other)

      module _ (x : ℕ → Slot) (m : ℕ → TierRuns) (planned : IsPlanned g (store_of (device.seen old)) x m plan) (is : IsBatchOf (store_of (device.seen old)) plan.slots.items plan.marks plan.nodes batch)
          (loose : Loose g (store_of (device.seen old)) (store_of (device.seen mid))) (holds : HoldData (store_of (device.seen mid)) (taken_data plan.taken) plan.bytes.items) where
        pub done : BatchIsPut → home (device.seen new Fast) ≡ after_batch batch (home (device.seen mid Fast)) → ((t : Tier) → t ≢ Fast → device.seen new t ≡ device.seen mid t) → IsCarriedOut g (store_of (device.seen old)) plan (store_of (device.seen new))
        done law = batch_done law g (store_of (device.seen old)) x m plan planned (device.seen mid) batch is loose holds (device.seen new)

        pub all_written : BatchIsPut → SameLengths (device.seen mid) (device.seen new) → AllOrNothing g (store_of (device.seen old)) plan (device.moment old) (device.moment new) (device.left old) (device.left new)
        all_written law lengths' =
            all_then g (store_of (device.seen old)) plan (device.moment old) (device.moment mid) (device.moment new) (device.left old) (device.left mid) (device.left new) data_written
            (while_committed g (store_of (device.seen old)) plan (device.moment mid) (device.moment new) (device.left mid) (device.left new) (device.seen mid) batch since rest loose
            (λ n t c le l. sized new n t c le l ∙ lengths' t ∙ lengths t ∙ rests.sizes t)
            (batch_done law g (store_of (device.seen old)) x m plan planned (device.seen mid) batch is loose holds))
