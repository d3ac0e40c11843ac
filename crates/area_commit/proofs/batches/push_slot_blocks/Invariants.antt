use Rattle.std.proofs.Common.{◌≡◌, ◌+◌, ◌-◌, ◌*◌, ◌≤◌, ◌<◌, ℕ, true, length}
use Rattle.tier_device.specs.declared.media.Tier.TheVariants.{Fast}
use Rattle.area_reader.specs.layout.Places.{Sizes}
use Rattle.area_reader.specs.batch_journal.Images.{next_of}
use Rattle.area_reader.specs.batch_journal.Blocks.{AreJournaled}
use Rattle.area_reader.specs.Store.{disk}
use Rattle.area_reader.specs.Looks.{Looks, call_answer}
use Rattle.area_commit.specs.Slots.{RiseIn, has_slot}
use Rattle.area_commit.specs.Batches.{HasSlotImages}
use Rattle.area_commit.proofs.Blocks.{TellsFrom}
use Rattle.area_commit.proofs.batches.push_slot_blocks.Given as goal

abbrev pub invariant-numbers : goal.invariant-numbers
invariant-numbers g l =
    let m = g.M.Media in
    record {
      looks : Looks m l.fn.journal l.journal call_answer;
      images : HasSlotImages l.slots (disk m l.fn.journal Fast) l.block l.batch;
      rises : RiseIn (32 * (l.block - 1) + 1) 1024 l.rest;
      tells : TellsFrom l.block l.rest l.slots;
      whole : (k : ℕ) → k < l.block → has_slot k l.slots ≡ true → length (disk m l.fn.journal Fast k) ≡ 4096;
      next : next_of l.batch ≤ l.block;
      few_blocks : length l.batch + 1 ≤ l.block;
      few : length l.batch + length l.rest ≤ length l.slots;
      places : (g : Sizes) → AreJournaled g l.batch;
    }
