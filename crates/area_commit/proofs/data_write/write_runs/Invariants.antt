use Rattle.std.proofs.Common.{◌≡◌, ◌≢◌, ◌+◌, ◌*◌, false, length, take}
use Rattle.std.specs.List.{flat_map}
use Rattle.tier_device.specs.declared.media.Tier.{Tier}
use Rattle.block_alloc.specs.Runs.{blocks_of}
use Rattle.area_reader.specs.batch_journal.Blocks.{block_of}
use Rattle.area_reader.specs.batch_journal.Course.{SameLengths}
use Rattle.area_reader.specs.Store.{Store}
use Rattle.area_commit.specs.DataWrite.{AreFreeIn, StaysLoose, RestsBut, WritesIn}
use Rattle.area_commit.proofs.data_write.write_runs.Given as goal

-- the first runs are written
abbrev pub invariant-runs : goal.invariant-runs
invariant-runs g l =
    let m = g.M.Media in
    let old = l.fn.journal in
    let new = l.journal in
    record {
      loose : (s : Store) → AreFreeIn old.geometry s l.tier l.runs → StaysLoose old.geometry s (m.moment old.media) (m.moment new.media) (m.left old.media) (m.left new.media);
      turn : WritesIn l.tier (m.moment old.media) (m.moment new.media) (m.left old.media) (m.left new.media);
      at_is : l.at ≡ 4096 * length (blocks_of (take l.place l.runs));
      written : flat_map (block_of (m.seen new.media l.tier)) (blocks_of (take l.place l.runs)) ≡ take l.at l.«data»;
      others : (t : Tier) → t ≢ l.tier → m.seen new.media t ≡ m.seen old.media t;
      keeps_rest : RestsBut (λ t. t ≡ l.tier → l.place ≡ 0) (m.seen old.media) (m.seen new.media) (m.left old.media (m.moment old.media)) (m.left new.media (m.moment new.media));
      calls : m.moment new.media ≡ m.moment old.media + l.place;
      geometry : new.geometry ≡ old.geometry;
      going : new.failed ≡ false;
      quiet : m.faults new.media ≡ m.faults old.media;
      lengths : SameLengths (m.seen old.media) (m.seen new.media);
    }
