use Rattle.tier_device.specs.declared.media.Tier.TheVariants.{Fast}
use Rattle.area_commit.specs.area_reader.Store.{disk}
use Rattle.area_commit.specs.area_reader.Looks.{Looks, call_answer}
use Rattle.inode_plan.specs.DirectoryStart.{HoldPlaces}
use Rattle.inode_plan.proofs.directory_reads.read_places.Given as goal

abbrev pub invariant-each : goal.invariant-each
invariant-each g l =
    let m = g.M.Media in
    record {
      looks : Looks m l.fn.journal l.journal call_answer;
      held : HoldPlaces (disk m l.fn.journal Fast) l.places l.index l.held.items;
    }
