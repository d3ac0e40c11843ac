use Rattle.area_commit.proofs.Returned.{free_then, ranges_then}
use Rattle.area_commit.proofs.laws.pools_have_the_free_blocks.Goals as goal

pub returns : goal.returns
returns c =
    let swap = c.carried_out_blocks_are_exchanged.ensures in
    record {
      free = λ g s x m plan new left after allowed spelled planned done ready nodes tiers. free_then g s plan left after ready nodes tiers c.pools_after_change.ensures.runs x m new spelled planned (swap.exchanged g s x m plan new allowed spelled planned done) (λ t k. swap.lost g s x m plan new t k allowed spelled planned done);
      ranges = ranges_then;
    }
