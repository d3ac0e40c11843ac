use Rattle.std.proofs.Common.{◌∙◌, inr}
use Rattle.mount_nodes.proofs.UpkeepLemmas.{refused_before, too_many, tried_open, upkeep_refused, upkeep_then}
use Rattle.mount_nodes.proofs.tables.Tables.open_path.Goals as goal

pub loop-attempt-preserved : goal.loop-attempt-preserved
loop-attempt-preserved g c =
    let asked = rw (c.in-Err-Posix-TooManyOpen.field-0-is, c.in-Err-Posix-TooManyOpen.field-0-0-is) at c.in-Err-Posix-TooManyOpen.ensures in
    let refused = tried_open g.T.Tree c.args.path.now c.args.flags c.args.tree.now c.loop-attempt.tree c.try_open.new.tree c.loop-attempt.invariant.kept asked in
    let closed = c.in_ok-close_one-in-Err-Posix-TooManyOpen.ensures.asked in
    record {
      kept = upkeep_then g.T.Tree _ _ _ (upkeep_refused g.T.Tree too_many _ _ refused) closed;
      refused = inr (refused_before g.T.Tree too_many _ _ _ refused closed);
      times = c.in_ok-close_one-in-Err-Posix-TooManyOpen.ensures.times ∙ c.loop-attempt.invariant.times;
    }
