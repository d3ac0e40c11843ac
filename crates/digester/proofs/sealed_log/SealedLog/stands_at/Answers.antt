use Rattle.std.proofs.Common.{ap, ◌∙◌}
use Rattle.digester.specs.MarkMoves.{mark_after, mark_of}
use Rattle.digester.proofs.Stands.{stands_exactly}
use Rattle.digester.proofs.sealed_log.SealedLog.stands_at.Goals as goal

pub returns : goal.returns
returns c = record {
  exact = stands_exactly c.args.self.now c.args.marks.now c.mark_of.result c.mark_after-wanted.result c.is_mark.result c.is_mark.ensures (c.mark_of.ensures ∙ ap (mark_of c.args.marks.now) c.client.ensures)
      (c.mark_after-wanted.ensures ∙ (λ k. mark_after (c.generation.ensures k) (c.digested_count.ensures k) (c.count.ensures k)));
}
