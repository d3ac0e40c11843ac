use Rattle.std.proofs.Common.{sym, subst}
use Rattle.client_view.specs.KnowledgeTables.{Held}
use Rattle.libfs.specs.Sound.{IsSound}
use Rattle.libfs.proofs.Kept.{sound_blocks}
use Rattle.libfs.proofs.client.Client.put_block.Goals.{in-Ok, in-Err}
use Rattle.libfs.proofs.client.Client.put_block.Goals as goal

pub invariant_of-self : goal.invariant_of-self
invariant_of-self g c =
    let device = g.M.Media in
    let s = c.self.inside in
    elim c.match-put_block.branch [
      | in-Ok w ↦ sound_blocks device s.leases s.pass s.log s.copies s.begun s.answered s.records c.self.invariant c.put_block.new.self _ w.in-Ok.ensures.kept
      | in-Err w ↦ subst (λ (h : Held). IsSound device s.leases s.pass s.log h s.begun s.answered s.records) (sym w.in-Err.ensures.refused) c.self.invariant
    ]
