use Rattle.std.proofs.Common.{◌≡◌, None, ap, subst, sym}
use Rattle.client_view.specs.KnowledgeTables.{Held}
use Rattle.libfs.specs.View.{ClientView}
use Rattle.libfs.proofs.Kept.{sound_known}
use Rattle.libfs.proofs.client.Client.close_idle.Goals as goal

pub invariant_of-self : goal.invariant_of-self
invariant_of-self g c =
    let s = c.self.inside in
    let idle : s.begun ≡ None = subst (λ (v : ClientView _). v.begun ≡ None) (sym c.self.view_is) c.requires in
    sound_known g.M.Media s.leases s.pass s.log s.copies s.begun s.answered s.records c.self.invariant c.close_all.new.self idle (ap (λ (h : Held). h.client) c.close_all.ensures.rest) (ap (λ (h : Held). h.copies) c.close_all.ensures.rest)
