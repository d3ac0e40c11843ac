use Rattle.std.proofs.Common.{[], sym, ◌≡◌, subst}
use Rattle.libfs.specs.View.{ClientView, own_records}
use Rattle.libfs.proofs.ClientEnds.{none_counted, none_kept}
use Rattle.libfs.proofs.Kept.{sound_emptied}
use Rattle.libfs.proofs.client.Client.empty.Goals as goal

pub give_all-requires-clause-none : goal.give_all-requires-clause-none
give_all-requires-clause-none g c =
    let s = c.self.inside in
    let none = subst (λ (v : ClientView _). own_records g.M.Media v ≡ []) (sym c.self.view_is) c.requires.none in
    none_counted g.M.Media s.leases s.pass s.log s.copies s.begun s.answered s.records c.self.invariant none

pub invariant_of-self : goal.invariant_of-self
invariant_of-self g c =
    let s = c.self.inside in
    let none = subst (λ (v : ClientView _). own_records g.M.Media v ≡ []) (sym c.self.view_is) c.requires.none in
    sound_emptied g.M.Media s.leases s.pass s.log s.copies s.begun s.answered s.records c.self.invariant c.give_all.new.pass c.forget_all.new.self
    (none_kept g.M.Media s.leases s.pass s.log s.copies s.begun s.answered s.records c.self.invariant none) c.give_all.ensures.kept c.forget_all.ensures.client
