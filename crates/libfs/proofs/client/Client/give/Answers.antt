use Rattle.std.proofs.Common.{sym, subst}
use Rattle.libfs.specs.LeaseCalls.{CanBeGiven}
use Rattle.libfs.specs.View.{ClientView}
use Rattle.libfs.proofs.Kept.{sound_given}
use Rattle.libfs.proofs.client.Client.give.Goals as goal

pub invariant_of-self : goal.invariant_of-self
invariant_of-self g c =
    let s = c.self.inside in
    let can = subst (λ (v : ClientView _). CanBeGiven v c.args.inode) (sym c.self.view_is) (c.can_be_given.ensures.0 c.if-not-can_be_given.false) in
    sound_given g.M.Media s.leases s.pass s.log s.copies s.begun s.answered s.records c.self.invariant c.args.inode c.give.new.pass c.forget.new.self can.inode can.digested can.idle can.going c.give.ensures.given c.forget.ensures.known
