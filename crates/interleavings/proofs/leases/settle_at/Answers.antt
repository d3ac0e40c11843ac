use Rattle.std.proofs.Common.{◌≢◌, subst}
use Rattle.system_laws.specs.lease_manager.Passes.{lease_of}
use Rattle.system_laws.specs.lease_manager.declared.view.LeaseMode.{LeaseMode}
use Rattle.system_laws.specs.lease_manager.declared.view.LeaseMode.TheVariants.{Trying}
use Rattle.system_laws.specs.libfs.View.{ClientView}
use Rattle.interleavings.proofs.leases.settle_at.Goals as goal

pub returns-in-Some : goal.returns-in-Some
returns-in-Some g c = λ is_c word.
    let there = c.in-Some.ensures.there.1 in
    (there.0, there.1, subst (λ (v : ClientView _). lease_of v.pass c.args.inode ≢ Trying) there.2 (subst (λ (m : LeaseMode). m ≢ Trying) c.holds-mode.ensures.mode c.holds-mode.ensures.settled))
