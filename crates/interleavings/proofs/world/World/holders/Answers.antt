use Rattle.std.proofs.Common.{◌≡◌, ◌-◌, [], ◌∷◌, ap, ◌∙◌}
use Rattle.std.specs.Prelude.{slice_get}
use Rattle.interleavings.specs.Leases.{lease_in}
use Rattle.interleavings.proofs.EachClient.{each_of_eight}
use Rattle.interleavings.proofs.world.World.holders.Goals as goal

pub returns : goal.returns
returns g c = record {
  holders = λ n is.
      let m1 : c.lease.result ≡ lease_in c.args.self.now.system 1 c.args.inode = c.lease.ensures in
      let m2 : c.lease-2.result ≡ lease_in c.args.self.now.system 2 c.args.inode = c.lease-2.ensures in
      let m3 : c.lease-3.result ≡ lease_in c.args.self.now.system 3 c.args.inode = c.lease-3.ensures in
      let m4 : c.lease-4.result ≡ lease_in c.args.self.now.system 4 c.args.inode = c.lease-4.ensures in
      let m5 : c.lease-5.result ≡ lease_in c.args.self.now.system 5 c.args.inode = c.lease-5.ensures in
      let m6 : c.lease-6.result ≡ lease_in c.args.self.now.system 6 c.args.inode = c.lease-6.ensures in
      let m7 : c.lease-7.result ≡ lease_in c.args.self.now.system 7 c.args.inode = c.lease-7.ensures in
      let m8 : c.lease-8.result ≡ lease_in c.args.self.now.system 8 c.args.inode = c.lease-8.ensures in
      ap (λ modes. slice_get modes (n - 1)) (λ k. m1 k ∷ m2 k ∷ m3 k ∷ m4 k ∷ m5 k ∷ m6 k ∷ m7 k ∷ m8 k ∷ [])
      ∙ each_of_eight (λ d. lease_in c.args.self.now.system d c.args.inode) n is;
}
