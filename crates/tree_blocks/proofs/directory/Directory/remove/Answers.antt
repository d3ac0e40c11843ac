use Rattle.std.proofs.Common.{◌≡◌, ◌+◌, ◌-◌, ◌<◌, ℕ, ap, arith, subst, sym}
use Rattle.tree_blocks.specs.Inode.{entry_at, AreDirectoryBlocks}
use Rattle.tree_blocks.specs.After.{IsTakenOut}
use Rattle.tree_blocks.specs.Directory.{EntryBlocks, numbered_blocks, numbered_entries}
use Rattle.tree_blocks.proofs.directory.Directory.remove.Goals as goal

pub invariant_of-self : goal.invariant_of-self
invariant_of-self c =
    let n : ℕ = c.self.inside.count in
    let some : 0 < n = omega (arith, c.requires, ap (λ (d : EntryBlocks). d.count) c.self.view_is) in
    let more : n ≡ n - 1 + 1 = omega (arith, some) in
    let old : AreDirectoryBlocks c.self.inside.owner (n - 1 + 1) (numbered_blocks c.self.inside.blocks.items) = subst (λ (k : ℕ). AreDirectoryBlocks c.self.inside.owner k (numbered_blocks c.self.inside.blocks.items)) more c.self.invariant.directory in
    record {
      number = c.self.invariant.number;
      few = omega (arith, c.self.invariant.few);
      long = c.take_from.ensures.long;
      directory = (c.take_from.ensures.less c.self.inside.owner old).directory;
    }

pub returns-clause-taken : goal.returns-clause-taken
returns-clause-taken c =
    let n : ℕ = c.self.inside.count in
    let some : 0 < n = omega (arith, c.requires, ap (λ (d : EntryBlocks). d.count) c.self.view_is) in
    let more : n ≡ n - 1 + 1 = omega (arith, some) in
    let old : AreDirectoryBlocks c.self.inside.owner (n - 1 + 1) (numbered_blocks c.self.inside.blocks.items) = subst (λ (k : ℕ). AreDirectoryBlocks c.self.inside.owner k (numbered_blocks c.self.inside.blocks.items)) more c.self.invariant.directory in
    let taken : IsTakenOut c.args.number n (entry_at (numbered_blocks c.self.inside.blocks.items)) (n - 1) (entry_at (numbered_blocks c.take_from.new.blocks.items)) =
    subst (λ (k : ℕ). IsTakenOut c.args.number k (entry_at (numbered_blocks c.self.inside.blocks.items)) (n - 1) (entry_at (numbered_blocks c.take_from.new.blocks.items))) (sym more) (c.take_from.ensures.less c.self.inside.owner old).taken in
    subst (λ (d : EntryBlocks). IsTakenOut c.args.number d.count (numbered_entries d) (n - 1) (entry_at (numbered_blocks c.take_from.new.blocks.items))) c.self.view_is taken
