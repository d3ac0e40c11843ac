use Rattle.std.proofs.Common.{◌≡◌, ◌∙◌, ℕ, arith, subst, sym, List}
use Rattle.layout.specs.LentEntry.{owned_entry}
use Rattle.tree_blocks.specs.Inode.{plain, AreDirectoryBlocks}
use Rattle.tree_blocks.specs.Directory.{HaveOneMore, numbered_blocks}
use Rattle.tree_blocks.proofs.Lists.{more_opened, written_back}
use Rattle.tree_blocks.proofs.entry_blocks.add_to.Goals as goal

pub returns-then-count-ne0-clause-more : goal.returns-then-count-ne0-clause-more
returns-then-count-ne0-clause-more c =
    let bs : List (List ℕ) = c.args.blocks.now.items in
    let lent : c.deref_mut.result.now ≡ bs = c.deref_mut.ensures.value in
    let is : AreDirectoryBlocks c.args.owner c.args.count (numbered_blocks c.deref_mut.result.now) = subst (λ (l : List (List ℕ)). AreDirectoryBlocks c.args.owner c.args.count (numbered_blocks l)) (sym lent) c.requires.directory in
    let one : HaveOneMore c.args.owner c.args.count (plain (owned_entry c.args.entry)) c.deref_mut.result.now c.fill_block.new.blocks = c.fill_block.ensures.more c.args.owner is in
    let two : HaveOneMore c.args.owner c.args.count (plain (owned_entry c.args.entry)) bs c.fill_block.new.blocks =
    subst (λ (l : List (List ℕ)). HaveOneMore c.args.owner c.args.count (plain (owned_entry c.args.entry)) l c.fill_block.new.blocks) lent one in
    subst (λ (l : List (List ℕ)). HaveOneMore c.args.owner c.args.count (plain (owned_entry c.args.entry)) bs l) (sym (written_back c.args.blocks.now.len c.fill_block.new.blocks bs (c.fill_block.auto.blocks ∙ c.deref_mut.ensures.len))) two

pub returns-clause-more : goal.returns-clause-more
returns-clause-more c =
    let bs : List (List ℕ) = c.args.blocks.now.items in
    subst (λ (l : List (List ℕ)). HaveOneMore c.args.owner c.args.count (plain (owned_entry c.args.entry)) bs l) (sym c.in_ok-push.ensures.items)
    (more_opened c.args.owner c.args.count bs c.requires.directory c.first_of.result c.first_of.ensures.entries c.requires.long (owned_entry c.args.entry) c.requires.new (omega (arith, c.if-count-ne0.false)) c.first_of.ensures.listed)
