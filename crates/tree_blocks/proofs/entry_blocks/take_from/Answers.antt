use Rattle.std.proofs.Common.{◌≡◌, [], ◌+◌, ◌∙◌, ℕ, ap, arith, subst, sym, List, take}
use Rattle.std.proofs.lemmas.List.{get_or-take}
use Rattle.tree_blocks.specs.Inode.{AreDirectoryBlocks}
use Rattle.tree_blocks.specs.Directory.{HaveOneLess, numbered_blocks}
use Rattle.tree_blocks.proofs.Leaving.{less_cut}
use Rattle.tree_blocks.proofs.Lists.{written_back}
use Rattle.tree_blocks.proofs.entry_blocks.take_from.Goals as goal

pub returns-clause-less : goal.returns-clause-less
returns-clause-less c owner is =
    let bs : List (List ℕ) = c.args.blocks.now.items in
    let new : List (List ℕ) = c.put_last_at.new.blocks in
    let lent : c.deref_mut.result.now ≡ bs = c.deref_mut.ensures.value in
    let here : AreDirectoryBlocks owner (c.args.last + 1) (numbered_blocks c.deref_mut.result.now) = subst (λ (l : List (List ℕ)). AreDirectoryBlocks owner (c.args.last + 1) (numbered_blocks l)) (sym lent) is in
    let one : HaveOneLess owner c.args.last c.args.number (numbered_blocks c.deref_mut.result.now) (numbered_blocks new) = c.put_last_at.ensures.less owner here in
    let two : HaveOneLess owner c.args.last c.args.number (numbered_blocks bs) (numbered_blocks new) = subst (λ (l : List (List ℕ)). HaveOneLess owner c.args.last c.args.number (numbered_blocks l) (numbered_blocks new)) lent one in
    let cut : c.truncate.new.self.items ≡ take c.div_ceil.result new = c.truncate.ensures.items ∙ ap (take c.div_ceil.result) (written_back c.args.blocks.now.len new bs (c.put_last_at.ensures.long ∙ c.deref_mut.ensures.len)) in
    less_cut owner c.args.last c.args.number (numbered_blocks bs) (numbered_blocks new) (numbered_blocks c.truncate.new.self.items) two
    (λ k lt. ap (λ (l : List (List ℕ)). numbered_blocks l k) cut ∙ get_or-take c.div_ceil.result new k [] (omega (arith, lt, c.div_ceil.ensures)))
