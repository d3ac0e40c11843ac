use Rattle.std.proofs.Common.{◌≡◌, ◌/◌, ◌%◌, ◌∙◌, ap, arith, subst, sym, refl}
use Rattle.std.specs.Prelude.{IfSome, IfNone}
use Rattle.layout.specs.Directory.{block_entries}
use Rattle.tree_blocks.specs.Inode.{entry_at, IsAbsent}
use Rattle.tree_blocks.specs.Directory.{EntryBlocks, numbered_blocks, numbered_entries}
use Rattle.tree_blocks.proofs.Held.{entry_is, within_part}
use Rattle.tree_blocks.proofs.Lists.{some_weaker, none_weaker, Found, Missing}
use Rattle.tree_blocks.proofs.directory.Directory.find.Goals as goal

pub returns-clause-found : goal.returns-clause-found
returns-clause-found c =
    let b = numbered_blocks c.self.inside.blocks.items in
    let lent : c.deref.result.now ≡ c.self.inside.blocks.items = cc c.deref.ensures.value in
    subst (λ (d : EntryBlocks). IfSome c.find_in.result (λ e. (numbered_entries d e).0 ≡ c.args.name.now)) c.self.view_is
    (some_weaker _ (λ e. (entry_at b e).0 ≡ c.args.name.now) c.find_in.result (λ e f. ap (λ x. x.0) (entry_is b e (block_entries (b (e / 56))) refl) ∙ f.2) (subst (Found c.args.name.now c.find_in.result) lent c.find_in.ensures.found))

pub returns-clause-absent : goal.returns-clause-absent
returns-clause-absent c =
    let b = numbered_blocks c.self.inside.blocks.items in
    let lent : c.deref.result.now ≡ c.self.inside.blocks.items = cc c.deref.ensures.value in
    let n = c.self.inside.count in
    subst (λ (d : EntryBlocks). IfNone c.find_in.result (IsAbsent c.args.name.now (numbered_entries d) d.count)) c.self.view_is
    (none_weaker _ (IsAbsent c.args.name.now (entry_at b) n) c.find_in.result
    (λ off e lt same. off (e / 56) (e % 56) (omega (arith, c.self.invariant.long, lt)) (within_part c.self.inside.owner n b c.self.invariant.directory e lt) (sym (ap (λ x. x.0) (entry_is b e (block_entries (b (e / 56))) refl)) ∙ same))
    (subst (Missing c.args.name.now c.find_in.result) lent c.find_in.ensures.absent))
