use Rattle.std.proofs.Common.{◌≡◌, ◌∙◌, Some, sym, ap, subst}
use Rattle.inode_plan.specs.file_graph.declared.effect.Kind.{Kind}
use Rattle.inode_plan.specs.file_graph.declared.effect.Kind.TheVariants as kind
use Rattle.inode_plan.specs.graph_change.Net.{Base, Made}
use Rattle.inode_plan.specs.graph_change.View.{base_of}
use Rattle.inode_plan.specs.tree_blocks.After.{start_node}
use Rattle.inode_plan.specs.area_reader.Store.{Store, disk, inode}
use Rattle.inode_plan.specs.DirectoryStart.{IsStarted}
use Rattle.change_plan.proofs.directories.start_directory.Goals as goal

the_kind : (a b : Kind) → Some a ≡ Some b → a ≡ b
the_kind a b e = cc

pub returns-in-Made-clause-started : goal.returns-in-Made-clause-started
returns-in-Made-clause-started g c =
    let old = c.args.journal.now in
    let s : Store = disk g.M.Media old in
    let base : base_of c.args.base ≡ Made c.in-Made.kind = ap base_of c.in-Made.is in
    let kind_is : c.in-Made.kind ≡ kind.Directory = the_kind c.in-Made.kind kind.Directory (sym (ap (λ (b : Base). (start_node b (inode old.geometry s c.args.inode)).kind) base) ∙ c.requires.is_directory) in
    subst (λ (b : Base). IsStarted old.geometry s b c.args.inode c.made_directory.result) (sym (base ∙ ap (λ (k : Kind). Made k) kind_is)) (c.made_directory.ensures.started old.geometry s)

pub returns-in-Made-clause-sound : goal.returns-in-Made-clause-sound
returns-in-Made-clause-sound g c = c.made_directory.ensures.sound c.args.journal.now.geometry
