use Rattle.std.proofs.Common.{◌≡◌, ◌∙◌, ℕ, List, length, true, sym, ap, subst, arith}
use Rattle.area_commit.specs.layout.declared.extents.Extent.{Extent}
use Rattle.area_commit.specs.layout.Slot.{is_root_block}
use Rattle.inode_plan.specs.Blocks.{HaveOwnPlaces, AreNodeBlocks, places_after, root_after}
use Rattle.inode_plan.proofs.Fits.{few_runs}
use Rattle.inode_plan.proofs.Lists.{long, after_apart, after_nodes, after_root_node}
use Rattle.inode_plan.proofs.plan.plan_directory.Goals as goal

pub put_written-requires-clause-apart : goal.put_written-requires-clause-apart
put_written-requires-clause-apart c =
    let x = c.args.changed.now in
    let spares = c.args.spares.now in
    let is : c.deref-3.result.now ≡ places_after x.blocks.places.items spares (length x.entries.blocks) =
    c.deref-3.ensures.value ∙ c.in_ok-places.ensures ∙ ap (λ (ps : List ℕ). places_after ps spares (length c.blocks-blocks.result.now)) c.deref.ensures.value
    ∙ ap (λ (bs : List (List ℕ)). places_after x.blocks.places.items spares (length bs)) c.blocks-blocks.ensures.blocks in
    subst HaveOwnPlaces (sym is) (after_apart c.requires.0 x spares c.requires.2 c.requires.3)

pub put_list-requires-clause-few : goal.put_list-requires-clause-few
put_list-requires-clause-few c =
    let x = c.args.changed.now in
    let spares = c.args.spares.now in
    let is : c.deref-2.result.now ≡ places_after x.blocks.places.items spares (length x.entries.blocks) =
    c.deref-2.ensures.value ∙ c.in_ok-places.ensures ∙ ap (λ (ps : List ℕ). places_after ps spares (length c.blocks-blocks.result.now)) c.deref.ensures.value
    ∙ ap (λ (bs : List (List ℕ)). places_after x.blocks.places.items spares (length bs)) c.blocks-blocks.ensures.blocks in
    let few = few_runs c.deref-2.result.now c.in_ok-runs_of.field-0.items c.in_ok-runs_of.ensures in
    let blocks : length c.deref-2.result.now ≡ length x.entries.blocks = ap (λ (ps : List ℕ). length ps) is ∙ long c.requires.0 x spares c.requires.2 c.requires.3 in
    let held = c.blocks-blocks.ensures.held in
    let as_many = held.long in
    let entries = held.few in
    let same : length c.new-list.result.extents ≡ length c.in_ok-runs_of.field-0.items = ap (λ (es : List Extent). length es) c.new-list.ensures.extents in
    omega (arith, few, blocks, as_many, entries, same)

pub returns-clause-nodes : goal.returns-clause-nodes
returns-clause-nodes c g can are nodes =
    let x = c.args.changed.now in
    let spares = c.args.spares.now in
    let is : c.deref-3.result.now ≡ places_after x.blocks.places.items spares (length x.entries.blocks) =
    c.deref-3.ensures.value ∙ c.in_ok-places.ensures ∙ ap (λ (ps : List ℕ). places_after ps spares (length c.blocks-blocks.result.now)) c.deref.ensures.value
    ∙ ap (λ (bs : List (List ℕ)). places_after x.blocks.places.items spares (length bs)) c.blocks-blocks.ensures.blocks in
    let root : c.root_after-root.result ≡ root_after x.blocks.root spares (length x.entries.blocks) =
    c.root_after-root.ensures ∙ ap (λ (bs : List (List ℕ)). root_after x.blocks.root spares (length bs)) c.blocks-blocks.ensures.blocks in
    c.in_ok-put_list.ensures.nodes g (subst (λ r. is_root_block g r ≡ true) (sym root) (after_root_node g x spares can are))
    (c.in_ok-put_written.ensures.nodes g (subst (AreNodeBlocks g) (sym is) (after_nodes g x spares can are)) nodes)
