use Rattle.std.proofs.Common.{◌≡◌, ◌*◌, ℕ, List, length, Option, sym, ap, subst}
use Rattle.std.proofs.lemmas.Result.{on_ok_weaker}
use Rattle.inode_plan.specs.layout.declared.places.TheConstants.{BLOCK}
use Rattle.inode_plan.specs.batch_journal.Images.{slice}
use Rattle.inode_plan.specs.graph_change.Change.{Change}
use Rattle.inode_plan.specs.graph_change.View.{change_of}
use Rattle.inode_plan.specs.tree_blocks.Inode.{LogicalBlocks}
use Rattle.inode_plan.specs.area_reader.Store.{disk, logical_block}
use Rattle.inode_plan.specs.area_reader.declared.tiers.InodeExtents.{InodeExtents}
use Rattle.inode_plan.specs.Bytes.{IsBlockAfter, AddsBlocks, blocks_from}
use Rattle.inode_plan.specs.PlacedFile.{nth_number}
use Rattle.change_plan.proofs.file_part.add_bytes.Goals as goal

-- of blocks that read the same the change makes the same
adds_same : (c : Change) (a b : LogicalBlocks) (numbers : List ℕ) (count : ℕ) (old new : List ℕ) → ((k : ℕ) → a k ≡ b k) → AddsBlocks c a numbers count old new → AddsBlocks c b numbers count old new
adds_same c a b numbers count old new same adds = (
  adds.0,
  adds.1,
  record {
    long = adds.2.long;
    each = λ n lt. subst (λ (x : List ℕ). IsBlockAfter c (λ j. x) (nth_number numbers n) (slice (BLOCK * n) BLOCK adds.0)) (same (nth_number numbers n)) (adds.2.each n lt);
  },
)

pub returns-in-Some-clause-added : goal.returns-in-Some-clause-added
returns-in-Some-clause-added g c =
    let old = c.args.journal.now in
    let blocks : LogicalBlocks = logical_block old.geometry (disk g.M.Media old) c.args.inode in
    on_ok_weaker c.read_changed.result
    (adds_same (change_of c.args.change.now) _ (blocks_from c.args.found.now blocks) c.args.numbers.now (length c.args.numbers.now) c.args.out.now.items c.read_changed.new.out.items (λ k. sym (ap (λ (o : Option InodeExtents). blocks_from o blocks k) c.in-Some.is)))
    c.read_changed.ensures.added

pub returns-in-None-clause-added : goal.returns-in-None-clause-added
returns-in-None-clause-added g c =
    let old = c.args.journal.now in
    let blocks : LogicalBlocks = logical_block old.geometry (disk g.M.Media old) c.args.inode in
    on_ok_weaker c.read_changed-in-None.result
    (adds_same (change_of c.args.change.now) _ (blocks_from c.args.found.now blocks) c.args.numbers.now (length c.args.numbers.now) c.args.out.now.items c.read_changed-in-None.new.out.items (λ k. sym (ap (λ (o : Option InodeExtents). blocks_from o blocks k) c.in-None.is)))
    c.read_changed-in-None.ensures.added
