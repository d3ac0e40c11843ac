use Rattle.std.proofs.Common.{◌∙◌, ◌++◌, ℕ, List, length, sym, subst, ap, arith}
use Rattle.std.proofs.lemmas.List.{length-append}
use Rattle.area_reader.specs.batch_journal.Blocks.{AreJournaled}
use Rattle.area_reader.specs.Store.{disk}
use Rattle.area_commit.specs.Batches.{marks_images}
use Rattle.area_commit.proofs.Images.{node_low, is_batch, same_geometry, marks_journaled, one_for_marks}
use Rattle.area_commit.proofs.ByNumber.{journaled_both, nodes_journaled}
use Rattle.area_commit.proofs.batches.batch_of.Goals as goal

pub push_all-requires-clause-nodes : goal.push_all-requires-clause-nodes
push_all-requires-clause-nodes g c = node_low c.args.journal.now.geometry c.args.nodes.now c.requires.nodes

pub push_all-requires-clause-room : goal.push_all-requires-clause-room
push_all-requires-clause-room g c =
    omega (arith, ap length c.in_ok-push_marks.ensures.pushed, length-append c.push_slot_blocks.new.batch (marks_images c.args.marks), one_for_marks c.args.marks, c.in_ok-push_slot_blocks.ensures.few_blocks, c.requires.few)

pub returns-clause-batch : goal.returns-clause-batch
returns-clause-batch g c =
    let old = c.args.journal.now in
    let nodes = c.args.nodes.now in
    let all = c.in_ok-push_all.ensures.pushed ∙ ap (λ (b : List (ℕ × List ℕ)). b ++ nodes) c.in_ok-push_marks.ensures.pushed in
    is_batch old.geometry (disk g.M.Media old) c.args.slots.now c.args.marks nodes c.push_slot_blocks.new.batch c.in_ok-push_slot_blocks.ensures.images c.requires.nodes c.push_all.new.batch c.in_ok-push_slot_blocks.ensures.whole all

pub returns-clause-superblock : goal.returns-clause-superblock
returns-clause-superblock g c =
    let old = c.args.journal.now in
    let nodes = c.args.nodes.now in
    let all = c.in_ok-push_all.ensures.pushed ∙ ap (λ (b : List (ℕ × List ℕ)). b ++ nodes) c.in_ok-push_marks.ensures.pushed in
    same_geometry old.geometry (disk g.M.Media old) c.args.slots.now c.args.marks nodes c.push_slot_blocks.new.batch c.in_ok-push_slot_blocks.ensures.images c.requires.nodes c.push_all.new.batch all

pub returns-clause-places : goal.returns-clause-places
returns-clause-places g c =
    let geometry = c.args.journal.now.geometry in
    let nodes = c.args.nodes.now in
    let front = c.push_slot_blocks.new.batch in
    let marks = marks_images c.args.marks in
    let all = c.in_ok-push_all.ensures.pushed ∙ ap (λ (b : List (ℕ × List ℕ)). b ++ nodes) c.in_ok-push_marks.ensures.pushed in
    subst (AreJournaled geometry) (sym all) (journaled_both geometry (front ++ marks) nodes (journaled_both geometry front marks (c.in_ok-push_slot_blocks.ensures.places geometry) (marks_journaled geometry c.args.marks)) (nodes_journaled geometry nodes c.requires.nodes))

pub returns-clause-few : goal.returns-clause-few
returns-clause-few g c =
    let nodes = c.args.nodes.now in
    let front = c.push_slot_blocks.new.batch in
    omega (arith, ap length c.in_ok-push_all.ensures.pushed, length-append c.push_marks.new.batch nodes, ap length c.in_ok-push_marks.ensures.pushed, length-append front (marks_images c.args.marks), c.in_ok-push_slot_blocks.ensures.few)

pub returns-clause-few_blocks : goal.returns-clause-few_blocks
returns-clause-few_blocks g c =
    let nodes = c.args.nodes.now in
    let front = c.push_slot_blocks.new.batch in
    omega (arith, ap length c.in_ok-push_all.ensures.pushed, length-append c.push_marks.new.batch nodes, ap length c.in_ok-push_marks.ensures.pushed, length-append front (marks_images c.args.marks), c.in_ok-push_slot_blocks.ensures.few_blocks)
