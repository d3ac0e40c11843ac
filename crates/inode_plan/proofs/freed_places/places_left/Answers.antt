use Rattle.std.proofs.Common.{◌≡◌, ◌∙◌, ◌++◌, ◌-◌, ℕ, List, ap, sym, subst}
use Rattle.std.specs.List.{AllByRecursion}
use Rattle.block_alloc.specs.declared.runs.Run.{Run}
use Rattle.block_alloc.specs.Runs.{blocks_of}
use Rattle.area_commit.specs.layout.declared.places.TheConstants.{FILE_BLOCKS}
use Rattle.area_commit.specs.extent_tree.Map.{runs_in, places_of, HasBlock}
use Rattle.area_commit.specs.graph_change.View.{change_of}
use Rattle.inode_plan.specs.MapChange.{places_below}
use Rattle.inode_plan.proofs.Left.{are_left, left_used}
use Rattle.inode_plan.proofs.freed_places.places_left.Goals as goal

pub returns-clause-left : goal.returns-clause-left
returns-clause-left c =
    let m = c.args.map.now in
    let t = c.args.tier in
    let numbers = c.args.numbers.now in
    let cut : ℕ = c.first_cut-cut.result in
    let is : blocks_of c.push_places.new.out.items ≡ places_below (runs_in m t) cut numbers ++ places_of (runs_in m t) cut (FILE_BLOCKS - cut) =
    c.in_ok-push_places.ensures.places ∙ ap (λ (xs : List ℕ). xs ++ places_of (runs_in m t) cut (FILE_BLOCKS - cut)) (c.in_ok-push_written.ensures.places ∙ ap (λ (rs : List Run). blocks_of rs ++ places_below (runs_in m t) cut numbers) c.new-runs.ensures.items) in
    are_left (change_of c.args.change.now) numbers m t FILE_BLOCKS cut c.requires.numbers c.first_cut-cut.ensures.few c.first_cut-cut.ensures.is c.requires.below (blocks_of c.push_places.new.out.items) is

pub returns-clause-used : goal.returns-clause-used
returns-clause-used c p apart used =
    let m = c.args.map.now in
    let t = c.args.tier in
    let numbers = c.args.numbers.now in
    let cut : ℕ = c.first_cut-cut.result in
    let is : blocks_of c.push_places.new.out.items ≡ places_below (runs_in m t) cut numbers ++ places_of (runs_in m t) cut (FILE_BLOCKS - cut) =
    c.in_ok-push_places.ensures.places ∙ ap (λ (xs : List ℕ). xs ++ places_of (runs_in m t) cut (FILE_BLOCKS - cut)) (c.in_ok-push_written.ensures.places ∙ ap (λ (rs : List Run). blocks_of rs ++ places_below (runs_in m t) cut numbers) c.new-runs.ensures.items) in
    let some : AllByRecursion HasBlock c.push_places.new.out.items = c.in_ok-push_places.ensures.some (c.in_ok-push_written.ensures.some (subst (AllByRecursion HasBlock) (sym c.new-runs.ensures.items) tt)) in
    left_used (change_of c.args.change.now) numbers m t FILE_BLOCKS cut c.requires.numbers c.first_cut-cut.ensures.few c.first_cut-cut.ensures.is c.requires.below p c.push_places.new.out.items is some apart used
