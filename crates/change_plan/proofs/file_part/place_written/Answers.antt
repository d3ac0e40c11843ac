use Rattle.std.proofs.Common.{◌≡◌, ◌≤◌, ◌∙◌, inl, ℕ, List, length, take, refl, sym, ap, subst, arith}
use Rattle.std.proofs.lemmas.List.{length-take-le}
use Rattle.inode_plan.specs.graph_change.View.{change_of}
use Rattle.change_plan.specs.FileStart.{IsPlacedFile}
use Rattle.change_plan.proofs.FilePlaced.{all_below}
use Rattle.change_plan.proofs.PlansFile.{long, started_numbers, first_free}
use Rattle.change_plan.proofs.file_part.place_written.Goals as goal

pub written_numbers-requires : goal.written_numbers-requires
written_numbers-requires c = (let was = c.requires.started in record { below = all_below was.0 was.1 _ _ _ was.2.map })

pub slice_bounds-place_file-end : goal.slice_bounds-place_file-end
slice_bounds-place_file-end c =
    let was = c.requires.started in
    let numbers = c.in_ok-numbers.numbers in
    let count : c.len-count.result ≡ length numbers.items = c.len-count.ensures ∙ long numbers in
    let few : c.len-count.result ≤ length c.args.places.now = was.3.enough c.len-count.result (inl (was.2.kind_is, numbers.items, started_numbers was.0 was.1 (change_of c.args.change.now) c.args.inode c.args.file numbers.items was.2 c.in_ok-numbers.ensures.numbers, sym count)) in
    sym (length-take-le c.len-count.result c.args.places.now few)

pub place_file-requires-clause-enough : goal.place_file-requires-clause-enough
place_file-requires-clause-enough c =
    let was = c.requires.started in
    let numbers = c.in_ok-numbers.numbers in
    let count : c.len-count.result ≡ length numbers.items = c.len-count.ensures ∙ long numbers in
    let few : c.len-count.result ≤ length c.args.places.now = was.3.enough c.len-count.result (inl (was.2.kind_is, numbers.items, started_numbers was.0 was.1 (change_of c.args.change.now) c.args.inode c.args.file numbers.items was.2 c.in_ok-numbers.ensures.numbers, sym count)) in
    let first = length-take-le c.len-count.result c.args.places.now few in
    omega (arith, ap length c.deref.ensures.value, first, count)

pub returns : goal.returns
returns c g s start has =
    let numbers = c.in_ok-numbers.numbers in
    let items : List ℕ = numbers.items in
    let places = c.args.places.now in
    let change = change_of c.args.change.now in
    let count : c.len-count.result ≡ length items = c.len-count.ensures ∙ long numbers in
    let are = started_numbers g s change c.args.inode c.args.file items start c.in_ok-numbers.ensures.numbers in
    let few : length items ≤ length places = has.enough (length items) (inl (start.kind_is, items, are, refl)) in
    let placed = c.in_ok-file.ensures g s start in
    record {
      numbers = are;
      few = few;
      free = first_free g s places (length items) few has.free;
      placed = subst (λ (ns : List ℕ). IsPlacedFile g s change c.args.inode ns (take (length items) places) c.in_ok-file.file) c.deref.ensures.value (subst (λ (n : ℕ). IsPlacedFile g s change c.args.inode c.deref.result.now (take n places) c.in_ok-file.file) count placed);
    }
