-- A node that is made and its name come in either order.
use Rattle.std.proofs.Common.{◌≡◌, ◌≢◌, ℕ, Option, sym, ap, ◌∙◌}
use Rattle.std.specs.FinMap as fin
use Rattle.posix_calls.specs.Tree.{Node, Tree, Dir, set_node, entries_of}
use Rattle.posix_calls.specs.Operations.{with_entry, IsFree}
use Rattle.plain_tree.specs.Plain.{IsHeld}
use Rattle.posix_calls.specs.declared.operation.Location.{Location}
use Rattle.std.specs.Prelude.{Some}
use Rattle.posix_calls.proofs.Changes.{set_other}
use Rattle.plain_tree.proofs.Moves.{set_swap}

pub named_after : (t : Tree) (at : Location) (i : ℕ) (x : Option Node) → at.parent ≢ i → set_node (with_entry t at i) i x ≡ with_entry (set_node t i x) at i
named_after t at i x apart =
    set_swap t at.parent i (Some (Dir (fin.insert (entries_of (t at.parent)) at.name i))) x apart
    ∙ ap (λ (o : Option Node). set_node (set_node t i x) at.parent (Some (Dir (fin.insert (entries_of o) at.name i)))) (sym (set_other t i at.parent x apart))

-- the number of a new node is not that of its directory
pub new_apart : (t : Tree) (at : Location) (i : ℕ) → IsHeld t at → IsFree t i → at.parent ≢ i
new_apart t at i held free = λ same. held.1 (ap t same ∙ free.none)
