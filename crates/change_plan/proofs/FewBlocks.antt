-- A changed directory wants no more blocks of the node pool than its change may take: each block that comes is written.
use Rattle.std.proofs.Common.{◌≡◌, ◌≤◌, ◌<◌, ◌+◌, ◌-◌, ◌∙◌, inl, inr, ℕ, zero, suc, List, [], ◌∷◌, Bool, true, false, length, ap, arith}
use Rattle.std.specs.Prelude.{not, ◌==◌, ◌&&◌, if◌then◌else◌}
use Rattle.std.specs.List.{Contains}
use Rattle.std.proofs.lemmas.Bool.{cases_lt}
use Rattle.std.proofs.lemmas.Map.Made.{Contains-tail}
use Rattle.inode_plan.specs.graph_change.Change.{Change}
use Rattle.inode_plan.specs.layout.Places.{Sizes}
use Rattle.block_alloc.specs.Runs.{Rising}
use Rattle.inode_plan.specs.tree_blocks.BlockMarks.{ListsWritten}
use Rattle.inode_plan.specs.area_reader.Store.{Store}
use Rattle.inode_plan.proofs.area_commit_lemmas.Members.{cons_cases, nothing}
use Rattle.inode_plan.proofs.Rising.{sorted_rise}
use Rattle.inode_plan.specs.Blocks.{spares_wanted}
use Rattle.inode_plan.specs.Spare.{spares_for}
use Rattle.inode_plan.specs.declared.blocks.DirectoryBlocks.{DirectoryBlocks}
use Rattle.inode_plan.specs.declared.directory_change.ChangedDirectory.{ChangedDirectory}
use Rattle.change_plan.specs.DirectoryChange.{IsChangedFrom}
use Rattle.change_plan.specs.Next.{nodes_for}

-- ---- rising numbers

from_low : (low end : ℕ) (ks : List ℕ) (k : ℕ) → Rising low end ks → Contains ks k → low ≤ k
from_low low end [] k r at = absurd (nothing k at)
from_low low end (x ∷ xs) k r at = elim (cons_cases x xs k at) [
  | inl is ↦ omega (arith, r.0, is)
  | inr there ↦ (let more = from_low (x + 1) end xs k r.2 there in omega (arith, more, r.0))
]

-- where each of so many numbers in a row is among them, they are as many
as_many : (low end a n : ℕ) (ks : List ℕ) → Rising low end ks → ((k : ℕ) → a ≤ k → k < a + n → Contains ks k) → n ≤ length ks
as_many low end a zero ks r each = omega arith
as_many low end a (suc n) [] r each = absurd (nothing a (each a (omega arith) (omega arith)))
as_many low end a (suc n) (x ∷ xs) r each = elim (cases_lt x a) [
  | inl before ↦ (let more = as_many (x + 1) end a (suc n) xs r.2 (λ k from below. Contains-tail x xs k (λ same. omega (arith, same, from, before)) (each k from below)) in omega (arith, more))
  | inr past ↦ elim (cons_cases x xs a (each a (omega arith) (omega arith))) [
    | inl first ↦ (let more = as_many (x + 1) end (a + 1) n xs r.2 (λ k from below. Contains-tail x xs k (λ same. omega (arith, same, from, first)) (each k (omega (arith, from)) (omega (arith, below)))) in omega (arith, more))
    | inr there ↦ absurd (let high = from_low (x + 1) end xs a r.2 there in omega (arith, high, past))
  ]
]

-- ---- blocks that come

come : (old new : List (List ℕ)) (written : List ℕ) → ListsWritten old new written → length new - length old ≤ length written
come old new written tells = let rise = sorted_rise written tells.rising in as_many 0 rise.0 (length old) (length new - length old) written rise.1 (λ k from below. tells.added k from (omega (arith, from, below)))

one_or_none : (b : Bool) → (if b then 1 else 0) ≤ 1
one_or_none true = omega arith
one_or_none false = omega arith

wanted_few : (root old new most : ℕ) → new - old ≤ most → spares_wanted root old new ≤ most + 1
wanted_few root old new most le = let one = one_or_none ((root == 0) && not (new == 0)) in omega (arith, one, le)

pub few_spares : (g : Sizes) (s : Store) (c : Change) (i : ℕ) (x : ChangedDirectory) → IsChangedFrom g s c i x → spares_for x ≤ nodes_for c
few_spares g s c i x from =
    let had : length x.blocks.places.items ≡ length from.start.entries.blocks = ap (λ (b : DirectoryBlocks). length b.places.items) from.changed.blocks_are ∙ from.sound.long in
    let more = come from.start.entries.blocks x.entries.blocks x.written from.changed.written_are in
    let wanted = wanted_few x.blocks.root (length x.blocks.places.items) (length x.entries.blocks) (length x.written) (omega (arith, had, more)) in
    let few = from.few in
    omega (arith, wanted, few)
