-- The units of an inode by its slot.
use Rattle.std.proofs.Common.{◌≡◌, ◌≤◌, ◌+◌, ◌-◌, ℕ, suc, Some, true, refl, sym, ap, ◌∙◌, arith}
use Rattle.posix_calls.specs.Tree.{sum_up_to}
use Rattle.batch_journal.specs.file_graph.Units.{charge}
use Rattle.batch_journal.specs.layout.declared.places.TheConstants.{FILE_BLOCKS}
use Rattle.batch_journal.specs.layout.Slot.{fits_slot}
use Rattle.area_reader.proofs.Parts.{slot_as}
use Rattle.area_reader.proofs.Shown.{slot_limits}
use Rattle.posix_calls.specs.Units.{file_units, directory_units}
use Rattle.batch_journal.specs.file_graph.Graph.{Graph, cost}
use Rattle.batch_journal.specs.layout.declared.slot.Slot.{Slot}
use Rattle.batch_journal.specs.layout.declared.slot.Slot.TheVariants as slots
use Rattle.batch_journal.specs.layout.Places.{Sizes}
use Rattle.tree_blocks.specs.Inode.{LogicalBlocks, IsConsistent, inode_of, node_of, entry_at}
use Rattle.tree_blocks.proofs.Files.{length_file}
use Rattle.tree_blocks.proofs.Directories.{len_named}
use Rattle.area_reader.specs.Store.{Store, slot, slot_read, length_of, logical_block, graph}
use Rattle.area_reader.specs.Format.{SpellsInode}
use Rattle.area_reader.specs.Units.{slot_units}

by_slot : (i : ℕ) (x : Slot) (blocks : LogicalBlocks) → IsConsistent i (inode_of x blocks) → cost (node_of (inode_of x blocks)) ≡ slot_units x
by_slot i slots.Free blocks consistent = refl
by_slot i (slots.File names size touch fast block slow) blocks consistent = ap file_units (length_file blocks size)
by_slot i (slots.Directory names entries touch root) blocks consistent = ap directory_units (len_named (entry_at blocks) entries consistent.distinct)

pub units_told : (g : Sizes) (s : Store) (i : ℕ) → SpellsInode g s i → cost (graph g s i) ≡ slot_units (slot g s i)
units_told g s i spelled = by_slot i (slot g s i) (logical_block g s i) spelled.consistent

pub parts_units : (g : Sizes) (s : Store) (i : ℕ) (x : Slot) → slot_read g s i ≡ Some x → SpellsInode g s i → cost (graph g s i) ≡ slot_units x
parts_units g s i x read spelled = units_told g s i spelled ∙ ap slot_units (slot_as g s i x read)

pub few_units : (g : Sizes) (x : Slot) → fits_slot g x ≡ true → slot_units x ≤ FILE_BLOCKS + 1
few_units g x fits = by_length x (slot_limits g x fits).few where
  by_length : (x : Slot) → length_of x ≤ FILE_BLOCKS → slot_units x ≤ FILE_BLOCKS + 1
  by_length slots.Free few = omega arith
  by_length (slots.File names size touch fast block slow) few = omega (arith, few)
  by_length (slots.Directory names entries touch root) few = omega (arith, few)

-- ---- sums over the inodes

sum_none : (f : ℕ → ℕ) → 0 ≡ sum_up_to 0 f
unfolding sum_up_to
sum_none f = refl

sum_step : (k : ℕ) (f : ℕ → ℕ) → sum_up_to (suc k) f ≡ f (suc k) + sum_up_to k f
unfolding sum_up_to
sum_step k f = refl

charge_sum : (x : Graph) → sum_up_to 1024 (λ i. cost (x i)) ≡ charge x
unfolding charge
charge_sum x = refl

pub total_none : (x : Graph) → 0 ≡ sum_up_to (1 - 1) (λ i. cost (x i))
total_none x = sum_none (λ i. cost (x i))

pub total_more : (x : Graph) (n total more : ℕ) → 1 ≤ n → total ≡ sum_up_to (n - 1) (λ i. cost (x i)) → more ≡ cost (x n) → total + more ≡ sum_up_to (n + 1 - 1) (λ i. cost (x i))
total_more x n total more first before here =
    let f : ℕ → ℕ = λ i. cost (x i) in
    let this : suc (n - 1) ≡ n = omega (arith, first) in
    let next : suc (n - 1) ≡ n + 1 - 1 = omega (arith, first) in
    let step : f (suc (n - 1)) + sum_up_to (n - 1) f ≡ sum_up_to (n + 1 - 1) f = sym (sum_step (n - 1) f) ∙ ap (λ k. sum_up_to k f) next in
    let one : more ≡ f (suc (n - 1)) = here ∙ ap f (sym this) in
    let swap : total + more ≡ f (suc (n - 1)) + sum_up_to (n - 1) f = omega (arith, one, before) in
    swap ∙ step

pub total_all : (x : Graph) (n total : ℕ) → 1025 ≤ n → n ≤ 1025 → total ≡ sum_up_to (n - 1) (λ i. cost (x i)) → total ≡ charge x
total_all x n total low high is =
    let all : n - 1 ≡ 1024 = omega (arith, low, high) in
    is ∙ (ap (λ k. sum_up_to k (λ i. cost (x i))) all ∙ charge_sum x)
