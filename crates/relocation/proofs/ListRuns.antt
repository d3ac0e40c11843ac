-- The bytes of a run, block by block.
use Rattle.std.proofs.Common.{◌≡◌, ◌≤◌, inl, inr, ℕ, ◌+◌, ◌*◌, List, length, sym, ◌∙◌, subst, arith}
use Rattle.std.proofs.lemmas.Bool.{cases_lt}
use Rattle.tier_device.specs.Media.{overwritten}
use Rattle.tier_device.specs.RecordLaws.{torn_overwritten}
use Rattle.inode_plan.specs.batch_journal.Images.{slice}
use Rattle.inode_plan.proofs.batch_journal_lemmas.Bytes.{slice_before, slice_written}
use Rattle.inode_plan.specs.tree_blocks.Inode.{LogicalBlocks}
use Rattle.inode_plan.specs.Lists.{HoldsRun}

pub holds_more : (blocks : LogicalBlocks) (first n : ℕ) (old new : List ℕ) → HoldsRun blocks first n old → length new ≡ 4096 → 4096 * n + 4096 ≤ length old → new ≡ blocks (first + n) → HoldsRun blocks first (n + 1) (overwritten old (4096 * n) new)
holds_more blocks first n old new holds long fits is k lt = elim (cases_lt k n) [
  | inl before ↦ slice_before (4096 * n) (length new) old (overwritten old (4096 * n) new) (torn_overwritten old (4096 * n) new (omega (arith, fits, long))) (4096 * k) 4096 (omega (arith, before)) ∙ holds k before
  | inr past ↦ (let same : n ≡ k = omega (arith, past, lt) in
      subst (λ j. slice (4096 * j) 4096 (overwritten old (4096 * n) new) ≡ blocks (first + j)) same (slice_written old (4096 * n) new 4096 (sym long) (omega (arith, fits)) ∙ is))
]
