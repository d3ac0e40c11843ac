-- What is forgotten one after the other: the slots of a table, and the blocks of files.
use Rattle.std.proofs.Common.{◌≡◌, ◌<◌, ℕ, ◌+◌, List, Option, None, refl, ap, ◌∙◌, inl, inr, arith, add-one}
use Rattle.std.specs.Prelude.{◌==◌, if◌then◌else◌}
use Rattle.std.proofs.lemmas.Bool.{cases_eq, cond-true, cond-false, eq-eqb, ne_eqb}
use Rattle.block_cache.specs.CacheList.{Block, without_file}
use Rattle.client_plan.specs.call_effects.NodeView.{NodeView}
use Rattle.client_view.specs.KnowledgeChanges.{without_files}
use Rattle.client_view.specs.KnowledgeTables.{copy_at}

-- one slot more is forgotten
pub slot_more : (before after : List (Option (Option NodeView))) (place : ℕ) → ((i : ℕ) → i < place → copy_at before i ≡ None) → ((i : ℕ) → copy_at after i ≡ (if i == place then None else copy_at before i)) → (i : ℕ) → i < place + 1 → copy_at after i ≡ None
slot_more before after place so_far now i less = elim (cases_eq i place) [
  | inl same ↦ now i ∙ cond-true (i == place) None (copy_at before i) (eq-eqb i place same)
  | inr other ↦ now i ∙ cond-false (i == place) None (copy_at before i) (ne_eqb i place other) ∙ so_far i (omega (arith, less, other))
]

-- the blocks of no file are dropped, and then those of one more
pub files_none : (bs : List Block) → without_files 0 bs ≡ bs
unfolding without_files
files_none bs = refl

pub files_next : (n : ℕ) (bs : List Block) → without_files (n + 1) bs ≡ without_file n (without_files n bs)
unfolding without_files
files_next n bs = ap (λ m. without_files m bs) (add-one n)
