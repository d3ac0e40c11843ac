use Rattle.std.proofs.Common.{◌≡◌, ℕ, Option, true, ap, sym, ◌∙◌, subst}
use Rattle.std.specs.Prelude.{IfErr, is_some}
use Rattle.client_plan.specs.call_effects.Blocks.{range_by}
use Rattle.client_view.specs.KnowledgeTables.{block_by}
use Rattle.client_view.proofs.file_reads.read.Goals as goal

pub returns-in-Some-clause-memory : goal.returns-in-Some-clause-memory
returns-in-Some-clause-memory c =
    subst (λ (s : Option ℕ). IfErr c.read_file.result (λ x. is_some (range_by (block_by s c.args.blocks.now c.args.inode) c.args.at c.args.count) ≡ true)) (sym c.in-Some.is) c.read_file.ensures.memory

pub returns-in-None-clause-bytes : goal.returns-in-None-clause-bytes
returns-in-None-clause-bytes c =
    c.read_nothing.ensures c.args.at ∙ ap (λ (s : Option ℕ). range_by (block_by s c.args.blocks.now c.args.inode) c.args.at c.args.count) (sym c.in-None.is)
