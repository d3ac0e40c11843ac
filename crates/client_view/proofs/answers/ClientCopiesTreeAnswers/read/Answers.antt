use Rattle.std.proofs.Common.{◌≡◌, ℕ, List, Option, true, ap, ◌∙◌, subst}
use Rattle.std.specs.Prelude.{IfErr, is_some}
use Rattle.block_cache.specs.CacheList.{Block}
use Rattle.client_plan.specs.call_effects.Blocks.{range_by}
use Rattle.client_plan.specs.call_effects.NodeView.{NodeView}
use Rattle.client_view.specs.KnowledgeTables.{Held, copy_at, size_known, block_by}
use Rattle.client_view.proofs.answers.ClientCopiesTreeAnswers.read.Goals as goal

pub returns-clause-memory : goal.returns-clause-memory
returns-clause-memory c =
    let copies = c.deref.ensures.value ∙ ap (λ (h : Held). h.copies) c.self.view_is in
    let size = c.size_at-size.ensures ∙ ap (λ (cs : List (Option (Option NodeView))). size_known (copy_at cs c.args.inode)) copies in
    let by_size = subst (λ (s : Option ℕ). IfErr c.read.result (λ x. is_some (range_by (block_by s c.self.inside.blocks c.args.inode) c.args.at c.args.count) ≡ true)) size c.read.ensures.memory in
    subst (λ (bs : List Block). IfErr c.read.result (λ x. is_some (range_by (block_by (size_known (copy_at c.args.self.now.copies c.args.inode)) bs c.args.inode) c.args.at c.args.count) ≡ true)) (ap (λ (h : Held). h.blocks) c.self.view_is) by_size
