-- What a client knows after a record of its own.
use Rattle.std.specs.Prelude.{ℕ, ◌==◌, ◌&&◌, not, List, Bool, false, Option, Some, None, if◌then◌else◌}
use Rattle.client_plan.specs.file_graph.Graph.{is_among, touches}
use Rattle.client_plan.specs.file_graph.declared.effect.Effect.{Effect}
use Rattle.client_plan.specs.call_effects.Knowledge.{Knowledge, with_copy}
use Rattle.client_plan.specs.call_effects.KnownCopies.{known_after}
use Rattle.client_plan.specs.call_effects.NodeView.{NodeView}
use Rattle.client_plan.specs.declared.outcome.DescriptorChange.{DescriptorChange}
use Rattle.client_plan.specs.CallPlan.{own_changed}
use Rattle.std.specs.List.{filter}
use Rattle.block_cache.specs.CacheList.{Block}
use Rattle.client_view.specs.KnowledgeChanges.{without_blocks}

-- whether it is the number of the node that is made
abbrev pub is_made : Option ℕ → ℕ → Bool
is_made None i = false
is_made (Some n) i = i == n

-- the number of a node that is made is used, and nothing stands there yet
abbrev pub with_made : Knowledge → Option ℕ → Knowledge
with_made k made = record k {
  copies = λ i. if is_made made i then Some None else k.copies i;
  blocks = λ i b. if is_made made i then None else k.blocks i b;
  granted = λ i. k.granted i && not (is_made made i);
}

-- a descriptor has changed, if one does
abbrev pub with_change : Knowledge → Option DescriptorChange → Knowledge
with_change k change = record k { own = own_changed k.own change }

-- the copies are as effects leave them, one after the other, and of what these touch no block is known
abbrev pub with_effects : Knowledge → List Effect → Knowledge
with_effects k es = record k { copies = known_after es k.copies; blocks = λ i b. if is_among i (touches es) then None else k.blocks i b }

-- what the client knows after a record with these effects, which made this node and changed this descriptor
abbrev pub knows_logged : Knowledge → List Effect → Option ℕ → Option DescriptorChange → Knowledge
knows_logged k es made change = with_effects (with_change (with_made k made) change) es

-- a copy is put in the place of what was known of an inode, if there is one
abbrev pub put_over : Knowledge → ℕ → Option (Option NodeView) → Knowledge
put_over k i None = k
put_over k i (Some copy) = with_copy (without_blocks k i) i copy

-- ---- the blocks that stay in the cache, in their order

-- those that are not of the node that is made
abbrev pub without_made : List Block → Option ℕ → List Block
without_made bs made = filter (λ b. not (is_made made b.inode)) bs

-- those of what effects do not touch
abbrev pub without_touched : List Block → List Effect → List Block
without_touched bs es = filter (λ b. not (is_among b.inode (touches es))) bs
