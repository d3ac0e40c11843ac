use Rattle.std.proofs.Common.{take, ap, sym, ◌∙◌}
use Rattle.std.specs.Prelude.{option_map}
use Rattle.client_plan.specs.file_graph.declared.effect.Effect.{Effect}
use Rattle.client_plan.specs.call_effects.Blocks.{block_acted}
use Rattle.client_view.proofs.blocks.act.Goals as goal

pub returns-in-Make-clause-acted : goal.returns-in-Make-clause-acted
returns-in-Make-clause-acted c =
    c.new_len.ensures.made c.in-Make.inode c.args.block (option_map (λ n. take n c.args.buffer.now) c.args.len) c.args.buffer.now
    ∙ ap (λ (e : Effect). block_acted e c.args.block (option_map (λ n. take n c.args.buffer.now) c.args.len)) (sym c.in-Make.is)
