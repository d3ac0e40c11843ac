use Rattle.std.proofs.Common.{None, ap, ◌∙◌}
use Rattle.std.specs.Prelude.{unwrap_or}
use Rattle.client_plan.specs.file_graph.declared.effect.Kind.{Kind}
use Rattle.client_plan.specs.call_effects.Knowledge.{lists_as}
use Rattle.client_view.specs.KnowledgeTables.{copy_at}
use Rattle.client_view.proofs.ListedKinds.{child_is_named}
use Rattle.client_view.proofs.answers.child_in.Goals as goal

pub is_child_dir-requires : goal.is_child_dir-requires
is_child_dir-requires c = record {
  listed =
      let node = unwrap_or (copy_at c.args.slots.now c.args.dir) None in
      ap (λ i. lists_as i c.kind.result node) c.inode-in-Some.ensures
      ∙ ap (λ (k : Kind). lists_as c.in-Some.child.0 k node) c.kind.ensures
      ∙ ap (λ o. lists_as c.in-Some.child.0 c.in-Some.child.1 (unwrap_or o None)) c.requires.copied
      ∙ child_is_named c.args.name.now c.in-Some.child c.args.copy.now c.in-Some.ensures.there;
}
