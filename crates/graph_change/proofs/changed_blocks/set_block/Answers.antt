use Rattle.std.proofs.Common.{rules, ◌≡◌, None, refl, subst, ap, sym, ◌∙◌}
use Rattle.std.specs.Prelude.{is_some, IsSome}
use Rattle.std.specs.Ordering.{nat_cmp}
use Rattle.std.specs.BTreeMap.{get}
use Rattle.std.proofs.lemmas.Bool.{false≢true}
use Rattle.graph_change.specs.View.{patch_of}
use Rattle.graph_change.proofs.Making.{has_is}
use Rattle.graph_change.proofs.Maps.{put_at}
use Rattle.graph_change.proofs.changed_blocks.set_block.Goals as goal

pub returns : goal.returns
returns c = put_at patch_of c.args.blocks.now (c.get_mut.follows.lender c.args.new) c.args.number c.args.new (patch_of c.args.new) refl ((c.get_mut.follows.holds c.args.new).3 (subst IsSome c.in-Some.ensures.value refl))

pub unreachable-requires : goal.unreachable-requires
unreachable-requires c =
    let none : get nat_cmp c.args.blocks.now c.args.number ≡ None = search rules in
    false≢true (sym (has_is c.args.blocks.now c.args.number ∙ ap is_some none) ∙ c.requires)
