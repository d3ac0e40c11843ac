use Rattle.std.proofs.Common.{refl, sym, subst}
use Rattle.world_invariant.specs.file_graph.Graph.{after_effect, after_effects}
use Rattle.world_invariant.specs.log_record.Grammar.{FitsLimits}
use Rattle.kernel_fs.specs.Inodes.{has}
use Rattle.kernel_fs.proofs.Leading.{all_at, begins, ends, goes_on}
use Rattle.kernel_fs.proofs.inode_set.InodeSet.follow_effects.Goals as goal

pub effects-init : goal.effects-init
effects-init c = λ g are. begins after_effects g c.args.effects.now (has c.args.self.now) (has c.args.self.now) are

pub follow_effect-requires : goal.follow_effect-requires
follow_effect-requires c = subst FitsLimits (sym c.effect-item.is) (all_at FitsLimits c.args.effects.now c.effects.effect-index c.effect-item.result c.requires c.effects-test.true)

pub effects-preserved : goal.effects-preserved
effects-preserved c = λ g are.
    goes_on after_effects after_effect (λ h e es. refl) g c.args.effects.now c.effects.effect-index c.effect-item.result (has c.effects.self) (has c.follow_effect.new.self)
    c.effects-test.true c.effect-item.is c.follow_effect.ensures (c.effects.invariant g are)

pub returns : goal.returns
returns c = λ g are. ends after_effects (λ h. refl) g c.args.effects.now c.effects.effect-index (has c.effects.self) c.effects-test.false (c.effects.invariant g are)
