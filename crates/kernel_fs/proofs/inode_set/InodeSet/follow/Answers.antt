use Rattle.std.proofs.Common.{List, refl, sym, subst}
use Rattle.std.specs.List.{AllByRecursion}
use Rattle.world_invariant.specs.file_graph.declared.effect.Effect.{Effect}
use Rattle.world_invariant.specs.file_graph.Graph.{after_effects}
use Rattle.world_invariant.specs.log_record.Grammar.{FitsLimits, IsRecord}
use Rattle.world_invariant.specs.Logs.{after_records}
use Rattle.kernel_fs.specs.Inodes.{has}
use Rattle.kernel_fs.specs.Nodes.{AreNodes}
use Rattle.kernel_fs.proofs.Leading.{all_at, begins, ends, goes_on}
use Rattle.kernel_fs.proofs.inode_set.InodeSet.follow.Goals as goal

pub records-init : goal.records-init
records-init c = λ g are. begins after_records g c.args.records.now (has c.args.self.now) (has c.args.self.now) are

pub follow_effects-requires : goal.follow_effects-requires
follow_effects-requires c =
    subst (AllByRecursion FitsLimits) (sym c.as_slice.ensures)
    (subst IsRecord (sym c.record-item.is) (all_at IsRecord c.args.records.now c.records.record-index c.record-item.result c.requires c.records-test.true)).fit

pub records-preserved : goal.records-preserved
records-preserved c = λ g are.
    goes_on after_records (λ h r. after_effects h r.effects) (λ h r rs. refl) g c.args.records.now c.records.record-index c.record-item.result (has c.records.self) (has c.follow_effects.new.self)
    c.records-test.true c.record-item.is
    (λ h these. subst (λ (es : List Effect). AreNodes (after_effects h es) (has c.follow_effects.new.self)) c.as_slice.ensures (c.follow_effects.ensures h these))
    (c.records.invariant g are)

pub returns : goal.returns
returns c = λ g are. ends after_records (λ h. refl) g c.args.records.now c.records.record-index (has c.records.self) c.records-test.false (c.records.invariant g are)
