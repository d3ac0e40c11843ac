use Rattle.std.proofs.Common.{◌≡◌, take}
use Rattle.client_view.specs.AfterRecord.{without_touched}
use Rattle.client_view.proofs.copies.drop_touched.Given as goal

abbrev pub invariant-loop-effect : goal.invariant-loop-effect
invariant-loop-effect l = l.blocks ≡ without_touched l.fn.blocks (take l.effect-index l.effects)
