use Rattle.world_invariant.specs.World.{Alive, Failed, Dead}
use Rattle.std.proofs.Common.{◌≡◌, refl, sym, ◌∙◌}
use Rattle.world_invariant.proofs.Begins.{turned_holds, turned_tree}
use Rattle.world_invariant.proofs.burial_laws.client_may_die.Goals as goal

pub returns-clause-holds : goal.returns-clause-holds
returns-clause-holds c = λ w d h can. turned_holds w d Dead h can.client refl (λ off is. let clash : Alive ≡ Failed = sym can.alive ∙ is in cc)

pub returns-clause-tree : goal.returns-clause-tree
returns-clause-tree c = λ w d h can. turned_tree w d Dead h can.client refl (λ off is. let clash : Alive ≡ Failed = sym can.alive ∙ is in cc)
