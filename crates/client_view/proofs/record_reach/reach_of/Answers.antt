use Rattle.std.proofs.Common.{◌+◌, List, ℕ, [], ◌∷◌, length, sym, subst}
use Rattle.client_plan.specs.file_graph.declared.effect.Effect.{Effect}
use Rattle.client_plan.specs.file_graph.declared.effect.Effect.TheVariants as effect
use Rattle.client_view.specs.RecordReach.{IsReachOf}
use Rattle.client_view.specs.declared.record_reach.RecordReach.TheVariants as reach
use Rattle.client_view.proofs.Reached.{written_reach}
use Rattle.client_view.proofs.record_reach.reach_of.Goals as goal

pub returns-in-Bytes : goal.returns-in-Bytes
returns-in-Bytes c =
    let to = reach.Written c.in-Bytes.inode c.in-Bytes.at (c.in-Bytes.at + length c.as_slice.result.now) in
    subst (λ (e : Effect). IsReachOf (e ∷ []) to) (sym c.in-Bytes.is)
    (subst (λ (xs : List ℕ). IsReachOf (effect.Bytes c.in-Bytes.inode c.in-Bytes.at xs ∷ []) to) c.as_slice.ensures (written_reach c.in-Bytes.inode c.in-Bytes.at c.as_slice.result.now))
