-- Clients that gave way, one after the other.
use Rattle.std.proofs.Common.{◌≡◌, ◌≢◌, ◌+◌, ◌<◌, ℕ, inl, inr, refl, sym, add-one, subst}
use Rattle.interleavings.specs.lease_manager.declared.layout.TheConstants.{CLIENTS}
use Rattle.call_driver.specs.LeaseReturn.{GaveWay, GivesWay, OthersHandOver}
use Rattle.call_driver.specs.declared.needs.NeedResult.{NeedResult}
use Rattle.call_driver.specs.declared.needs.NeedResult.TheVariants as turns
use Rattle.call_driver.specs.declared.events.Events.{Ghosts}

module _ {S : Type 0} (system : Ghosts S) (client inode : ℕ) where
  pub one_more_way : (n : ℕ) (s t u : S) → GaveWay system client inode n s t → GivesWay system client (n + 1) inode turns.Again t u → GaveWay system client inode (n + 1) s u
  one_more_way n s t u before way = subst (λ m. GaveWay system client inode m s u) (sym (add-one n)) (t, before, subst (λ m. GivesWay system client m inode turns.Again t u) (add-one n) way)

  pub all_ways : (n : ℕ) (s t : S) → n ≡ CLIENTS → GaveWay system client inode n s t → OthersHandOver system client inode turns.Again s t
  all_ways n s t all gave = inl (refl, subst (λ m. GaveWay system client inode m s t) all gave)

  pub stopped_way : (n : ℕ) (turn : NeedResult) (s t u : S) → n < CLIENTS → turn ≢ turns.Again → GaveWay system client inode n s t → GivesWay system client (n + 1) inode turn t u → OthersHandOver system client inode turn s u
  stopped_way n turn s t u few not gave way = inr (not, (n, t, few, gave, subst (λ m. GivesWay system client m inode turn t u) (add-one n) way))
