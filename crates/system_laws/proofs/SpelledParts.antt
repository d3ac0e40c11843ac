-- Whatever a stop leaves of the regions now, with a shared medium that spells the world's graph or what comes after a cut, is recovered.
use Rattle.std.proofs.Common.{◌≡◌, ◌≢◌, ℕ, ◌<◌, true, subst, arith}
use Rattle.tier_device.specs.declared.media.Media.{Ghosts}
use Rattle.tier_device.specs.AfterStop.{Left}
use Rattle.posix_calls.specs.Operations.{is_client}
use Rattle.event_lists.specs.Courses.{part_of}
use Rattle.event_steps.proofs.world_invariant_lemmas.Owners.{is_low}
use Rattle.system_laws.specs.Parts.{medium_of}
use Rattle.system_laws.proofs.Given.{Given}
use Rattle.system_laws.proofs.KernelMoves.{Spelled}
use Rattle.system_laws.proofs.PartMedia.{IsLeftNow, part_is}
use Rattle.system_laws.proofs.StopsNow.{IsSized, client_holds, each_seated, held_is_recovered, region_sized}

-- a region is no shared medium
region_is_no_shared : (c r : ℕ) → is_client c ≡ true → part_of c r ≢ 0
region_is_no_shared c r is_c none = let least = is_low c is_c in absurd (omega (arith, least, none))

module _ {M : Type 0} (device : Ghosts M) where
  pub spelled_parts : Given device → IsSized device → Spelled device
  spelled_parts given sized v w accepted marked cut then is leaves c spells left =
      let beside : (d r : ℕ) → is_client d ≡ true → r < 2 → IsLeftNow device v.system (part_of d r) (c (part_of d r)) = λ d r is_d low.
      let at = left (part_of d r) (part_is d r is_d low) (region_is_no_shared d r is_d) in
      let from = at.1 in
      let to = at.2 in
      subst (λ (m : ℕ). Left (device.left (medium_of v.system (part_of d r))) m (c (part_of d r))) (omega (arith, from, to)) at.3 in
      held_is_recovered device v w accepted marked cut is (given.tree_is v w accepted marked cut is leaves) then c (record {
        shared = spells;
        sizes = λ d r is_d low. region_sized device v w accepted marked cut is sized d r (c (part_of d r)) is_d low (beside d r is_d low);
        seated = each_seated device v.system leaves;
        clients = λ d is_d. client_holds device v.system leaves c d is_d (λ r low. beside d r is_d low);
      })
