-- Each step of the walk may be taken.
use Rattle.std.proofs.Common.{◌≡◌, inl, inr, ℕ, false, [], ◌∷◌, refl, ap, sym, ◌∙◌}
use Rattle.std.proofs.lemmas.Bool.{false≢true}
use Rattle.std.proofs.lemmas.Bool.Decides.{eqb_tells}
use Rattle.posix_calls.specs.Operations.{Step}
use Rattle.posix_calls.specs.declared.call.Reply.TheVariants.{Done}
use Rattle.posix_calls.proofs.Sums.{same_if}
use Rattle.world_invariant.specs.World.{Alive, Failed, Dead, world_state}
use Rattle.world_invariant.specs.Invariant.{IsCoherent}
use Rattle.world_invariant.specs.ClientSteps.{IsBegun}
use Rattle.world_invariant.specs.RegionSteps.{CanSeal, region_sealed, CanTakeBack}
use Rattle.world_invariant.specs.KernelSteps.{CanDigest, CanReclaim}
use Rattle.world_invariant.specs.Burial.{CanDepart, CanBury, CanJoin}
use Rattle.world_invariant.specs.UnlinkWalk as unlinked
use Rattle.world_invariant.specs.BurialWalk as walked
use Rattle.world_invariant.proofs.Owners.{is_low, is_high}
use Rattle.world_invariant.proofs.Begins.{turned_holds}
use Rattle.world_invariant.proofs.Replies.{replied_holds, replied_step}
use Rattle.world_invariant.proofs.Regions.{sealed_holds, sealed_tree, taken_back_holds, taken_back_tree, other_wiped_holds, other_wiped_tree}
use Rattle.world_invariant.proofs.Digests.{digested_holds, digested_tree}
use Rattle.world_invariant.proofs.Reclaims.{reclaimed_holds, reclaimed_tree}
use Rattle.world_invariant.proofs.Burials.{departed_holds, buried_holds, buried_tree, joined_holds, joined_tree}
use Rattle.world_invariant.proofs.UnlinkWalks.{eight, unlinking_holds}

-- ---- found

dead_holds : IsCoherent walked.dead
dead_holds = turned_holds unlinked.unlink_world 1 Dead unlinking_holds refl refl (λ off is. let clash : Alive ≡ Failed = is in cc)

still_begun : IsBegun walked.dead 1 unlinked.unlink_a
still_begun = record { client = refl; there = refl; known = λ e. absurd (cc) }

pub found_step : Step (world_state walked.dead) 1 unlinked.unlink_a.call Done (world_state walked.found_world)
found_step = replied_step walked.dead 1 unlinked.unlink_a dead_holds still_begun

can_depart : CanDepart walked.found_world 1
can_depart = record { client = refl; dead = refl; idle = refl }

gone_holds : IsCoherent walked.gone_world
gone_holds = departed_holds walked.found_world 1 (replied_holds walked.dead 1 unlinked.unlink_a dead_holds still_begun) can_depart

-- ---- digested

can_seal : CanSeal walked.gone_world 1
can_seal = record { client = refl; idle = refl; some = λ e. absurd (cc); back = λ e. absurd (cc) }

handed_holds : IsCoherent (region_sealed walked.gone_world 1)
handed_holds = sealed_holds walked.gone_world 1 gone_holds can_seal

can_digest : CanDigest (region_sealed walked.gone_world 1) 1 (unlinked.open_a.change ∷ unlinked.unlink_a.change ∷ []) []
can_digest = record { client = refl; some = λ e. absurd (cc); split = refl }

kept_holds : IsCoherent walked.kept_world
kept_holds = digested_holds (region_sealed walked.gone_world 1) 1 (unlinked.open_a.change ∷ unlinked.unlink_a.change ∷ []) [] handed_holds can_digest

can_take_back : CanTakeBack walked.kept_world 1
can_take_back = record { client = refl; away = refl; digested = refl }

back_holds : IsCoherent walked.back
back_holds = taken_back_holds walked.kept_world 1 kept_holds can_take_back

-- a client that is gone keeps its pins until it is buried
pub back_unreclaimed : CanReclaim walked.back.kernel 2 → ⊥
back_unreclaimed can = false≢true (sym (can.unpinned 1 refl))

-- ---- buried

pub can_bury : CanBury walked.back 1
can_bury = record { client = refl; settled = refl; digested = refl; back = λ e. absurd (cc) }

buried_still : IsCoherent walked.buried_world
buried_still = buried_holds walked.back 1 back_holds can_bury

pub can_reclaim : CanReclaim walked.buried_world.kernel 2
can_reclaim = record {
  file = record { bytes = []; is = refl };
  unpinned = λ c is_c. eight (λ c. (walked.buried_world.kernel.accounts c).pins 2 ≡ false) refl refl refl refl refl refl refl refl c (is_low c is_c) (is_high c is_c);
}

emptied_holds : IsCoherent walked.emptied_world
emptied_holds = reclaimed_holds walked.buried_world 2 buried_still can_reclaim

wiped_holds : IsCoherent walked.wiped_world
wiped_holds = other_wiped_holds walked.emptied_world 1 emptied_holds refl refl

-- ---- joined

pub can_join : CanJoin walked.wiped_world 1
can_join = record { client = refl; buried = refl; digested = refl; other = refl; ready = refl }

pub new_holds : IsCoherent walked.renewed_world
new_holds = joined_holds walked.wiped_world 1 wiped_holds can_join

pub new_tree : world_state walked.renewed_world ≡ world_state walked.gone_world
new_tree =
    joined_tree walked.wiped_world 1 wiped_holds can_join
    ∙ other_wiped_tree walked.emptied_world 1 emptied_holds refl refl
    ∙ reclaimed_tree walked.buried_world 2 buried_still can_reclaim
    ∙ buried_tree walked.back 1 back_holds can_bury
    ∙ taken_back_tree walked.kept_world 1 kept_holds can_take_back
    ∙ digested_tree (region_sealed walked.gone_world 1) 1 (unlinked.open_a.change ∷ unlinked.unlink_a.change ∷ []) [] handed_holds can_digest
    ∙ sealed_tree walked.gone_world 1 gone_holds can_seal

-- the burial left nothing in the account, so the kernel is as it was
pub new_kernel : walked.renewed_world.kernel ≡ walked.wiped_world.kernel
new_kernel = λ t. record { shared = walked.wiped_world.kernel.shared; capacity = walked.wiped_world.kernel.capacity; accounts = λ d. same d t }
  where
    same : (d : ℕ) → walked.renewed_world.kernel.accounts d ≡ walked.wiped_world.kernel.accounts d
    same d = elim (eqb_tells d 1) [
      | inl is ↦ ap walked.renewed_world.kernel.accounts is.1 ∙ sym (ap walked.wiped_world.kernel.accounts is.1)
      | inr off ↦ same_if d 1 (walked.renewed_world.kernel.accounts 1) (walked.wiped_world.kernel.accounts d) off.1
    ]
