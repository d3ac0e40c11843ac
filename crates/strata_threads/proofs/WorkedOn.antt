-- A worker does nothing to a region but read it, and no record of it counts as digested less.
use Rattle.std.proofs.Common.{◌≡◌, ◌≤◌, ℕ, true, refl, sym, ap, ◌∙◌, subst, arith}
use Rattle.tier_device.specs.declared.media.Media.{Ghosts}
use Rattle.libfs.specs.client_log.Calls.{IsOnlyRead}
use Rattle.libfs.specs.update_log.View.{RegionView}
use Rattle.libfs.specs.SealedRegion.{SealedRegionView}
use Rattle.strata_threads.specs.RegionHandover.{IsWorkedOn}

module _ {M : Type 0} (device : Ghosts M) where
  nothing_read : (r : RegionView M) → IsOnlyRead device r r
  nothing_read r = record {
    same_end = refl;
    same_stage = refl;
    same_begun = refl;
    same_seen = λ t. refl;
    clock = refl;
    past = record { later = omega arith; at_most_one = omega arith; nothing_else = λ m t c le l. l; keeps = λ m t c le l. l };
    faults_rise = omega arith;
    one_fault = omega arith;
  }

  pub nothing_worked : (old new : SealedRegionView M) → new ≡ old → IsWorkedOn device old new
  nothing_worked old new is = subst (IsWorkedOn device old) (sym is) (record { region = nothing_read old.region; more = omega arith; rest = refl })

  -- it was read into memory
  pub read_worked : (old new : SealedRegionView M) → IsOnlyRead device old.region new.region → new ≡ record old { region = new.region; read = new.read } → IsWorkedOn device old new
  read_worked old new read is = record {
    region = read;
    more = subst (λ (n : ℕ). old.done ≤ n) (sym (ap (λ (r : SealedRegionView M). r.done) is)) (omega arith);
    rest = is ∙ ap (λ (r : SealedRegionView M). record old { region = r.region; read = r.read; accepted = r.accepted; done = r.done }) (sym is);
  }

  -- then accepted
  pub accepted_worked : (old read new : SealedRegionView M) → IsWorkedOn device old read → new ≡ record read { accepted = true } → IsWorkedOn device old new
  accepted_worked old read new worked is = subst (IsWorkedOn device old) (sym is) (record {
    region = worked.region;
    more = worked.more;
    rest = ap (λ (r : SealedRegionView M). record r { accepted = true }) worked.rest;
  })

  -- then digested further
  pub digested_worked : (old read new : SealedRegionView M) → IsWorkedOn device old read → read.done ≤ new.done → new ≡ record read { done = new.done } → IsWorkedOn device old new
  digested_worked old read new worked more is = subst (IsWorkedOn device old) (sym is) (record {
    region = worked.region;
    more = omega (arith, worked.more, more);
    rest = ap (λ (r : SealedRegionView M). record r { done = new.done }) worked.rest;
  })
