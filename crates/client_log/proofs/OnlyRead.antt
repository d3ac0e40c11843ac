-- A region that was only read is as it was.
use Rattle.std.specs.Prelude.{is_some}
use Rattle.std.proofs.Common.{◌≡◌, ◌⊎◌, ◌<◌, ℕ, Bool, List, take, refl, sym, ◌∙◌, ap, subst, arith}
use Rattle.tier_device.specs.declared.media.Media.{Ghosts}
use Rattle.tier_device.specs.declared.media.Tier.{Tier}
use Rattle.tier_device.specs.declared.media.Tier.TheVariants.{Fast}
use Rattle.tier_device.specs.Media.{Keeps}
use Rattle.update_log.specs.log_record.declared.format.Record.{Record}
use Rattle.update_log.specs.declared.format.TheConstants.{REGION_SIZE}
use Rattle.update_log.specs.Frames.{before_gate, end_behind, header, spelled_records}
use Rattle.update_log.specs.Stage.{IsAppending}
use Rattle.update_log.specs.View.{RegionView, header_of, records_of}
use Rattle.update_log.specs.Wipe.{CanWipe, IsWiping}
use Rattle.update_log.specs.WipeStops.{generation}
use Rattle.update_log.specs.declared.stage.Stage.{Stage}
use Rattle.update_log.specs.declared.stage.Stage.TheVariants as stages
use Rattle.client_log.specs.Calls.{IsOnlyRead}
use Rattle.client_log.proofs.Within.{within_same}
use Rattle.client_log.specs.Regions.{CountsNothing, IsSealedRegion, IsStale, IsWiped, IsWritten, NamesBy, is_pending}

module _ {M : Type 0} (device : Ghosts M) where
  past_not : (v : RegionView M) → Keeps (device.moment v.media) (device.moment v.media) (device.left v.media) (device.left v.media)
  past_not v = record { later = omega arith; at_most_one = omega arith; nothing_else = λ m t c le l. l; keeps = λ m t c le l. l }

  pub not_read : (v : RegionView M) → IsOnlyRead device v v
  not_read v = record { same_end = refl; same_stage = refl; same_begun = refl; same_seen = λ t. refl; clock = refl; past = past_not v; faults_rise = omega arith; one_fault = omega arith }

  module _ (old new : RegionView M) (read : IsOnlyRead device old new) where
    pub header_read : header_of device new ≡ header_of device old
    header_read i = header (take (read.same_end i) (read.same_seen Fast i))

    pub records_read : records_of device new ≡ records_of device old
    records_read i = spelled_records (before_gate (take (read.same_end i) (read.same_seen Fast i)))

    -- what is left now was left before
    pub left_read : (c : List ℕ) → device.left new.media (device.moment new.media) Fast c → device.left old.media (device.moment old.media) Fast c
    left_read c l = subst (λ m. device.left old.media m Fast c) read.clock (read.past.nothing_else (device.moment new.media) Fast c (omega (arith, read.clock)) l)

    pub none_read : (g : ℕ) → CountsNothing device g old → CountsNothing device g new
    none_read g none c l = none c (left_read c l)

    pub wiped_read : (g : ℕ) → IsWiped device g old → IsWiped device g new
    wiped_read g w = record {
      rests = read.same_stage ∙ w.rests;
      nothing = read.same_begun ∙ w.nothing;
      empty = records_read ∙ w.empty;
      names = ap generation header_read ∙ w.names;
    }

    pub sealed_read : (g : ℕ) → IsSealedRegion device g old → IsSealedRegion device g new
    sealed_read g s = record {
      rests = read.same_stage ∙ s.rests;
      nothing = read.same_begun ∙ s.nothing;
      names = ap generation header_read ∙ s.names;
      some = λ e. s.some (sym records_read ∙ e);
      within = subst (λ (l : List Record). end_behind l < REGION_SIZE) (sym records_read) s.within;
    }

    pub written_read : (failed : Bool) (g : ℕ) → IsWritten device failed g old → IsWritten device failed g new
    written_read failed g w = record {
      names = ap generation header_read ∙ w.names;
      settled = subst (λ (s : Stage). IsWiping s → ⊥) (sym read.same_stage) w.settled;
      going = λ e. subst (λ (s : Stage). (s ≡ stages.Resting) ⊎ IsAppending s) (sym read.same_stage) (w.going e);
      pending = ap is_some read.same_begun ∙ w.pending ∙ ap is_pending (sym read.same_stage);
      within = within_same device old new records_read read.same_begun w.within;
    }

    pub stale_read : (failed : Bool) (g : ℕ) → IsStale device failed g old → IsStale device failed g new
    stale_read failed g s = record {
      nothing = read.same_begun ∙ s.nothing;
      going = λ e. subst CanWipe (sym read.same_stage) (s.going e);
      names = subst (λ (t : Stage). NamesBy t g (generation (header_of device new))) (sym read.same_stage) (subst (λ (h : List ℕ). NamesBy old.stage g (generation h)) (sym header_read) s.names);
      none = none_read g s.none;
    }
