-- A client's log over two regions that are wiped.
use Rattle.std.proofs.Common.{◌≡◌, ℕ, ◌%◌, ◌==◌, cond, not, Bool, true, false, List, [], take, Option, Some, None, IsSome, is_some, inl, refl, ap, sym, ◌∙◌, subst}
use Rattle.interleavings.specs.libfs.NewClient.{IsBlank, IsNew}
use Rattle.interleavings.specs.libfs.declared.life.Life.TheVariants as lives
use Rattle.interleavings.specs.client_log.Calls.{IsOnlyRead}
use Rattle.interleavings.specs.client_log.Regions.{AreWiped, in_turn}
use Rattle.interleavings.specs.client_log.Regions as logs
use Rattle.interleavings.specs.client_log.Steps.{IsOpened}
use Rattle.interleavings.specs.client_log.View.{LogView}
use Rattle.interleavings.specs.event_steps.View.{SeatView}
use Rattle.interleavings.specs.lease_manager.Passes.{PassView}
use Rattle.interleavings.specs.update_log.Frames.{before_gate, records, spelled_records}
use Rattle.interleavings.specs.update_log.RecordCounts.{next_generation}
use Rattle.interleavings.specs.update_log.Stage.{IsIdle}
use Rattle.interleavings.specs.update_log.View.{RegionView, WithOrWithout, header_of, records_of}
use Rattle.interleavings.specs.update_log.Wipe.{IsWiping}
use Rattle.interleavings.specs.update_log.WipeStops.{generation}
use Rattle.tier_device.specs.declared.media.Media.{Ghosts}
use Rattle.tier_device.specs.declared.media.Tier.TheVariants.{Fast}
use Rattle.interleavings.proofs.update_log_lemmas.Counts.{header_tells}
use Rattle.interleavings.specs.event_steps.Refusals.{no_refusals}
use Rattle.recovery.specs.Assembly.{IsOpenedSeat}
use Rattle.area_recovery.specs.Regions.{IsUntouched}
use Rattle.area_recovery.specs.Silent.{IsWiped, wiped_name}
use Rattle.recovery.proofs.OpenedSeats.{untouched_by_read}
use Rattle.recovery.proofs.SystemParts.{parity}

module _ {M : Type 0} (device : Ghosts M) where
  -- What a region tells of itself where nothing is begun: what a stop leaves now, and a read is among that.
  pub record TellsNow (v : RegionView M) : Type 0 where
    pub read : device.left v.media (device.moment v.media) Fast (device.seen v.media Fast)
    pub either : (IsWiping v.stage → ⊥) → (c : List ℕ) → device.left v.media (device.moment v.media) Fast c → WithOrWithout (header_of device v) (records_of device v) v.begun c
    pub idle : IsIdle v.stage → (c : List ℕ) → device.left v.media (device.moment v.media) Fast c → (c ≡ device.seen v.media Fast) × (records c ≡ records_of device v)
    pub none : IsIdle v.stage → v.begun ≡ None

  -- a wiped region is so to the client's log
  pub wiped_to_log : (g : ℕ) (v : RegionView M) → TellsNow v → IsWiped device g v → logs.IsWiped device g v
  wiped_to_log g v tells w =
      let idle : IsIdle v.stage = inl w.stage in
      let settled : IsWiping v.stage → ⊥ = λ h. subst IsWiping w.stage h in
      record {
        rests = w.stage;
        nothing = tells.none idle;
        empty = sym (tells.idle idle (device.seen v.media Fast) tells.read).1 ∙ w.none;
        names = ap generation (sym (tells.either settled (device.seen v.media Fast) tells.read).header_is) ∙ header_tells (device.seen v.media Fast) ∙ w.named;
      }

  module _ (g : ℕ) (even odd : RegionView M) (even_tells : TellsNow even) (odd_tells : TellsNow odd) (even_wiped : IsWiped device (wiped_name g 0) even) (odd_wiped : IsWiped device (wiped_name g 1) odd) where
    even_to_log : logs.IsWiped device (cond (g % 2 == 0) g (next_generation g)) even
    even_to_log = wiped_to_log (wiped_name g 0) even even_tells even_wiped

    odd_to_log : logs.IsWiped device (cond (not (g % 2 == 0)) g (next_generation g)) odd
    odd_to_log = subst (λ b. logs.IsWiped device (cond b g (next_generation g)) odd) (parity g) (wiped_to_log (wiped_name g 1) odd odd_tells odd_wiped)

    by_turn : (b : Bool) (regions : RegionView M × RegionView M) → regions ≡ cond b (even, odd) (odd, even) → logs.IsWiped device (cond b g (next_generation g)) even → logs.IsWiped device (cond (not b) g (next_generation g)) odd
        → logs.IsWiped device g regions.0 × logs.IsWiped device (next_generation g) regions.1
    by_turn true regions are first second = (subst (λ (x : RegionView M × RegionView M). logs.IsWiped device g x.0) (sym are) first, subst (λ (x : RegionView M × RegionView M). logs.IsWiped device (next_generation g) x.1) (sym are) second)
    by_turn false regions are first second = (subst (λ (x : RegionView M × RegionView M). logs.IsWiped device g x.0) (sym are) second, subst (λ (x : RegionView M × RegionView M). logs.IsWiped device (next_generation g) x.1) (sym are) first)

    pub both_wiped : AreWiped device g (even, odd)
    both_wiped = let both = by_turn (g % 2 == 0) (in_turn g (even, odd)) refl even_to_log odd_to_log in record { current = both.0; other = both.1 }

  -- a log that was opened over them has no record and both regions
  module _ (g : ℕ) (regions : RegionView M × RegionView M) (log : LogView M) (o : IsOpened device g regions log) (w : AreWiped device g regions) where
    same_records : records_of device log.current ≡ records_of device (in_turn g regions).0
    same_records =
        ap (λ n. spelled_records (before_gate (take n (device.seen log.current.media Fast)))) o.current_read.same_end
        ∙ ap (λ (seen : List ℕ). spelled_records (before_gate (take (in_turn g regions).0.end seen))) (o.current_read.same_seen Fast)

    pub opened_blank : IsBlank device log
    opened_blank = record {
      none = ap (λ b. cond b (records_of device log.current) []) o.is_ready ∙ same_records ∙ w.current.empty;
      idle = o.current_read.same_begun ∙ w.current.nothing;
      here = ap is_some o.other_is;
    }

  -- its two regions come out again, read at most
  module _ (g : ℕ) (regions : RegionView M × RegionView M) (log : LogView M) (o : IsOpened device g regions log) (here : Option (RegionView M) × Option (RegionView M)) (are : here ≡ in_turn log.generation (Some log.current, log.other)) where
    pub record AreBack : Type 0 where
      pub even : RegionView M
      pub odd : RegionView M
      pub even_is : here.0 ≡ Some even
      pub odd_is : here.1 ≡ Some odd
      pub even_read : IsUntouched device regions.0.media even.media
      pub odd_read : IsUntouched device regions.1.media odd.media

    here_is : here ≡ in_turn g (Some log.current, Some o.beside)
    here_is = are ∙ ap (λ n. in_turn n (Some log.current, log.other)) o.generation_is ∙ ap (λ (x : Option (RegionView M)). in_turn g (Some log.current, x)) o.other_is

    back_by : (b : Bool) (turned : RegionView M × RegionView M) → turned ≡ cond b regions (regions.1, regions.0) → here ≡ cond b (Some log.current, Some o.beside) (Some o.beside, Some log.current) → IsOnlyRead device turned.0 log.current → IsOnlyRead device turned.1 o.beside → AreBack
    back_by true turned are_turned is first second = record {
      even = log.current;
      odd = o.beside;
      even_is = ap (λ (x : Option (RegionView M) × Option (RegionView M)). x.0) is;
      odd_is = ap (λ (x : Option (RegionView M) × Option (RegionView M)). x.1) is;
      even_read = untouched_by_read device regions.0 log.current (subst (λ (x : RegionView M × RegionView M). IsOnlyRead device x.0 log.current) are_turned first);
      odd_read = untouched_by_read device regions.1 o.beside (subst (λ (x : RegionView M × RegionView M). IsOnlyRead device x.1 o.beside) are_turned second);
    }
    back_by false turned are_turned is first second = record {
      even = o.beside;
      odd = log.current;
      even_is = ap (λ (x : Option (RegionView M) × Option (RegionView M)). x.0) is;
      odd_is = ap (λ (x : Option (RegionView M) × Option (RegionView M)). x.1) is;
      even_read = untouched_by_read device regions.0 o.beside (subst (λ (x : RegionView M × RegionView M). IsOnlyRead device x.1 o.beside) are_turned second);
      odd_read = untouched_by_read device regions.1 log.current (subst (λ (x : RegionView M × RegionView M). IsOnlyRead device x.0 log.current) are_turned first);
    }

    back : AreBack
    back = back_by (g % 2 == 0) (in_turn g regions) refl here_is o.current_read o.other_read

    pub odd_there : IsSome here.1
    odd_there = ap is_some back.odd_is

    same_some : (x y : RegionView M) → Some x ≡ Some y → x ≡ y
    same_some x y is = cc

    pub even_back : (e : RegionView M) → here.0 ≡ Some e → IsUntouched device regions.0.media e.media
    even_back e is = subst (λ (r : RegionView M). IsUntouched device regions.0.media r.media) (same_some back.even e (sym back.even_is ∙ is)) back.even_read

    pub odd_back : (r : RegionView M) → here.1 ≡ Some r → IsUntouched device regions.1.media r.media
    odd_back r is = subst (λ (x : RegionView M). IsUntouched device regions.1.media x.media) (same_some back.odd r (sym back.odd_is ∙ is)) back.odd_read

  -- the seat of its client
  pub opened_seat : (pass : PassView) (g : ℕ) (regions : RegionView M × RegionView M) (log : LogView M) (s : SeatView M) → IsOpened device g regions log → IsBlank device log → IsNew pass log s.client → s.away ≡ None → s.life ≡ lives.Alive → s.refused ≡ no_refusals → IsOpenedSeat device pass g regions s
  opened_seat pass g regions log s opened blank new home alive unrefused = record {
    pass_is = new.pass_is;
    home = home;
    alive = alive;
    unrefused = unrefused;
    new = subst (λ (p : PassView). IsNew p s.client.log s.client) (sym new.pass_is) (subst (λ (l : LogView M). IsNew pass l s.client) (sym new.log_is) new);
    blank = subst (IsBlank device) (sym new.log_is) blank;
    opened = subst (IsOpened device g regions) (sym new.log_is) opened;
  }
