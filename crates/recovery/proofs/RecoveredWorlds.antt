-- The ways out of a recovery of an area and of regions that are opened.
use Rattle.std.proofs.Common.{◌≡◌, inl, inr, ℕ, zero, suc, ◌+◌, ◌-◌, ◌/◌, ◌%◌, ◌<◌, ◌≤◌, true, false, List, length, refl, ap, sym, ◌∙◌, subst, arith}
use Rattle.std.specs.Prelude.{slice_get, slice_index, Some}
use Rattle.std.proofs.lemmas.List.{length-map}
use Rattle.std.proofs.lemmas.Option.{slice_get_within}
use Rattle.tier_device.specs.declared.media.Media.{Ghosts}
use Rattle.tier_device.specs.declared.media.Tier.{Tier}
use Rattle.tier_device.specs.AfterStop.{AtRest}
use Rattle.interleavings.specs.update_log.View.{HasSize, RegionView}
use Rattle.interleavings.specs.batch_journal.View.{JournalView}
use Rattle.interleavings.specs.batch_journal.Volume.{IsVolume}
use Rattle.interleavings.specs.area_reader.Format.{IsOpenable}
use Rattle.interleavings.specs.area_reader.Store.{disk, graph, marks}
use Rattle.interleavings.specs.layout.declared.marks.Mark.{Mark}
use Rattle.interleavings.specs.layout.declared.marks.Marks.{Marks}
use Rattle.area_recovery.specs.recovery_laws.Contents.{log_in, regions_in, stored_state}
use Rattle.interleavings.specs.system_laws.Idle.{IsIdleSystem}
use Rattle.interleavings.specs.system_laws.KeptCalls.{no_calls}
use Rattle.interleavings.specs.system_laws.Parts.{medium_of}
use Rattle.interleavings.specs.system_laws.WorldTree.{world_tree}
use Rattle.interleavings.specs.system_laws.WorldView.{WorldView}
use Rattle.interleavings.specs.event_lists.Courses.{PARTS}
use Rattle.interleavings.specs.call_effects.ClosedGraph.{nobody}
use Rattle.interleavings.specs.call_effects.Wholes.{state_of}
use Rattle.interleavings.specs.digester.MarkMoves.{mark_of}
use Rattle.interleavings.specs.layout.Places.{Sizes}
use Rattle.posix_calls.specs.Operations.{is_client}
use Rattle.area_recovery.specs.declared.error.RecoveryError.{RecoveryError}
use Rattle.area_recovery.specs.declared.error.RecoveryError.TheVariants.{DeviceFault}
use Rattle.area_recovery.specs.ReadyParts.{AreReadyRegions, IsReadyArea}
use Rattle.area_recovery.specs.FaultOrMemory.{IsFaultOrMemory}
use Rattle.area_recovery.specs.Parts.{contents_of, part_medium}
use Rattle.area_recovery.specs.PartMedia.{AreUntouched, SomeRose, media_beneath}
use Rattle.area_recovery.specs.RecoveryStops.{AreGivenBack, StoresTree}
use Rattle.recovery.specs.WorldRecovery.{IsRecoveredWorld}
use Rattle.area_recovery.specs.Regions.{HaveRisen, IsOnlyRead, REGIONS, media_of, regions_read}
use Rattle.area_recovery.specs.FoundLogs.{log_by}
use Rattle.area_recovery.specs.Refusals.{IsStoredCause}
use Rattle.area_recovery.specs.Settlement.{AreOpenRegions, RefusesArea, SettlesArea}
use Rattle.area_recovery.specs.Silent.{IsWiped, StaysSilent, wiped_name}
use Rattle.area_recovery.proofs.ReadContents.{sizes_still}
use Rattle.area_recovery.proofs.RecoveredParts.{read_is, read_untouched, region_rests, settled_rests, settled_store, these_are, untouched_rests, untouched_same, wiped_store}
use Rattle.area_recovery.proofs.RegionMedia.{part_at, some_is, zip_at, zip_length}
use Rattle.area_recovery.proofs.RisenFaults.{regions_rose, shared_rose, some_earlier}
use Rattle.area_recovery.proofs.SilentRegions.{bounds_client}
use Rattle.area_recovery.proofs.Staying.{SeenNow}
use Rattle.area_recovery.proofs.StoredStays.{KeepsLengths}
use Rattle.area_recovery.proofs.RefusalCauses.{cause_same}
use Rattle.area_recovery.proofs.StoredTrees.{log_found, state_found, tree_is_stored}
use Rattle.area_recovery.proofs.WholeContents.{whole_recovers}
use Rattle.area_recovery.proofs.WipedRegions.{some_at}

module _ {M : Type 0} (device : Ghosts M) (seen_now : SeenNow device) (lengths : KeepsLengths device) (area mid : JournalView M) (opened read : List (RegionView M)) (start : AreOpenRegions device opened) where
  abbrev pub old : ℕ → M
  old = part_medium (media_beneath area opened)

  abbrev pub settled : ℕ → M
  settled = part_medium (media_beneath mid read)

  abbrev Rests : JournalView M → Type 0
  Rests a = (t : Tier) → AtRest (device.seen a.media) (device.left a.media (device.moment a.media)) t

  -- ---- refused before the regions are wiped
  pub settled_back : (e : RecoveryError) → RefusesArea device area mid opened read e → (mid.failed ≡ false → Rests mid) → AreGivenBack device old settled e
  settled_back e refuses rests = record {
    stop = settled_store device seen_now lengths area mid opened read start refuses.keeps;
    never = λ g can. refuses.never g (regions_in (contents_of device old)) (stored_state g (contents_of device old)) (these_are device seen_now lengths area mid opened read start refuses.keeps (regions_in (contents_of device old)) (λ d r is_d low. refl)) (whole_recovers g (contents_of device old) can);
    fault = λ is. elim (refuses.fault is) [
      | inl shared ↦ shared_rose device old settled shared
      | inr region ↦ regions_rose device area.media (media_of opened) mid.media (media_of read) (length-map opened (λ v. v.media) ∙ start.all) region
    ];
    rest = λ other p t low. settled_rests device seen_now lengths area mid opened read start refuses.keeps (rests (refuses.going other)) p t low;
  }

  pub settled_cause : (e : RecoveryError) → RefusesArea device area mid opened read e → (v : Marks) → marks (disk device area) ≡ Some v → IsStoredCause area.geometry (disk device area) (log_in (contents_of device old)) e
  settled_cause e refuses v is = cause_same (log_in (contents_of device old)) (log_by v (regions_read device opened))
      (log_found area.geometry (contents_of device old) (regions_read device opened) (λ d r is_d low. sym (read_is device seen_now lengths area mid opened read start refuses.keeps d r is_d low)) v is)
      area.geometry (disk device area) e (refuses.cause v is)

  -- ---- once it is settled
  module _ (gs : List ℕ) (settles : SettlesArea device area mid opened read gs) (rests : Rests mid) where
    -- a mark of the settled area
    mark_is : (v : Marks) → marks (disk device mid) ≡ Some v → (c : ℕ) → is_client c ≡ true → mark_of v c ≡ record { generation = slice_index gs (c - 1); done = 0 }
    mark_is v is c is_c = let marked = settles.marked in subst (λ (w : Marks). mark_of w c ≡ record { generation = slice_index gs (c - 1); done = 0 }) (some_is (sym marked.1 ∙ is)) (marked.2 c is_c)

    pub area_ready : IsReadyArea device mid
    area_ready = record { going = settles.going; sound = settles.sound; before = λ v c is is_c. ap (λ (m : Mark). m.done) (mark_is v is c is_c) }

    faults_read : (p : ℕ) → p < PARTS → device.faults (old p) ≤ device.faults (settled p)
    faults_read zero low = settles.keeps.faults
    faults_read (suc k) low = (read_untouched device seen_now lengths area mid opened read start settles.keeps (suc k) (omega arith) low).faults

    module _ (wiped : List (RegionView M)) (all : length wiped ≡ REGIONS)
        (each : (k : ℕ) (v w : RegionView M) → slice_get read k ≡ Some v → slice_get wiped k ≡ Some w → StaysSilent device (slice_index gs (k / 2)) v w) where
      abbrev pub bare : ℕ → M
      bare = part_medium (media_beneath mid wiped)

      -- refused as the regions are wiped
      pub wiped_back : (e : RecoveryError) → e ≡ DeviceFault → HaveRisen device (media_of read) (media_of wiped) → AreGivenBack device old bare e
      wiped_back e is risen = record {
        stop = wiped_store device seen_now lengths area mid opened read start settles.keeps gs wiped all each settles.marked rests settles.silent bare (λ p low. untouched_same device (bare p));
        never = λ g can. subst IsFaultOrMemory (sym is) tt;
        fault = λ e'. some_earlier device old settled bare faults_read (regions_rose device mid.media (media_of read) mid.media (media_of wiped) (length-map read (λ v. v.media) ∙ zip_length _ opened read settles.keeps.same ∙ start.all) risen);
        rest = λ other. absurd (other is);
      }

      low_place : (k : ℕ) (w : RegionView M) → slice_get wiped k ≡ Some w → k < 16
      low_place k w at = let within = slice_get_within wiped k w at in omega (arith, within, all)

      -- of the region at a place, as it was read
      was_at : (k : ℕ) → k < 16 → (v : RegionView M) × (slice_get read k ≡ Some v)
      was_at k low = some_at read k (let long = zip_length (IsOnlyRead device) opened read settles.keeps.same in let sixteen = start.all in omega (arith, low, long, sixteen))

      pub sizes : (k : ℕ) (w : RegionView M) → slice_get wiped k ≡ Some w → HasSize (device.seen w.media)
      sizes k w at = let was = was_at k (low_place k w at) in (each k was.0 w was.1 at).size (sizes_still device opened read settles.keeps.same start.sizes k was.0 was.1)

      module _ (is_wiped : (k : ℕ) (w : RegionView M) → slice_get wiped k ≡ Some w → IsWiped device (wiped_name (slice_index gs (k / 2)) (k % 2)) w) where
        half_client : (k : ℕ) → k < 16 → is_client (k / 2 + 1) ≡ true
        half_client k low = bounds_client (k / 2 + 1) (omega arith) (omega (arith, low))

        pub regions_ready : AreReadyRegions device mid wiped
        regions_ready = record {
          all = all;
          sizes = sizes;
          wiped = λ v k w is at.
              let client = half_client k (low_place k w at) in
              let named : (mark_of v (k / 2 + 1)).generation ≡ slice_index gs (k / 2) = ap (λ (m : Mark). m.generation) (mark_is v is (k / 2 + 1) client) ∙ ap (slice_index gs) (less (k / 2)) in
              subst (λ (g : ℕ). IsWiped device (wiped_name g (k % 2)) w) (sym named) (is_wiped k w at);
        }
          where
            less : (n : ℕ) → n + 1 - 1 ≡ n
            less n = omega arith

        -- nothing is pending on them
        pub bare_rests : (p : ℕ) (t : Tier) → p < PARTS → AtRest (device.seen (bare p)) (device.left (bare p) (device.moment (bare p))) t
        bare_rests zero t low = rests t
        bare_rests (suc k) t low =
            let at = some_at wiped k (omega (arith, low, all)) in
            subst (λ (m : M). AtRest (device.seen m) (device.left m (device.moment m)) t) (sym (part_at mid wiped k at.0 at.1)) (region_rests device lengths at.0.media (sizes k at.0 at.1) (λ c left. (is_wiped k at.0 at.1).rests c left) t)

        -- refused as the world is assembled
        faults_bare : (p : ℕ) → p < PARTS → device.faults (old p) ≤ device.faults (bare p)
        faults_bare zero low = settles.keeps.faults
        faults_bare (suc k) low =
            let was = some_at opened k (let all' = start.all in omega (arith, low, all')) in
            let now = zip_at _ opened read k was.0 settles.keeps.same was.1 in
            let then = some_at wiped k (omega (arith, low, all)) in
            let first = faults_read (suc k) low in
            let next = (each k now.0 then.0 now.1 then.1).faults in
            let first' = subst (λ (m : M). device.faults (old (suc k)) ≤ device.faults m) (part_at mid read k now.0 now.1) first in
            subst (λ (m : M). device.faults (old (suc k)) ≤ device.faults m) (sym (part_at mid wiped k then.0 then.1)) (omega (arith, first', next))

        pub assembled_back : (e : RecoveryError) (new : ℕ → M) → AreUntouched device bare new → IsFaultOrMemory e → (e ≡ DeviceFault → SomeRose device bare new) → AreGivenBack device old new e
        assembled_back e new same only fault = record {
          stop = wiped_store device seen_now lengths area mid opened read start settles.keeps gs wiped all each settles.marked rests settles.silent new same;
          never = λ g can. only;
          fault = λ is. some_earlier device old bare new faults_bare (fault is);
          rest = λ other p t low. untouched_rests device (bare p) (new p) t (same p low) (bare_rests p t low);
        }

      -- the world
      module _ (v : Marks) (is_v : marks (disk device area) ≡ Some v) (volume : IsVolume area.geometry (device.seen area.media)) (opens : IsOpenable area.geometry (disk device area)) (w : WorldView M) (geometry : w.system.kernel.area.geometry ≡ mid.geometry) (calls : w.calls ≡ no_calls)
          (tree : world_tree device w ≡ state_of (graph mid.geometry (disk device mid)) nobody) (same : AreUntouched device bare (medium_of w.system)) (idle : (v : Marks) → marks (disk device mid) ≡ Some v → IsIdleSystem device w.system v)
          (is_wiped : (k : ℕ) (w : RegionView M) → slice_get wiped k ≡ Some w → IsWiped device (wiped_name (slice_index gs (k / 2)) (k % 2)) w) where
        one_geometry : area.geometry ≡ w.system.kernel.area.geometry
        one_geometry = sym (geometry ∙ settles.keeps.geometry)

        alike : (d r : ℕ) → is_client d ≡ true → r < 2 → regions_in (contents_of device old) d r ≡ regions_read device opened d r
        alike d r is_d low = sym (read_is device seen_now lengths area mid opened read start settles.keeps d r is_d low)

        abbrev TreeIs : Sizes → Type 0
        TreeIs g = world_tree device w ≡ stored_state g (contents_of device old)

        tree_is : TreeIs area.geometry
        tree_is = tree ∙ settles.state v is_v ∙ sym (state_found area.geometry (contents_of device old) (regions_read device opened) alike v is_v)

        stores_is : StoresTree area.geometry (contents_of device old)
        stores_is = tree_is_stored area.geometry (contents_of device old) (regions_read device opened) alike v is_v volume opens (settles.apart v is_v) (settles.good v is_v) (settles.stored_sound v is_v)

        pub recovered_world : IsRecoveredWorld device old w
        recovered_world = record {
          tree = subst TreeIs one_geometry tree_is;
          stores = subst (λ (g : Sizes). StoresTree g (contents_of device old)) one_geometry stores_is;
          calls = calls;
          idle = (let marked = settles.marked in (marked.0, idle marked.0 marked.1));
          rest = λ p t low. untouched_rests device (bare p) (medium_of w.system p) t (same p low) (bare_rests is_wiped p t low);
          stop = wiped_store device seen_now lengths area mid opened read start settles.keeps gs wiped all each settles.marked rests settles.silent (medium_of w.system) same;
        }
