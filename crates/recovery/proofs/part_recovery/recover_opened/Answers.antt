use Rattle.std.proofs.Common.{rules, ◌≡◌, ℕ, ◌/◌, List, ◌++◌, length, ap, sym, ◌∙◌, subst}
use Rattle.std.specs.Prelude.{drop, slice_get, slice_index, take, Some}
use Rattle.interleavings.specs.update_log.View.{RegionView}
use Rattle.area_recovery.specs.ReadyParts.{AreReadyRegions}
use Rattle.interleavings.specs.area_reader.Store.{disk}
use Rattle.area_recovery.specs.recovery_laws.Contents.{log_in}
use Rattle.area_recovery.specs.Parts.{PartsView, contents_of, part_medium}
use Rattle.area_recovery.specs.PartMedia.{AreUntouched, SomeRose, media_beneath}
use Rattle.area_recovery.specs.RecoveryStops.{AreGivenBack}
use Rattle.area_recovery.specs.Regions.{HaveRisen, IsOnlyRead, media_of}
use Rattle.interleavings.specs.system_laws.Parts.{medium_of}
use Rattle.area_recovery.specs.Settlement.{RefusesArea, SettlesArea}
use Rattle.area_recovery.specs.Silent.{MayBeWiped, StaysSilent}
use Rattle.recovery.proofs.RecoveredWorlds.{area_ready, assembled_back, recovered_world, regions_ready, settled_back, settled_cause, wiped_back}
use Rattle.area_recovery.proofs.RegionMedia.{slice_back, zip_length}
use Rattle.area_recovery.proofs.SettlementPhases.{all_err, all_ok, of_err}
use Rattle.area_recovery.specs.FaultOrMemory.{IsFaultOrMemory}
use Rattle.area_recovery.proofs.RefusalCauses.{memory_cause}
use Rattle.recovery.proofs.part_recovery.recover_opened.Goals as goal

pub returns-in-Err-clause-back : goal.returns-in-Err-clause-back
returns-in-Err-clause-back g c =
    let m = g.M.Media in
    let area = c.args.area in
    let mid = c.settle_area.new.area in
    let opened = c.args.regions.items in
    let read = c.settle_area.new.regions in
    let e = c.in-Err.error in
    let refuses = subst (λ (rs : List (RegionView _)). RefusesArea m area mid rs read e) c.deref_mut.ensures.value c.in-Err.ensures.refused in
    let long : c.args.regions.len ≡ length opened = search rules in
    let back = slice_back c.args.regions.len read opened long (zip_length (IsOnlyRead m) opened read refuses.keeps.same) in
    let items = c.hand_back.ensures ∙ ap (λ (ms : List _). ms ++ media_of (take c.args.regions.len (read ++ drop (length read) opened))) c.requires.empty ∙ ap media_of back in
    let parts : c.of.result ≡ media_beneath mid read = c.of.ensures ∙ (λ i. record { shared = c.into_medium.ensures i; regions = items i }) in
    subst (λ (p : PartsView _). AreGivenBack m (part_medium (media_beneath area opened)) (part_medium p) e) (sym parts)
    (settled_back m g.met.M.Media.seen_now g.met.M.Media.sized area mid opened read c.requires.regions e refuses c.left_now-in-Err.ensures.rests)

pub wipe_regions-requires-clause-ready : goal.wipe_regions-requires-clause-ready
wipe_regions-requires-clause-ready g c =
    let m = g.M.Media in
    let opened = c.args.regions.items in
    let read = c.settle_area.new.regions in
    let settles = subst (λ (rs : List (RegionView _)). SettlesArea m c.args.area c.settle_area.new.area rs read c.in-Ok.generations) c.deref_mut.ensures.value c.in-Ok.ensures.settles in
    let long : c.args.regions.len ≡ length opened = search rules in
    let back = slice_back c.args.regions.len read opened long (zip_length (IsOnlyRead m) opened read settles.keeps.same) in
    subst (λ (rs : List (RegionView _)). (k : ℕ) (v : RegionView _) → slice_get rs k ≡ Some v → MayBeWiped m (slice_index c.in-Ok.generations (k / 2)) v) (sym (c.deref_mut-2.ensures.value ∙ back)) settles.wipe

pub assemble-requires-clause-area : goal.assemble-requires-clause-area
assemble-requires-clause-area g c =
    let m = g.M.Media in
    let seen_now = g.met.M.Media.seen_now in
    let sized = g.met.M.Media.sized in
    let area = c.args.area in
    let mid = c.settle_area.new.area in
    let opened = c.args.regions.items in
    let read = c.settle_area.new.regions in
    let gs = c.in-Ok.generations in
    let settles = subst (λ (rs : List (RegionView _)). SettlesArea m area mid rs read gs) c.deref_mut.ensures.value c.in-Ok.ensures.settles in
    let long : c.args.regions.len ≡ length opened = search rules in
    let read_long = zip_length (IsOnlyRead m) opened read settles.keeps.same in
    let lent = take c.args.regions.len (read ++ drop (length read) opened) in
    let back : lent ≡ read = slice_back c.args.regions.len read opened long read_long in
    let rests = c.left_now-2.ensures.rests settles.going in
    let wiped = c.wipe_regions.new.regions in
    let all = c.wipe_regions.ensures.len in
    let each : (k : ℕ) (v w : RegionView _) → slice_get read k ≡ Some v → slice_get wiped k ≡ Some w → StaysSilent m (slice_index gs (k / 2)) v w
    = subst (λ (rs : List (RegionView _)). (k : ℕ) (v w : RegionView _) → slice_get rs k ≡ Some v → slice_get wiped k ≡ Some w → StaysSilent m (slice_index gs (k / 2)) v w) (c.deref_mut-2.ensures.value ∙ back) c.wipe_regions.ensures.each in
    let long_wiped : length wiped ≡ length lent = all ∙ sym (ap length back ∙ read_long ∙ c.requires.regions.all) in
    let back_wiped : take c.args.regions.len (wiped ++ drop (length wiped) lent) ≡ wiped = slice_back c.args.regions.len wiped lent (long ∙ sym (ap length back ∙ read_long)) long_wiped in
    area_ready m seen_now sized area mid opened read c.requires.regions gs settles rests

pub assemble-requires-clause-regions : goal.assemble-requires-clause-regions
assemble-requires-clause-regions g c =
    let m = g.M.Media in
    let seen_now = g.met.M.Media.seen_now in
    let sized = g.met.M.Media.sized in
    let area = c.args.area in
    let mid = c.settle_area.new.area in
    let opened = c.args.regions.items in
    let read = c.settle_area.new.regions in
    let gs = c.in-Ok.generations in
    let settles = subst (λ (rs : List (RegionView _)). SettlesArea m area mid rs read gs) c.deref_mut.ensures.value c.in-Ok.ensures.settles in
    let long : c.args.regions.len ≡ length opened = search rules in
    let read_long = zip_length (IsOnlyRead m) opened read settles.keeps.same in
    let lent = take c.args.regions.len (read ++ drop (length read) opened) in
    let back : lent ≡ read = slice_back c.args.regions.len read opened long read_long in
    let rests = c.left_now-2.ensures.rests settles.going in
    let wiped = c.wipe_regions.new.regions in
    let all = c.wipe_regions.ensures.len in
    let each : (k : ℕ) (v w : RegionView _) → slice_get read k ≡ Some v → slice_get wiped k ≡ Some w → StaysSilent m (slice_index gs (k / 2)) v w
    = subst (λ (rs : List (RegionView _)). (k : ℕ) (v w : RegionView _) → slice_get rs k ≡ Some v → slice_get wiped k ≡ Some w → StaysSilent m (slice_index gs (k / 2)) v w) (c.deref_mut-2.ensures.value ∙ back) c.wipe_regions.ensures.each in
    let long_wiped : length wiped ≡ length lent = all ∙ sym (ap length back ∙ read_long ∙ c.requires.regions.all) in
    let back_wiped : take c.args.regions.len (wiped ++ drop (length wiped) lent) ≡ wiped = slice_back c.args.regions.len wiped lent (long ∙ sym (ap length back ∙ read_long)) long_wiped in
    subst (AreReadyRegions m mid) (sym back_wiped) (regions_ready m seen_now sized area mid opened read c.requires.regions gs settles rests wiped all each c.in-Ok-wipe_regions.ensures.wiped)

pub returns-in-Ok-wipe_regions-clause-world : goal.returns-in-Ok-wipe_regions-clause-world
returns-in-Ok-wipe_regions-clause-world g c =
    let m = g.M.Media in
    let seen_now = g.met.M.Media.seen_now in
    let sized = g.met.M.Media.sized in
    let area = c.args.area in
    let mid = c.settle_area.new.area in
    let opened = c.args.regions.items in
    let read = c.settle_area.new.regions in
    let gs = c.in-Ok.generations in
    let settles = subst (λ (rs : List (RegionView _)). SettlesArea m area mid rs read gs) c.deref_mut.ensures.value c.in-Ok.ensures.settles in
    let long : c.args.regions.len ≡ length opened = search rules in
    let read_long = zip_length (IsOnlyRead m) opened read settles.keeps.same in
    let lent = take c.args.regions.len (read ++ drop (length read) opened) in
    let back : lent ≡ read = slice_back c.args.regions.len read opened long read_long in
    let rests = c.left_now-2.ensures.rests settles.going in
    let wiped = c.wipe_regions.new.regions in
    let all = c.wipe_regions.ensures.len in
    let each : (k : ℕ) (v w : RegionView _) → slice_get read k ≡ Some v → slice_get wiped k ≡ Some w → StaysSilent m (slice_index gs (k / 2)) v w
    = subst (λ (rs : List (RegionView _)). (k : ℕ) (v w : RegionView _) → slice_get rs k ≡ Some v → slice_get wiped k ≡ Some w → StaysSilent m (slice_index gs (k / 2)) v w) (c.deref_mut-2.ensures.value ∙ back) c.wipe_regions.ensures.each in
    let long_wiped : length wiped ≡ length lent = all ∙ sym (ap length back ∙ read_long ∙ c.requires.regions.all) in
    let back_wiped : take c.args.regions.len (wiped ++ drop (length wiped) lent) ≡ wiped = slice_back c.args.regions.len wiped lent (long ∙ sym (ap length back ∙ read_long)) long_wiped in
    all_ok c.assemble.result _ (λ w calls geometry tree kept idle.
    recovered_world m seen_now sized area mid opened read c.requires.regions gs settles rests wiped all each c.marks-marks.result (c.marks-marks.ensures c.requires.going) c.requires.volume (c.left_now.ensures.opens c.requires.going) w geometry calls tree
    (subst (λ (rs : List (RegionView _)). AreUntouched m (part_medium (media_beneath mid rs)) (medium_of w.system)) back_wiped kept) idle c.in-Ok-wipe_regions.ensures.wiped)
    c.assemble.ensures.calls c.assemble.ensures.geometry c.assemble.ensures.tree c.assemble.ensures.kept c.assemble.ensures.idle

pub returns-in-Ok-wipe_regions-clause-back : goal.returns-in-Ok-wipe_regions-clause-back
returns-in-Ok-wipe_regions-clause-back g c =
    let m = g.M.Media in
    let seen_now = g.met.M.Media.seen_now in
    let sized = g.met.M.Media.sized in
    let area = c.args.area in
    let mid = c.settle_area.new.area in
    let opened = c.args.regions.items in
    let read = c.settle_area.new.regions in
    let gs = c.in-Ok.generations in
    let settles = subst (λ (rs : List (RegionView _)). SettlesArea m area mid rs read gs) c.deref_mut.ensures.value c.in-Ok.ensures.settles in
    let long : c.args.regions.len ≡ length opened = search rules in
    let read_long = zip_length (IsOnlyRead m) opened read settles.keeps.same in
    let lent = take c.args.regions.len (read ++ drop (length read) opened) in
    let back : lent ≡ read = slice_back c.args.regions.len read opened long read_long in
    let rests = c.left_now-2.ensures.rests settles.going in
    let wiped = c.wipe_regions.new.regions in
    let all = c.wipe_regions.ensures.len in
    let each : (k : ℕ) (v w : RegionView _) → slice_get read k ≡ Some v → slice_get wiped k ≡ Some w → StaysSilent m (slice_index gs (k / 2)) v w
    = subst (λ (rs : List (RegionView _)). (k : ℕ) (v w : RegionView _) → slice_get rs k ≡ Some v → slice_get wiped k ≡ Some w → StaysSilent m (slice_index gs (k / 2)) v w) (c.deref_mut-2.ensures.value ∙ back) c.wipe_regions.ensures.each in
    let long_wiped : length wiped ≡ length lent = all ∙ sym (ap length back ∙ read_long ∙ c.requires.regions.all) in
    let back_wiped : take c.args.regions.len (wiped ++ drop (length wiped) lent) ≡ wiped = slice_back c.args.regions.len wiped lent (long ∙ sym (ap length back ∙ read_long)) long_wiped in
    let old = part_medium (media_beneath mid wiped) in
    all_err c.assemble.result _ (λ e same only fault.
    assembled_back m seen_now sized area mid opened read c.requires.regions gs settles rests wiped all each c.in-Ok-wipe_regions.ensures.wiped e.0 (part_medium e.1)
    (subst (λ (rs : List (RegionView _)). AreUntouched m (part_medium (media_beneath mid rs)) (part_medium e.1)) back_wiped same) only
    (λ is. subst (λ (rs : List (RegionView _)). SomeRose m (part_medium (media_beneath mid rs)) (part_medium e.1)) back_wiped (fault is)))
    c.assemble.ensures.back c.assemble.ensures.only c.assemble.ensures.fault

pub returns-in-Err-wipe_regions-clause-back : goal.returns-in-Err-wipe_regions-clause-back
returns-in-Err-wipe_regions-clause-back g c =
    let m = g.M.Media in
    let seen_now = g.met.M.Media.seen_now in
    let sized = g.met.M.Media.sized in
    let area = c.args.area in
    let mid = c.settle_area.new.area in
    let opened = c.args.regions.items in
    let read = c.settle_area.new.regions in
    let gs = c.in-Ok.generations in
    let settles = subst (λ (rs : List (RegionView _)). SettlesArea m area mid rs read gs) c.deref_mut.ensures.value c.in-Ok.ensures.settles in
    let long : c.args.regions.len ≡ length opened = search rules in
    let read_long = zip_length (IsOnlyRead m) opened read settles.keeps.same in
    let lent = take c.args.regions.len (read ++ drop (length read) opened) in
    let back : lent ≡ read = slice_back c.args.regions.len read opened long read_long in
    let rests = c.left_now-2.ensures.rests settles.going in
    let wiped = c.wipe_regions.new.regions in
    let all = c.wipe_regions.ensures.len in
    let each : (k : ℕ) (v w : RegionView _) → slice_get read k ≡ Some v → slice_get wiped k ≡ Some w → StaysSilent m (slice_index gs (k / 2)) v w
    = subst (λ (rs : List (RegionView _)). (k : ℕ) (v w : RegionView _) → slice_get rs k ≡ Some v → slice_get wiped k ≡ Some w → StaysSilent m (slice_index gs (k / 2)) v w) (c.deref_mut-2.ensures.value ∙ back) c.wipe_regions.ensures.each in
    let long_wiped : length wiped ≡ length lent = all ∙ sym (ap length back ∙ read_long ∙ c.requires.regions.all) in
    let back_wiped : take c.args.regions.len (wiped ++ drop (length wiped) lent) ≡ wiped = slice_back c.args.regions.len wiped lent (long ∙ sym (ap length back ∙ read_long)) long_wiped in
    let e = c.in-Err-wipe_regions.error in
    let is = c.in-Err-wipe_regions.ensures.only in
    let items = c.hand_back-in-Err-wipe_regions.ensures ∙ ap (λ (ms : List _). ms ++ media_of (take c.args.regions.len (wiped ++ drop (length wiped) lent))) c.requires.empty ∙ ap media_of back_wiped in
    let parts : c.of-in-Err-wipe_regions.result ≡ media_beneath mid wiped = c.of-in-Err-wipe_regions.ensures ∙ (λ i. record { shared = c.into_medium-in-Err-wipe_regions.ensures i; regions = items i }) in
    let risen = subst (λ (rs : List (RegionView _)). HaveRisen m (media_of rs) (media_of wiped)) (c.deref_mut-2.ensures.value ∙ back) (c.in-Err-wipe_regions.ensures.fault is) in
    subst (λ (p : PartsView _). AreGivenBack m (part_medium (media_beneath area opened)) (part_medium p) e) (sym parts)
    (wiped_back m seen_now sized area mid opened read c.requires.regions gs settles rests wiped all each e is risen)

pub returns-in-Err-clause-cause : goal.returns-in-Err-clause-cause
returns-in-Err-clause-cause g c =
    let m = g.M.Media in
    let area = c.args.area in
    let opened = c.args.regions.items in
    let e = c.in-Err.error in
    let refuses = subst (λ (rs : List (RegionView _)). RefusesArea m area c.settle_area.new.area rs c.settle_area.new.regions e) c.deref_mut.ensures.value c.in-Err.ensures.refused in
    settled_cause m g.met.M.Media.seen_now g.met.M.Media.sized area c.settle_area.new.area opened c.settle_area.new.regions c.requires.regions e refuses c.marks-marks.result (c.marks-marks.ensures c.requires.going)

pub returns-in-Ok-wipe_regions-clause-cause : goal.returns-in-Ok-wipe_regions-clause-cause
returns-in-Ok-wipe_regions-clause-cause g c = of_err c.assemble.result _ (λ e only. memory_cause c.args.area.geometry (disk g.M.Media c.args.area) (log_in (contents_of g.M.Media (part_medium (media_beneath c.args.area c.args.regions.items)))) e.0 only) c.assemble.ensures.only

pub returns-in-Err-wipe_regions-clause-cause : goal.returns-in-Err-wipe_regions-clause-cause
returns-in-Err-wipe_regions-clause-cause g c = memory_cause c.args.area.geometry (disk g.M.Media c.args.area) (log_in (contents_of g.M.Media (part_medium (media_beneath c.args.area c.args.regions.items)))) c.in-Err-wipe_regions.error (subst IsFaultOrMemory (sym c.in-Err-wipe_regions.ensures.only) tt)
