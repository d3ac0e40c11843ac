use Rattle.std.proofs.Common.{◌≡◌, inl, inr, map, ap, sym, ◌∙◌, subst}
use Rattle.std.specs.Prelude.{Some}
use Rattle.recovery_laws.specs.area_reader.Store.{disk, graph, marks}
use Rattle.recovery_laws.specs.layout.declared.marks.Marks.{Marks}
use Rattle.log_survey.proofs.world_invariant_lemmas.Recoveries.{settled_same}
use Rattle.graph_check.specs.call_effects.ClosedGraph.{nobody, settled_graph}
use Rattle.graph_check.specs.call_effects.Wholes.{IsSound, state_of}
use Rattle.recovery_laws.specs.layout.Places.{Sizes}
use Rattle.graph_check.specs.file_graph.Graph.{Graph}
use Rattle.log_survey.specs.world_invariant.Logs.{LogsAreApart, after_clients}
use Rattle.posix_calls.specs.Tree.{State}
use Rattle.area_recovery.specs.DigestedLogs.{CanDigestAll}
use Rattle.area_recovery.specs.Errors.{OnBadLog}
use Rattle.area_recovery.specs.FoundLogs.{AreFound, HoldFew, log_by}
use Rattle.area_recovery.specs.Recovers.{AreThese, CountNone, Recovers, Regions, marks_by}
use Rattle.area_recovery.specs.Refusals.{IsFirstUndigestible, IsStoredCause}
use Rattle.area_recovery.specs.Regions.{regions_read}
use Rattle.area_recovery.specs.Settlement.{RefusesArea}
use Rattle.area_recovery.proofs.FreshMarks.{are_eight, are_fresh, are_generations, fresh_marked}
use Rattle.area_recovery.proofs.ReadContents.{found_still, idle_still, may_be_wiped, read_silent, these_count_none}
use Rattle.area_recovery.proofs.RefusalCauses.{digest_cause, few_records, found_cause, memory_cause, tested_cause}
use Rattle.area_recovery.proofs.RegionMedia.{some_is}
use Rattle.area_recovery.proofs.RegionReads.{more_read, regions_still}
use Rattle.area_recovery.proofs.RisenFaults.{rose_earlier}
use Rattle.area_recovery.proofs.SettledArea.{same_disk, still_wiped}
use Rattle.area_recovery.proofs.SettlementPhases.{apart_found, found_never, kept_digested, kept_on, kept_still, kept_tested, later_risen, passed_on, these_since}
use Rattle.area_recovery.proofs.Staying.{recovered_now}
use Rattle.area_recovery.proofs.area_settlement.settle_area.Goals as goal

pub returns-in_err-logs-clause-refused : goal.returns-in_err-logs-clause-refused
returns-in_err-logs-clause-refused g c =
    let m = g.M.Media in
    let area = c.args.area.now in
    let e = c.in_err-logs.ensures in
    let is = c.marks.ensures c.requires.going in
    passed_on c.from_residual.result (RefusesArea m area area c.args.regions.now c.find_logs.new.regions) _ c.from_residual.ensures.1 (record {
      keeps = kept_still m area c.args.regions.now c.find_logs.new.regions (c.left_now.ensures.rests c.requires.going) c.find_logs.ensures.same;
      never = λ sizes now state these r. found_never _ (LogsAreApart (log_by c.marks.result (regions_read m c.args.regions.now))) e.only e.bad
          (apart_found m c.args.regions.now sizes state (m.seen area.media) now c.marks.result is these r);
      fault = λ fault. inr (e.fault fault);
      going = λ other. c.requires.going;
      cause = λ v its. subst (λ w. IsStoredCause area.geometry (disk m area) (log_by w (regions_read m c.args.regions.now)) c.in_err-logs.field-0.0) (some_is (sym is ∙ its))
          (found_cause area.geometry (disk m area) (log_by c.marks.result (regions_read m c.args.regions.now)) _ e.only (e.first (few_records m c.args.regions.now c.requires.regions)));
    })

pub digest_logs-requires-clause-idle : goal.digest_logs-requires-clause-idle
digest_logs-requires-clause-idle g c = idle_still g.M.Media c.args.regions.now c.find_logs.new.regions c.find_logs.ensures.same c.requires.regions.idle

pub digest_logs-requires-clause-logs : goal.digest_logs-requires-clause-logs
digest_logs-requires-clause-logs g c = λ v is.
    let m = g.M.Media in
    let one = some_is (sym (c.marks.ensures c.requires.going) ∙ is) in
    subst (AreFound v (regions_read m c.find_logs.new.regions)) (sym c.deref.ensures.value) (found_still m c.args.regions.now c.find_logs.new.regions c.find_logs.ensures.same v c.in_ok-logs.logs.items (subst (λ w. AreFound w (regions_read m c.args.regions.now) c.in_ok-logs.logs.items) one c.in_ok-logs.ensures.found))

pub returns-in_err-digest_logs-clause-refused : goal.returns-in_err-digest_logs-clause-refused
returns-in_err-digest_logs-clause-refused g c =
    let m = g.M.Media in
    let area = c.args.area.now in
    let new = c.digest_logs.new.area in
    let before = c.args.regions.now in
    let mid = c.find_logs.new.regions in
    let after = c.digest_logs.new.regions in
    let e = c.in_err-digest_logs.ensures in
    passed_on c.from_residual-in_err-digest_logs.result (RefusesArea m area new before after) _ c.from_residual-in_err-digest_logs.ensures.1 (record {
      keeps = kept_digested m area new before mid after c.find_logs.ensures.same e.same e.any_moment e.answers.geometry e.answers.more_faults;
      never = λ sizes now state these r. e.never sizes now state (these_since m before mid c.find_logs.ensures.same now these) r;
      fault = λ fault. later_risen m before mid after _ c.find_logs.ensures.same (e.answers.fault fault);
      going = e.answers.quiet_refused;
      cause = λ v is.
          let apart = subst (λ w. LogsAreApart (log_by w (regions_read m before))) (some_is (sym (c.marks.ensures c.requires.going) ∙ is)) c.in_ok-logs.ensures.apart in
          let still : regions_read m mid ≡ regions_read m before = regions_still m before mid c.find_logs.ensures.same in
          digest_cause area.geometry (disk m area) (log_by v (regions_read m before)) apart _ e.only
          (subst (λ (rs : Regions). HoldFew rs → OnBadLog c.in_err-digest_logs.field-0.0 (IsFirstUndigestible area.geometry.units (graph area.geometry (disk m area)) (log_by v rs))) still (e.bad v is) (few_records m before c.requires.regions));
    })

pub returns-in_err-nameless-clause-refused : goal.returns-in_err-nameless-clause-refused
returns-in_err-nameless-clause-refused g c =
    let m = g.M.Media in
    let area = c.args.area.now in
    let mid = c.digest_logs.new.area in
    let new = c.test_graph.new.area in
    let before = c.args.regions.now in
    let after = c.digest_logs.new.regions in
    let d = c.in_ok-digest_logs.ensures in
    let e = c.in_err-nameless.ensures in
    let kept = kept_digested m area mid before c.find_logs.new.regions after c.find_logs.ensures.same d.same d.any_moment d.answers.geometry d.answers.more_faults in
    passed_on c.from_residual-in_err-nameless.result (RefusesArea m area new before after) _ c.from_residual-in_err-nameless.ensures.1 (record {
      keeps = kept_tested m g.met.M.Media.seen_now area mid new before after kept e.answers.geometry e.answers.more_faults e.any_moment;
      never = λ sizes now state these r. e.never sizes now state (d.none sizes now state (these_since m before c.find_logs.new.regions c.find_logs.ensures.same now these) r)
          (recovered_now m g.met.M.Media.seen_now (AreThese (regions_read m before)) area.media mid.media kept.any_moment sizes now state these r);
      fault = λ fault. inl (rose_earlier (m.faults area.media) (m.faults mid.media) (m.faults new.media) kept.faults (e.answers.fault fault).1);
      going = λ other. (e.answers.quiet_refused other).1;
      cause = λ v is.
          let apart = subst (λ w. LogsAreApart (log_by w (regions_read m before))) (some_is (sym (c.marks.ensures c.requires.going) ∙ is)) c.in_ok-logs.ensures.apart in
          let still : regions_read m c.find_logs.new.regions ≡ regions_read m before = regions_still m before c.find_logs.new.regions c.find_logs.ensures.same in
          tested_cause area.geometry (disk m area) (log_by v (regions_read m before)) apart (subst (λ (rs : Regions). CanDigestAll area.geometry.units (graph area.geometry (disk m area)) (log_by v rs)) still (d.good v is)) (graph mid.geometry (disk m mid)) (d.digested v is ∙ ap (λ (rs : Regions). after_clients (log_by v rs) (graph area.geometry (disk m area)) 8) still) _ e.only e.damaged;
    })

pub returns-in_err-drop_files-clause-refused : goal.returns-in_err-drop_files-clause-refused
returns-in_err-drop_files-clause-refused g c =
    let m = g.M.Media in
    let seen_now = g.met.M.Media.seen_now in
    let area = c.args.area.now in
    let digested = c.digest_logs.new.area in
    let tested = c.test_graph.new.area in
    let before = c.args.regions.now in
    let mid = c.find_logs.new.regions in
    let after = c.digest_logs.new.regions in
    let read = c.find_logs.ensures.same in
    let d = c.in_ok-digest_logs.ensures in
    let t = c.in_ok-nameless.ensures in
    let kept = kept_tested m seen_now area digested tested before after (kept_digested m area digested before mid after read d.same d.any_moment d.answers.geometry d.answers.more_faults) t.answers.geometry t.answers.more_faults t.any_moment in
    let none : (sizes : Sizes) (now : Regions) (state : State) → AreThese (regions_read m before) now → Recovers sizes now state (m.seen area.media) → CountNone now (marks (disk m tested))
    = λ sizes now state these r. subst (CountNone now) (sym (ap marks (same_disk m digested tested t.unmoved.reads))) (d.none sizes now state (these_since m before mid read now these) r) in
    let new = c.drop_files.new.area in
    let e = c.in_err-drop_files.ensures in
    passed_on c.from_residual-in_err-drop_files.result (RefusesArea m area new before after) _ c.from_residual-in_err-drop_files.ensures.1 (record {
      keeps = kept_on m seen_now area tested new before after kept e.answers.geometry e.answers.more_faults (λ now. CountNone now (marks (disk m tested))) none e.any_moment;
      never = λ sizes now state these r. e.only;
      cause = λ v is. memory_cause area.geometry (disk m area) (log_by v (regions_read m before)) _ e.only;
      fault = λ fault. inl (rose_earlier (m.faults area.media) (m.faults tested.media) (m.faults new.media) kept.faults (e.answers.fault fault).1);
      going = λ other. (e.answers.quiet_refused other).1;
    })

pub returns-in_err-set_marks-clause-refused : goal.returns-in_err-set_marks-clause-refused
returns-in_err-set_marks-clause-refused g c =
    let m = g.M.Media in
    let seen_now = g.met.M.Media.seen_now in
    let area = c.args.area.now in
    let digested = c.digest_logs.new.area in
    let tested = c.test_graph.new.area in
    let before = c.args.regions.now in
    let mid = c.find_logs.new.regions in
    let after = c.digest_logs.new.regions in
    let read = c.find_logs.ensures.same in
    let d = c.in_ok-digest_logs.ensures in
    let t = c.in_ok-nameless.ensures in
    let kept = kept_tested m seen_now area digested tested before after (kept_digested m area digested before mid after read d.same d.any_moment d.answers.geometry d.answers.more_faults) t.answers.geometry t.answers.more_faults t.any_moment in
    let none : (sizes : Sizes) (now : Regions) (state : State) → AreThese (regions_read m before) now → Recovers sizes now state (m.seen area.media) → CountNone now (marks (disk m tested))
    = λ sizes now state these r. subst (CountNone now) (sym (ap marks (same_disk m digested tested t.unmoved.reads))) (d.none sizes now state (these_since m before mid read now these) r) in
    let dropped = c.drop_files.new.area in
    let f = c.in_ok-drop_files.ensures in
    let kept_dropped = kept_on m seen_now area tested dropped before after kept f.answers.geometry f.answers.more_faults (λ now. CountNone now (marks (disk m tested))) none f.any_moment in
    let logs = c.in_ok-logs.logs.items in
    let gs = c.generations_of-generations.result in
    let clients = c.marks_at.result in
    let gs_is = c.generations_of-generations.ensures ∙ ap (map (λ l. l.generation)) c.deref-3.ensures.value in
    let clients_is = c.marks_at.ensures in
    let eight = c.in_ok-logs.ensures.len in
    let are = are_generations logs gs gs_is eight clients clients_is in
    let both : (sizes : Sizes) (now : Regions) (state : State) → AreThese (regions_read m before) now → Recovers sizes now state (m.seen area.media) → CountNone now (marks (disk m dropped)) × CountNone now (marks_by clients)
    = λ sizes now state these r. (
      subst (CountNone now) (sym f.marks) (none sizes now state these r),
      these_count_none m before c.marks.result logs gs c.requires.regions.all eight c.in_ok-logs.ensures.found are clients now (are_fresh logs gs gs_is eight clients clients_is) c.requires.regions.sizes these,
    ) in
    let new = c.set_marks.new.area in
    let e = c.in_err-set_marks.ensures in
    passed_on c.from_residual-in_err-set_marks.result (RefusesArea m area new before after) _ c.from_residual-in_err-set_marks.ensures.1 (record {
      keeps = kept_on m seen_now area dropped new before after kept_dropped e.answers.geometry e.answers.more_faults (λ now. CountNone now (marks (disk m dropped)) × CountNone now (marks_by clients)) both e.any_moment;
      never = λ sizes now state these r. e.only;
      cause = λ v is. memory_cause area.geometry (disk m area) (log_by v (regions_read m before)) _ e.only;
      fault = λ fault. inl (rose_earlier (m.faults area.media) (m.faults dropped.media) (m.faults new.media) kept_dropped.faults (e.answers.fault fault).1);
      going = λ other. (e.answers.quiet_refused other).1;
    })

pub returns-clause-settles : goal.returns-clause-settles
returns-clause-settles g c =
    let m = g.M.Media in
    let seen_now = g.met.M.Media.seen_now in
    let area = c.args.area.now in
    let digested = c.digest_logs.new.area in
    let tested = c.test_graph.new.area in
    let before = c.args.regions.now in
    let mid = c.find_logs.new.regions in
    let after = c.digest_logs.new.regions in
    let read = c.find_logs.ensures.same in
    let d = c.in_ok-digest_logs.ensures in
    let t = c.in_ok-nameless.ensures in
    let kept = kept_tested m seen_now area digested tested before after (kept_digested m area digested before mid after read d.same d.any_moment d.answers.geometry d.answers.more_faults) t.answers.geometry t.answers.more_faults t.any_moment in
    let none : (sizes : Sizes) (now : Regions) (state : State) → AreThese (regions_read m before) now → Recovers sizes now state (m.seen area.media) → CountNone now (marks (disk m tested))
    = λ sizes now state these r. subst (CountNone now) (sym (ap marks (same_disk m digested tested t.unmoved.reads))) (d.none sizes now state (these_since m before mid read now these) r) in
    let dropped = c.drop_files.new.area in
    let f = c.in_ok-drop_files.ensures in
    let kept_dropped = kept_on m seen_now area tested dropped before after kept f.answers.geometry f.answers.more_faults (λ now. CountNone now (marks (disk m tested))) none f.any_moment in
    let logs = c.in_ok-logs.logs.items in
    let gs = c.generations_of-generations.result in
    let clients = c.marks_at.result in
    let gs_is = c.generations_of-generations.ensures ∙ ap (map (λ l. l.generation)) c.deref-3.ensures.value in
    let clients_is = c.marks_at.ensures in
    let eight = c.in_ok-logs.ensures.len in
    let are = are_generations logs gs gs_is eight clients clients_is in
    let both : (sizes : Sizes) (now : Regions) (state : State) → AreThese (regions_read m before) now → Recovers sizes now state (m.seen area.media) → CountNone now (marks (disk m dropped)) × CountNone now (marks_by clients)
    = λ sizes now state these r. (
      subst (CountNone now) (sym f.marks) (none sizes now state these r),
      these_count_none m before c.marks.result logs gs c.requires.regions.all eight c.in_ok-logs.ensures.found are clients now (are_fresh logs gs gs_is eight clients clients_is) c.requires.regions.sizes these,
    ) in
    let new = c.set_marks.new.area in
    let e = c.in_ok-set_marks.ensures in
    let same_read : regions_read m mid ≡ regions_read m before = regions_still m before mid read in
    let first : graph tested.geometry (disk m tested) ≡ graph digested.geometry (disk m digested) = λ i. graph (t.answers.geometry i) (same_disk m digested tested t.unmoved.reads i) in
    let sound_tested : IsSound (graph tested.geometry (disk m tested)) nobody = subst (λ (h : Graph). IsSound h nobody) (sym first) t.sound in
    let stored = λ (v : Marks) (is : marks (disk m area) ≡ Some v). d.digested v is ∙ ap (λ (rs : Regions). after_clients (log_by v rs) (graph area.geometry (disk m area)) 8) same_read in
    record {
      keeps = kept_on m seen_now area dropped new before after kept_dropped e.answers.geometry e.answers.more_faults (λ now. CountNone now (marks (disk m dropped)) × CountNone now (marks_by clients)) both e.any_moment;
      going = e.answers.quiet.1;
      sound = subst (λ (h : Graph). IsSound h nobody) (sym e.graph) (f.sound sound_tested);
      apart = λ v is. subst (λ w. LogsAreApart (log_by w (regions_read m before))) (some_is (sym (c.marks.ensures c.requires.going) ∙ is)) c.in_ok-logs.ensures.apart;
      good = λ v is. subst (λ (rs : Regions). CanDigestAll area.geometry.units (graph area.geometry (disk m area)) (log_by v rs)) same_read (d.good v is);
      stored_sound = λ v is. subst (λ (h : Graph). IsSound h nobody) (stored v is) t.sound;
      state = λ v is. ap (λ (h : Graph). state_of h nobody) e.graph ∙ f.state sound_tested ∙ ap (λ (h : Graph). state_of h nobody) first
          ∙ settled_same (graph digested.geometry (disk m digested)) t.sound ∙ ap (λ (h : Graph). state_of (settled_graph h) nobody) (stored v is);
      eight = are_eight logs gs gs_is eight clients clients_is;
      marked = (let there = e.there in fresh_marked logs gs gs_is eight clients clients_is (m.seen new.media) there.0.digests (e.marks there.0 there.1));
      silent = read_silent m before c.marks.result logs gs c.requires.regions.all eight c.in_ok-logs.ensures.found are c.requires.regions.sizes;
      wipe = still_wiped m gs before after (more_read m before mid after read d.same)
          (λ k v at. may_be_wiped m before c.marks.result logs gs c.requires.regions.all eight c.in_ok-logs.ensures.found are k v at (c.requires.regions.idle k v at).0 (c.requires.regions.sizes k v at) (c.requires.regions.idle k v at).1);
    }
