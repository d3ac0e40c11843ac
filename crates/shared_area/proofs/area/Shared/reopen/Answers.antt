use Rattle.std.proofs.Common.{◌∙◌, ℕ, Err, Ok, sym, ap, subst, arith, inl, inr}
use Rattle.std.proofs.lemmas.Bool.{true≢false}
use Rattle.tier_device.specs.declared.media.Tier.TheVariants.{Fast}
use Rattle.tier_device.specs.Media.{Rose}
use Rattle.area_reader.specs.layout.Places.{Sizes}
use Rattle.area_reader.specs.batch_journal.View.{JournalView}
use Rattle.area_reader.specs.batch_journal.Volume.{IsVolume}
use Rattle.area_reader.proofs.batch_journal_lemmas.Courses.{unmoved_on, tiers_same}
use Rattle.area_reader.specs.Store.{Store, disk, store_of, marks}
use Rattle.area_reader.specs.Format.{IsOpenable}
use Rattle.area_reader.specs.Damage.{IsDamaged}
use Rattle.area_reader.specs.Looks.{Looks}
use Rattle.area_reader.proofs.Parts.{on_damage}
use Rattle.area_reader.proofs.Looked.{looks_err}
use Rattle.shared_area.specs.Ready.{IsReady}
use Rattle.shared_area.proofs.Ready.{still_ready}
use Rattle.std.specs.Prelude.{IsSome}
use Rattle.shared_area.proofs.Replays.{IsReplayed, rest_read, same_store, rest_after, untouched, course_read, store_read, spells_none, told_damage, told_fault, told_other, told_memory}
use Rattle.shared_area.proofs.area.Shared.reopen.Goals as goal

pub returns-in-Err : goal.returns-in-Err
returns-in-Err g c =
    let m = g.M.Media in
    let j = c.in-Err.error in
    let e = c.journal_fault.result in
    let is = c.journal_fault.ensures in
    let refused = c.in-Err.ensures in
    record {
      any_moment = tt;
      any_moment_refused = refused.any_moment_refused;
      volume = tt;
      opens = tt;
      blocks = tt;
      rests = tt;
      unfailed = tt;
      calls = tt;
      quiet = tt;
      damaged = told_damage j e is (λ w block none h volume opens. none h volume) refused.damaged;
      named = told_damage j e is (λ w block names. inl names) refused.named;
      memory = λ memory. inl (refused.memory (told_memory j e is memory));
      untouched = λ other none. refused.untouched (told_other j e is other);
      blocks_refused = λ other. ap store_of (tiers_same (m.seen c.args.medium) (m.seen c.in-Err.medium) (refused.untouched (told_other j e is other)).reads);
      rests_refused = λ other. rest_read (refused.untouched (told_other j e is other)) c.requires;
      fault = λ fault. refused.fault (told_fault j e is fault);
      quiet_refused = λ other. refused.quiet_refused (told_other j e is other);
      at_most = refused.at_most;
      faults_refused = refused.faults_refused;
      one_fault = refused.one_fault;
    }

pub invariant_of-result : goal.invariant_of-result
invariant_of-result g c going =
    let m = g.M.Media in
    let old = c.args.medium in
    let j = c.in-Ok.journal in
    let opened = c.in-Ok.ensures in
    let new = c.read_contents.new.journal in
    let found = c.in-Ok-read_contents in
    let looks = found.ensures.looks in
    let is : IsReplayed (m.seen old) (m.seen j.media) (m.moment old) (m.moment j.media) (m.left old) (m.left j.media) = record { course = opened.any_moment; rest = c.requires; rests = opened.rests; others = opened.others; blocks = opened.blocks } in
    let rest = rest_after (m.seen old) (m.seen j.media) (m.moment old) (m.moment j.media) (m.left old) (m.left j.media) is in
    let before : IsReady j.geometry (m.seen j.media) (m.left j.media (m.moment j.media)) found.found.pools found.found.marks found.found.units = record { opens = found.ensures.opens; rests = rest; ranges = found.ensures.ranges; free = found.ensures.free; marked = found.ensures.marks; charged = found.ensures.units } in
    still_ready m j new (Ok found.found) looks found.found.pools found.found.marks found.found.units (λ _. before) going

pub returns-in-Ok-read_contents : goal.returns-in-Ok-read_contents
returns-in-Ok-read_contents g c =
    let m = g.M.Media in
    let old = c.args.medium in
    let j = c.in-Ok.journal in
    let opened = c.in-Ok.ensures in
    let new = c.read_contents.new.journal in
    let found = c.in-Ok-read_contents in
    let looks = found.ensures.looks in
    let is : IsReplayed (m.seen old) (m.seen j.media) (m.moment old) (m.moment j.media) (m.left old) (m.left j.media) = record { course = opened.any_moment; rest = c.requires; rests = opened.rests; others = opened.others; blocks = opened.blocks } in
    let rest = rest_after (m.seen old) (m.seen j.media) (m.moment old) (m.moment j.media) (m.left old) (m.left j.media) is in
    let same = same_store (m.seen old) (m.seen j.media) (m.moment old) (m.moment j.media) (m.left old) (m.left j.media) is in
    record {
      any_moment = course_read (m.seen old) (m.seen j.media) (m.moment old) (m.moment j.media) (m.left old) (m.left j.media) is (m.seen new.media) (m.moment new.media) (m.left new.media) looks.unmoved;
      any_moment_refused = tt;
      volume = subst (λ (x : Sizes). IsVolume x (m.seen old)) (sym looks.geometry) opened.is;
      opens = subst (λ (x : Sizes). IsOpenable x (store_of (m.seen old))) (sym looks.geometry) (subst (IsOpenable j.geometry) same found.ensures.opens);
      blocks = store_read (m.seen old) (m.seen j.media) (m.moment old) (m.moment j.media) (m.left old) (m.left j.media) is (m.seen new.media) (m.moment new.media) (m.left new.media) looks.unmoved;
      rests = rest_read looks.unmoved rest;
      unfailed = looks.going.1;
      calls = looks.unmoved.clock ∙ opened.calls;
      quiet = looks.quiet ∙ opened.quiet;
      damaged = tt;
      named = tt;
      memory = tt;
      untouched = tt;
      blocks_refused = tt;
      rests_refused = tt;
      fault = tt;
      quiet_refused = tt;
      at_most = tt;
      faults_refused = tt;
      one_fault = tt;
    }

pub returns-in-Err-read_contents : goal.returns-in-Err-read_contents
returns-in-Err-read_contents g c =
    let m = g.M.Media in
    let old = c.args.medium in
    let j = c.in-Ok.journal in
    let opened = c.in-Ok.ensures in
    let last = c.read_contents.new.journal in
    let e = c.in-Err-read_contents.error in
    let refused = c.in-Err-read_contents.ensures in
    let back = c.into_media.result in
    let new : JournalView _ = record { media = back; geometry = last.geometry; failed = last.failed } in
    let looks : Looks {T = Unit {0}} m j new (Err e) =
    subst (λ (x : _). Looks {T = Unit {0}} m j (record { media = x; geometry = last.geometry; failed = last.failed }) (Err e)) (sym c.into_media.ensures) (looks_err m j last e refused.looks) in
    let is : IsReplayed (m.seen old) (m.seen j.media) (m.moment old) (m.moment j.media) (m.left old) (m.left j.media) = record { course = opened.any_moment; rest = c.requires; rests = opened.rests; others = opened.others; blocks = opened.blocks } in
    let rest = rest_after (m.seen old) (m.seen j.media) (m.moment old) (m.moment j.media) (m.left old) (m.left j.media) is in
    let same = same_store (m.seen old) (m.seen j.media) (m.moment old) (m.moment j.media) (m.left old) (m.left j.media) is in
    record {
      any_moment = tt;
      any_moment_refused = course_read (m.seen old) (m.seen j.media) (m.moment old) (m.moment j.media) (m.left old) (m.left j.media) is (m.seen back) (m.moment back) (m.left back) looks.unmoved;
      volume = tt;
      opens = tt;
      blocks = tt;
      rests = tt;
      unfailed = tt;
      calls = tt;
      quiet = tt;
      damaged = spells_none j.geometry (m.seen old) (disk m j) e opened.is same refused.unopenable;
      named = on_damage e (λ w block damage. inr (j.geometry, opened.is, subst (λ (s : Store). IsDamaged j.geometry s w block) same damage)) refused.damaged;
      memory = λ memory. inr ((j.geometry, opened.is), subst (λ (s : Store). IsSome (marks s)) same (refused.memory memory));
      untouched = λ other none. unmoved_on
          (untouched (m.seen old) (m.seen j.media) (m.moment old) (m.moment j.media) (m.left old) (m.left j.media) is (g.met.M.Media.seen_now j.media Fast) j.geometry opened.is opened.calls none) looks.unmoved;
      blocks_refused = λ other. store_read (m.seen old) (m.seen j.media) (m.moment old) (m.moment j.media) (m.left old) (m.left j.media) is (m.seen back) (m.moment back) (m.left back) looks.unmoved;
      rests_refused = λ other. rest_read looks.unmoved rest;
      fault = λ fault. elim ((looks.fault fault).1) [
        | inl was ↦ absurd (true≢false (sym was ∙ opened.unfailed))
        | inr rose ↦ subst (λ (n : ℕ). Rose n (m.faults back)) opened.quiet rose
      ];
      quiet_refused = λ other. (looks.quiet_refused other).0 ∙ opened.quiet;
      at_most = omega (arith, looks.unmoved.clock, opened.calls);
      faults_refused = omega (arith, looks.more_faults, opened.quiet);
      one_fault = omega (arith, looks.one_fault, opened.quiet);
    }
