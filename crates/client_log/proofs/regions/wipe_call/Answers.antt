use Rattle.std.proofs.Common.{get_or, refl, sym, subst, arith}
use Rattle.std.proofs.lemmas.Bool.{true≢false}
use Rattle.tier_device.specs.declared.media.Tier.TheVariants.{Fast}
use Rattle.update_log.specs.View.{header_of}
use Rattle.update_log.specs.WipeStops.{generation, records_behind_gate}
use Rattle.client_log.specs.Regions.{NamesBy}
use Rattle.client_log.proofs.Wipes.{call_counts_none, after_call, ends_named, goes_on}
use Rattle.client_log.proofs.regions.wipe_call.Goals as goal

pub wipe_step-requires : goal.wipe_step-requires
wipe_step-requires g c = c.requires.going refl

pub returns-in-Ok-clause-call : goal.returns-in-Ok-clause-call
returns-in-Ok-clause-call g c =
    let m = g.M.Media in
    let old = c.args.region.now in
    let new = c.wipe_step.new.self in
    let gate = get_or (m.seen old.media Fast) 16 0 in
    let w = c.wipe_step.ensures in
    let ok = c.in-Ok.ensures in
    let after = after_call old.stage new.stage gate c.args.generation (header_of m old) (header_of m new) (omega arith) (c.requires.going refl) c.requires.names ok.stage ok.header in
    record {
      any_moment = λ d l. call_counts_none old.stage gate c.args.generation (header_of m old) (records_behind_gate (m.seen old.media Fast)) d (c.requires.going refl) c.requires.names (w.any_moment d l);
      stage = ok.stage;
      shown = ok.seen;
      progress = ok.progress;
      none = w.none;
      nothing = w.nothing_begun;
      only = tt;
      failed = tt;
      wiped = λ rests. record { rests = rests; nothing = w.nothing_begun; empty = w.none; names = ends_named new.stage c.args.generation (generation (header_of m new)) rests after };
      moved = record { one_call = ok.one_call; at_most = w.at_most; past = w.past; fault = tt; sound = ok.sound; faults_rise = w.faults.0; one_fault = w.faults.1 };
    }

pub returns-in-Err-clause-call : goal.returns-in-Err-clause-call
returns-in-Err-clause-call g c =
    let m = g.M.Media in
    let old = c.args.region.now in
    let new = c.wipe_step.new.self in
    let gate = get_or (m.seen old.media Fast) 16 0 in
    let w = c.wipe_step.ensures in
    record {
      any_moment = λ d l. call_counts_none old.stage gate c.args.generation (header_of m old) (records_behind_gate (m.seen old.media Fast)) d (c.requires.going refl) c.requires.names (w.any_moment d l);
      stage = tt;
      shown = tt;
      progress = tt;
      none = w.none;
      nothing = w.nothing_begun;
      only = refl;
      failed = c.in-Err.ensures.failed;
      wiped = tt;
      moved = record { one_call = tt; at_most = w.at_most; past = w.past; fault = c.in-Err.ensures.fault; sound = tt; faults_rise = w.faults.0; one_fault = w.faults.1 };
    }

pub returns-in-Ok-clause-stale : goal.returns-in-Ok-clause-stale
returns-in-Ok-clause-stale g c more =
    let m = g.M.Media in
    let old = c.args.region.now in
    let new = c.wipe_step.new.self in
    let gate = get_or (m.seen old.media Fast) 16 0 in
    let w = c.wipe_step.ensures in
    let ok = c.in-Ok.ensures in
    let after = after_call old.stage new.stage gate c.args.generation (header_of m old) (header_of m new) (omega arith) (c.requires.going refl) c.requires.names ok.stage ok.header in
    record {
      nothing = w.nothing_begun;
      going = λ failed. absurd (true≢false failed);
      names = (goes_on new.stage c.args.generation (generation (header_of m new)) more after).1;
      none = λ d l. call_counts_none old.stage gate c.args.generation (header_of m old) (records_behind_gate (m.seen old.media Fast)) d (c.requires.going refl) c.requires.names (w.any_moment d (m.moment new.media, w.past.later, omega arith, l));
    }

pub returns-in-Ok-clause-going : goal.returns-in-Ok-clause-going
returns-in-Ok-clause-going g c more =
    let m = g.M.Media in
    let old = c.args.region.now in
    let new = c.wipe_step.new.self in
    let gate = get_or (m.seen old.media Fast) 16 0 in
    let w = c.wipe_step.ensures in
    let ok = c.in-Ok.ensures in
    let after = after_call old.stage new.stage gate c.args.generation (header_of m old) (header_of m new) (omega arith) (c.requires.going refl) c.requires.names ok.stage ok.header in
    let on = goes_on new.stage c.args.generation (generation (header_of m new)) more after in
    record {
      nothing = w.nothing_begun;
      going = λ failed. on.0;
      names = on.1;
      none = λ d l. call_counts_none old.stage gate c.args.generation (header_of m old) (records_behind_gate (m.seen old.media Fast)) d (c.requires.going refl) c.requires.names (w.any_moment d (m.moment new.media, w.past.later, omega arith, l));
    }

pub returns-in-Err-clause-stale : goal.returns-in-Err-clause-stale
returns-in-Err-clause-stale g c more =
    let m = g.M.Media in
    let old = c.args.region.now in
    let new = c.wipe_step.new.self in
    let gate = get_or (m.seen old.media Fast) 16 0 in
    let w = c.wipe_step.ensures in
    record {
      nothing = w.nothing_begun;
      going = λ failed. absurd (true≢false failed);
      names = subst (λ s. NamesBy s c.args.generation (generation (header_of m new))) (sym c.in-Err.ensures.failed) tt;
      none = λ d l. call_counts_none old.stage gate c.args.generation (header_of m old) (records_behind_gate (m.seen old.media Fast)) d (c.requires.going refl) c.requires.names (w.any_moment d (m.moment new.media, w.past.later, omega arith, l));
    }
