use Rattle.std.proofs.Common.{◌≡◌, ℕ, List, false, refl, sym, ◌∙◌, subst, arith}
use Rattle.tier_device.specs.declared.media.Tier.TheVariants.{Fast}
use Rattle.batch_journal.specs.Blocks.{home, is_gate_open}
use Rattle.batch_journal.specs.Volume.{IsJournal}
use Rattle.batch_journal.proofs.Courses.{on_damage}
use Rattle.batch_journal.proofs.Opens.{no_volume}
use Rattle.batch_journal.proofs.journal.Journal.reopen.Goals as goal

pub invariant_of-result : goal.invariant_of-result
invariant_of-result g c going =
    let m = g.M.Media in
    let new = c.open_medium.new.media in
    let opens = c.in-Ok.ensures in
    let opened = opens.opened in
    let same = opens.course.all (m.moment new) (m.seen new Fast) opens.course.later (omega arith) (g.met.M.Media.seen_now new Fast) in
    record {
      shut = record {
        sizes = λ t. opens.lengths t ∙ opened.volume.sizes t;
        closed = λ x l. subst (λ (s : List ℕ). is_gate_open s ≡ false) (sym (opened.rests x l)) opened.closed;
        journal = λ x l. subst (λ (s : List ℕ). IsJournal c.in-Ok.geometry s) (sym (opened.rests x l)) (same.journal c.in-Ok.geometry opened.volume.journal);
      };
      kept = c.new.ensures c.in-Ok.geometry (home (m.seen new Fast));
    }

pub returns-in-Ok : goal.returns-in-Ok
returns-in-Ok g c =
    let m = g.M.Media in
    let new = c.open_medium.new.media in
    let opens = c.in-Ok.ensures in
    let opened = opens.opened in
    let same = opens.course.all (m.moment new) (m.seen new Fast) opens.course.later (omega arith) (g.met.M.Media.seen_now new Fast) in
    record {
      any_moment = opens.course;
      any_moment_refused = tt;
      is = opened.volume;
      blocks = same.blocks;
      others = opened.others;
      rests = opened.rests;
      calls = opened.calls;
      gate_byte = opened.gate_byte;
      unfailed = refl;
      lengths = opens.lengths;
      quiet = opens.faults_told.quiet;
      damaged = tt;
      named = tt;
      memory = tt;
      untouched = tt;
      fault = tt;
      quiet_refused = tt;
      at_most = tt;
      only = tt;
      lengths_refused = tt;
      faults_refused = tt;
      one_fault = tt;
    }

pub returns-in-Err : goal.returns-in-Err
returns-in-Err g c =
    let seen = g.M.Media.seen c.args.media in
    let opens = c.in-Err.ensures in
    let refused = opens.refused in
    record {
      any_moment = tt;
      any_moment_refused = opens.course;
      is = tt;
      blocks = tt;
      others = tt;
      rests = tt;
      calls = tt;
      gate_byte = tt;
      unfailed = tt;
      lengths = tt;
      quiet = tt;
      damaged = on_damage c.in-Err.error (λ w block is. no_volume seen w block is) refused.named;
      named = refused.named;
      memory = refused.memory;
      untouched = refused.untouched;
      fault = opens.faults_told.cause;
      quiet_refused = opens.faults_told.quiet_refused;
      at_most = opens.at_most;
      only = refused.only;
      lengths_refused = opens.lengths;
      faults_refused = opens.faults_told.grows;
      one_fault = opens.faults_told.at_most_one;
    }
