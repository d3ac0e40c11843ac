use Rattle.std.proofs.Common.{◌≡◌, ◌≤◌, ◌+◌, ◌*◌, List, ℕ, length, sym, ap, subst, arith, refl}
use Rattle.layout.specs.Places.{Sizes, data_first, tier_blocks}
use Rattle.tier_device.specs.declared.media.Tier.TheVariants.{Fast}
use Rattle.tier_device.specs.StopsSince.{LeftSince}
use Rattle.batch_journal.specs.Course.{OutsideRun, OutsideRunFrom}
use Rattle.batch_journal.specs.View.{JournalView}
use Rattle.batch_journal.proofs.Kept.{shows_written}
use Rattle.batch_journal.proofs.Views.{wrote, wrote_run, shut_wrote, wrote_outside}
use Rattle.batch_journal.proofs.journal.Journal.write.Goals as goal

pub invariant_of-self : goal.invariant_of-self
invariant_of-self g c going =
    let m = g.M.Media in
    let s = c.self.inside in
    let new = c.put.new.media in
    let left : List ℕ → Type 0 = λ x. m.left s.media (m.moment s.media) Fast x in
    let shut = (c.self.invariant c.if-self.false).shut in
    let now = g.met.M.Media.seen_now s.media Fast in
    let tier = c.args.tier in
    let first = c.args.first in
    let n = length c.args.bytes.now in
    let geometry : c.args.self.now.geometry ≡ s.geometry = sym (ap (λ (v : JournalView _). v.geometry) c.self.view_is) in
    let place = subst (λ (h : Sizes). data_first h tier ≤ first) geometry c.requires.place in
    let course = c.put.ensures.course in
    let size : 4096 * first + n ≤ length (m.seen s.media tier) = omega (arith, c.requires.inside, ap (λ (h : Sizes). tier_blocks h tier) geometry, shut.sizes tier) in
    let outside = wrote_outside s.geometry (m.seen s.media) left shut now tier first n place c.args.bytes.now (m.seen new) refl size c.in-Ok.ensures.written c.in-Ok.ensures.others in
    record {
      shut = shut_wrote s.geometry (m.seen s.media) left shut now tier first n place (m.seen new) (λ x. m.left new (m.moment new) Fast x) c.put.ensures.lengths
          (λ x l. wrote tier (4096 * first) n course (m.moment new) x course.later (omega arith) l);
      kept = shows_written s.geometry tier first n (m.seen s.media) (m.seen new) s.kept.places.items place outside c.in-Ok.ensures.others (c.self.invariant c.if-self.false).kept;
    }

pub returns-in-Ok-clause-outside : goal.returns-in-Ok-clause-outside
returns-in-Ok-clause-outside g c =
    let m = g.M.Media in
    let s = c.self.inside in
    let new = c.put.new.media in
    let left : List ℕ → Type 0 = λ x. m.left s.media (m.moment s.media) Fast x in
    let shut = (c.self.invariant c.if-self.false).shut in
    let now = g.met.M.Media.seen_now s.media Fast in
    let tier = c.args.tier in
    let first = c.args.first in
    let n = length c.args.bytes.now in
    let geometry : c.args.self.now.geometry ≡ s.geometry = sym (ap (λ (v : JournalView _). v.geometry) c.self.view_is) in
    let place = subst (λ (h : Sizes). data_first h tier ≤ first) geometry c.requires.place in
    let course = c.put.ensures.course in
    let size : 4096 * first + n ≤ length (m.seen s.media tier) = omega (arith, c.requires.inside, ap (λ (h : Sizes). tier_blocks h tier) geometry, shut.sizes tier) in
    subst (λ (v : JournalView _). OutsideRun first n (m.seen v.media Fast) (m.seen new Fast)) c.self.view_is
    (wrote_outside s.geometry (m.seen s.media) left shut now tier first n place c.args.bytes.now (m.seen new) refl size c.in-Ok.ensures.written c.in-Ok.ensures.others)

pub returns-in-Ok-clause-blocks_stay : goal.returns-in-Ok-clause-blocks_stay
returns-in-Ok-clause-blocks_stay g c going =
    let m = g.M.Media in
    let s = c.self.inside in
    let new = c.put.new.media in
    let left : List ℕ → Type 0 = λ x. m.left s.media (m.moment s.media) Fast x in
    let shut = (c.self.invariant c.if-self.false).shut in
    let now = g.met.M.Media.seen_now s.media Fast in
    let tier = c.args.tier in
    let first = c.args.first in
    let n = length c.args.bytes.now in
    let geometry : c.args.self.now.geometry ≡ s.geometry = sym (ap (λ (v : JournalView _). v.geometry) c.self.view_is) in
    let place = subst (λ (h : Sizes). data_first h tier ≤ first) geometry c.requires.place in
    let course = c.put.ensures.course in
    subst (λ (v : JournalView _). (x : List ℕ) → LeftSince (m.left new) (m.moment new) (m.moment v.media) Fast x → OutsideRunFrom v.geometry (λ y. m.left v.media (m.moment v.media) Fast y) first n x) c.self.view_is
    (λ x since. wrote_run s.geometry (m.seen s.media) left shut now tier first n place x (wrote tier (4096 * first) n course since.0 x since.1 since.2 since.3))

pub returns-in-Err-clause-blocks_stay : goal.returns-in-Err-clause-blocks_stay
returns-in-Err-clause-blocks_stay g c going =
    let m = g.M.Media in
    let s = c.self.inside in
    let new = c.put.new.media in
    let left : List ℕ → Type 0 = λ x. m.left s.media (m.moment s.media) Fast x in
    let shut = (c.self.invariant c.if-self.false).shut in
    let now = g.met.M.Media.seen_now s.media Fast in
    let tier = c.args.tier in
    let first = c.args.first in
    let n = length c.args.bytes.now in
    let geometry : c.args.self.now.geometry ≡ s.geometry = sym (ap (λ (v : JournalView _). v.geometry) c.self.view_is) in
    let place = subst (λ (h : Sizes). data_first h tier ≤ first) geometry c.requires.place in
    let course = c.put.ensures.course in
    subst (λ (v : JournalView _). (x : List ℕ) → LeftSince (m.left new) (m.moment new) (m.moment v.media) Fast x → OutsideRunFrom v.geometry (λ y. m.left v.media (m.moment v.media) Fast y) first n x) c.self.view_is
    (λ x since. wrote_run s.geometry (m.seen s.media) left shut now tier first n place x (wrote tier (4096 * first) n course since.0 x since.1 since.2 since.3))
