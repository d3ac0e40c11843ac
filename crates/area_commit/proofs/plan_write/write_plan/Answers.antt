use Rattle.std.proofs.Common.{◌≡◌, ◌≢◌, ◌<◌, inl, inr, ℕ, List, length, sym, ap, subst, ◌∙◌, arith}
use Rattle.std.proofs.lemmas.Bool.{cases_lt}
use Rattle.tier_device.specs.declared.media.Tier.{Tier}
use Rattle.tier_device.specs.declared.media.Tier.TheVariants.{Fast, Block}
use Rattle.tier_device.specs.AfterStop.{AtRest}
use Rattle.area_reader.specs.layout.Places.{Sizes}
use Rattle.area_reader.specs.batch_journal.Blocks.{AreJournaled}
use Rattle.area_reader.specs.batch_journal.Course.{Since, BeforeOrAfter}
use Rattle.area_reader.specs.batch_journal.View.{JournalView}
use Rattle.area_reader.specs.batch_journal.Volume.{KeepsGeometry}
use Rattle.area_reader.proofs.batch_journal_lemmas.Courses.{on_ok_2}
use Rattle.area_reader.proofs.batch_journal_lemmas.Views.{which}
use Rattle.area_reader.specs.Store.{disk}
use Rattle.area_commit.specs.Allocations.{runs_of, taken_data}
use Rattle.area_commit.specs.DataWrite.{HoldData, IsLooseLeft}
use Rattle.area_commit.proofs.Turns.{turn_then}
use Rattle.area_commit.proofs.Course.{data_written, others_rest, done, all_written}
use Rattle.area_commit.proofs.Moments.{rest_loose}
use Rattle.area_commit.proofs.plan_write.write_plan.Goals as goal
use Rattle.area_commit.proofs.plan_write.write_plan.Given.{Over}

pub write_data-requires-clause-apart : goal.write_data-requires-clause-apart
write_data-requires-clause-apart g c = c.requires.plan.2.free.apart

pub write_data-requires-clause-free : goal.write_data-requires-clause-free
write_data-requires-clause-free g c = c.requires.plan.2.free.per_tier

pub write_data-requires-clause-size : goal.write_data-requires-clause-size
write_data-requires-clause-size g c = ap length c.deref.ensures.value ∙ c.requires.plan.2.bytes

pub commit-requires-clause-places : goal.commit-requires-clause-places
commit-requires-clause-places g c = subst (λ (h : Sizes). AreJournaled h c.args.batch.now) (sym c.write_data.ensures.geometry) c.requires.places

pub commit-requires-clause-superblock : goal.commit-requires-clause-superblock
commit-requires-clause-superblock g c = subst (λ (h : Sizes). KeepsGeometry h c.args.batch.now) (sym c.write_data.ensures.geometry) c.requires.superblock

pub returns-in_err-write_data-clause-any_moment : goal.returns-in_err-write_data-clause-any_moment
returns-in_err-write_data-clause-any_moment g c =
    let m = g.M.Media in
    let old = c.args.journal.now in
    let mid = c.write_data.new.journal in
    data_written m g.met.M.Media.sized old.geometry c.args.plan.now old.media mid.media (record { sizes = c.left_now.ensures.sizes c.requires.going; journal = c.left_now.ensures.journal c.requires.going; rest = c.requires.rests }) c.write_data.ensures.any_moment c.write_data.ensures.lengths

module _ (g : Over) (c : goal.After-commit g) where
  loose : IsLooseLeft c.args.journal.now.geometry (disk g.M.Media c.args.journal.now) (g.M.Media.left c.args.journal.now.media (g.M.Media.moment c.args.journal.now.media))
  loose = rest_loose c.args.journal.now.geometry (g.M.Media.seen c.args.journal.now.media) (g.M.Media.left c.args.journal.now.media (g.M.Media.moment c.args.journal.now.media)) c.requires.rests

  -- after the data each tier rests
  rest_mid : (t : Tier) → AtRest (g.M.Media.seen c.write_data.new.journal.media) (g.M.Media.left c.write_data.new.journal.media (g.M.Media.moment c.write_data.new.journal.media)) t
  rest_mid t = elim (cases_lt 0 (length (runs_of c.args.plan.now.taken t))) [
    | inl some ↦ c.in_ok-write_data.ensures.rests t some
    | inr none ↦ c.in_ok-write_data.ensures.keeps_rest t (c.requires.rests t)
  ]

  since : Since Fast (BeforeOrAfter c.args.journal.now.geometry (g.M.Media.left c.write_data.new.journal.media (g.M.Media.moment c.write_data.new.journal.media) Fast) c.args.batch.now (g.M.Media.seen c.write_data.new.journal.media Fast))
      (g.M.Media.moment c.write_data.new.journal.media) (g.M.Media.moment c.commit.new.self.media) (g.M.Media.left c.write_data.new.journal.media) (g.M.Media.left c.commit.new.self.media)
  since =
      let m = g.M.Media in
      let mid = c.write_data.new.journal in
      let new = c.commit.new.self in
      subst (λ (h : Sizes). Since Fast (BeforeOrAfter h (m.left mid.media (m.moment mid.media) Fast) c.args.batch.now (m.seen mid.media Fast)) (m.moment mid.media) (m.moment new.media) (m.left mid.media) (m.left new.media))
      c.write_data.ensures.geometry (c.commit.ensures.any_moment c.in_ok-write_data.ensures.going.1)

pub returns-clause-any_moment : goal.returns-clause-any_moment
returns-clause-any_moment g c =
    let m = g.M.Media in
    let old = c.args.journal.now in
    let mid = c.write_data.new.journal in
    let new = c.commit.new.self in
    let plan = c.requires.plan in
    all_written m g.met.M.Media.sized old.geometry c.args.plan.now old.media mid.media (record { sizes = c.left_now.ensures.sizes c.requires.going; journal = c.left_now.ensures.journal c.requires.going; rest = c.requires.rests }) c.write_data.ensures.any_moment c.write_data.ensures.lengths
    new.media c.args.batch.now (since g c) (rest_mid g c) plan.0 plan.1 plan.2 c.requires.batch (c.write_data.ensures.seen (loose g c)) (subst (λ (bytes : List ℕ). HoldData (disk m mid) (taken_data c.args.plan.now.taken) bytes) c.deref.ensures.value c.in_ok-write_data.ensures.written) c.batch_is_put.ensures c.commit.ensures.lengths

pub returns-clause-done : goal.returns-clause-done
returns-clause-done g c =
    let m = g.M.Media in
    let old = c.args.journal.now in
    let mid = c.write_data.new.journal in
    let new = c.commit.new.self in
    let plan = c.requires.plan in
    on_ok_2 c.commit.result
    (done m g.met.M.Media.sized old.geometry c.args.plan.now old.media mid.media (record { sizes = c.left_now.ensures.sizes c.requires.going; journal = c.left_now.ensures.journal c.requires.going; rest = c.requires.rests }) c.write_data.ensures.any_moment c.write_data.ensures.lengths
    new.media c.args.batch.now (since g c) (rest_mid g c) plan.0 plan.1 plan.2 c.requires.batch (c.write_data.ensures.seen (loose g c)) (subst (λ (bytes : List ℕ). HoldData (disk m mid) (taken_data c.args.plan.now.taken) bytes) c.deref.ensures.value c.in_ok-write_data.ensures.written) c.batch_is_put.ensures)
    c.commit.ensures.after c.commit.ensures.others

pub returns-clause-rests : goal.returns-clause-rests
returns-clause-rests g c =
    let m = g.M.Media in
    let old = c.args.journal.now in
    let mid = c.write_data.new.journal in
    let new = c.commit.new.self in
    on_ok_2 c.commit.result (λ (durable : 0 < length c.args.batch.now → AtRest (m.seen new.media) (m.left new.media (m.moment new.media)) Fast) (others : (t : Tier) → t ≢ Fast → m.seen new.media t ≡ m.seen mid.media t) (t : Tier). elim (which t) [
      | inr other ↦ others_rest m g.met.M.Media.sized old.geometry c.args.plan.now old.media mid.media (record { sizes = c.left_now.ensures.sizes c.requires.going; journal = c.left_now.ensures.journal c.requires.going; rest = c.requires.rests }) c.write_data.ensures.any_moment c.write_data.ensures.lengths
          new.media c.args.batch.now (since g c) (rest_mid g c) others t other
      | inl fast ↦ subst (λ (u : Tier). AtRest (m.seen new.media) (m.left new.media (m.moment new.media)) u) (sym fast) (elim (cases_lt 0 (length c.args.batch.now)) [
        | inl some ↦ durable some
        | inr none ↦ subst (λ (v : JournalView _). AtRest (m.seen v.media) (m.left v.media (m.moment v.media)) Fast) (sym (c.commit.ensures.none (omega (arith, none)))) (rest_mid g c Fast)
      ])
    ]) c.commit.ensures.durable c.commit.ensures.others

pub returns-clause-turn : goal.returns-clause-turn
returns-clause-turn g c =
    let m = g.M.Media in
    let old = c.args.journal.now.media in
    let mid = c.write_data.new.journal.media in
    let new = c.commit.new.self.media in
    let taken = c.args.plan.now.taken in
    let all = c.in_ok-write_data.ensures.calls in
    turn_then taken.fast.items taken.block.items taken.slow.items (m.moment old) (m.moment mid) (m.moment new) (m.left old) (m.left mid) (m.left new) (m.seen mid) (omega (arith, all))
    (c.in_ok-write_data.ensures.rests Fast) (c.in_ok-write_data.ensures.rests Block) (since g c).past c.write_data.ensures.turn
