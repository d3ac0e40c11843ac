use Rattle.std.proofs.Common.{List, sym, subst, arith}
use Rattle.tier_device.specs.declared.media.Tier.TheVariants.{Fast, Block, Slow}
use Rattle.area_reader.specs.layout.Places.{data_first, tier_blocks}
use Rattle.block_alloc.specs.declared.runs.Run.{Run}
use Rattle.block_alloc.specs.Runs.{AreNormalRuns}
use Rattle.area_reader.specs.Store.{disk}
use Rattle.area_commit.specs.DataWrite.{AreFreeIn, StaysLoose, GoesInTurn}
use Rattle.area_commit.proofs.Courses.{loose_start, loose_seen, loose_after}
use Rattle.area_commit.proofs.Turns.{no_turn}
use Rattle.area_commit.proofs.data_write.write_data.Given.{Over}
use Rattle.area_commit.proofs.data_write.write_data.Goals as goal

pub flush_runs-requires-clause-fast : goal.flush_runs-requires-clause-fast
flush_runs-requires-clause-fast g c = let h = c.args.journal.now.geometry in subst (λ (runs : List Run). AreNormalRuns (data_first h Fast) (tier_blocks h Fast) runs) (sym c.deref.ensures.value) (c.requires.apart Fast)

pub flush_runs-requires-clause-block : goal.flush_runs-requires-clause-block
flush_runs-requires-clause-block g c = let h = c.args.journal.now.geometry in subst (λ (runs : List Run). AreNormalRuns (data_first h Block) (tier_blocks h Block) runs) (sym c.deref-2.ensures.value) (c.requires.apart Block)

pub flush_runs-requires-clause-slow : goal.flush_runs-requires-clause-slow
flush_runs-requires-clause-slow g c = let h = c.args.journal.now.geometry in subst (λ (runs : List Run). AreNormalRuns (data_first h Slow) (tier_blocks h Slow) runs) (sym c.deref-3.ensures.value) (c.requires.apart Slow)

pub returns-then-has_failed-clause-any_moment : goal.returns-then-has_failed-clause-any_moment
returns-then-has_failed-clause-any_moment g c =
    let m = g.M.Media in
    let old = c.args.journal.now in
    loose_start old.geometry (disk m old) (m.moment old.media) (m.left old.media)

module _ (g : Over) (c : goal.After-flush_runs g) where
  course : StaysLoose c.args.journal.now.geometry (disk g.M.Media c.args.journal.now) (g.M.Media.moment c.args.journal.now.media) (g.M.Media.moment c.flush_runs.new.journal.media) (g.M.Media.left c.args.journal.now.media) (g.M.Media.left c.flush_runs.new.journal.media)
  course =
      let m = g.M.Media in
      let old = c.args.journal.now in
      let s = disk m old in
      c.flush_runs.ensures.loose s
      (subst (λ (runs : List Run). AreFreeIn old.geometry s Fast runs) (sym c.deref.ensures.value) (c.requires.free Fast))
      (subst (λ (runs : List Run). AreFreeIn old.geometry s Block runs) (sym c.deref-2.ensures.value) (c.requires.free Block))
      (subst (λ (runs : List Run). AreFreeIn old.geometry s Slow runs) (sym c.deref-3.ensures.value) (c.requires.free Slow))

pub returns-clause-any_moment : goal.returns-clause-any_moment
returns-clause-any_moment g c = course g c

pub returns-clause-seen : goal.returns-clause-seen
returns-clause-seen g c loose =
    let m = g.M.Media in
    let old = c.args.journal.now in
    let new = c.flush_runs.new.journal in
    loose_seen old.geometry (disk m old) (m.moment old.media) (m.moment new.media) (m.left old.media) (m.left new.media) (m.seen new.media) (g.met.M.Media.seen_now new.media) (course g c) loose

pub returns-clause-left_after : goal.returns-clause-left_after
returns-clause-left_after g c loose =
    let m = g.M.Media in
    let old = c.args.journal.now in
    let new = c.flush_runs.new.journal in
    loose_after old.geometry (disk m old) (m.moment old.media) (m.moment new.media) (m.left old.media) (m.left new.media) (m.seen new.media) (g.met.M.Media.seen_now new.media) (course g c) loose

pub returns-then-has_failed-clause-turn : goal.returns-then-has_failed-clause-turn
returns-then-has_failed-clause-turn g c =
    let m = g.M.Media in
    let old = c.args.journal.now.media in
    let taken = c.args.taken.now in
    no_turn taken.fast.items taken.block.items taken.slow.items (m.moment old) (m.moment old) (m.left old) (m.left old) (omega arith) (λ n t x le l. l)

pub returns-clause-turn : goal.returns-clause-turn
returns-clause-turn g c =
    let m = g.M.Media in
    let old = c.args.journal.now.media in
    let new = c.flush_runs.new.journal.media in
    let taken = c.args.taken.now in
    let Goes : List Run → List Run → List Run → Type 0 = λ fast block slow. GoesInTurn fast block slow (m.moment old) (m.moment new) (m.left old) (m.left new) in
    subst (λ (fast : List Run). Goes fast taken.block.items taken.slow.items) c.deref.ensures.value (
    subst (λ (block : List Run). Goes c.deref.result.now block taken.slow.items) c.deref-2.ensures.value (
    subst (λ (slow : List Run). Goes c.deref.result.now c.deref-2.result.now slow) c.deref-3.ensures.value c.flush_runs.ensures.turn))
