-- What is in memory stays true of media that are only read.
use Rattle.std.proofs.Common.{◌≡◌, ◌≤◌, ◌*◌, ◌∙◌, ℕ, List, length, false, sym, ap, subst, inl, inr}
use Rattle.std.specs.Prelude.{Result, Some}
use Rattle.std.proofs.lemmas.Bool.{cases_Bool, true≢false}
use Rattle.tier_device.specs.declared.media.Media.{Ghosts}
use Rattle.tier_device.specs.declared.media.Tier.{Tier}
use Rattle.tier_device.specs.declared.media.Tier.TheVariants.{Fast}
use Rattle.record_validation.specs.file_graph.Graph.{Graph}
use Rattle.record_validation.specs.file_graph.Units.{charge}
use Rattle.area_reader.specs.layout.declared.marks.Marks.{Marks}
use Rattle.area_reader.specs.layout.Places.{Sizes, tier_blocks}
use Rattle.area_reader.specs.batch_journal.View.{JournalView}
use Rattle.area_reader.specs.batch_journal.Volume.{IsJournal}
use Rattle.area_reader.proofs.batch_journal_lemmas.Courses.{left_before}
use Rattle.area_reader.specs.declared.error.AreaError.{AreaError}
use Rattle.area_reader.specs.Store.{Store, disk, store_of, content_blocks, graph, marks}
use Rattle.area_reader.specs.Format.{IsOpenable}
use Rattle.area_reader.specs.Looks.{Looks}
use Rattle.area_reader.specs.Reads.{Loose}
use Rattle.area_reader.proofs.Looked.{carried}
use Rattle.area_reader.proofs.Frames.{loose_graph, loose_marks, loose_spelled}
use Rattle.area_reader.proofs.Torn.{loose_whole}
use Rattle.change_plan.specs.area_commit.Value.{PoolsView, HasRanges, AreFree}
use Rattle.shared_area.specs.Ready.{IsReady, OpensAs}

module _ {M : Type 0} (device : Ghosts M) where
  -- no device has failed before a call behind which none has
  was_going : {T : Type 0} (old new : JournalView M) (r : Result T AreaError) → Looks device old new r → new.failed ≡ false → old.failed ≡ false
  was_going old new r looks going = elim (cases_Bool old.failed) [
    | inl was ↦ absurd (true≢false (sym was ∙ sym (ap (λ (v : JournalView M). v.failed) (looks.stays_failed was).1) ∙ going))
    | inr still ↦ still
  ]

  pub still_ready : {T : Type 0} (old new : JournalView M) (r : Result T AreaError) → Looks device old new r → (pools : PoolsView) (told : Marks) (units : ℕ)
      → (old.failed ≡ false → IsReady old.geometry (device.seen old.media) (device.left old.media (device.moment old.media)) pools told units)
      → new.failed ≡ false → IsReady new.geometry (device.seen new.media) (device.left new.media (device.moment new.media)) pools told units
  still_ready old new r looks pools told units before going =
      let ready = before (was_going old new r looks going) in
      let on : (P : Sizes → Store → Type 0) → P old.geometry (disk device old) → P new.geometry (disk device new) = λ P p. carried device P old new r looks p in
      record {
        opens = on IsOpenable ready.opens;
        rests = λ t x l. ready.rests t x (left_before looks.unmoved t x l) ∙ sym (looks.unmoved.reads t);
        ranges = on (λ g s. HasRanges g pools) ready.ranges;
        free = on (λ g s. AreFree g s pools) ready.free;
        marked = on (λ g s. marks s ≡ Some told) ready.marked;
        charged = on (λ g s. units ≡ charge (graph g s)) ready.charged;
      }

-- a store that differs in free blocks alone keeps the units
pub keeps_opens : (g : Sizes) (s x : Store) → IsOpenable g s → Loose g s x → IsOpenable g x
keeps_opens g s x opens loose = record {
  spelled = loose_spelled g s x loose opens.spelled;
  units = subst (λ (h : Graph). charge h ≤ g.units) (sym (loose_graph g s x loose)) opens.units;
}

-- what a stop may leave now
pub left_loose : (g : Sizes) (seen : Tier → List ℕ) (may_leave : Tier → List ℕ → Type 0) (pools : PoolsView) (told : Marks) (units : ℕ) → IsReady g seen may_leave pools told units → (content : Tier → List ℕ) → ((t : Tier) → may_leave t (content t)) → Loose g (store_of seen) (store_of content)
left_loose g seen may_leave pools told units ready content l = loose_whole g (store_of seen) content (λ t k used. ap (λ d. content_blocks t d k) (ready.rests t (content t) (l t)))

pub left_opens : (g : Sizes) (seen : Tier → List ℕ) (may_leave : Tier → List ℕ → Type 0) (pools : PoolsView) (told : Marks) (units : ℕ) → IsReady g seen may_leave pools told units → (content : Tier → List ℕ) → ((t : Tier) → may_leave t (content t))
    → ((t : Tier) → length (content t) ≡ 4096 * tier_blocks g t) → IsJournal g (content Fast) → OpensAs g (store_of seen) content
left_opens g seen may_leave pools told units ready content l sizes journal =
    let loose = left_loose g seen may_leave pools told units ready content l in
    record {
      volume = record { sizes = sizes; journal = journal };
      opens = keeps_opens g (store_of seen) (store_of content) ready.opens loose;
      same_graph = loose_graph g (store_of seen) (store_of content) loose;
      same_marks = loose_marks g (store_of seen) (store_of content) loose;
    }
