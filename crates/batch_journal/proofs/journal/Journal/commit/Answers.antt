use Rattle.std.proofs.Common.{◌≡◌, ℕ, List, length, sym, ◌∙◌, ap, subst, arith}
use Rattle.layout.specs.Places.{Sizes}
use Rattle.tier_device.specs.declared.media.Tier.TheVariants.{Fast}
use Rattle.batch_journal.specs.Images.{images_of, next_of}
use Rattle.batch_journal.specs.Blocks.{home, AreJournaled}
use Rattle.batch_journal.specs.Volume.{IsHead, KeepsGeometry}
use Rattle.batch_journal.specs.Course.{Since, BeforeOrAfter}
use Rattle.batch_journal.specs.View.{JournalView}
use Rattle.batch_journal.proofs.Courses.{no_call, weaker}
use Rattle.batch_journal.proofs.Kept.{shows_after}
use Rattle.batch_journal.proofs.Meaning.{after_none}
use Rattle.batch_journal.proofs.Openings.{fits_here}
use Rattle.batch_journal.proofs.Views.{batch_head, committed, still_before, shut_after}
use Rattle.batch_journal.proofs.journal.Journal.commit.Goals as goal

pub returns-then-count-gt-MAX_IMAGES-clause-any_moment : goal.returns-then-count-gt-MAX_IMAGES-clause-any_moment
returns-then-count-gt-MAX_IMAGES-clause-any_moment g c going =
    let m = g.M.Media in
    let s = c.self.inside in
    let left : List ℕ → Type 0 = λ x. m.left s.media (m.moment s.media) Fast x in
    subst (λ (v : JournalView _). Since Fast (BeforeOrAfter v.geometry (λ x. m.left v.media (m.moment v.media) Fast x) c.args.batch.now (m.seen v.media Fast)) (m.moment v.media) (m.moment v.media) (m.left v.media) (m.left v.media)) c.self.view_is
    (weaker (no_call Fast (m.moment s.media) (m.left s.media)) (still_before s.geometry (m.seen s.media) left (c.self.invariant c.if-self.false).shut (g.met.M.Media.seen_now s.media Fast) c.args.batch.now))

pub returns-then-count-eq0-clause-any_moment : goal.returns-then-count-eq0-clause-any_moment
returns-then-count-eq0-clause-any_moment g c going =
    let m = g.M.Media in
    let s = c.self.inside in
    let left : List ℕ → Type 0 = λ x. m.left s.media (m.moment s.media) Fast x in
    subst (λ (v : JournalView _). Since Fast (BeforeOrAfter v.geometry (λ x. m.left v.media (m.moment v.media) Fast x) c.args.batch.now (m.seen v.media Fast)) (m.moment v.media) (m.moment v.media) (m.left v.media) (m.left v.media)) c.self.view_is
    (weaker (no_call Fast (m.moment s.media) (m.left s.media)) (still_before s.geometry (m.seen s.media) left (c.self.invariant c.if-self.false).shut (g.met.M.Media.seen_now s.media Fast) c.args.batch.now))

pub returns-then-count-eq0-clause-after : goal.returns-then-count-eq0-clause-after
returns-then-count-eq0-clause-after g c =
    after_none c.args.batch.now (g.M.Media.seen c.args.self.now.media Fast) (sym c.len-count.ensures ∙ c.if-count-eq0.true)

pub write_batch-requires-clause-fit : goal.write_batch-requires-clause-fit
write_batch-requires-clause-fit g c =
    let m = g.M.Media in
    let s = c.self.inside in
    let left : List ℕ → Type 0 = λ x. m.left s.media (m.moment s.media) Fast x in
    let shut = (c.self.invariant c.if-self.false).shut in
    let now = g.met.M.Media.seen_now s.media Fast in
    let bytes = c.as_bytes-bytes.result.now in
    let geometry : c.args.self.now.geometry ≡ s.geometry = sym (ap (λ (v : JournalView _). v.geometry) c.self.view_is) in
    let images : c.args.batch.now ≡ images_of bytes = sym c.as_bytes-bytes.ensures.images in
    let places = subst (λ (h : Sizes). AreJournaled h (images_of bytes)) geometry (subst (λ (is : List (ℕ × List ℕ)). AreJournaled c.args.self.now.geometry is) images c.requires.places) in
    let head : IsHead s.geometry bytes = batch_head s.geometry (length c.args.batch.now) (next_of c.args.batch.now) bytes c.as_bytes-bytes.ensures.head
    (omega (arith, c.len-count.ensures, c.if-count-eq0.false)) (omega (arith, c.len-count.ensures, c.if-count-gt-MAX_IMAGES.false)) places in
    fits_here s.geometry (m.seen s.media Fast) bytes (shut.sizes Fast) head

pub write_batch-requires-clause-closed : goal.write_batch-requires-clause-closed
write_batch-requires-clause-closed g c = (c.self.invariant c.if-self.false).shut.closed

pub invariant_of-self : goal.invariant_of-self
invariant_of-self g c going =
    let m = g.M.Media in
    let s = c.self.inside in
    let left : List ℕ → Type 0 = λ x. m.left s.media (m.moment s.media) Fast x in
    let shut = (c.self.invariant c.if-self.false).shut in
    let now = g.met.M.Media.seen_now s.media Fast in
    let bytes = c.as_bytes-bytes.result.now in
    let geometry : c.args.self.now.geometry ≡ s.geometry = sym (ap (λ (v : JournalView _). v.geometry) c.self.view_is) in
    let images : c.args.batch.now ≡ images_of bytes = sym c.as_bytes-bytes.ensures.images in
    let places = subst (λ (h : Sizes). AreJournaled h (images_of bytes)) geometry (subst (λ (is : List (ℕ × List ℕ)). AreJournaled c.args.self.now.geometry is) images c.requires.places) in
    let head : IsHead s.geometry bytes = batch_head s.geometry (length c.args.batch.now) (next_of c.args.batch.now) bytes c.as_bytes-bytes.ensures.head
    (omega (arith, c.len-count.ensures, c.if-count-eq0.false)) (omega (arith, c.len-count.ensures, c.if-count-gt-MAX_IMAGES.false)) places in
    let keeps = subst (λ (h : Sizes). KeepsGeometry h (images_of bytes)) geometry (subst (λ (is : List (ℕ × List ℕ)). KeepsGeometry c.args.self.now.geometry is) images c.requires.superblock) in
    let left' : List ℕ → Type 0 = λ x. m.left c.write_batch.new.media (m.moment c.write_batch.new.media) Fast x in
    record {
      shut = shut_after s.geometry (m.seen s.media) left shut now bytes (m.seen c.write_batch.new.media) left' head keeps c.write_batch.ensures.lengths c.in-Ok.ensures.after c.in-Ok.ensures.closed c.in-Ok.ensures.rest;
      kept = shows_after s.geometry (images_of bytes) (m.seen c.write_batch.new.media Fast) (m.seen s.media Fast) c.keep_images.new.self.places.items c.in-Ok.ensures.after.blocks
          (c.keep_images.ensures s.geometry (home (m.seen s.media Fast)) (c.self.invariant c.if-self.false).kept);
    }

pub returns-in-Ok-clause-any_moment : goal.returns-in-Ok-clause-any_moment
returns-in-Ok-clause-any_moment g c going =
    let m = g.M.Media in
    let s = c.self.inside in
    let left : List ℕ → Type 0 = λ x. m.left s.media (m.moment s.media) Fast x in
    let shut = (c.self.invariant c.if-self.false).shut in
    let now = g.met.M.Media.seen_now s.media Fast in
    let bytes = c.as_bytes-bytes.result.now in
    let geometry : c.args.self.now.geometry ≡ s.geometry = sym (ap (λ (v : JournalView _). v.geometry) c.self.view_is) in
    let images : c.args.batch.now ≡ images_of bytes = sym c.as_bytes-bytes.ensures.images in
    let places = subst (λ (h : Sizes). AreJournaled h (images_of bytes)) geometry (subst (λ (is : List (ℕ × List ℕ)). AreJournaled c.args.self.now.geometry is) images c.requires.places) in
    let head : IsHead s.geometry bytes = batch_head s.geometry (length c.args.batch.now) (next_of c.args.batch.now) bytes c.as_bytes-bytes.ensures.head
    (omega (arith, c.len-count.ensures, c.if-count-eq0.false)) (omega (arith, c.len-count.ensures, c.if-count-gt-MAX_IMAGES.false)) places in
    let keeps = subst (λ (h : Sizes). KeepsGeometry h (images_of bytes)) geometry (subst (λ (is : List (ℕ × List ℕ)). KeepsGeometry c.args.self.now.geometry is) images c.requires.superblock) in
    let new = c.write_batch.new.media in
    let course : Since Fast (BeforeOrAfter s.geometry left (images_of bytes) (m.seen s.media Fast)) (m.moment s.media) (m.moment new) (m.left s.media) (m.left new) =
    weaker c.write_batch.ensures.course (λ x from. committed s.geometry (m.seen s.media) left shut now bytes x head keeps from) in
    let named = subst (λ (is : List (ℕ × List ℕ)). Since Fast (BeforeOrAfter s.geometry left is (m.seen s.media Fast)) (m.moment s.media) (m.moment new) (m.left s.media) (m.left new)) c.as_bytes-bytes.ensures.images course in
    subst (λ (v : JournalView _). Since Fast (BeforeOrAfter v.geometry (λ x. m.left v.media (m.moment v.media) Fast x) c.args.batch.now (m.seen v.media Fast)) (m.moment v.media) (m.moment new) (m.left v.media) (m.left new)) c.self.view_is named

pub returns-in-Err-clause-any_moment : goal.returns-in-Err-clause-any_moment
returns-in-Err-clause-any_moment g c going =
    let m = g.M.Media in
    let s = c.self.inside in
    let left : List ℕ → Type 0 = λ x. m.left s.media (m.moment s.media) Fast x in
    let shut = (c.self.invariant c.if-self.false).shut in
    let now = g.met.M.Media.seen_now s.media Fast in
    let bytes = c.as_bytes-bytes.result.now in
    let geometry : c.args.self.now.geometry ≡ s.geometry = sym (ap (λ (v : JournalView _). v.geometry) c.self.view_is) in
    let images : c.args.batch.now ≡ images_of bytes = sym c.as_bytes-bytes.ensures.images in
    let places = subst (λ (h : Sizes). AreJournaled h (images_of bytes)) geometry (subst (λ (is : List (ℕ × List ℕ)). AreJournaled c.args.self.now.geometry is) images c.requires.places) in
    let head : IsHead s.geometry bytes = batch_head s.geometry (length c.args.batch.now) (next_of c.args.batch.now) bytes c.as_bytes-bytes.ensures.head
    (omega (arith, c.len-count.ensures, c.if-count-eq0.false)) (omega (arith, c.len-count.ensures, c.if-count-gt-MAX_IMAGES.false)) places in
    let keeps = subst (λ (h : Sizes). KeepsGeometry h (images_of bytes)) geometry (subst (λ (is : List (ℕ × List ℕ)). KeepsGeometry c.args.self.now.geometry is) images c.requires.superblock) in
    let new = c.write_batch.new.media in
    let course : Since Fast (BeforeOrAfter s.geometry left (images_of bytes) (m.seen s.media Fast)) (m.moment s.media) (m.moment new) (m.left s.media) (m.left new) =
    weaker c.write_batch.ensures.course (λ x from. committed s.geometry (m.seen s.media) left shut now bytes x head keeps from) in
    let named = subst (λ (is : List (ℕ × List ℕ)). Since Fast (BeforeOrAfter s.geometry left is (m.seen s.media Fast)) (m.moment s.media) (m.moment new) (m.left s.media) (m.left new)) c.as_bytes-bytes.ensures.images course in
    subst (λ (v : JournalView _). Since Fast (BeforeOrAfter v.geometry (λ x. m.left v.media (m.moment v.media) Fast x) c.args.batch.now (m.seen v.media Fast)) (m.moment v.media) (m.moment new) (m.left v.media) (m.left new)) c.self.view_is named
