-- What is kept of blocks while they are read and written.
use Rattle.std.proofs.Common.{inl, inr, ◌≡◌, ◌≢◌, ◌<◌, ◌≤◌, ◌+◌, ◌-◌, ◌*◌, ℕ, suc, List, ◌∷◌, Some, cond, true, false, refl, sym, ◌∙◌, ap, subst, arith}
use Rattle.std.proofs.lemmas.Bool.Decides.{eqb_tells}
use Rattle.layout.specs.Places.{Sizes, is_journaled, node_end, data_first}
use Rattle.tier_device.specs.declared.media.Tier.{Tier}
use Rattle.tier_device.specs.declared.media.Tier.TheVariants as tiers
use Rattle.tier_device.specs.declared.media.Tier.TheVariants.{Fast}
use Rattle.batch_journal.specs.declared.kept_blocks.KeptBlock.{KeptBlock}
use Rattle.batch_journal.specs.Images.{slice, target_at, image_at, images_from, image_for, or_else, with_images}
use Rattle.batch_journal.specs.Blocks.{Blocks, home, is_home, is_gate_open, after_batch}
use Rattle.batch_journal.specs.Course.{OutsideRun}
use Rattle.batch_journal.specs.Kept.{Shows}
use Rattle.batch_journal.proofs.Images.{journaled_home}
use Rattle.batch_journal.proofs.Meaning.{home_shut, slice_slice, after_home}

-- a part of a block, behind a closed gate
pub part_of_home : (g : Sizes) (c : List ℕ) (k from n : ℕ) → is_journaled g k ≡ true → is_gate_open c ≡ false → from + n ≤ 4096 → slice from n (home c k) ≡ slice (4096 * k + from) n c
part_of_home g c k from n is closed inside = ap (slice from n) (home_shut c k (journaled_home g k is) closed) ∙ slice_slice from n (4096 * k) 4096 c inside

-- a whole one that was read
pub home_read : (c : List ℕ) (k n : ℕ) (bytes : List ℕ) → is_home k ≡ true → is_gate_open c ≡ false → n ≡ 4096 → bytes ≡ slice (4096 * k) n c → home c k ≡ bytes
home_read c k n bytes is closed long read = home_shut c k is closed ∙ sym (read ∙ ap (λ l. slice (4096 * k) l c) long)

-- blocks that hold the same
pub shows_same : (g : Sizes) (old new : Blocks) (places : List KeptBlock) → ((k : ℕ) → is_journaled g k ≡ true → new k ≡ old k) → Shows g old places → Shows g new places
shows_same g old new places same shows p none lt is =
    let kept = shows p none lt is in record { place = kept.place; bytes = kept.bytes ∙ sym (same _ is) }

journaled_before : (g : Sizes) (k : ℕ) → is_journaled g k ≡ true → k < node_end g
journaled_before g k is = grind arith

-- ---- an image more on top of blocks

pub images_down : (bytes : List ℕ) (p q n : ℕ) → p + 1 ≡ q → q ≤ n → images_from bytes p (n - p) ≡ (target_at bytes p, image_at bytes p) ∷ images_from bytes q (n - q)
images_down bytes p q n is le =
    let split : n - p ≡ suc (n - q) = omega (arith, is, le) in
    ap (images_from bytes p) split ∙ ap (λ k. (target_at bytes p, image_at bytes p) ∷ images_from bytes k (n - q)) is

pub on_top : (k : ℕ) (image : List ℕ) (images : List (ℕ × List ℕ)) (blocks : Blocks) → with_images ((k, image) ∷ images) blocks k ≡ image
on_top k image images blocks = elim (eqb_tells k k) [
  | inl same ↦ ap (λ b. or_else (cond b (Some image) (image_for k images)) (blocks k)) same.0
  | inr off ↦ absurd (off.1 refl)
]

pub under_top : (t : ℕ) (image : List ℕ) (images : List (ℕ × List ℕ)) (blocks : Blocks) (k : ℕ) → k ≢ t → with_images ((t, image) ∷ images) blocks k ≡ with_images images blocks k
under_top t image images blocks k other = elim (eqb_tells k t) [
  | inl same ↦ absurd (other same.1)
  | inr off ↦ ap (λ b. or_else (cond b (Some image) (image_for k images)) (blocks k)) off.0
]

-- ---- the calls of a journal

-- after a batch
pub shows_after : (g : Sizes) (images : List (ℕ × List ℕ)) (c d : List ℕ) (places : List KeptBlock) → home c ≡ after_batch images (home d) → Shows g (with_images images (home d)) places → Shows g (home c) places
shows_after g images c d places after shows =
    shows_same g (with_images images (home d)) (home c) places (λ k is. ap (λ (h : Blocks). h k) after ∙ after_home images (home d) k (journaled_home g k is)) shows

-- after data was written
outside_pool : (g : Sizes) (first n : ℕ) (c d : List ℕ) (places : List KeptBlock) → node_end g ≤ first → OutsideRun first n d c → Shows g (home d) places → Shows g (home c) places
outside_pool g first n c d places place outside shows = shows_same g (home d) (home c) places (λ k is. outside k (inl (omega (arith, place, journaled_before g k is)))) shows

pub shows_written : (g : Sizes) (tier : Tier) (first n : ℕ) (old new : Tier → List ℕ) (places : List KeptBlock) → data_first g tier ≤ first → OutsideRun first n (old Fast) (new Fast)
    → ((t : Tier) → t ≢ tier → new t ≡ old t) → Shows g (home (old Fast)) places → Shows g (home (new Fast)) places
shows_written g tiers.Fast first n old new places place outside others shows = outside_pool g first n (new Fast) (old Fast) places place outside shows
shows_written g tiers.Block first n old new places place outside others shows = subst (λ (x : List ℕ). Shows g (home x) places) (sym (others Fast (λ e. cc))) shows
shows_written g tiers.Slow first n old new places place outside others shows = subst (λ (x : List ℕ). Shows g (home x) places) (sym (others Fast (λ e. cc))) shows
