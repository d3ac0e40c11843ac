-- Writes that are torn in free blocks.
use Rattle.std.proofs.Common.{◌≡◌, ◌≢◌, ◌+◌, ◌*◌, ◌≤◌, ◌<◌, ℕ, List, refl, sym, ap, ◌∙◌, arith, inl, inr, ◌⊎◌}
use Rattle.std.proofs.lemmas.Bool.{cases_lt}
use Rattle.tier_device.specs.declared.media.Tier.{Tier}
use Rattle.tier_device.specs.declared.media.Tier.TheVariants.{Fast, Block, Slow}
use Rattle.tier_device.specs.Media.{Torn}
use Rattle.batch_journal.specs.layout.Places.{Sizes}
use Rattle.batch_journal.specs.Blocks.{Blocks, block_of}
use Rattle.batch_journal.specs.Course.{OutsideRun}
use Rattle.batch_journal.proofs.Bytes.{slice_apart}
use Rattle.area_reader.specs.Store.{Store, store_of, content_blocks, root_of}
use Rattle.area_reader.specs.Reads.{InodeReads, Free, Loose, LooseIn, IsFreeRun}
use Rattle.area_reader.proofs.Frames.{loose_slot, loose_place, loose_free}

-- a block that is not free lies outside a free run
outside : (g : Sizes) (s : Store) (t : Tier) (first size k : ℕ) → IsFreeRun g s t first size → (Free g s t k → ⊥) → (k < first) ⊎ (4096 * first + size ≤ 4096 * k)
outside g s t first size k run taken = elim (cases_lt k first) [
  | inl lt ↦ inl lt
  | inr ge ↦ elim (cases_lt (4096 * k) (4096 * first + size)) [
    | inl inside ↦ absurd (taken (run k ge inside))
    | inr behind ↦ inr behind
  ]
]

block_stays : (first size k : ℕ) (d c : List ℕ) → Torn (4096 * first) size d c → (k < first) ⊎ (4096 * first + size ≤ 4096 * k) → block_of c k ≡ block_of d k
block_stays first size k d c torn (inl lt) = slice_apart (4096 * first) size d c torn (4096 * k) 4096 (inl (omega (arith, lt)))
block_stays first size k d c torn (inr ge) = slice_apart (4096 * first) size d c torn (4096 * k) 4096 (inr (omega (arith, ge)))

pub torn_data : (g : Sizes) (seen : Store) (t : Tier) (first size : ℕ) (d c : List ℕ) → t ≢ Fast → IsFreeRun g seen t first size → LooseIn g seen t (content_blocks t d) → Torn (4096 * first) size d c → LooseIn g seen t (content_blocks t c)
torn_data g seen Fast first size d c other run loose torn = absurd (other refl)
torn_data g seen Block first size d c other run loose torn = λ k taken. block_stays first size k d c torn (outside g seen Block first size k run taken) ∙ loose k taken
torn_data g seen Slow first size d c other run loose torn = λ k taken. block_stays first size k d c torn (outside g seen Slow first size k run taken) ∙ loose k taken

pub torn_fast : (g : Sizes) (seen : Store) (first size : ℕ) (d c : List ℕ) → IsFreeRun g seen Fast first size → LooseIn g seen Fast (content_blocks Fast d) → OutsideRun first size d c → LooseIn g seen Fast (content_blocks Fast c)
torn_fast g seen first size d c run loose stays = λ k taken. stays k (outside g seen Fast first size k run taken) ∙ loose k taken

pub loose_whole : (g : Sizes) (seen : Store) (content : Tier → List ℕ) → ((t : Tier) → LooseIn g seen t (content_blocks t (content t))) → Loose g seen (store_of content)
loose_whole g seen content loose = loose

module _ (g : Sizes) (old new : Store) (loose : Loose g old new) where
  pub loose_left : (t : Tier) (blocks : Blocks) → LooseIn g old t blocks → LooseIn g new t blocks
  loose_left t blocks left = λ k taken. let used = λ (free : Free g old t k). taken (loose_free g old new loose t k free) in left k used ∙ sym (loose t k used)

  reads_back : (i : ℕ) (t : Tier) (k : ℕ) → InodeReads g old i t k → InodeReads g new i t k
  reads_back i t k (inl its) = inl its
  reads_back i t k (inr (inl (u, fast, some, is))) = inr (inl (u, fast, (λ e. some (ap (λ x. root_of x u) (sym (loose_slot g old new loose i)) ∙ e)), is ∙ ap (λ x. root_of x u) (sym (loose_slot g old new loose i))))
  reads_back i t k (inr (inr (j, is))) = inr (inr (j, loose_place g old new loose i t j ∙ is))

  pub free_back : (t : Tier) (k : ℕ) → Free g new t k → Free g old t k
  free_back t k free = record { room = free.room; unread = λ i reads. free.unread i (reads_back i t k reads) }

-- where the blocks of a tier stay, and what comes into use there is in its place
pub loose_over : (g : Sizes) (old new : Store) (t : Tier) (blocks : Blocks) → LooseIn g old t blocks → new t ≡ old t → ((k : ℕ) → (Free g new t k → ⊥) → Free g old t k → ⊥) → LooseIn g new t blocks
loose_over g old new t blocks loose stays kept = λ k taken. loose k (kept k taken) ∙ sym (ap (λ (b : Blocks). b k) stays)
