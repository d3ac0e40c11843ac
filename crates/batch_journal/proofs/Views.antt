-- A journal and the calls of it.
use Rattle.std.proofs.Common.{◌≡◌, ◌≢◌, ◌⊎◌, inl, inr, ℕ, ◌+◌, ◌*◌, ◌≤◌, List, length, refl, sym, ◌∙◌, ap, subst, arith, false}
use Rattle.layout.specs.Places.{Sizes, data_first, node_end}
use Rattle.tier_device.specs.declared.media.Tier.{Tier}
use Rattle.tier_device.specs.declared.media.Tier.TheVariants as tiers
use Rattle.tier_device.specs.declared.media.Tier.TheVariants.{Fast}
use Rattle.tier_device.specs.Media.{Torn, overwritten}
use Rattle.tier_device.specs.RecordLaws.{torn_overwritten}
use Rattle.batch_journal.specs.Images.{images_of}
use Rattle.batch_journal.specs.Blocks.{home, is_gate_open, AreJournaled}
use Rattle.batch_journal.specs.Volume.{IsHead, IsJournal, KeepsGeometry, IsAfter}
use Rattle.batch_journal.specs.Course.{Since, SameLengths, TornFrom, SameOrAfter, BeforeOrAfter, OutsideRun, OutsideRunFrom}
use Rattle.batch_journal.specs.View.{IsShut, IsBatch}
use Rattle.batch_journal.proofs.Images.{rises_rising}
use Rattle.batch_journal.proofs.Meaning.{run_home, run_closed, run_journal}

-- a batch that may be committed begins with a head
pub batch_head : (g : Sizes) (n next : ℕ) (bytes : List ℕ) → IsBatch n next bytes → 1 ≤ n → n ≤ 256 → AreJournaled g (images_of bytes) → IsHead g bytes
batch_head g n next bytes is some few are = record {
  some = omega (arith, some, is.counts);
  few = omega (arith, few, is.counts);
  rising = rises_rising g 0 (images_of bytes) is.rises are;
  rest = is.rest;
}

module _ (g : Sizes) (seen : Tier → List ℕ) (left : List ℕ → Type 0) (shut : IsShut g seen left) (now : left (seen Fast)) where
  -- a stop while a batch is committed
  pub committed : (bytes x : List ℕ) → IsHead g bytes → KeepsGeometry g (images_of bytes) → SameOrAfter left bytes (seen Fast) x → BeforeOrAfter g left (images_of bytes) (seen Fast) x
  committed bytes x head keeps (inl same) = record { journal = same.2.journal g (shut.journal same.0 same.1); blocks = inl (same.0, same.1, same.2.blocks) }
  committed bytes x head keeps (inr after) = record { journal = after.journal g (shut.journal (seen Fast) now) head keeps; blocks = inr after.blocks }

  pub still_before : (images : List (ℕ × List ℕ)) (x : List ℕ) → left x → BeforeOrAfter g left images (seen Fast) x
  still_before images x l = record { journal = shut.journal x l; blocks = inl (x, l, refl) }

  -- and after it
  pub shut_after : (bytes : List ℕ) (seen' : Tier → List ℕ) (left' : List ℕ → Type 0) → IsHead g bytes → KeepsGeometry g (images_of bytes) → SameLengths seen seen'
      → IsAfter bytes (seen Fast) (seen' Fast) → is_gate_open (seen' Fast) ≡ false → ((x : List ℕ) → left' x → x ≡ seen' Fast) → IsShut g seen' left'
  shut_after bytes seen' left' head keeps lengths after closed rest = record {
    sizes = λ t. lengths t ∙ shut.sizes t;
    closed = λ x l. subst (λ (s : List ℕ). is_gate_open s ≡ false) (sym (rest x l)) closed;
    journal = λ x l. subst (λ (s : List ℕ). IsJournal g s) (sym (rest x l)) (after.journal g (shut.journal (seen Fast) now) head keeps);
  }

  -- what may be left is no more than before, and reads give the same lengths
  pub shut_still : (seen' : Tier → List ℕ) (left' : List ℕ → Type 0) → SameLengths seen seen' → ((x : List ℕ) → left' x → left x) → IsShut g seen' left'
  shut_still seen' left' lengths fewer = record {
    sizes = λ t. lengths t ∙ shut.sizes t;
    closed = λ x l. shut.closed x (fewer x l);
    journal = λ x l. shut.journal x (fewer x l);
  }

  -- data is torn behind the node pool
  module _ (first n : ℕ) (place : node_end g ≤ first) where
    behind : 292 ≤ first
    behind = omega (arith, place)

    pub run_torn : (x : List ℕ) → TornFrom left (4096 * first) n x → OutsideRunFrom g left first n x
    run_torn x from = record {
      journal = run_journal g first n from.0 x behind (shut.closed from.0 from.1) from.2 (shut.journal from.0 from.1);
      blocks = (from.0, from.1, run_home first n from.0 x behind (shut.closed from.0 from.1) from.2);
    }

    pub run_written : (bytes x : List ℕ) → n ≡ length bytes → 4096 * first + n ≤ length (seen Fast) → x ≡ overwritten (seen Fast) (4096 * first) bytes → OutsideRun first n (seen Fast) x
    run_written bytes x long le is =
        let torn = subst (λ (s : List ℕ). Torn (4096 * first) (length bytes) (seen Fast) s) (sym is) (torn_overwritten (seen Fast) (4096 * first) bytes (omega (arith, le, long))) in
        run_home first n (seen Fast) x behind (shut.closed (seen Fast) now) (subst (λ k. Torn (4096 * first) k (seen Fast) x) (sym long) torn)

  -- no byte of the fast tier is written
  pub run_elsewhere : (first n : ℕ) (x : List ℕ) → left x → OutsideRunFrom g left first n x
  run_elsewhere first n x l = record { journal = shut.journal x l; blocks = (x, l, λ k apart. refl) }

-- which tier it is
pub which : (t : Tier) → (t ≡ Fast) ⊎ (t ≢ Fast)
which tiers.Fast = inl refl
which tiers.Block = inr (λ e. cc)
which tiers.Slow = inr (λ e. cc)

-- a fence leaves no more of the fast tier than might be left before
pub fenced : (tier : Tier) {a b : ℕ} {L M : ℕ → Tier → List ℕ → Type 0} → Since tier (λ x. L a tier x) a b L M → (x : List ℕ) → M b Fast x → L a Fast x
fenced tier {a = a} {b = b} {L = L} {M = M} course x l = elim (which tier) [
  | inl is ↦ let here = subst (λ (t : Tier). Since t (λ y. L a t y) a b L M) is course in here.all b x course.later (omega arith) l
  | inr other ↦ course.others b Fast x (λ e. other (sym e)) course.later (omega arith) l
]

-- of the fast tier a write leaves it torn, or as it might be left before
pub wrote : (tier : Tier) (at n : ℕ) {a b : ℕ} {L M : ℕ → Tier → List ℕ → Type 0} → Since tier (TornFrom (λ x. L a tier x) at n) a b L M → (m : ℕ) (x : List ℕ) → a ≤ m → m ≤ b → M m Fast x
    → ((tier ≡ Fast) × TornFrom (λ y. L a Fast y) at n x) ⊎ L a Fast x
wrote tier at n {a = a} {b = b} {L = L} {M = M} course m x low high l = elim (which tier) [
  | inl is ↦ let here = subst (λ (t : Tier). Since t (TornFrom (λ y. L a t y) at n) a b L M) is course in inl (is, here.all m x low high l)
  | inr other ↦ inr (course.others m Fast x (λ e. other (sym e)) low high l)
]

module _ (g : Sizes) (seen : Tier → List ℕ) (left : List ℕ → Type 0) (shut : IsShut g seen left) (now : left (seen Fast)) (tier : Tier) (first n : ℕ) (place : data_first g tier ≤ first) where
  in_pool : tier ≡ Fast → node_end g ≤ first
  in_pool is = subst (λ (t : Tier). data_first g t ≤ first) is place

  pub wrote_run : (x : List ℕ) → ((tier ≡ Fast) × TornFrom left (4096 * first) n x) ⊎ left x → OutsideRunFrom g left first n x
  wrote_run x (inl torn) = run_torn g seen left shut now first n (in_pool torn.0) x torn.1
  wrote_run x (inr l) = run_elsewhere g seen left shut now first n x l

  wrote_shut : (x : List ℕ) → ((tier ≡ Fast) × TornFrom left (4096 * first) n x) ⊎ left x → is_gate_open x ≡ false
  wrote_shut x (inl torn) = run_closed (4096 * first) n torn.1.0 x (omega (arith, in_pool torn.0)) (shut.closed torn.1.0 torn.1.1) torn.1.2
  wrote_shut x (inr l) = shut.closed x l

  pub shut_wrote : (seen' : Tier → List ℕ) (left' : List ℕ → Type 0) → SameLengths seen seen' → ((x : List ℕ) → left' x → ((tier ≡ Fast) × TornFrom left (4096 * first) n x) ⊎ left x) → IsShut g seen' left'
  shut_wrote seen' left' lengths from = record {
    sizes = λ t. lengths t ∙ shut.sizes t;
    closed = λ x l. wrote_shut x (from x l);
    journal = λ x l. (wrote_run x (from x l)).journal;
  }

  pub wrote_outside : (bytes : List ℕ) (seen' : Tier → List ℕ) → n ≡ length bytes → 4096 * first + n ≤ length (seen tier) → seen' tier ≡ overwritten (seen tier) (4096 * first) bytes → ((t : Tier) → t ≢ tier → seen' t ≡ seen t)
      → OutsideRun first n (seen Fast) (seen' Fast)
  wrote_outside bytes seen' long le is others = elim (which tier) [
    | inl fast ↦ run_written g seen left shut now first n (in_pool fast) bytes (seen' Fast) long (subst (λ (t : Tier). 4096 * first + n ≤ length (seen t)) fast le)
        (subst (λ (t : Tier). seen' t ≡ overwritten (seen t) (4096 * first) bytes) fast is)
    | inr other ↦ λ k apart. ap (λ (s : List ℕ). home s k) (others Fast (λ e. other (sym e)))
  ]
