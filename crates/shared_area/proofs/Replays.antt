-- What is opened, or handed back, is as it was.
use Rattle.std.proofs.Common.{◌≡◌, ◌≢◌, ◌+◌, ◌∙◌, ℕ, List, refl, sym, ap, subst, arith, inl, inr, cond}
use Rattle.std.proofs.lemmas.Bool.{cases_Bool}
use Rattle.tier_device.specs.declared.media.Tier.{Tier}
use Rattle.tier_device.specs.declared.media.Tier.TheVariants.{Fast, Block, Slow}
use Rattle.tier_device.specs.AfterStop.{AtRest}
use Rattle.area_reader.specs.layout.declared.error.What.{What}
use Rattle.area_reader.specs.layout.Places.{Sizes}
use Rattle.area_reader.specs.batch_journal.declared.error.JournalError.{JournalError}
use Rattle.area_reader.specs.batch_journal.declared.error.JournalError.TheVariants as journal
use Rattle.area_reader.specs.batch_journal.Images.{image_count}
use Rattle.area_reader.specs.batch_journal.Blocks.{home, area_of, is_gate_open, opening_calls}
use Rattle.area_reader.specs.batch_journal.Course.{Since, Unmoved}
use Rattle.area_reader.specs.batch_journal.Damage.{OnJournalDamage, AwaitsReplay}
use Rattle.area_reader.specs.batch_journal.Volume.{IsVolume, SameJournal}
use Rattle.area_reader.proofs.batch_journal_lemmas.Courses.{and_then, still, left_before, tiers_same}
use Rattle.area_reader.proofs.batch_journal_lemmas.Openings.{spells_one}
use Rattle.area_reader.specs.declared.error.AreaError.{AreaError}
use Rattle.area_reader.specs.declared.error.AreaError.TheVariants as errors
use Rattle.area_reader.specs.Store.{Store, store_of, content_blocks}
use Rattle.area_reader.specs.Format.{IsOpenable}
use Rattle.area_reader.specs.Damage.{OnDamage}
use Rattle.area_reader.proofs.Parts.{on_damage}
use Rattle.shared_area.specs.AreaOpen.{SpellsNone, IsJournalFault}

-- The medium is as it was at rest, but for the replay of an open journal.
pub record IsReplayed (s s' : Tier → List ℕ) (a b : ℕ) (L M : ℕ → Tier → List ℕ → Type 0) : Type 0 where
  pub course : Since Fast (SameJournal (s Fast)) a b L M
  pub rest : (t : Tier) → AtRest s (L a) t
  pub rests : AtRest s' (M b) Fast
  pub others : (t : Tier) → t ≢ Fast → s' t ≡ s t
  pub blocks : home (s' Fast) ≡ home (s Fast)

-- reads leave at rest what was
pub rest_read : {b c : ℕ} {s s' : Tier → List ℕ} {M N : ℕ → Tier → List ℕ → Type 0} → Unmoved b c s s' M N → ((t : Tier) → AtRest s (M b) t) → (t : Tier) → AtRest s' (N c) t
rest_read un rest t x l = rest t x (left_before un t x l) ∙ sym (un.reads t)

module _ (s s' : Tier → List ℕ) (a b : ℕ) (L M : ℕ → Tier → List ℕ → Type 0) (is : IsReplayed s s' a b L M) where
  tier_store : (t : Tier) → store_of s' t ≡ store_of s t
  tier_store Fast = is.blocks
  tier_store Block = ap (content_blocks Block) (is.others Block (λ e. cc))
  tier_store Slow = ap (content_blocks Slow) (is.others Slow (λ e. cc))

  pub same_store : store_of s' ≡ store_of s
  same_store = λ p t. tier_store t p

  other_rest : (t : Tier) → t ≢ Fast → AtRest s' (M b) t
  other_rest t other x l = is.rest t x (is.course.others b t x other is.course.later (omega arith) l) ∙ sym (is.others t other)

  pub rest_after : (t : Tier) → AtRest s' (M b) t
  rest_after Fast = is.rests
  rest_after Block = other_rest Block (λ e. cc)
  rest_after Slow = other_rest Slow (λ e. cc)

  -- no call was made where no journal was open
  no_calls : (g : Sizes) → IsVolume g s → b ≡ a + opening_calls (s Fast) → (AwaitsReplay s → ⊥) → b ≡ a
  no_calls g volume calls none = elim (cases_Bool (is_gate_open (s Fast))) [
    | inl opened ↦ absurd (none (opened, (g, volume)))
    | inr closed ↦ let zero : opening_calls (s Fast) ≡ 0 = ap (λ o. cond o (image_count (area_of (s Fast)) + 3) 0) closed in omega (arith, calls, zero)
  ]

  pub untouched : M b Fast (s' Fast) → (g : Sizes) → IsVolume g s → b ≡ a + opening_calls (s Fast) → (AwaitsReplay s → ⊥) → Unmoved a b s s' L M
  untouched now g volume calls none =
      let clock = no_calls g volume calls none in
      record { clock = clock; reads = by_tier clock; past = is.course.past; kept = is.course.kept }
    where
      by_tier : b ≡ a → (t : Tier) → s' t ≡ s t
      by_tier clock Fast = is.rest Fast (s' Fast) (is.course.past a Fast (s' Fast) (omega arith) (subst (λ (k : ℕ). M k Fast (s' Fast)) clock now))
      by_tier clock Block = is.others Block (λ e. cc)
      by_tier clock Slow = is.others Slow (λ e. cc)

  -- and then it is read
  module _ (s'' : Tier → List ℕ) (c : ℕ) (N : ℕ → Tier → List ℕ → Type 0) (un : Unmoved b c s' s'' M N) where
    pub course_read : Since Fast (SameJournal (s Fast)) a c L N
    course_read = and_then is.course (still Fast un (λ x l. is.course.all b x is.course.later (omega arith) l)) (λ x p. p) (λ x p. p)

    pub store_read : store_of s'' ≡ store_of s
    store_read = ap store_of (tiers_same s' s'' un.reads) ∙ same_store

-- media of one geometry that spell no graph by it
pub spells_none : (g : Sizes) (s : Tier → List ℕ) (x : Store) (e : AreaError) → IsVolume g s → x ≡ store_of s → OnDamage e (λ _ _. IsOpenable g x → ⊥) → OnDamage e (λ _ _. SpellsNone s)
spells_none g s x e volume same none = on_damage e (λ w block not h other opens.
    let geometry : h ≡ g = spells_one h g (home (s Fast) 0) other.journal.superblock volume.journal.superblock in
    not (subst (IsOpenable g) (sym same) (subst (λ (i : Sizes). IsOpenable i (store_of s)) geometry opens))) none

-- ---- what the journal was refused for

pub told_damage : (j : JournalError) (e : AreaError) {P Q : What → ℕ → Type 0} → IsJournalFault j e → ((w : What) (block : ℕ) → P w block → Q w block) → OnJournalDamage j P → OnDamage e Q
told_damage journal.DeviceFault e {Q = Q} is f p = subst (λ (x : AreaError). OnDamage x Q) (sym is) tt
told_damage journal.BatchTooLarge e is f p = absurd is
told_damage (journal.Damaged w block) e {Q = Q} is f p = subst (λ (x : AreaError). OnDamage x Q) (sym is) (f w block p)
told_damage journal.Memory e {Q = Q} is f p = subst (λ (x : AreaError). OnDamage x Q) (sym is) tt

pub told_fault : (j : JournalError) (e : AreaError) → IsJournalFault j e → e ≡ errors.DeviceFault → j ≡ journal.DeviceFault
told_fault journal.DeviceFault e is fault = refl
told_fault journal.BatchTooLarge e is fault = absurd is
told_fault (journal.Damaged w block) e is fault = cc
told_fault journal.Memory e is fault = cc

pub told_other : (j : JournalError) (e : AreaError) → IsJournalFault j e → e ≢ errors.DeviceFault → j ≢ journal.DeviceFault
told_other journal.DeviceFault e is other fault = other is
told_other journal.BatchTooLarge e is other fault = is
told_other (journal.Damaged w block) e is other fault = cc
told_other journal.Memory e is other fault = cc

pub told_memory : (j : JournalError) (e : AreaError) → IsJournalFault j e → e ≡ errors.Memory → j ≡ journal.Memory
told_memory journal.DeviceFault e is memory = cc
told_memory journal.BatchTooLarge e is memory = absurd is
told_memory (journal.Damaged w block) e is memory = cc
told_memory journal.Memory e is memory = refl
