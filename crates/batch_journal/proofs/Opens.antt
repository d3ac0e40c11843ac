-- How a medium is opened, step by step.
use Rattle.std.proofs.Common.{◌≡◌, ◌≢◌, ◌⊎◌, inl, inr, Bool, ℕ, zero, suc, ◌+◌, ◌-◌, ◌*◌, ◌≤◌, ◌<◌, List, length, drop, refl, sym, ◌∙◌, ap, subst, arith, true, false, cond, ◌==◌, Result, Ok, Err, IfOk, IfErr}
use Rattle.std.proofs.lemmas.Bool.{false≢true, cases_Bool}
use Rattle.byteorder.specs.Endian.{little_number}
use Rattle.tier_device.specs.declared.media.Tier.{Tier}
use Rattle.tier_device.specs.declared.media.Tier.TheVariants.{Fast}
use Rattle.tier_device.specs.Media.{Rose}
use Rattle.tier_device.specs.AfterStop.{AtRest}
use Rattle.layout.specs.Places.{Sizes, is_journaled}
use Rattle.layout.specs.Bytes.{are_zero}
use Rattle.layout.specs.declared.error.What.{What}
use Rattle.layout.specs.declared.error.What.TheVariants as what
use Rattle.batch_journal.specs.declared.error.JournalError.{JournalError}
use Rattle.batch_journal.specs.declared.error.JournalError.TheVariants as errors
use Rattle.batch_journal.specs.Images.{slice, image_count, target_at, image_at, images_of, images_from, rest_of_head, Rises}
use Rattle.batch_journal.specs.Blocks.{home, area_of, block_of, is_gate_open, IsShutGate, rest_of_gate, opening_calls, Fit, RisesJournaled}
use Rattle.batch_journal.specs.Volume.{Spells, HasSizes, IsHead, IsVolume, SameJournal}
use Rattle.batch_journal.specs.Course.{Since, Unmoved, SameLengths}
use Rattle.batch_journal.specs.BatchReads.{IsBatchRead, CountsFaults, IsOfReading, first_block}
use Rattle.batch_journal.specs.Damage.{OnJournalDamage, NamesDamage, IsGateDamage, IsHeadDamage, IsSuperDamage, HasNoSuper, AwaitsReplay, super_block}
use Rattle.batch_journal.specs.JournalOpen.{Opens, IsOpened, IsOpeningRefused}
use Rattle.batch_journal.proofs.Courses.{still, unmoved_on, then_calls, weaker, left_before, tiers_same, on_damage}
use Rattle.batch_journal.proofs.Meaning.{same_refl, same_on, home_over, home_shut, slice_slice}
use Rattle.batch_journal.proofs.Bytes.{take_shorter}
use Rattle.batch_journal.proofs.Found.{front_count, is_read, slice_long}
use Rattle.batch_journal.proofs.Pushing.{number_slice}
use Rattle.batch_journal.proofs.Images.{rising_rises}
use Rattle.batch_journal.proofs.Openings.{first_image, fits_here, head_read, shut_volume, spells_one}

-- ---- the count of failed calls

pub tells_ok : {T : Type 0} (a b : ℕ) (x : T) → b ≡ a → CountsFaults a b (Ok x)
tells_ok a b x same = record { grows = omega (arith, same); at_most_one = omega (arith, same); quiet = same; quiet_refused = tt; cause = tt }

pub tells_fault : {T : Type 0} (a b : ℕ) → a ≤ b → b ≤ a + 1 → Rose a b → CountsFaults {T = T} a b (Err errors.DeviceFault)
tells_fault a b grows one rose = record { grows = grows; at_most_one = one; quiet = tt; quiet_refused = λ other. absurd (other refl); cause = λ is. rose }

pub tells_other : {T : Type 0} (a b : ℕ) (e : JournalError) → e ≢ errors.DeviceFault → b ≡ a → CountsFaults {T = T} a b (Err e)
tells_other a b e other same = record { grows = omega (arith, same); at_most_one = omega (arith, same); quiet = tt; quiet_refused = λ _. same; cause = λ is. absurd (other is) }

pub tells_as : {T S : Type 0} (a b : ℕ) (e : JournalError) → CountsFaults {T = T} a b (Err e) → CountsFaults {T = S} a b (Err e)
tells_as a b e told = record { grows = told.grows; at_most_one = told.at_most_one; quiet = tt; quiet_refused = told.quiet_refused; cause = told.cause }

pub tells_on : {T : Type 0} (a m b : ℕ) (r : Result T JournalError) → m ≡ a → CountsFaults m b r → CountsFaults a b r
tells_on a m b r same told = subst (λ k. CountsFaults k b r) same told

-- ---- calls of an opening

pub calls_open : (c : List ℕ) → is_gate_open c ≡ true → opening_calls c ≡ image_count (area_of c) + 3
calls_open c opened = ap (λ b. cond b (image_count (area_of c) + 3) 0) opened

pub calls_shut : (c : List ℕ) → is_gate_open c ≡ false → opening_calls c ≡ 0
calls_shut c closed = ap (λ b. cond b (image_count (area_of c) + 3) 0) closed

module _ {s s' : Tier → List ℕ} {a b : ℕ} {L N : ℕ → Tier → List ℕ → Type 0} (f f' : ℕ) (un : Unmoved a b s s' L N) (rest : AtRest s (L a) Fast) where
  same : (x : List ℕ) → L a Fast x → SameJournal (s Fast) x
  same x l = same_refl (s Fast) x (rest x l)

  pub opens_err : (e : JournalError) → CountsFaults {T = Sizes} f f' (Err e) → OnJournalDamage e (NamesDamage s) → (e ≡ errors.Memory → AwaitsReplay s) → e ≢ errors.BatchTooLarge → Opens s s' a b L N f f' (Err e)
  opens_err e told named memory only = record {
    course = still Fast un same;
    lengths = λ t. ap length (un.reads t);
    at_most = omega (arith, un.clock);
    faults_told = told;
    opened = tt;
    refused = record { named = named; memory = memory; untouched = λ other. un; only = only };
  }

  pub opens_shut : (g : Sizes) → CountsFaults f f' (Ok g) → is_gate_open (s Fast) ≡ false → IsVolume g s → Opens s s' a b L N f f' (Ok g)
  opens_shut g told closed volume = record {
    course = still Fast un same;
    lengths = λ t. ap length (un.reads t);
    at_most = omega (arith, un.clock);
    faults_told = told;
    opened = record {
      volume = volume;
      rests = λ x l. rest x (left_before un Fast x l) ∙ sym (un.reads Fast);
      closed = subst (λ (c : List ℕ). is_gate_open c ≡ false) (sym (un.reads Fast)) closed;
      others = λ t other. un.reads t;
      calls = omega (arith, un.clock, calls_shut (s Fast) closed);
      gate_byte = λ o. absurd (false≢true (sym closed ∙ o));
    };
    refused = tt;
  }

-- reads, and then an opening
pub opens_after : {s t u : Tier → List ℕ} {a b c : ℕ} {L M N : ℕ → Tier → List ℕ → Type 0} (f g h : ℕ) (r : Result Sizes JournalError) → Unmoved a b s t L M → AtRest s (L a) Fast → g ≡ f → Opens t u b c M N g h r → Opens s u a c L N f h r
opens_after {s = s} {t = t} {u = u} {a = a} {b = b} {c = c} {L = L} {M = M} {N = N} f g h r un rest quiet opens =
    let tiers : t ≡ s = tiers_same s t un.reads in
    let here : Opens s u b c M N g h r = subst (λ (x : Tier → List ℕ). Opens x u b c M N g h r) tiers opens in
    let un' : Unmoved a b s s L M = subst (λ (x : Tier → List ℕ). Unmoved a b s x L M) tiers un in
    record {
      course = then_calls Fast un' here.course (λ x l. same_refl (s Fast) x (rest x l));
      lengths = here.lengths;
      at_most = omega (arith, here.at_most, un.clock);
      faults_told = tells_on f g h r quiet here.faults_told;
      opened = opened_after r here.opened;
      refused = refused_after r here.refused;
    }
  where
    opened_after : (r : Result Sizes JournalError) → IfOk r (IsOpened s u b c (N c)) → IfOk r (IsOpened s u a c (N c))
    opened_after (Ok x) o = record { volume = o.volume; rests = o.rests; closed = o.closed; others = o.others; calls = o.calls ∙ ap (λ k. k + opening_calls (s Fast)) un.clock; gate_byte = o.gate_byte }
    opened_after (Err e) o = tt

    refused_after : (r : Result Sizes JournalError) → IfErr r (IsOpeningRefused s u b c M N) → IfErr r (IsOpeningRefused s u a c L N)
    refused_after (Ok x) o = tt
    refused_after (Err e) o =
        let tiers : t ≡ s = tiers_same s t un.reads in
        record { named = o.named; memory = o.memory; untouched = λ other. unmoved_on (subst (λ (x : Tier → List ℕ). Unmoved a b s x L M) tiers un) (o.untouched other); only = o.only }

-- ---- the head's block alone

-- numbers that rise, whatever the images
rising_numbers : (g : Sizes) (low : ℕ) (x y : List ℕ) (p n : ℕ) → ((q : ℕ) → p ≤ q → q < p + n → target_at x q ≡ target_at y q) → RisesJournaled g low (images_from x p n) → RisesJournaled g low (images_from y p n)
rising_numbers g low x y p zero same rising = rising
rising_numbers g low x y p (suc n) same rising =
    let here : target_at x p ≡ target_at y p = same p (omega arith) (omega arith) in
    let rest = rising_numbers g (target_at x p + 1) x y (p + 1) n (λ q lo hi. same q (omega (arith, lo)) (omega (arith, hi))) rising.2 in
    subst (λ (k : ℕ). (low ≤ k) × (is_journaled g k ≡ true) × RisesJournaled g (k + 1) (images_from y (p + 1) n)) here (rising.0, rising.1, rest)

record SameHead (x y : List ℕ) : Type 0 where
  count : image_count x ≡ image_count y
  numbers : (q : ℕ) → q < image_count x → target_at x q ≡ target_at y q
  rest : rest_of_head x ≡ rest_of_head y

heads_alike : (g : Sizes) (x y : List ℕ) → SameHead x y → IsHead g x → IsHead g y
heads_alike g x y same head = record {
  some = omega (arith, same.count, head.some);
  few = omega (arith, same.count, head.few);
  rising = subst (λ (n : ℕ). RisesJournaled g 0 (images_from y 0 n)) same.count (rising_numbers g 0 x y 0 (image_count x) (λ q lo hi. same.numbers q (omega (arith, hi))) head.rising);
  rest = ap are_zero (sym same.rest) ∙ head.rest;
}

module _ (c head : List ℕ) (size : 1196032 ≤ length c) (is : head ≡ slice 143360 4096 c) where
  pub head_count : image_count head ≡ image_count (area_of c)
  head_count =
      let long : length head ≡ 4096 = ap length is ∙ slice_long 143360 4096 c (omega (arith, size)) in
      sym (front_count (area_of c) head 4096 (take_shorter 4096 1052672 (drop 143360 c) (omega arith) ∙ sym is) (omega (arith, long)))

  head_number : (p : ℕ) → p < 1023 → target_at head p ≡ target_at (area_of c) p
  head_number p lt =
      number_slice head p
      ∙ ap (little_number 4) (ap (slice (4 + 4 * p) 4) is ∙ slice_slice (4 + 4 * p) 4 143360 4096 c (omega (arith, lt)) ∙ sym (slice_slice (4 + 4 * p) 4 143360 1052672 c (omega (arith, lt))))
      ∙ sym (number_slice (area_of c) p)

  module _ (few : image_count (area_of c) ≤ 256) where
    head_rest : rest_of_head head ≡ rest_of_head (area_of c)
    head_rest =
        let n : ℕ = image_count (area_of c) in
        ap (λ (k : ℕ). slice (4 + 4 * k) (4092 - 4 * k) head) head_count
        ∙ ap (slice (4 + 4 * n) (4092 - 4 * n)) is
        ∙ slice_slice (4 + 4 * n) (4092 - 4 * n) 143360 4096 c (omega (arith, few))
        ∙ sym (slice_slice (4 + 4 * n) (4092 - 4 * n) 143360 1052672 c (omega (arith, few)))

    pub head_whole : (g : Sizes) → IsHead g head → IsHead g (area_of c)
    head_whole g = heads_alike g head (area_of c) (record { count = head_count; numbers = λ q lt. head_number q (omega (arith, lt, head_count, few)); rest = head_rest })

    pub head_back : (g : Sizes) → IsHead g (area_of c) → IsHead g head
    head_back g = heads_alike g (area_of c) head (record { count = sym head_count; numbers = λ q lt. sym (head_number q (omega (arith, lt, few))); rest = sym head_rest })

  -- where the superblock stands
  pub super_there : is_gate_open c ≡ true → slice (cond (target_at head 0 == 0) 147456 0) 4096 c ≡ super_block c
  super_there opened =
      let first : target_at head 0 ≡ target_at (area_of c) 0 = head_number 0 (omega arith) in
      let image : slice 147456 4096 c ≡ image_at (area_of c) 0 = sym (slice_slice 4096 4096 143360 1052672 c (omega arith)) in
      let either : (b : Bool) → slice (cond b 147456 0) 4096 c ≡ cond b (image_at (area_of c) 0) (block_of c 0) = elim [ true ↦ image | false ↦ refl ] in
      either (target_at head 0 == 0)
      ∙ ap (λ (k : ℕ). cond (k == 0) (image_at (area_of c) 0) (block_of c 0)) first
      ∙ sym (ap (λ b. cond b (first_block (area_of c) c) (block_of c 0)) opened)

-- ---- a medium that holds a journal

first_home : (c : List ℕ) → is_gate_open c ≡ true → 1 ≤ image_count (area_of c) → Rises 0 (images_of (area_of c)) → home c 0 ≡ super_block c
first_home c opened some rises =
    home_over (images_of (area_of c)) c 0 refl opened refl ∙ first_image (image_count (area_of c)) (area_of c) (block_of c 0) some rises
    ∙ sym (ap (λ b. cond b (first_block (area_of c) c) (block_of c 0)) opened)

pub open_volume : (g : Sizes) (seen : Tier → List ℕ) → is_gate_open (seen Fast) ≡ true → are_zero (rest_of_gate (seen Fast)) ≡ true → HasSizes g seen → Spells g (super_block (seen Fast)) → IsHead g (area_of (seen Fast)) → IsVolume g seen
open_volume g seen opened rest sizes spells head =
    let c : List ℕ = seen Fast in
    record {
      sizes = sizes;
      journal = record {
        size = sizes Fast;
        rest = rest;
        superblock = subst (λ (b : List ℕ). Spells g b) (sym (first_home c opened head.some (rising_rises g 0 (images_of (area_of c)) head.rising))) spells;
        head = λ o. head;
      };
    }

volume_spells : (g : Sizes) (seen : Tier → List ℕ) → IsVolume g seen → Spells g (super_block (seen Fast))
volume_spells g seen volume =
    let c : List ℕ = seen Fast in
    let journal = volume.journal in
    elim (cases_Bool (is_gate_open c)) [
      | inl opened ↦
          let head = journal.head opened in
          subst (λ (b : List ℕ). Spells g b) (first_home c opened head.some (rising_rises g 0 (images_of (area_of c)) head.rising)) journal.superblock
      | inr closed ↦ subst (λ (b : List ℕ). Spells g b) (home_shut c 0 refl closed ∙ sym (ap (λ b. cond b (first_block (area_of c) c) (block_of c 0)) closed)) journal.superblock
    ]

volume_long : (g : Sizes) (seen : Tier → List ℕ) → IsVolume g seen → 1196032 ≤ length (seen Fast)
volume_long g seen volume = let is = volume.sizes Fast in omega (arith, is)

-- what is damaged holds no journal
pub no_volume : (seen : Tier → List ℕ) (w : What) (block : ℕ) → NamesDamage seen w block → (g : Sizes) → IsVolume g seen → ⊥
no_volume seen w block (inl gate) g volume = false≢true (sym gate.rest ∙ volume.journal.rest)
no_volume seen w block (inr (inl head)) g volume =
    let there = volume.journal.head head.opened in
    elim head.head [
      | inl none ↦ omega (arith, none, there.some)
      | inr (inl many) ↦ omega (arith, many, there.few)
      | inr (inr told) ↦
          let same : g ≡ told.0 = spells_one g told.0 (super_block (seen Fast)) (volume_spells g seen volume) told.1 in
          told.3 (subst (λ (h : Sizes). IsHead h (area_of (seen Fast))) same there)
    ]
no_volume seen w block (inr (inr super)) g volume =
    elim super.none [
      | inl short ↦ omega (arith, short, volume_long g seen volume)
      | inr told ↦ told.2 g (volume_spells g seen volume) volume.sizes
    ]

-- ---- what is replayed

-- the batch of an open journal, as it was read
pub record BatchThere (c : List ℕ) (g : Sizes) (n : ℕ) (bytes : List ℕ) : Type 0 where
  pub some : 1 ≤ n
  pub few : n ≤ 256
  pub count : n ≡ image_count bytes
  pub long : 4096 * n + 4096 ≤ length bytes
  pub read : IsBatchRead c bytes
  pub fit : (c' : List ℕ) → c' ≡ c → Fit (length c') (images_of bytes)

-- how many images are to be read
pub few_images : (g : Sizes) (s : Tier → List ℕ) (n : ℕ) → IsVolume g s → is_gate_open (s Fast) ≡ true → n ≡ image_count (area_of (s Fast)) → (1 ≤ n) × (n ≤ 256)
few_images g s n volume opened count = let head = volume.journal.head opened in (omega (arith, head.some, count), omega (arith, head.few, count))

pub batch_there : (g : Sizes) (s : Tier → List ℕ) (n : ℕ) (bytes : List ℕ) → IsVolume g s → is_gate_open (s Fast) ≡ true → n ≡ image_count (area_of (s Fast)) → bytes ≡ slice 143360 (4096 * n + 4096) (s Fast) → BatchThere (s Fast) g n bytes
batch_there g s n bytes volume opened count is =
    let c : List ℕ = s Fast in
    let size = volume_long g s volume in
    let some = few_images g s n volume opened count in
    let read = is_read c n bytes size count some.0 some.1 is in
    let long : length bytes ≡ 4096 * n + 4096 = ap length is ∙ slice_long 143360 (4096 * n + 4096) c (omega (arith, size, some)) in
    record {
      some = some.0;
      few = some.1;
      count = omega (arith, long, read.long);
      long = omega (arith, long);
      read = read;
      fit = λ c' same. fits_here g c' bytes (ap length same ∙ volume.journal.size) (head_read g c bytes read (volume.journal.head opened));
    }

-- reads, and then the replay
module _ {s t : Tier → List ℕ} {a m b : ℕ} {L M N : ℕ → Tier → List ℕ → Type 0} (f f' n : ℕ) (un : Unmoved a m s t L M) (rest : AtRest s (L a) Fast) (opened : is_gate_open (s Fast) ≡ true) (count : n ≡ image_count (area_of (s Fast)))
    (course : Since Fast (SameJournal (t Fast)) m b M N) where
  pub opens_failed : (u : Tier → List ℕ) → SameLengths t u → b ≤ m + n + 3 → CountsFaults {T = Sizes} f f' (Err errors.DeviceFault) → Opens s u a b L N f f' (Err errors.DeviceFault)
  opens_failed u lengths at_most told = record {
    course = then_calls Fast un (weaker course (λ x l. same_on (s Fast) (t Fast) x (same_refl (s Fast) (t Fast) (un.reads Fast)) l)) (λ x l. same_refl (s Fast) x (rest x l));
    lengths = λ x. lengths x ∙ ap length (un.reads x);
    at_most = omega (arith, at_most, un.clock, count, calls_open (s Fast) opened);
    faults_told = told;
    opened = tt;
    refused = record { named = tt; memory = λ is. absurd cc; untouched = λ other. absurd (other refl); only = λ is. absurd cc };
  }

  pub opens_replayed : (u : Tier → List ℕ) → SameLengths t u → (g : Sizes) → b ≡ m + n + 3 → CountsFaults f f' (Ok g) → IsVolume g s → AtRest u (N b) Fast → is_gate_open (u Fast) ≡ false → ((x : Tier) → x ≢ Fast → u x ≡ t x) → IsShutGate (u Fast) → Opens s u a b L N f f' (Ok g)
  opens_replayed u lengths g calls told volume rests closed others gate = record {
    course = then_calls Fast un (weaker course (λ x l. same_on (s Fast) (t Fast) x (same_refl (s Fast) (t Fast) (un.reads Fast)) l)) (λ x l. same_refl (s Fast) x (rest x l));
    lengths = λ x. lengths x ∙ ap length (un.reads x);
    at_most = omega (arith, calls, un.clock, count, calls_open (s Fast) opened);
    faults_told = told;
    opened = record {
      volume = volume;
      rests = rests;
      closed = closed;
      others = λ x other. others x other ∙ un.reads x;
      calls = omega (arith, calls, un.clock, count, calls_open (s Fast) opened);
      gate_byte = λ o. gate;
    };
    refused = tt;
  }

-- a read of a run names nothing, and is never too large
abbrev pub IsOfRun : JournalError → Type 0
IsOfRun e = (e ≡ errors.DeviceFault) ⊎ (e ≡ errors.Memory)

pub run_names : (e : JournalError) (P : What → ℕ → Type 0) → IsOfRun e → OnJournalDamage e P
run_names errors.DeviceFault P either = tt
run_names errors.BatchTooLarge P either = tt
run_names errors.Memory P either = tt
run_names (errors.Damaged w block) P either = elim either [ inl is ↦ absurd cc | inr is ↦ absurd cc ]

pub run_fits : (e : JournalError) → IsOfRun e → e ≢ errors.BatchTooLarge
run_fits e either is = elim either [ inl fault ↦ let two : errors.BatchTooLarge ≡ errors.DeviceFault = sym is ∙ fault in absurd cc | inr memory ↦ let two : errors.BatchTooLarge ≡ errors.Memory = sym is ∙ memory in absurd cc ]

pub unmoved_same : (a : ℕ) (s : Tier → List ℕ) (L : ℕ → Tier → List ℕ → Type 0) → Unmoved a a s s L L
unmoved_same a s L = record { clock = refl; reads = λ t. refl; past = λ m t c le l. l; kept = λ m t c le l. l }

-- reads, and then the superblock of a closed gate
pub opens_geometry : {s t : Tier → List ℕ} {a b : ℕ} {L N : ℕ → Tier → List ℕ → Type 0} (f f' : ℕ) (r : Result Sizes JournalError) → Unmoved a b s t L N → AtRest s (L a) Fast → is_gate_open (s Fast) ≡ false → are_zero (rest_of_gate (s Fast)) ≡ true
    → CountsFaults f f' r → IfOk r (λ g. Spells g (block_of (s Fast) 0)) → IfOk r (λ g. HasSizes g s) → IfErr r (λ e. OnJournalDamage e (λ w block. (w ≡ what.Super) × (block ≡ 0) × HasNoSuper (block_of (s Fast) 0) s)) → IfErr r IsOfReading → Opens s t a b L N f f' r
opens_geometry {s = s} f f' (Ok g) un rest closed gate told spells sizes damaged only = opens_shut f f' un rest g told closed (shut_volume g s closed gate sizes spells)
opens_geometry {s = s} f f' (Err e) un rest closed gate told spells sizes damaged only =
    let super : block_of (s Fast) 0 ≡ super_block (s Fast) = sym (ap (λ b. cond b (first_block (area_of (s Fast)) (s Fast)) (block_of (s Fast) 0)) closed) in
    let named = on_damage e (λ w block is. inr (inr (record {
      structure = is.0;
      place = is.1;
      none = inr (gate, λ opened. absurd (false≢true (sym closed ∙ opened)), subst (λ (x : List ℕ). HasNoSuper x s) super is.2);
    }))) damaged in
    opens_err f f' un rest e told named (λ is. absurd (only.1 is)) only.0

-- ---- one structure is named

gate_head : (seen : Tier → List ℕ) (w v : What) (k l : ℕ) → IsGateDamage (seen Fast) w k → IsHeadDamage seen v l → ⊥
gate_head seen w v k l gate head = false≢true (sym gate.rest ∙ head.rest)

gate_super : (seen : Tier → List ℕ) (w v : What) (k l : ℕ) → IsGateDamage (seen Fast) w k → IsSuperDamage seen v l → ⊥
gate_super seen w v k l gate super =
    elim super.none [
      | inl short ↦ omega (arith, short, gate.size)
      | inr told ↦ false≢true (sym gate.rest ∙ told.0)
    ]

head_super : (seen : Tier → List ℕ) (w v : What) (k l : ℕ) → IsHeadDamage seen w k → IsSuperDamage seen v l → ⊥
head_super seen w v k l head super =
    elim super.none [
      | inl short ↦ omega (arith, short, head.size)
      | inr told ↦
          let count = told.1 head.opened in
          elim head.head [
            | inl none ↦ omega (arith, none, count)
            | inr (inl many) ↦ omega (arith, many, count)
            | inr (inr there) ↦ told.2 there.0 there.1 there.2
          ]
    ]

pub one_name : (seen : Tier → List ℕ) (w v : What) (k l : ℕ) → NamesDamage seen w k → NamesDamage seen v l → (w ≡ v) × (k ≡ l)
one_name seen w v k l (inl a) (inl b) = (a.structure ∙ sym b.structure, a.place ∙ sym b.place)
one_name seen w v k l (inl a) (inr (inl b)) = absurd (gate_head seen w v k l a b)
one_name seen w v k l (inl a) (inr (inr b)) = absurd (gate_super seen w v k l a b)
one_name seen w v k l (inr (inl a)) (inl b) = absurd (gate_head seen v w l k b a)
one_name seen w v k l (inr (inl a)) (inr (inl b)) = (a.structure ∙ sym b.structure, a.place ∙ sym b.place)
one_name seen w v k l (inr (inl a)) (inr (inr b)) = absurd (head_super seen w v k l a b)
one_name seen w v k l (inr (inr a)) (inl b) = absurd (gate_super seen v w l k b a)
one_name seen w v k l (inr (inr a)) (inr (inl b)) = absurd (head_super seen v w l k b a)
one_name seen w v k l (inr (inr a)) (inr (inr b)) = (a.structure ∙ sym b.structure, a.place ∙ sym b.place)
