-- One call after another.
use Rattle.std.proofs.Common.{◌≡◌, inl, inr, ℕ, ◌*◌, ◌≤◌, ◌<◌, List, true, Result, Ok, Err, OnOk, OnErr, IfOk, IfErr, ◌∙◌, subst, arith}
use Rattle.std.proofs.lemmas.Bool.{cases_lt}
use Rattle.tier_device.specs.declared.media.Tier.{Tier}
use Rattle.tier_device.specs.declared.media.Tier.TheVariants.{Fast}
use Rattle.tier_device.specs.Media.{Rose}
use Rattle.layout.specs.declared.error.What.{What}
use Rattle.batch_journal.specs.declared.error.JournalError.{JournalError}
use Rattle.batch_journal.specs.declared.error.JournalError.TheVariants as errors
use Rattle.batch_journal.specs.Damage.{OnJournalDamage}
use Rattle.batch_journal.specs.Course.{Since, Unmoved, TornFrom, BesideFrom}
use Rattle.batch_journal.specs.Images.{target_at, image_count, images_of}
use Rattle.batch_journal.specs.Blocks.{is_home}
use Rattle.batch_journal.proofs.Images.{found, torn_beside, beside_on}

pub and_then : {tier : Tier} {P Q R : List ℕ → Type 0} {a b c : ℕ} {L M N : ℕ → Tier → List ℕ → Type 0} → Since tier P a b L M → Since tier Q b c M N → ((x : List ℕ) → P x → R x) → ((x : List ℕ) → Q x → R x) → Since tier R a c L N
and_then {tier = tier} {P = P} {Q = Q} {R = R} {a = a} {b = b} {c = c} {L = L} {M = M} {N = N} first second early late = record {
  later = omega (arith, first.later, second.later);
  past = λ m t x le l. first.past m t x le (second.past m t x (omega (arith, le, first.later)) l);
  kept = λ m t x le l. second.kept m t x (omega (arith, le, first.later)) (first.kept m t x le l);
  all = λ m x low high l. elim (cases_lt b m) [
    | inl after ↦ late x (second.all m x (omega (arith, after)) high l)
    | inr until ↦ early x (first.all m x low until (second.past m tier x until l))
  ];
  others = λ m t x other low high l. elim (cases_lt b m) [
    | inl after ↦ first.others b t x other first.later (omega arith) (second.others m t x other (omega (arith, after)) high l)
    | inr until ↦ first.others m t x other low until (second.past m t x until l)
  ];
}

pub weaker : {tier : Tier} {P R : List ℕ → Type 0} {a b : ℕ} {L M : ℕ → Tier → List ℕ → Type 0} → Since tier P a b L M → ((x : List ℕ) → P x → R x) → Since tier R a b L M
weaker first early = record { later = first.later; past = first.past; kept = first.kept; all = λ m x low high l. early x (first.all m x low high l); others = first.others }

-- no call
pub no_call : (tier : Tier) (a : ℕ) (L : ℕ → Tier → List ℕ → Type 0) → Since tier (λ c. L a tier c) a a L L
no_call tier a L = record {
  later = omega arith;
  past = λ m t x le l. l;
  kept = λ m t x le l. l;
  all = λ m x low high l. subst (λ k. L k tier x) (omega (arith, low, high)) l;
  others = λ m t x other low high l. subst (λ k. L k t x) (omega (arith, low, high)) l;
}

-- nothing but reads
pub still : (tier : Tier) {P : List ℕ → Type 0} {a b : ℕ} {s s' : Tier → List ℕ} {L M : ℕ → Tier → List ℕ → Type 0} → Unmoved a b s s' L M → ((x : List ℕ) → L a tier x → P x) → Since tier P a b L M
still tier {a = a} {b = b} {L = L} {M = M} un all = record {
  later = omega (arith, un.clock);
  past = un.past;
  kept = un.kept;
  all = λ m x low high l. all x (subst (λ k. L k tier x) (omega (arith, low, high, un.clock)) (un.past m tier x (omega (arith, high, un.clock)) l));
  others = λ m t x other low high l. subst (λ k. L k t x) (omega (arith, low, high, un.clock)) (un.past m t x (omega (arith, high, un.clock)) l);
}

pub unmoved_on : {a b c : ℕ} {s t u : Tier → List ℕ} {L M N : ℕ → Tier → List ℕ → Type 0} → Unmoved a b s t L M → Unmoved b c t u M N → Unmoved a c s u L N
unmoved_on first second = record {
  clock = second.clock ∙ first.clock;
  reads = λ t. second.reads t ∙ first.reads t;
  past = λ m t x le l. first.past m t x le (second.past m t x (omega (arith, le, first.clock)) l);
  kept = λ m t x le l. second.kept m t x (omega (arith, le, first.clock)) (first.kept m t x le l);
}

-- what a stop may leave after reads is what it might before
pub left_before : {a b : ℕ} {s s' : Tier → List ℕ} {L M : ℕ → Tier → List ℕ → Type 0} → Unmoved a b s s' L M → (t : Tier) (x : List ℕ) → M b t x → L a t x
left_before {a = a} {b = b} {M = M} un t x l = un.past a t x (omega arith) (subst (λ k. M k t x) un.clock l)

-- reads, and then calls
pub then_calls : (tier : Tier) {P : List ℕ → Type 0} {a b c : ℕ} {s s' : Tier → List ℕ} {L M N : ℕ → Tier → List ℕ → Type 0} → Unmoved a b s s' L M → Since tier P b c M N → ((x : List ℕ) → L a tier x → P x) → Since tier P a c L N
then_calls tier un calls all = and_then (still tier un all) calls (λ x p. p) (λ x p. p)

pub rose_later : (a b c : ℕ) → a ≤ b → b ≤ c → Rose b c → Rose a c
rose_later a b c le more (inl lt) = inl (omega (arith, le, lt))
rose_later a b c le more (inr top) = inr top

-- an image more, torn
pub one_torn : (bytes : List ℕ) (p n a b c : ℕ) (L M N : ℕ → Tier → List ℕ → Type 0) → p < n → n ≡ image_count bytes → is_home (target_at bytes p) ≡ true
    → Since Fast (BesideFrom (L a Fast) (images_of bytes)) a b L M → Since Fast (TornFrom (M b Fast) (4096 * target_at bytes p) 4096) b c M N → Since Fast (BesideFrom (L a Fast) (images_of bytes)) a c L N
one_torn bytes p n a b c L M N lt count at_home first second =
    let images = images_of bytes in
    let named = found bytes (image_count bytes) 0 p (omega arith) (omega (arith, lt, count)) in
    and_then first second (λ x l. l) (λ x torn.
    let from = first.all b torn.0 first.later (omega arith) torn.1 in
    (from.0, from.1, beside_on images from.0 torn.0 x from.2 (torn_beside images (target_at bytes p) torn.0 x at_home named torn.2)))

-- of a call that another one ends
pub on_ok : {T E A B : Type 0} (r : Result T E) → (A → B) → OnOk r A → OnOk r B
on_ok (Ok x) f a = f a
on_ok (Err e) f a = a

pub on_err : {T E A B : Type 0} (r : Result T E) → (A → B) → OnErr r A → OnErr r B
on_err (Ok x) f a = a
on_err (Err e) f a = f a

pub on_ok_2 : {T E A B D : Type 0} (r : Result T E) → (A → B → D) → OnOk r A → OnOk r B → OnOk r D
on_ok_2 (Ok x) f a b = f a b
on_ok_2 (Err e) f a b = a

pub if_ok : {T E : Type 0} (r : Result T E) {P Q : T → Type 0} → ((x : T) → P x → Q x) → IfOk r P → IfOk r Q
if_ok (Ok x) f p = f x p
if_ok (Err e) f p = p

pub if_ok_2 : {T E : Type 0} (r : Result T E) {P Q S : T → Type 0} → ((x : T) → P x → Q x → S x) → IfOk r P → IfOk r Q → IfOk r S
if_ok_2 (Ok x) f p q = f x p q
if_ok_2 (Err e) f p q = p

pub if_err : {T E : Type 0} (r : Result T E) {P Q : E → Type 0} → ((x : E) → P x → Q x) → IfErr r P → IfErr r Q
if_err (Ok x) f p = p
if_err (Err e) f p = f e p

pub each_err : {T E : Type 0} (r : Result T E) {P : E → Type 0} → ((x : E) → P x) → IfErr r P
each_err (Ok x) f = tt
each_err (Err e) f = f e

pub any_ok : {T E P : Type 0} (r : Result T E) → P → OnOk r P
any_ok (Ok x) p = p
any_ok (Err e) p = tt

pub tiers_same : (s s' : Tier → List ℕ) → ((t : Tier) → s' t ≡ s t) → s' ≡ s
tiers_same s s' reads = λ i t. reads t i

-- ---- refusals for damage

pub on_damage : {P Q : What → ℕ → Type 0} (e : JournalError) → ((w : What) (block : ℕ) → P w block → Q w block) → OnJournalDamage e P → OnJournalDamage e Q
on_damage errors.DeviceFault f p = tt
on_damage errors.BatchTooLarge f p = tt
on_damage (errors.Damaged w block) f p = f w block p
on_damage errors.Memory f p = tt
