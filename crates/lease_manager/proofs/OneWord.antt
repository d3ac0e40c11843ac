-- One word under each kind of step.
use Rattle.std.proofs.Common.{◌≡◌, ◌≢◌, ◌⊎◌, ℕ, zero, suc, ◌+◌, ◌-◌, ◌/◌, ◌%◌, ◌^◌, ◌<◌, ◌≤◌, max, false, bit_and, bit_or, refl, sym, ap, ◌∙◌, subst, inl, inr, ⊎_elim, arith, lt_of_not-le, w64}
use mathlib.Core.Logic.{dite}
use native.Mathlib.Decide.{ℕ_discrete, dec_le}
use Rattle.std.specs.Int.{bit_at, bit_not}
use Rattle.std.proofs.lemmas.Nat.{shr-shr}
use Rattle.std.proofs.lemmas.Nat.Bits.{bit_at-zero, bit_at_and, bit_at_or, bit_at-pow_same, bit_at-pow_other, bit_at_not, same_from_bits, bit_at-lt, bit_at_above}
use Rattle.lease_manager.specs.declared.view.LeaseMode.{LeaseMode}
use Rattle.lease_manager.specs.declared.view.LeaseMode.TheVariants.{Free, Reading, Writing, Trying}
use Rattle.lease_manager.specs.Words.{both_marks}
use Rattle.lease_manager.specs.Marks.{read_mark, write_mark, is_lease, MayMeet, Shows, ShowsOther, ShowsWriter}

-- who has no mark in the word has no lease
unmarked : (x : LeaseMode) → read_mark x ≡ 0 → write_mark x ≡ 0 → (is_lease x ≡ false) × (x ≢ Writing)
unmarked Free r w = (refl, λ e. absurd (cc))
unmarked Reading r w = absurd (omega arith)
unmarked Writing r w = absurd (omega arith)
unmarked Trying r w = absurd (omega arith)

not_writing : (x : LeaseMode) → write_mark x ≡ 0 → x ≢ Writing
not_writing x w e = let h : write_mark x ≡ 1 = ap write_mark e in omega arith

-- the word after a step of the client k
pub changed : (n n' k : ℕ) (m m' : ℕ → LeaseMode) → k < 8 → Shows n m
    → ((d : ℕ) → d ≢ k → m' d ≡ m d)
    → bit_at n' k ≡ read_mark (m' k) → bit_at n' (8 + k) ≡ write_mark (m' k)
    → ((b : ℕ) → b ≢ k → b ≢ 8 + k → b < 16 → bit_at n' b ≡ bit_at n b)
    → ((b : ℕ) → 16 ≤ b → bit_at n' b ≡ 0)
    → ((d : ℕ) → d < 8 → d ≢ k → MayMeet (m' k) (m d))
    → Shows n' m'
changed n n' k m m' small s same own_read own_write others above meets = record {
  reads = λ c lt. dite (ℕ_discrete c k)
      (λ e. subst (λ (z : ℕ). bit_at n' z ≡ read_mark (m' z)) (sym e) own_read)
      (λ ne. others c ne (λ h. omega arith) (omega arith) ∙ s.reads c lt ∙ ap read_mark (sym (same c ne)));
  writes = λ c lt. dite (ℕ_discrete c k)
      (λ e. subst (λ (z : ℕ). bit_at n' (8 + z) ≡ write_mark (m' z)) (sym e) own_write)
      (λ ne. others (8 + c) (λ h. omega arith) (λ h. ne (omega arith)) (omega arith) ∙ s.writes c lt ∙ ap write_mark (sym (same c ne)));
  beyond = above;
  legal = λ c d lt lt' apart w. dite (ℕ_discrete c k)
      (λ e. let ne : d ≢ k = λ h. apart (e ∙ sym h) in ap is_lease (same d ne) ∙ (meets d lt' ne).0 (ap m' (sym e) ∙ w))
      (λ ne. let w' : m c ≡ Writing = sym (same c ne) ∙ w in dite (ℕ_discrete d k)
      (λ e. ap (λ (z : ℕ). is_lease (m' z)) e ∙ (meets c lt ne).1 w')
      (λ ne'. ap is_lease (same d ne') ∙ s.legal c d lt lt' apart w'));
}

pub same_shows : (n : ℕ) (m m' : ℕ → LeaseMode) → Shows n m → ((d : ℕ) → m' d ≡ m d) → Shows n m'
same_shows n m m' s same = record {
  reads = λ c lt. s.reads c lt ∙ ap read_mark (sym (same c));
  writes = λ c lt. s.writes c lt ∙ ap write_mark (sym (same c));
  beyond = s.beyond;
  legal = λ c d lt lt' apart w. ap is_lease (same d) ∙ s.legal c d lt lt' apart (sym (same c) ∙ w);
}

pub pow_above : (k b : ℕ) → k < 16 → 16 ≤ b → bit_at (2 ^ k) b ≡ 0
pow_above k b lt ge = bit_at-pow_other k b (λ h. omega arith)

-- the number has no bit but the one at k, and becomes the write mark of k
pub taken_word : (n k : ℕ) (m m' : ℕ → LeaseMode) → k < 8 → Shows n m → ((b : ℕ) → b ≢ k → bit_at n b ≡ 0) → ((d : ℕ) → d ≢ k → m' d ≡ m d) → m' k ≡ Writing → Shows (2 ^ (8 + k)) m'
taken_word n k m m' small s alone same now = changed n (2 ^ (8 + k)) k m m' small s same
    (bit_at-pow_other (8 + k) k (λ h. omega arith) ∙ ap read_mark (sym now))
    (bit_at-pow_same (8 + k) ∙ ap write_mark (sym now))
    (λ b ne ne' lt. bit_at-pow_other (8 + k) b ne' ∙ sym (alone b ne))
    (λ b ge. pow_above (8 + k) b (omega arith) ge)
    (λ d lt ne. let u = unmarked (m d) (sym (s.reads d lt) ∙ alone d ne) (sym (s.writes d lt) ∙ alone (8 + d) (λ h. omega arith)) in ((λ _. u.0), λ w. absurd (u.1 w)))

max_zero : (x : ℕ) → max x 0 ≡ x
max_zero x = omega arith

pub or_own : (n k : ℕ) → bit_at (bit_or n (2 ^ k)) k ≡ 1
or_own n k = let o = bit_at_or n (2 ^ k) k in let p = bit_at-pow_same k in let l = bit_at-lt n k in omega arith

pub or_other : (n k b : ℕ) → b ≢ k → bit_at (bit_or n (2 ^ k)) b ≡ bit_at n b
or_other n k b ne = let o = bit_at_or n (2 ^ k) b in let p = bit_at-pow_other k b ne in omega arith

-- a read try where the word shows no write mark
pub read_word : (n k : ℕ) (m m' : ℕ → LeaseMode) → k < 8 → Shows n m → n < 256 → ((d : ℕ) → d ≢ k → m' d ≡ m d) → m' k ≡ Reading → Shows (bit_or n (2 ^ k)) m'
read_word n k m m' small s low same now = changed n (bit_or n (2 ^ k)) k m m' small s same
    (or_own n k ∙ ap read_mark (sym now))
    (or_other n k (8 + k) (λ h. omega arith) ∙ bit_at_above n 8 (8 + k) low (omega arith) ∙ ap write_mark (sym now))
    (λ b ne ne' lt. or_other n k b ne)
    (λ b ge. or_other n k b (λ h. omega arith) ∙ s.beyond b ge)
    (λ d lt ne. ((λ w. absurd (not_writing Reading refl (sym now ∙ w))), λ w. absurd (not_writing (m d) (sym (s.writes d lt) ∙ bit_at_above n 8 (8 + d) low (omega arith)) w)))

-- a read try beside another's write mark
pub try_word : (n k : ℕ) (m m' : ℕ → LeaseMode) → k < 8 → Shows n m → m k ≡ Free → ((d : ℕ) → d ≢ k → m' d ≡ m d) → m' k ≡ Trying → Shows (bit_or n (2 ^ k)) m'
try_word n k m m' small s free same now = changed n (bit_or n (2 ^ k)) k m m' small s same
    (or_own n k ∙ ap read_mark (sym now))
    (or_other n k (8 + k) (λ h. omega arith) ∙ s.writes k small ∙ ap write_mark free ∙ ap write_mark (sym now))
    (λ b ne ne' lt. or_other n k b ne)
    (λ b ge. or_other n k b (λ h. omega arith) ∙ s.beyond b ge)
    (λ d lt ne. ((λ w. absurd (not_writing Trying refl (sym now ∙ w))), λ w. ap is_lease now))

pub clear_own : (n k : ℕ) → k < 8 → (own : ℕ) → own < 2 ^ 64 → (b : ℕ) → b < 64 → bit_at own b ≡ 1 → bit_at (bit_and n (bit_not w64 own)) b ≡ 0
clear_own n k small own fits b lt one = let a = bit_at_and n (bit_not w64 own) b in let c = bit_at_not w64 own b fits lt in omega arith

pub clear_other : (n own : ℕ) → own < 2 ^ 64 → (b : ℕ) → b < 64 → bit_at own b ≡ 0 → bit_at (bit_and n (bit_not w64 own)) b ≡ bit_at n b
clear_other n own fits b lt none = let a = bit_at_and n (bit_not w64 own) b in let c = bit_at_not w64 own b fits lt in let l = bit_at-lt n b in omega arith

-- the own marks are taken out
pub given_word : (n k own : ℕ) (m m' : ℕ → LeaseMode) → k < 8 → own ≡ both_marks k → own < 2 ^ 64 → Shows n m → ((d : ℕ) → d ≢ k → m' d ≡ m d) → m' k ≡ Free → Shows (bit_and n (bit_not w64 own)) m'
given_word n k own m m' small is fits s same now = changed n (bit_and n (bit_not w64 own)) k m m' small s same
    (clear_own n k small own fits k (omega arith) (ap (λ (z : ℕ). bit_at z k) is ∙ (or_other (2 ^ k) (8 + k) k (λ h. omega arith) ∙ bit_at-pow_same k)) ∙ ap read_mark (sym now))
    (clear_own n k small own fits (8 + k) (omega arith) (ap (λ (z : ℕ). bit_at z (8 + k)) is ∙ or_own (2 ^ k) (8 + k)) ∙ ap write_mark (sym now))
    (λ b ne ne' lt. clear_other n own fits b (omega arith) (ap (λ (z : ℕ). bit_at z b) is ∙ (or_other (2 ^ k) (8 + k) b ne' ∙ bit_at-pow_other k b ne)))
    (λ b ge. let a = bit_at_and n (bit_not w64 own) b in let z = s.beyond b ge in omega arith)
    (λ d lt ne. ((λ w. absurd (not_writing Free refl (sym now ∙ w))), λ w. ap is_lease now))

-- two numbers differ at some bit below w, or at none
differs : (a b w : ℕ) → ((i : ℕ) × (i < w) × (bit_at a i ≢ bit_at b i)) ⊎ ((i : ℕ) → i < w → bit_at a i ≡ bit_at b i)
differs a b zero = inr (λ i lt. absurd (omega arith))
differs a b (suc w) = ⊎_elim
    (λ (d : (i : ℕ) × (i < w) × (bit_at a i ≢ bit_at b i)). inl (d.0, omega (arith, d.1), d.2))
    (λ (e : (i : ℕ) → i < w → bit_at a i ≡ bit_at b i). dite (ℕ_discrete (bit_at a w) (bit_at b w))
    (λ is. inr (λ i lt. dite (ℕ_discrete i w) (λ h. subst (λ (z : ℕ). bit_at a z ≡ bit_at b z) (sym h) is) (λ ne. e i (omega arith))))
    (λ ne. inl (w, omega arith, ne)))
    (differs a b w)

one_of : (n i : ℕ) → bit_at n i ≢ 0 → bit_at n i ≡ 1
one_of n i ne = let l = bit_at-lt n i in omega arith

-- the number is not g, which has no bit but perhaps the one at k, and is like g at k's own bits: so it shows another's mark
pub shows_other : (n g k : ℕ) (m : ℕ → LeaseMode) → k < 8 → Shows n m → n ≢ g → bit_at n k ≡ bit_at g k → bit_at n (8 + k) ≡ 0 → ((b : ℕ) → b ≢ k → bit_at g b ≡ 0) → ShowsOther k n
shows_other n g k m small s apart at_k at_w alone = ⊎_elim
    (λ (d : (i : ℕ) × (i < 16) × (bit_at n i ≢ bit_at g i)).
    let i : ℕ = d.0 in let ne : i ≢ k = λ e. d.2 (subst (λ (z : ℕ). bit_at n z ≡ bit_at g z) (sym e) at_k) in
    let one : bit_at n i ≡ 1 = one_of n i (λ z. d.2 (z ∙ sym (alone i ne))) in
    let ne' : i ≢ 8 + k = λ e. let z : bit_at n i ≡ 0 = ap (λ (y : ℕ). bit_at n y) e ∙ at_w in omega arith in
    dite (dec_le 8 i)
    (λ ge. let is : 8 + (i - 8) ≡ i = omega arith in let lt = d.1 in (i - 8, omega arith, (λ e. ne' (omega arith)), inr (ap (λ (y : ℕ). bit_at n y) is ∙ one)))
    (λ lt. (i, lt_of_not-le lt, ne, inl one)))
    (λ (e : (i : ℕ) → i < 16 → bit_at n i ≡ bit_at g i). absurd (apart (same_from_bits n g (λ i. dite (dec_le 16 i) (λ ge. s.beyond i ge ∙ sym (alone i (λ h. omega arith))) (λ lt. e i (lt_of_not-le lt))))))
    (differs n g 16)

bit_high : (n i : ℕ) → bit_at (n / 256) i ≡ bit_at n (8 + i)
bit_high n i = ap (λ (z : ℕ). z % 2) (shr-shr n 8 i)

-- a word of 256 or more shows another's write mark, where k has none
pub shows_writer : (n k : ℕ) (m : ℕ → LeaseMode) → k < 8 → Shows n m → 256 ≤ n → bit_at n (8 + k) ≡ 0 → ShowsWriter k n
shows_writer n k m small s large at_w = ⊎_elim
    (λ (d : (i : ℕ) × (i < 8) × (bit_at (n / 256) i ≢ bit_at 0 i)).
    let i : ℕ = d.0 in
    let one : bit_at n (8 + i) ≡ 1 = one_of n (8 + i) (λ z. d.2 (bit_high n i ∙ z ∙ sym (bit_at-zero i))) in
    (i, d.1, (λ e. let z : bit_at n (8 + i) ≡ 0 = ap (λ (y : ℕ). bit_at n (8 + y)) e ∙ at_w in omega arith), one))
    (λ (e : (i : ℕ) → i < 8 → bit_at (n / 256) i ≡ bit_at 0 i).
    let z : n / 256 ≡ 0 = same_from_bits (n / 256) 0 (λ i. dite (dec_le 8 i) (λ ge. bit_high n i ∙ s.beyond (8 + i) (omega arith) ∙ sym (bit_at-zero i)) (λ lt. e i (lt_of_not-le lt))) in
    absurd (omega arith))
    (differs (n / 256) 0 8)
