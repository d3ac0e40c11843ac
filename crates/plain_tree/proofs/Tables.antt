-- Rows of descriptors, as what each client has open.
use Rattle.std.proofs.Common.{◌≡◌, ◌≢◌, ℕ, zero, suc, ◌<◌, ◌≤◌, ◌-◌, List, [], length, get_or, set, Option, sym, ap, ◌∙◌, inl, inr, arith}
use Rattle.std.proofs.lemmas.Bool.{cases_eq}
use Rattle.std.proofs.lemmas.Bool.Decides.{nat_tests}
use Rattle.std.proofs.lemmas.List.{get_or-set_same, get_or-set_other, get_or_default}
use Rattle.posix_calls.specs.Tree.{Own, Descriptors, set_own, with_own}
use Rattle.posix_calls.specs.Own.{set_descriptor, own_of}
use Rattle.plain_tree.specs.Plain.{held_of}
use Rattle.posix_calls.specs.declared.descriptor.Descriptor.{Descriptor}

own_here : (held : Descriptors) (client c n : ℕ) (own : Own) → c ≡ client → with_own held client own c n ≡ own n
own_here held client c n own e = grind (arith, nat_tests)

own_off : (held : Descriptors) (client c n : ℕ) (own : Own) → c ≢ client → with_own held client own c n ≡ held c n
own_off held client c n own ne = grind (arith, nat_tests)

abbrev Row : Type 0
Row = List (Option Descriptor)

row_set_at : (rows : List Row) (client number : ℕ) (what : Option Descriptor) (old new : Row) → 0 < client → client ≤ length rows → old ≡ get_or rows (client - 1) old
    → ((n : ℕ) → own_of new n ≡ set_own (own_of old) number what n) → (c n : ℕ) → held_of (set rows (client - 1) new) c n ≡ set_descriptor (held_of rows) client number what c n
row_set_at rows client number what old new low high read is zero n = sym (own_off (held_of rows) client 0 n (set_own (held_of rows client) number what) (λ e. omega arith))
row_set_at rows client number what old new low high read is (suc c) n =
    elim (cases_eq (suc c) client) [
      | inl same ↦
          let row : client - 1 ≡ c = omega arith in
          let was : old ≡ get_or rows c [] = read ∙ get_or_default rows (client - 1) old [] (omega arith) ∙ ap (λ (k : ℕ). get_or rows k []) row in
          ap (λ (k : ℕ). own_of (get_or (set rows k new) c []) n) row
          ∙ ap (λ (r : Row). own_of r n) (get_or-set_same rows c new [] (omega arith))
          ∙ is n
          ∙ ap (λ (r : Row). set_own (own_of r) number what n) was
          ∙ ap (λ (k : ℕ). set_own (held_of rows k) number what n) same
          ∙ sym (own_here (held_of rows) client (suc c) n (set_own (held_of rows client) number what) same)
      | inr apart ↦
          ap (λ (r : Row). own_of r n) (get_or-set_other rows (client - 1) c new [] (λ e. apart (omega arith)))
          ∙ sym (own_off (held_of rows) client (suc c) n (set_own (held_of rows client) number what) apart)
    ]

-- one place of one row is changed
pub row_set : (rows : List Row) (client number : ℕ) (what : Option Descriptor) (old new : Row) → 0 < client → client ≤ length rows → old ≡ get_or rows (client - 1) old
    → ((n : ℕ) → own_of new n ≡ set_own (own_of old) number what n) → held_of (set rows (client - 1) new) ≡ set_descriptor (held_of rows) client number what
row_set rows client number what old new low high read is = λ k c n. row_set_at rows client number what old new low high read is c n k
