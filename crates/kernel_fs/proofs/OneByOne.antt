-- Units and numbers at once are one unit step, and then a step for each number.
use Rattle.std.proofs.Common.{◌≡◌, inl, inr, ℕ, ◌+◌, ◌-◌, Bool, true, false, ◌||◌, ◌&&◌, ◌==◌, not, cond, List, [], ◌∷◌, refl, ap, sym, ◌∙◌}
use Rattle.std.proofs.lemmas.Bool.Decides.{eqb_tells}
use Rattle.posix_calls.proofs.Sums.{there_if}
use Rattle.world_invariant.specs.file_graph.Graph.{is_among}
use Rattle.world_invariant.specs.World.{Account, at}
use Rattle.world_invariant.specs.LeaseSteps.{also, without}
use Rattle.world_invariant.specs.Machine.{Machine, with_account, book_units, unbook_units, book_number, unbook_number}
use Rattle.kernel_fs.specs.Steps.{grant, take_back, book_numbers, unbook_numbers}
use Rattle.kernel_fs.specs.Inodes.{has, members}
use Rattle.kernel_fs.proofs.Choosing.{swapped}
use Rattle.kernel_fs.proofs.Members.{member}

-- an account that is put twice
twice : (m : Machine) (c : ℕ) (x next : Account) (more : Account → Account) → more x ≡ next → with_account (with_account m c x) c (more ((with_account m c x).kernel.accounts c)) ≡ with_account m c next
twice m c x next more is = ap (λ (f : ℕ → Account). record { kernel = record { shared = m.kernel.shared; capacity = m.kernel.capacity; accounts = f }; accepted = m.accepted }) (λ t d. same d t)
  where
    same : (d : ℕ) → at (at m.kernel.accounts c x) c (more (at m.kernel.accounts c x c)) d ≡ at m.kernel.accounts c next d
    same d = elim (eqb_tells d c) [
      | inl here ↦
          ap (λ b. cond b (more (at m.kernel.accounts c x c)) (at m.kernel.accounts c x d)) here.0
          ∙ ap more (there_if c x (m.kernel.accounts c)) ∙ is
          ∙ sym (ap (λ b. cond b next (m.kernel.accounts d)) here.0)
      | inr other ↦
          ap (λ b. cond b (more (at m.kernel.accounts c x c)) (at m.kernel.accounts c x d)) other.0
          ∙ ap (λ b. cond b x (m.kernel.accounts d)) other.0
          ∙ sym (ap (λ b. cond b next (m.kernel.accounts d)) other.0)
    ]

turned : (i j : ℕ) → (i == j) ≡ (j == i)
turned i j = elim (eqb_tells i j) [
  | inl same ↦ elim (eqb_tells j i) [ inl back ↦ same.0 ∙ sym back.0 | inr off ↦ absurd (off.1 (sym same.1)) ]
  | inr other ↦ elim (eqb_tells j i) [ inl back ↦ absurd (other.1 (sym back.1)) | inr off ↦ other.0 ∙ sym off.0 ]
]

or_false : (b : Bool) → b ≡ (b || false)
or_false true = refl
or_false false = refl

and_true : (b : Bool) → b ≡ (b && true)
and_true true = refl
and_true false = refl

module _ (m : Machine) (c units : ℕ) where
  abbrev old : Account
  old = m.kernel.accounts c

  -- ---- granted

  abbrev richer : (ℕ → Bool) → Account
  richer numbers = record old { units = old.units + units; numbers = numbers }

  one_more : (i : ℕ) (is : List ℕ) → book_number (grant m c units (λ k. is_among k is)) c i ≡ grant m c units (λ k. is_among k (i ∷ is))
  one_more i is =
      twice m c (richer (λ k. old.numbers k || is_among k is)) (richer (λ k. old.numbers k || is_among k (i ∷ is))) (λ (a : Account). record a { numbers = also a.numbers i })
      (ap richer (λ t k. same k t))
    where
      same : (k : ℕ) → (k == i || (old.numbers k || is_among k is)) ≡ (old.numbers k || (i == k || is_among k is))
      same k = ap (λ b. b || (old.numbers k || is_among k is)) (turned k i) ∙ swapped (i == k) (old.numbers k) (is_among k is)

  pub granted : (is : List ℕ) → grant m c units (λ k. is_among k is) ≡ book_numbers (book_units m c units) c is
  granted [] = ap (λ (f : ℕ → Bool). with_account m c (richer f)) (λ t k. sym (or_false (old.numbers k)) t)
  granted (i ∷ is) = sym (one_more i is) ∙ ap (λ n. book_number n c i) (granted is)

  -- ---- given back

  abbrev poorer : (ℕ → Bool) → Account
  poorer numbers = record old { units = old.units - units; numbers = numbers }

  one_less : (i : ℕ) (is : List ℕ) → unbook_number (take_back m c units (λ k. is_among k is)) c i ≡ take_back m c units (λ k. is_among k (i ∷ is))
  one_less i is =
      twice m c (poorer (λ k. old.numbers k && not (is_among k is))) (poorer (λ k. old.numbers k && not (is_among k (i ∷ is)))) (λ (a : Account). record a { numbers = without a.numbers i })
      (ap poorer (λ t k. same k t))
    where
      gone : (b : Bool) → false ≡ (b && false)
      gone true = refl
      gone false = refl

      same : (k : ℕ) → cond (k == i) false (old.numbers k && not (is_among k is)) ≡ (old.numbers k && not (i == k || is_among k is))
      same k = elim (eqb_tells k i) [
        | inl here ↦
            ap (λ b. cond b false (old.numbers k && not (is_among k is))) here.0
            ∙ gone (old.numbers k)
            ∙ sym (ap (λ b. old.numbers k && not (b || is_among k is)) (turned i k ∙ here.0))
        | inr other ↦
            ap (λ b. cond b false (old.numbers k && not (is_among k is))) other.0
            ∙ sym (ap (λ b. old.numbers k && not (b || is_among k is)) (turned i k ∙ other.0))
      ]

  pub taken_back : (is : List ℕ) → take_back m c units (λ k. is_among k is) ≡ unbook_numbers (unbook_units m c units) c is
  taken_back [] = ap (λ (f : ℕ → Bool). with_account m c (poorer f)) (λ t k. sym (and_true (old.numbers k)) t)
  taken_back (i ∷ is) = sym (one_less i is) ∙ ap (λ n. unbook_number n c i) (taken_back is)

  -- ---- a set of them

  pub granted_set : (rows : List ℕ) → grant m c units (has rows) ≡ book_numbers (book_units m c units) c (members rows)
  granted_set rows = ap (grant m c units) (λ t i. sym (member rows i) t) ∙ granted (members rows)

  pub taken_back_set : (rows : List ℕ) → take_back m c units (has rows) ≡ unbook_numbers (unbook_units m c units) c (members rows)
  taken_back_set rows = ap (take_back m c units) (λ t i. sym (member rows i) t) ∙ taken_back (members rows)
