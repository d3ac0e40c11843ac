-- One account of the book changes.
use Rattle.std.proofs.Common.{◌≡◌, ◌≢◌, inl, inr, ℕ, zero, suc, ◌+◌, ◌-◌, ◌<◌, ◌≤◌, min, List, [], ◌∷◌, ◌||◌, ◌&&◌, not, ◌==◌, nat_le, length, get_or, set, Bool, true, false, refl, ap, sym, ◌∙◌, subst, arith}
use Rattle.std.proofs.lemmas.Bool.Decides.{eqb_tells, nat_tests}
use Rattle.std.proofs.Math.Decide.{dec_le}
use Rattle.std.proofs.lemmas.List.{get_or-set_same, get_or-set_other, get_or_default, length-set}
use Rattle.posix_calls.specs.Tree.{any_up_to, sum_up_to}
use Rattle.posix_calls.specs.Operations.{is_client}
use Rattle.posix_calls.proofs.Sums.{same_if, there_if}
use Rattle.world_invariant.specs.World.{Account, at}
use Rattle.world_invariant.specs.Machine.{Machine}
use Rattle.world_invariant.proofs.Owners.{is_low, is_high}
use Rattle.kernel_fs.specs.declared.account.ClientAccount.{ClientAccount}
use Rattle.kernel_fs.specs.Free.{is_absent}
use Rattle.kernel_fs.specs.Account.{IsAccountOf}
use Rattle.kernel_fs.specs.Book.{Accounts, account_of, empty_account, units_of, out_of, IsBookOf}

-- a sum over the numbers from 1 on moves by what one term does
sum_same : (n : ℕ) (f g : ℕ → ℕ) (d : ℕ) → n < d → ((j : ℕ) → 1 ≤ j → j ≢ d → g j ≡ f j) → sum_up_to n g ≡ sum_up_to n f
unfolding sum_up_to
sum_same zero f g d below same = refl
sum_same (suc n) f g d below same =
    let first : g (suc n) ≡ f (suc n) = same (suc n) (omega arith) (λ e. omega (arith, e, below)) in
    let rest : sum_up_to n g ≡ sum_up_to n f = sum_same n f g d (omega (arith, below)) same in
    omega (arith, first, rest)

pub sum_changes : (n : ℕ) (f g : ℕ → ℕ) (d : ℕ) → 1 ≤ d → d ≤ n → ((j : ℕ) → 1 ≤ j → j ≢ d → g j ≡ f j) → sum_up_to n g + f d ≡ sum_up_to n f + g d
unfolding sum_up_to
sum_changes zero f g d low high same = absurd (omega (arith, low, high))
sum_changes (suc n) f g d low high same =
    elim (dec_le d n) [
      | yes inside ↦
          let first : g (suc n) ≡ f (suc n) = same (suc n) (omega arith) (λ e. omega (arith, e, inside)) in
          let rest : sum_up_to n g + f d ≡ sum_up_to n f + g d = sum_changes n f g d low inside same in
          omega (arith, first, rest)
      | no outside ↦
          let last : d ≡ suc n = omega (arith, high, outside) in
          let gd : g d ≡ g (suc n) = ap g last in
          let fd : f d ≡ f (suc n) = ap f last in
          let rest : sum_up_to n g ≡ sum_up_to n f = sum_same n f g d (omega (arith, last)) same in
          omega (arith, gd, fd, rest)
    ]

-- the account at index k is that of client c
module _ (book : Accounts) (c k : ℕ) (a : ClientAccount) (long : length book ≡ 8) (is_c : is_client c ≡ true) (at_k : k ≡ c - 1) where
  abbrev next : Accounts
  next = set book k a

  pub own_account : account_of next c ≡ a
  own_account =
      let low : 1 ≤ c = is_low c is_c in
      let high : c ≤ 8 = is_high c is_c in
      ap (λ j. get_or next j empty_account) (sym at_k) ∙ get_or-set_same book k a empty_account (omega (arith, long, low, high, at_k))

  pub other_account : (d : ℕ) → 1 ≤ d → d ≢ c → account_of next d ≡ account_of book d
  other_account d above other =
      let low : 1 ≤ c = is_low c is_c in
      get_or-set_other book k (d - 1) a empty_account (λ e. other (omega (arith, e, above, low, at_k)))

  pub out_moved : out_of next + units_of book c ≡ out_of book + a.units
  unfolding out_of
  out_moved =
      from_one 8 (is_high c is_c)
    where
      -- the sum up to n, where only the account of c changes
      from_one : (n : ℕ) → c ≤ n → sum_up_to n (λ d. units_of next d) + units_of book c ≡ sum_up_to n (λ d. units_of book d) + a.units
      from_one n high =
          sum_changes n (λ d. units_of book d) (λ d. units_of next d) c (is_low c is_c) high (λ d above other. ap (λ (x : ClientAccount). x.units) (other_account d above other))
          ∙ ap (λ (x : ClientAccount). sum_up_to n (λ d. units_of book d) + x.units) own_account

  pub moved : (m n : Machine) → IsBookOf book m → IsAccountOf a (n.kernel.accounts c) (n.accepted c)
      → ((d : ℕ) → d ≢ c → n.kernel.accounts d ≡ m.kernel.accounts d) → ((d : ℕ) → d ≢ c → n.accepted d ≡ m.accepted d)
      → IsBookOf next n
  moved m n is own accounts accepted d is_d =
      elim (eqb_tells d c) [
        | inl same ↦ subst (λ e. IsAccountOf (account_of next e) (n.kernel.accounts e) (n.accepted e)) (sym same.1) (subst (λ x. IsAccountOf x (n.kernel.accounts c) (n.accepted c)) (sym own_account) own)
        | inr other ↦
            subst (λ x. IsAccountOf x (n.kernel.accounts d) (n.accepted d)) (sym (other_account d (is_low d is_d) other.1))
            (subst (λ x. IsAccountOf (account_of book d) x (n.accepted d)) (sym (accounts d other.1))
            (subst (λ k. IsAccountOf (account_of book d) (m.kernel.accounts d) k) (sym (accepted d other.1)) (is d is_d)))
      ]

  pub long_still : length next ≡ 8
  long_still = length-set book k a ∙ long

  at_own : (d : ClientAccount) → get_or book k d ≡ account_of book c
  at_own d =
      let low : 1 ≤ c = is_low c is_c in
      let high : c ≤ 8 = is_high c is_c in
      ap (λ j. get_or book j d) at_k ∙ get_or_default book (c - 1) d empty_account (omega (arith, long, low, high))

  pub same_out : (d : ClientAccount) → a.units ≡ (get_or book k d).units → out_of next ≡ out_of book
  same_out d same =
      let sums : out_of next + units_of book c ≡ out_of book + a.units = out_moved in
      let own : (get_or book k d).units ≡ units_of book c = ap (λ (x : ClientAccount). x.units) (at_own d) in
      omega (arith, sums, own, same)

  pub more_out : (d : ClientAccount) (u : ℕ) → a.units ≡ (get_or book k d).units + u → out_of next ≡ out_of book + u
  more_out d u more =
      let sums : out_of next + units_of book c ≡ out_of book + a.units = out_moved in
      let own : (get_or book k d).units ≡ units_of book c = ap (λ (x : ClientAccount). x.units) (at_own d) in
      omega (arith, sums, own, more)

  pub less_out : (d : ClientAccount) (u v : ℕ) → a.units + u ≡ (get_or book k d).units → v ≡ u → out_of next + v ≡ out_of book
  less_out d u v less same =
      let sums : out_of next + units_of book c ≡ out_of book + a.units = out_moved in
      let own : (get_or book k d).units ≡ units_of book c = ap (λ (x : ClientAccount). x.units) (at_own d) in
      omega (arith, sums, own, less, same)

  pub less_left : (d : ClientAccount) (o u : ℕ) → o ≡ out_of book → a.units + u ≡ (get_or book k d).units → o - u ≡ out_of next
  less_left d o u out less =
      let sums : out_of next + u ≡ out_of book = less_out d u u less refl in
      omega (arith, sums, out)

  pub moved_account : (m : Machine) (x : Account) → IsBookOf book m → IsAccountOf a x (m.accepted c) → IsBookOf next (record { kernel = record { shared = m.kernel.shared; capacity = m.kernel.capacity; accounts = at m.kernel.accounts c x }; accepted = m.accepted })
  moved_account m x is own =
      moved m (record { kernel = record { shared = m.kernel.shared; capacity = m.kernel.capacity; accounts = at m.kernel.accounts c x }; accepted = m.accepted }) is
      (subst (λ y. IsAccountOf a y (m.accepted c)) (sym (there_if c x (m.kernel.accounts c))) own)
      (λ d other. same_if d c x (m.kernel.accounts d) other) (λ d other. refl)

  -- how many records it accepted changes
  pub moved_accepted : (m : Machine) (j k : ℕ) → IsBookOf book m → IsAccountOf a (m.kernel.accounts c) j → j ≡ k → IsBookOf next (record { kernel = m.kernel; accepted = at m.accepted c k })
  moved_accepted m j k is own same =
      moved m (record { kernel = m.kernel; accepted = at m.accepted c k }) is
      (subst (λ y. IsAccountOf a (m.kernel.accounts c) y) (sym (there_if c k (m.accepted c))) (subst (λ y. IsAccountOf a (m.kernel.accounts c) y) same own))
      (λ d other. refl) (λ d other. same_if d c k (m.accepted d) other)

-- ---- one account

module _ (book : Accounts) (c k : ℕ) (d : ClientAccount) (long : length book ≡ 8) (is_c : is_client c ≡ true) (at_k : k ≡ c - 1) where
  pub read_own : get_or book k d ≡ account_of book c
  read_own =
      let low : 1 ≤ c = is_low c is_c in
      let high : c ≤ 8 = is_high c is_c in
      ap (λ j. get_or book j d) at_k ∙ get_or_default book (c - 1) d empty_account (omega (arith, long, low, high))

  -- what is out of it is out
  pub within_out : (get_or book k d).units ≤ out_of book
  within_out =
      let sums : out_of (set book k empty_account) + units_of book c ≡ out_of book + 0 = out_moved book c k empty_account long is_c at_k in
      let own : (get_or book k d).units ≡ units_of book c = ap (λ (x : ClientAccount). x.units) read_own in
      omega (arith, sums, own)

-- ---- all accounts

-- what is so of each
abbrev pub AreAll : (ClientAccount → Type 0) → List ClientAccount → Type 0
AreAll P [] = Unit {0}
AreAll P (x ∷ xs) = P x × AreAll P xs

pub each_of : (P : ClientAccount → Type 0) (xs : List ClientAccount) → AreAll P xs → (k : ℕ) → k < length xs → P (get_or xs k empty_account)
each_of P [] all k low = absurd (omega (arith, low))
each_of P (x ∷ xs) all zero low = all.0
each_of P (x ∷ xs) all (suc k) low = each_of P xs all.1 k (omega (arith, low))

-- the charge may rise by units that leave an account
pub still_fits : (new old u own before after capacity : ℕ) → new + min u own ≡ old → u ≤ own → after ≤ before + u → before + old ≤ capacity → after + new ≤ capacity
still_fits new old u own before after capacity sums enough raised fits = omega (arith, sums, enough, raised, fits)

-- a search over the numbers from 1 to n, one further
pub not_found : (n m : ℕ) (p : ℕ → Bool) → m ≡ suc n → p m ≡ false → any_up_to n p ≡ false → any_up_to m p ≡ false
unfolding any_up_to
not_found n m p next here before = ap (λ k. any_up_to k p) next ∙ ap (λ b. b || any_up_to n p) (sym (ap p next) ∙ here) ∙ before

pub found_more : (n m : ℕ) (p : ℕ → Bool) → m ≡ suc n → any_up_to m p ≡ (p m || any_up_to n p)
unfolding any_up_to
found_more n m p next = ap (λ k. any_up_to k p) next ∙ ap (λ k. p k || any_up_to n p) (sym next)

pub none_yet : (p : ℕ → Bool) → any_up_to 0 p ≡ false
unfolding any_up_to
none_yet p = refl

-- the account that a loop over all reads next
pub item_of : (book now : Accounts) (k : ℕ) (d : ClientAccount) → book ≡ now → length book ≡ 8 → k < 8 → account_of now (k + 1) ≡ get_or book k d
item_of book now k d same long low =
    let back : k + 1 - 1 ≡ k = omega arith in
    sym (ap (λ b. account_of b (k + 1)) same) ∙ ap (λ j. get_or book j empty_account) back ∙ get_or_default book k empty_account d (omega (arith, long, low))

pub or_swap : (a b : Bool) → (a || b) ≡ (b || a)
or_swap true true = refl
or_swap true false = refl
or_swap false true = refl
or_swap false false = refl

-- ---- what is free

le_true : (a b : ℕ) → a ≤ b → nat_le a b ≡ true
le_true a b low = grind (arith, nat_tests)

le_false : (a b : ℕ) → b < a → nat_le a b ≡ false
le_false a b low = grind (arith, nat_tests)

low_same : (i : ℕ) → i ≢ 1 → nat_le 1 i ≡ nat_le 2 i
low_same i other = elim (dec_le 2 i) [
  | yes after ↦ le_true 1 i (omega (arith, after)) ∙ sym (le_true 2 i after)
  | no before ↦ le_false 1 i (omega (arith, before, other)) ∙ sym (le_false 2 i (omega (arith, before)))
]

and_false : (a : Bool) → (a && false) ≡ false
and_false true = refl
and_false false = refl

-- what is not taken is free, where the root, the nodes and all that is in some account are taken
pub free_absent : (taken nodes : ℕ → Bool) (granted : Bool) (i : ℕ) → taken i ≡ (i == 1 || (granted || nodes i)) → is_absent taken i ≡ ((nat_le 2 i && nat_le i 1024) && not (nodes i || granted))
free_absent taken nodes granted i is = elim (eqb_tells i 1) [
  | inl same ↦
      let out : nat_le 2 i ≡ false = ap (λ k. nat_le 2 k) same.1 in
      let in_it : taken i ≡ true = is ∙ ap (λ b. b || (granted || nodes i)) same.0 in
      ap (λ b. (nat_le 1 i && nat_le i 1024) && not b) in_it ∙ and_false (nat_le 1 i && nat_le i 1024) ∙ sym (ap (λ b. (b && nat_le i 1024) && not (nodes i || granted)) out)
  | inr other ↦
      ap (λ b. (nat_le 1 i && nat_le i 1024) && not b) (is ∙ ap (λ b. b || (granted || nodes i)) other.0 ∙ or_swap granted (nodes i))
      ∙ ap (λ b. (b && nat_le i 1024) && not (nodes i || granted)) (low_same i other.1)
]
