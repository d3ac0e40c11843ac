-- What a book tells of its machine, and that grants keep what holds of it.
use Rattle.std.proofs.Common.{◌≡◌, ◌⊎◌, inl, inr, ℕ, zero, suc, ◌+◌, ◌-◌, ◌≤◌, Bool, true, false, ◌||◌, ◌&&◌, not, nat_le, Option, Some, None, refl, ap, sym, ◌∙◌, subst, arith}
use Rattle.std.proofs.lemmas.Bool.{false≢true}
use Rattle.std.proofs.lemmas.Bool.Decides.{nat_tests}
use Rattle.posix_calls.specs.Tree.{any_up_to, sum_up_to}
use Rattle.posix_calls.specs.Operations.{is_client}
use Rattle.posix_calls.proofs.Sums.{any_there, any_is}
use Rattle.world_invariant.specs.file_graph.Graph.{Node}
use Rattle.world_invariant.specs.file_graph.Units.{charge}
use Rattle.world_invariant.specs.World.{Account, Kernel, at}
use Rattle.world_invariant.specs.BookSteps.{HasRoom, IsUnbooked}
use Rattle.world_invariant.specs.Machine.{Machine, IsRunning}
use Rattle.world_invariant.proofs.Kernels.{each, booked_moved, units_moved}
use Rattle.world_invariant.proofs.Owners.{is_low, is_high, client_is}
use Rattle.world_invariant.proofs.Records.{either}
use Rattle.kernel_fs.specs.Book.{Accounts, numbers_of, pins_of, units_of, out_of, is_free, is_granted, is_pinned, IsBookOf}
use Rattle.kernel_fs.specs.Nodes.{AreNodes, is_node}
use Rattle.kernel_fs.specs.Steps.{grant, take_back}
use Rattle.kernel_fs.proofs.Choosing.{and_true, first_of, second_of, not_true}

sum_alike : (n : ℕ) (f g : ℕ → ℕ) → ((j : ℕ) → 1 ≤ j → j ≤ n → f j ≡ g j) → sum_up_to n f ≡ sum_up_to n g
unfolding sum_up_to
sum_alike zero f g same = refl
sum_alike (suc n) f g same =
    let here : f (suc n) ≡ g (suc n) = same (suc n) (omega arith) (omega arith) in
    let rest : sum_up_to n f ≡ sum_up_to n g = sum_alike n f g (λ j low high. same j low (omega (arith, high))) in
    omega (arith, here, rest)

-- ---- what the book tells

module _ (book : Accounts) (m : Machine) (is : IsBookOf book m) where
  out_same : sum_up_to 8 (λ c. (m.kernel.accounts c).units) ≡ out_of book
  unfolding out_of
  out_same = sum_alike 8 (λ c. (m.kernel.accounts c).units) (λ c. units_of book c) (λ c low high. (is c (client_is c low high)).units)

  pub has_room : (units : ℕ) → HasRoom m.kernel units → charge m.kernel.shared + out_of book + units ≤ m.kernel.capacity
  has_room units room = let same : sum_up_to 8 (λ c. (m.kernel.accounts c).units) ≡ out_of book = out_same in omega (arith, same, room)

  pub room_is : (units : ℕ) → charge m.kernel.shared + out_of book + units ≤ m.kernel.capacity → HasRoom m.kernel units
  room_is units room = let same : sum_up_to 8 (λ c. (m.kernel.accounts c).units) ≡ out_of book = out_same in omega (arith, same, room)

  pub running_fits : IsRunning m → charge m.kernel.shared + out_of book ≤ m.kernel.capacity
  running_fits runs =
      let same : sum_up_to 8 (λ c. (m.kernel.accounts c).units) ≡ out_of book = out_same in
      let fits : charge m.kernel.shared + sum_up_to 8 (λ c. (m.kernel.accounts c).units) ≤ m.kernel.capacity = runs.booked.fits in
      omega (arith, same, fits)

  -- in no account, or in one
  granted_not : (i : ℕ) → is_granted book i ≡ false → (d : ℕ) → is_client d ≡ true → (m.kernel.accounts d).numbers i ≡ false
  unfolding is_granted
  granted_not i none d is_d = elim (either (numbers_of book d i)) [
    | inl there ↦ absurd (false≢true (sym none ∙ any_there 8 d (λ c. numbers_of book c i) (is_low d is_d) (is_high d is_d) there))
    | inr free ↦ (is d is_d).numbers i ∙ free
  ]

  not_granted : (i : ℕ) → ((d : ℕ) → is_client d ≡ true → (m.kernel.accounts d).numbers i ≡ false) → is_granted book i ≡ false
  unfolding is_granted
  not_granted i nobody = elim (either (any_up_to 8 (λ c. numbers_of book c i))) [
    | inl there ↦
        let one : _ = any_is 8 (λ c. numbers_of book c i) there in
        let client : is_client one.k ≡ true = client_is one.k one.low one.high in
        absurd (false≢true (sym (nobody one.k client) ∙ (is one.k client).numbers i ∙ one.passes))
    | inr free ↦ free
  ]

  pub pinned_not : (i : ℕ) → is_pinned book i ≡ false → (d : ℕ) → is_client d ≡ true → (m.kernel.accounts d).pins i ≡ false
  unfolding is_pinned
  pinned_not i none d is_d = elim (either (pins_of book d i)) [
    | inl there ↦ absurd (false≢true (sym none ∙ any_there 8 d (λ c. pins_of book c i) (is_low d is_d) (is_high d is_d) there))
    | inr free ↦ (is d is_d).pins i ∙ free
  ]

  pub not_pinned : (i : ℕ) → ((d : ℕ) → is_client d ≡ true → (m.kernel.accounts d).pins i ≡ false) → is_pinned book i ≡ false
  unfolding is_pinned
  not_pinned i nobody = elim (either (any_up_to 8 (λ c. pins_of book c i))) [
    | inl there ↦
        let one : _ = any_is 8 (λ c. pins_of book c i) there in
        let client : is_client one.k ≡ true = client_is one.k one.low one.high in
        absurd (false≢true (sym (nobody one.k client) ∙ (is one.k client).pins i ∙ one.passes))
    | inr free ↦ free
  ]

  no_node : (o : Option Node) → is_node o ≡ false → o ≡ None
  no_node None e = refl
  no_node (Some n) e = absurd (false≢true (sym e))

  le_of : (a b : ℕ) → nat_le a b ≡ true → a ≤ b
  le_of a b e = grind (arith, nat_tests)

  of_le : (a b : ℕ) → a ≤ b → nat_le a b ≡ true
  of_le a b low = grind (arith, nat_tests)

  or_left : (a b : Bool) → (a || b) ≡ false → a ≡ false
  or_left true b e = e
  or_left false b e = refl

  or_right : (a b : Bool) → (a || b) ≡ false → b ≡ false
  or_right true b e = absurd (false≢true (sym e))
  or_right false b e = e

  or_none : (a b : Bool) → a ≡ false → b ≡ false → (a || b) ≡ false
  or_none a b e f = ap (λ t. t || b) e ∙ f

  module _ (nodes : ℕ → Bool) (are : AreNodes m.kernel.shared nodes) (i : ℕ) where
    pub free_is_unbooked : is_free book nodes i ≡ true → IsUnbooked m.kernel i
    free_is_unbooked e =
        let range : (nat_le 2 i && nat_le i 1024) ≡ true = first_of (nat_le 2 i && nat_le i 1024) (not (nodes i || is_granted book i)) e in
        let out : (nodes i || is_granted book i) ≡ false = not_true (nodes i || is_granted book i) (second_of (nat_le 2 i && nat_le i 1024) (not (nodes i || is_granted book i)) e) in
        record {
          low = le_of 2 i (first_of (nat_le 2 i) (nat_le i 1024) range);
          high = le_of i 1024 (second_of (nat_le 2 i) (nat_le i 1024) range);
          none = no_node (m.kernel.shared i) (sym (are i) ∙ or_left (nodes i) (is_granted book i) out);
          nobody = granted_not i (or_right (nodes i) (is_granted book i) out);
        }

    pub unbooked_is_free : IsUnbooked m.kernel i → is_free book nodes i ≡ true
    unbooked_is_free u =
        and_true (nat_le 2 i && nat_le i 1024) (not (nodes i || is_granted book i))
        (and_true (nat_le 2 i) (nat_le i 1024) (of_le 2 i u.low) (of_le i 1024 u.high))
        (ap not (or_none (nodes i) (is_granted book i) (are i ∙ ap is_node u.none) (not_granted i u.nobody)))

-- ---- the machine goes on

or_cases : (a b : Bool) → (a || b) ≡ true → (a ≡ true) ⊎ (b ≡ true)
or_cases true b e = inl refl
or_cases false b e = inr e

module _ (m : Machine) (runs : IsRunning m) (c : ℕ) (is_c : is_client c ≡ true) where
  abbrev k : Kernel
  k = m.kernel

  abbrev old : Account
  old = k.accounts c

  marks_stay : (x : Account) → x.mark ≡ old.mark → (d : ℕ) → is_client d ≡ true → (at k.accounts c x d).mark ≤ m.accepted d
  marks_stay x mark d is_d = each k.accounts c x (λ d (y : Account). is_client d ≡ true → y.mark ≤ m.accepted d) (λ is. subst (λ n. n ≤ m.accepted c) (sym mark) (runs.accepted c is)) (λ d other is. runs.accepted d is) d is_d

  pub grant_runs : (units : ℕ) (numbers : ℕ → Bool) → HasRoom k units → ((i : ℕ) → numbers i ≡ true → IsUnbooked k i) → IsRunning (grant m c units numbers)
  grant_runs units numbers room free =
      let sums : sum_up_to 8 (λ d. (at k.accounts c (record old { units = old.units + units; numbers = λ i. old.numbers i || numbers i }) d).units) + old.units ≡ sum_up_to 8 (λ d. (k.accounts d).units) + (old.units + units)
      = units_moved k c k.shared (record old { units = old.units + units; numbers = λ i. old.numbers i || numbers i }) runs.booked is_c in
      record {
        booked = booked_moved k c k.shared (record old { units = old.units + units; numbers = λ i. old.numbers i || numbers i }) runs.booked is_c
            (λ i e. elim (or_cases (old.numbers i) (numbers i) e) [ inl was ↦ runs.booked.free c i is_c was | inr new ↦ (free i new).none ])
            (λ d i is_d off e. runs.booked.free d i is_d e)
            (λ i e. elim (or_cases (old.numbers i) (numbers i) e) [ inl was ↦ runs.booked.range c i is_c was | inr new ↦ ((free i new).low, (free i new).high) ])
            (λ d i is_d off e. elim (or_cases (old.numbers i) (numbers i) e) [ inl was ↦ runs.booked.alone c d i is_c is_d off was | inr new ↦ (free i new).nobody d is_d ])
            runs.booked.limits (omega (arith, sums, room));
        accepted = marks_stay (record old { units = old.units + units; numbers = λ i. old.numbers i || numbers i }) refl;
      }

  pub take_back_runs : (units : ℕ) (numbers : ℕ → Bool) → IsRunning (take_back m c units numbers)
  take_back_runs units numbers =
      let sums : sum_up_to 8 (λ d. (at k.accounts c (record old { units = old.units - units; numbers = λ i. old.numbers i && not (numbers i) }) d).units) + old.units ≡ sum_up_to 8 (λ d. (k.accounts d).units) + (old.units - units)
      = units_moved k c k.shared (record old { units = old.units - units; numbers = λ i. old.numbers i && not (numbers i) }) runs.booked is_c in
      let fits : charge k.shared + sum_up_to 8 (λ d. (k.accounts d).units) ≤ k.capacity = runs.booked.fits in
      record {
        booked = booked_moved k c k.shared (record old { units = old.units - units; numbers = λ i. old.numbers i && not (numbers i) }) runs.booked is_c
            (λ i e. runs.booked.free c i is_c (first_of (old.numbers i) (not (numbers i)) e))
            (λ d i is_d off e. runs.booked.free d i is_d e)
            (λ i e. runs.booked.range c i is_c (first_of (old.numbers i) (not (numbers i)) e))
            (λ d i is_d off e. runs.booked.alone c d i is_c is_d off (first_of (old.numbers i) (not (numbers i)) e))
            runs.booked.limits (omega (arith, sums, fits));
        accepted = marks_stay (record old { units = old.units - units; numbers = λ i. old.numbers i && not (numbers i) }) refl;
      }
