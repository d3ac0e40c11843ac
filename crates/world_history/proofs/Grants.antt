-- Units and several numbers are granted at once, or given back: as by the world's steps of units and of one number.
use Rattle.std.proofs.Common.{◌≡◌, inl, inr, ℕ, ◌+◌, ◌-◌, ◌==◌, ◌||◌, cond, Bool, true, false, List, [], ◌∷◌, refl, ap, sym, ◌∙◌, true≢false}
use Rattle.std.proofs.lemmas.Bool.Decides.{eqb_tells}
use Rattle.world_invariant.specs.file_graph.Graph.{Graph, is_among}
use Rattle.world_invariant.specs.BookSteps.{CanReturn, IsUnbooked, number_granted, number_returned, units_granted, units_returned}
use Rattle.world_invariant.specs.Invariant.{IsCoherent}
use Rattle.world_invariant.specs.LeaseSteps.{also, without}
use Rattle.world_invariant.specs.Machine.{Machine, book_units, kernel_with, unbook_units}
use Rattle.world_invariant.specs.World.{Account, Client, Kernel, World, at, world_state}
use Rattle.world_invariant.proofs.Books.{number_granted_holds, number_granted_tree, number_returned_holds, number_returned_tree, units_granted_hold, units_granted_tree, units_returned_hold, units_returned_tree}
use Rattle.world_history.specs.Conditions.{CanGrant, CanReturnGrant}
use Rattle.world_history.specs.Moves.{also_all, book_numbers, unbook_numbers, without_all}
use Rattle.world_history.proofs.Bools.{neither}
use Rattle.world_history.proofs.WorldSteps.{at_again, at_there}

other_way : (i j : ℕ) → (j == i) ≡ false → (i == j) ≡ false
other_way i j e = elim (eqb_tells i j) [
  | inl same ↦ elim (eqb_tells j i) [ inl there ↦ absurd (true≢false (sym there.0 ∙ e)) | inr off ↦ absurd (off.1 (sym same.1)) ]
  | inr other ↦ other.0
]

-- ---- granted

abbrev with_number : Client → ℕ → Client
with_number p i = record p { knows = record p.knows { granted = also p.knows.granted i } }

abbrev grantee : Client → ℕ → List ℕ → Client
grantee p units numbers = record p { spare = p.spare + units; knows = record p.knows { granted = also_all p.knows.granted numbers } }

abbrev pub granted_world : World → ℕ → ℕ → List ℕ → World
granted_world w c units [] = units_granted w c units
granted_world w c units (i ∷ is) = number_granted (granted_world w c units is) c i

module _ (w : World) (c units : ℕ) where
  -- what is charged and out stays, but for these units
  granted_shared : (is : List ℕ) → (granted_world w c units is).kernel.shared ≡ w.kernel.shared
  granted_shared [] = refl
  granted_shared (i ∷ is) = granted_shared is

  -- a number that isn't among them is booked as before
  still_unbooked : (is : List ℕ) (i : ℕ) → is_among i is ≡ false → (d : ℕ) → (w.kernel.accounts d).numbers i ≡ false → ((granted_world w c units is).kernel.accounts d).numbers i ≡ false
  still_unbooked [] i off d e = elim (eqb_tells d c) [
    | inl same ↦ ap (λ b. (cond {A = Account} b (record (w.kernel.accounts c) { units = (w.kernel.accounts c).units + units }) (w.kernel.accounts d)).numbers i) same.0 ∙ ap (λ k. (w.kernel.accounts k).numbers i) (sym same.1) ∙ e
    | inr other ↦ ap (λ b. (cond {A = Account} b (record (w.kernel.accounts c) { units = (w.kernel.accounts c).units + units }) (w.kernel.accounts d)).numbers i) other.0 ∙ e
  ]
  still_unbooked (j ∷ js) i off d e =
      let k : Kernel = (granted_world w c units js).kernel in
      let apart = neither (j == i) (is_among i js) off in
      elim (eqb_tells d c) [
        | inl same ↦ ap (λ b. (cond {A = Account} b (record (k.accounts c) { numbers = also (k.accounts c).numbers j }) (k.accounts d)).numbers i) same.0
            ∙ ap (λ b. b || (k.accounts c).numbers i) (other_way i j apart.0) ∙ ap (λ n. (k.accounts n).numbers i) (sym same.1) ∙ still_unbooked js i apart.1 d e
        | inr other ↦ ap (λ b. (cond {A = Account} b (record (k.accounts c) { numbers = also (k.accounts c).numbers j }) (k.accounts d)).numbers i) other.0 ∙ still_unbooked js i apart.1 d e
      ]

  abbrev Grants : List ℕ → Type 0
  Grants is = IsCoherent (granted_world w c units is) × (world_state (granted_world w c units is) ≡ world_state w)

  grants : (is : List ℕ) → IsCoherent w → CanGrant w c units is → Grants is
  grants [] h can = (units_granted_hold w c units h can.client can.room, units_granted_tree w c units h can.client)
  grants (i ∷ is) h can =
      let before : Grants is = grants is h (record { client = can.client; room = can.room; unbooked = λ j e. can.unbooked j (behind j e); once = can.once.1 }) in
      let free : IsUnbooked w.kernel i = can.unbooked i first in
      let now : IsUnbooked (granted_world w c units is).kernel i = record { low = free.low; high = free.high; none = ap (λ (g : Graph). g i) (granted_shared is) ∙ free.none; nobody = λ d is_d. still_unbooked is i can.once.0 d (free.nobody d is_d) } in
      (number_granted_holds (granted_world w c units is) c i before.0 can.client now, number_granted_tree (granted_world w c units is) c i before.0 can.client ∙ before.1)
    where
      first : is_among i (i ∷ is) ≡ true
      first = elim (eqb_tells i i) [ inl same ↦ ap (λ b. b || is_among i is) same.0 | inr off ↦ absurd (off.1 refl) ]

      behind : (j : ℕ) → is_among j is ≡ true → is_among j (i ∷ is) ≡ true
      behind j e = elim (i == j) as (λ b. (b || is_among j is) ≡ true) [ true ↦ refl | false ↦ e ]

  pub granted_holds : (is : List ℕ) → IsCoherent w → CanGrant w c units is → IsCoherent (granted_world w c units is)
  granted_holds is h can = (grants is h can).0

  pub granted_tree : (is : List ℕ) → IsCoherent w → CanGrant w c units is → world_state (granted_world w c units is) ≡ world_state w
  granted_tree is h can = (grants is h can).1

  granted_clients : (is : List ℕ) → (granted_world w c units is).clients ≡ at w.clients c (grantee (w.clients c) units is)
  granted_clients [] = refl
  granted_clients (i ∷ is) =
      let p : Client = grantee (w.clients c) units is in
      ap (λ (f : ℕ → Client). at f c (with_number (f c) i)) (granted_clients is) ∙ ap (λ (q : Client). at (at w.clients c p) c (with_number q i)) (at_there w.clients c p) ∙ at_again w.clients c p (with_number p i)

granted_kernel : (m : Machine) (clients : ℕ → Client) (c units : ℕ) (is : List ℕ) → (granted_world (record { kernel = m.kernel; clients = clients }) c units is).kernel ≡ (book_numbers (book_units m c units) c is).kernel
granted_kernel m clients c units [] = refl
granted_kernel m clients c units (i ∷ is) = ap (λ (k : Kernel). kernel_with k c k.shared (record (k.accounts c) { numbers = also (k.accounts c).numbers i })) (granted_kernel m clients c units is)

pub granted_is : (m : Machine) (clients : ℕ → Client) (c units : ℕ) (is : List ℕ) → record { kernel = (book_numbers (book_units m c units) c is).kernel; clients = at clients c (grantee (clients c) units is) } ≡ granted_world (record { kernel = m.kernel; clients = clients }) c units is
granted_is m clients c units is = λ t. record { kernel = sym (granted_kernel m clients c units is) t; clients = sym (granted_clients (record { kernel = m.kernel; clients = clients }) c units is) t }

-- ---- given back

abbrev without_number : Client → ℕ → Client
without_number p i = record p { knows = record p.knows { granted = without p.knows.granted i } }

abbrev returnee : Client → ℕ → List ℕ → Client
returnee p units numbers = record p { spare = p.spare - units; knows = record p.knows { granted = without_all p.knows.granted numbers } }

abbrev pub returned_world : World → ℕ → ℕ → List ℕ → World
returned_world w c units [] = units_returned w c units
returned_world w c units (i ∷ is) = number_returned (returned_world w c units is) c i

-- a number that isn't among them stays
still_granted : (has : ℕ → Bool) (is : List ℕ) (i : ℕ) → is_among i is ≡ false → has i ≡ true → without_all has is i ≡ true
still_granted has [] i off e = e
still_granted has (j ∷ js) i off e = let apart = neither (j == i) (is_among i js) off in ap (λ b. cond b false (without_all has js i)) (other_way i j apart.0) ∙ still_granted has js i apart.1 e

module _ (w : World) (c units : ℕ) where
  returned_clients : (is : List ℕ) → (returned_world w c units is).clients ≡ at w.clients c (returnee (w.clients c) units is)
  returned_clients [] = refl
  returned_clients (i ∷ is) =
      let p : Client = returnee (w.clients c) units is in
      ap (λ (f : ℕ → Client). at f c (without_number (f c) i)) (returned_clients is) ∙ ap (λ (q : Client). at (at w.clients c p) c (without_number q i)) (at_there w.clients c p) ∙ at_again w.clients c p (without_number p i)

  abbrev Returns : List ℕ → Type 0
  Returns is = IsCoherent (returned_world w c units is) × (world_state (returned_world w c units is) ≡ world_state w)

  returns : (is : List ℕ) → IsCoherent w → CanReturnGrant w c units is → Returns is
  returns [] h can = (units_returned_hold w c units h can.client can.enough, units_returned_tree w c units h can.client)
  returns (i ∷ is) h can =
      let before : Returns is = returns is h (record { client = can.client; idle = can.idle; enough = can.enough; granted = λ j e. can.granted j (behind j e); once = can.once.1 }) in
      let p : Client = returnee (w.clients c) units is in
      let there : (returned_world w c units is).clients c ≡ p = ap (λ (f : ℕ → Client). f c) (returned_clients is) ∙ at_there w.clients c p in
      let may : CanReturn (returned_world w c units is) c i = record {
        client = can.client;
        idle = ap (λ (q : Client). q.begun) there ∙ can.idle;
        granted = ap (λ (q : Client). q.knows.granted i) there ∙ still_granted (w.clients c).knows.granted is i can.once.0 (can.granted i first);
      } in
      (number_returned_holds (returned_world w c units is) c i before.0 may, number_returned_tree (returned_world w c units is) c i before.0 may ∙ before.1)
    where
      first : is_among i (i ∷ is) ≡ true
      first = elim (eqb_tells i i) [ inl same ↦ ap (λ b. b || is_among i is) same.0 | inr off ↦ absurd (off.1 refl) ]

      behind : (j : ℕ) → is_among j is ≡ true → is_among j (i ∷ is) ≡ true
      behind j e = elim (i == j) as (λ b. (b || is_among j is) ≡ true) [ true ↦ refl | false ↦ e ]

  pub returned_holds : (is : List ℕ) → IsCoherent w → CanReturnGrant w c units is → IsCoherent (returned_world w c units is)
  returned_holds is h can = (returns is h can).0

  pub returned_tree : (is : List ℕ) → IsCoherent w → CanReturnGrant w c units is → world_state (returned_world w c units is) ≡ world_state w
  returned_tree is h can = (returns is h can).1

returned_kernel : (m : Machine) (clients : ℕ → Client) (c units : ℕ) (is : List ℕ) → (returned_world (record { kernel = m.kernel; clients = clients }) c units is).kernel ≡ (unbook_numbers (unbook_units m c units) c is).kernel
returned_kernel m clients c units [] = refl
returned_kernel m clients c units (i ∷ is) = ap (λ (k : Kernel). kernel_with k c k.shared (record (k.accounts c) { numbers = without (k.accounts c).numbers i })) (returned_kernel m clients c units is)

pub returned_is : (m : Machine) (clients : ℕ → Client) (c units : ℕ) (is : List ℕ) → record { kernel = (unbook_numbers (unbook_units m c units) c is).kernel; clients = at clients c (returnee (clients c) units is) } ≡ returned_world (record { kernel = m.kernel; clients = clients }) c units is
returned_is m clients c units is = λ t. record { kernel = sym (returned_kernel m clients c units is) t; clients = sym (returned_clients (record { kernel = m.kernel; clients = clients }) c units is) t }
