-- Units, numbers and pins are granted and given back, and the whole stays.
use Rattle.std.proofs.Common.{◌≡◌, ◌≢◌, inl, inr, ℕ, ◌+◌, ◌-◌, ◌<◌, ◌≤◌, ◌==◌, ◌||◌, cond, Bool, true, false, refl, None, ap, sym, ◌∙◌, subst, arith}
use Rattle.std.proofs.lemmas.Bool.{false≢true}
use Rattle.std.proofs.lemmas.Bool.Decides.{eqb_tells}
use Rattle.posix_calls.specs.Tree.{sum_up_to}
use Rattle.posix_calls.specs.Operations.{is_client}
use Rattle.posix_calls.proofs.Sums.{same_if}
use Rattle.call_effects.specs.file_graph.Units.{charge}
use Rattle.call_effects.specs.Fits.{IsNew}
use Rattle.call_effects.proofs.Served.{less_agrees}
use Rattle.world_invariant.specs.Logs.{is_made_in, units_in}
use Rattle.world_invariant.specs.World.{Client, Account, World, records_of, log_of, whole_graph, held_descriptors, world_state, at, moved_world}
use Rattle.world_invariant.specs.ClientParts.{IsBooked, IsSoundPart}
use Rattle.world_invariant.specs.Invariant.{IsCoherent}
use Rattle.world_invariant.specs.LeaseSteps.{also, without}
use Rattle.world_invariant.specs.BookSteps.{HasRoom, units_granted, units_returned, IsUnbooked, number_granted, CanReturn, number_returned, inode_pinned, CanUnpin, after_unpin}
use Rattle.world_invariant.proofs.Records.{both, in_first, in_rest, still_false}
use Rattle.world_invariant.proofs.Owners.{client_is}
use Rattle.world_invariant.proofs.Idle.{none_some}
use Rattle.world_invariant.proofs.Made.{clients_none}
use Rattle.world_invariant.proofs.Begins.{tree_same}
use Rattle.world_invariant.proofs.Moved.{quiet, units_moved, booked_moved, before_less, after_less}

-- ---- tests

pub of_also : (P : ℕ → Type 0) (has : ℕ → Bool) (i j : ℕ) → also has i j ≡ true → P i → (has j ≡ true → P j) → P j
of_also P has i j e here there = elim (eqb_tells j i) [
  | inl same ↦ subst P (sym same.1) here
  | inr off ↦ there (sym (ap (λ t. t || has j) off.0) ∙ e)
]

pub of_without : (has : ℕ → Bool) (i j : ℕ) → without has i j ≡ true → (j ≢ i) × (has j ≡ true)
of_without has i j e = elim (eqb_tells j i) [
  | inl same ↦ absurd (false≢true (sym (ap (λ t. cond t false (has j)) same.0) ∙ e))
  | inr off ↦ (off.1, sym (ap (λ t. cond t false (has j)) off.0) ∙ e)
]

pub to_without : (has : ℕ → Bool) (i j : ℕ) → j ≢ i → has j ≡ true → without has i j ≡ true
to_without has i j off e = same_if j i false (has j) off ∙ e

-- ---- the book

-- no more numbers in the account, and units that fit
module _ (w : World) (c : ℕ) (a : Account) (p : Client) (h : IsCoherent w) (is_c : is_client c ≡ true) (fewer : (i : ℕ) → a.numbers i ≡ true → (w.kernel.accounts c).numbers i ≡ true) where
  pub booked_fewer : charge w.kernel.shared + sum_up_to 8 (λ d. (at w.kernel.accounts c a d).units) ≤ w.kernel.capacity → IsBooked (moved_world w c w.kernel.shared a p).kernel
  booked_fewer fits = booked_moved w c w.kernel.shared a p h is_c (λ i e. h.booked.free c i is_c (fewer i e)) (λ d i is_d other e. h.booked.free d i is_d e) (λ i e. h.booked.range c i is_c (fewer i e)) (λ d i is_d other e. h.booked.alone c d i is_c is_d other (fewer i e)) h.booked.limits fits

-- the same units
pub fits_same : (w : World) (c : ℕ) (a : Account) (h : IsCoherent w) → is_client c ≡ true → a.units ≡ (w.kernel.accounts c).units → charge w.kernel.shared + sum_up_to 8 (λ d. (at w.kernel.accounts c a d).units) ≤ w.kernel.capacity
fits_same w c a h is_c same =
    let sums : sum_up_to 8 (λ d. (at w.kernel.accounts c a d).units) + (w.kernel.accounts c).units ≡ sum_up_to 8 (λ d. (w.kernel.accounts d).units) + a.units = units_moved w c w.kernel.shared a (w.clients c) h is_c in
    let fits : charge w.kernel.shared + sum_up_to 8 (λ d. (w.kernel.accounts d).units) ≤ w.kernel.capacity = h.booked.fits in
    omega (arith, sums, fits, same)

-- ---- units

module _ (w : World) (c units : ℕ) (h : IsCoherent w) (is_c : is_client c ≡ true) where
  abbrev old : Client
  old = w.clients c

  abbrev account : Account
  account = w.kernel.accounts c

  s : IsSoundPart w.kernel.shared account c old
  s = h.stands c is_c

  abbrev richer : Account
  richer = record account { units = account.units + units }

  abbrev poorer : Account
  poorer = record account { units = account.units - units }

  pub units_granted_hold : HasRoom w.kernel units → IsCoherent (units_granted w c units)
  units_granted_hold room =
      let sums : sum_up_to 8 (λ d. (at w.kernel.accounts c richer d).units) + account.units ≡ sum_up_to 8 (λ d. (w.kernel.accounts d).units) + (account.units + units) = units_moved w c w.kernel.shared richer old h is_c in
      let enough : charge w.kernel.shared + (sum_up_to 8 (λ d. (w.kernel.accounts d).units) + units) ≤ w.kernel.capacity = room in
      let were : old.spare + units_in (records_of account old) ≤ account.units = s.units in
      quiet w c w.kernel.shared richer (record old { spare = old.spare + units }) h is_c refl refl refl
      (booked_fewer w c richer (record old { spare = old.spare + units }) h is_c (λ i e. e) (omega (arith, sums, enough)))
      (record { number = s.number; rests = s.rests; marked = s.marked; starts = s.starts; logged = s.logged; units = omega (arith, were); numbered = s.numbered; leased = s.leased; pinned = s.pinned; pending = s.pending })
      (before_less w c (record old { spare = old.spare + units }) h is_c (λ i e. e)) (after_less w c (record old { spare = old.spare + units }) h is_c (λ i e. e)) (h.agrees c is_c)

  pub units_granted_tree : world_state (units_granted w c units) ≡ world_state w
  units_granted_tree = tree_same w c w.kernel.shared richer (record old { spare = old.spare + units }) refl refl refl

  pub units_returned_hold : units ≤ old.spare → IsCoherent (units_returned w c units)
  units_returned_hold enough =
      let sums : sum_up_to 8 (λ d. (at w.kernel.accounts c poorer d).units) + account.units ≡ sum_up_to 8 (λ d. (w.kernel.accounts d).units) + (account.units - units) = units_moved w c w.kernel.shared poorer old h is_c in
      let fits : charge w.kernel.shared + sum_up_to 8 (λ d. (w.kernel.accounts d).units) ≤ w.kernel.capacity = h.booked.fits in
      let were : old.spare + units_in (records_of account old) ≤ account.units = s.units in
      quiet w c w.kernel.shared poorer (record old { spare = old.spare - units }) h is_c refl refl refl
      (booked_fewer w c poorer (record old { spare = old.spare - units }) h is_c (λ i e. e) (omega (arith, sums, fits)))
      (record { number = s.number; rests = s.rests; marked = s.marked; starts = s.starts; logged = s.logged; units = omega (arith, were, enough); numbered = s.numbered; leased = s.leased; pinned = s.pinned; pending = s.pending })
      (before_less w c (record old { spare = old.spare - units }) h is_c (λ i e. e)) (after_less w c (record old { spare = old.spare - units }) h is_c (λ i e. e)) (h.agrees c is_c)

  pub units_returned_tree : world_state (units_returned w c units) ≡ world_state w
  units_returned_tree = tree_same w c w.kernel.shared poorer (record old { spare = old.spare - units }) refl refl refl

-- ---- numbers

-- a number that stands in nobody's account is one of no node of the whole
pub unbooked_new : (w : World) (i : ℕ) → IsCoherent w → IsUnbooked w.kernel i → IsNew (whole_graph w) i
unbooked_new w i h free = record {
  low = free.low;
  high = free.high;
  none = clients_none 8 (log_of w) w.kernel.shared i free.none (λ d low high. unmade d (client_is d low high));
}
  where
    unmade : (d : ℕ) → is_client d ≡ true → is_made_in i (log_of w d) ≡ false
    unmade d is_d = still_false ((w.kernel.accounts d).numbers i) (is_made_in i (log_of w d)) (λ e. (h.stands d is_d).numbered.made i e) (free.nobody d is_d)

module _ (w : World) (c i : ℕ) (h : IsCoherent w) (is_c : is_client c ≡ true) where
  abbrev was : Client
  was = w.clients c

  abbrev its : Account
  its = w.kernel.accounts c

  stood : IsSoundPart w.kernel.shared its c was
  stood = h.stands c is_c

  abbrev with_number : Client
  with_number = record was { knows = record was.knows { granted = also was.knows.granted i } }

  abbrev with_it : Account
  with_it = record its { numbers = also its.numbers i }

  pub number_granted_holds : IsUnbooked w.kernel i → IsCoherent (number_granted w c i)
  number_granted_holds free =
      let known = h.agrees c is_c in
      quiet w c w.kernel.shared with_it with_number h is_c refl refl refl
      (booked_moved w c w.kernel.shared with_it with_number h is_c
      (λ j e. of_also (λ x. w.kernel.shared x ≡ None) its.numbers i j e free.none (λ has. h.booked.free c j is_c has))
      (λ d j is_d other e. h.booked.free d j is_d e)
      (λ j e. of_also (λ x. (1 < x) × (x ≤ 1024)) its.numbers i j e (free.low, free.high) (λ has. h.booked.range c j is_c has))
      (λ d j is_d other e. of_also (λ x. (w.kernel.accounts d).numbers x ≡ false) its.numbers i j e (free.nobody d is_d) (λ has. h.booked.alone c d j is_c is_d other has))
      h.booked.limits
      (fits_same w c with_it h is_c refl))
      (record {
        number = stood.number;
        rests = stood.rests;
        marked = stood.marked;
        starts = stood.starts;
        logged = stood.logged;
        units = stood.units;
        numbered = record {
          made = λ j e. in_rest (j == i) (its.numbers j) (stood.numbered.made j e);
          once = stood.numbered.once;
          granted = λ j e. of_also (λ x. also its.numbers i x ≡ true) was.knows.granted i j e (in_first (i == i) (its.numbers i) (itself i)) (λ has. in_rest (j == i) (its.numbers j) (stood.numbered.granted j has));
          unused = λ j e. of_also (λ x. is_made_in x (log_of w c) ≡ false) was.knows.granted i j e (still_false (its.numbers i) (is_made_in i (log_of w c)) (λ made. stood.numbered.made i made) (free.nobody c is_c)) (λ has. stood.numbered.unused j has);
        };
        leased = record { copies = stood.leased.copies; blocks = stood.leased.blocks };
        pinned = stood.pinned;
        pending = λ b e. let p = stood.pending b e in record { planned = record { comes = p.planned.comes; effects = p.planned.effects; number = λ m. in_rest (b.new == i) (was.knows.granted b.new) (p.planned.number m) }; some = p.some; pinned = p.pinned };
      })
      (before_less w c with_number h is_c (λ j e. e)) (after_less w c with_number h is_c (λ j e. e))
      (record {
        client = known.client;
        own = known.own;
        back = known.back;
        put_back = known.put_back;
        copies = known.copies;
        blocks = known.blocks;
        granted = λ j e. of_also (IsNew (whole_graph w)) was.knows.granted i j e (unbooked_new w i h free) (λ has. known.granted j has);
      })
    where
      itself : (i : ℕ) → (i == i) ≡ true
      itself i = elim (eqb_tells i i) [ inl same ↦ same.0 | inr off ↦ absurd (off.1 refl) ]

  pub number_granted_tree : world_state (number_granted w c i) ≡ world_state w
  number_granted_tree = tree_same w c w.kernel.shared with_it with_number refl refl refl

module _ (w : World) (c i : ℕ) (h : IsCoherent w) (can : CanReturn w c i) where
  abbrev had : Client
  had = w.clients c

  abbrev book : Account
  book = w.kernel.accounts c

  has : IsSoundPart w.kernel.shared book c had
  has = h.stands c can.client

  abbrev without_number : Client
  without_number = record had { knows = record had.knows { granted = without had.knows.granted i } }

  abbrev without_it : Account
  without_it = record book { numbers = without book.numbers i }

  pub number_returned_holds : IsCoherent (number_returned w c i)
  number_returned_holds = quiet w c w.kernel.shared without_it without_number h can.client refl refl refl
      (booked_fewer w c without_it without_number h can.client (λ j e. (of_without book.numbers i j e).1) (fits_same w c without_it h can.client refl))
      (record {
        number = has.number;
        rests = has.rests;
        marked = has.marked;
        starts = has.starts;
        logged = has.logged;
        units = has.units;
        numbered = record {
          made = λ j e. to_without book.numbers i j (λ same. both (is_made_in j (log_of w c)) e (ap (λ x. is_made_in x (log_of w c)) same ∙ has.numbered.unused i can.granted)) (has.numbered.made j e);
          once = has.numbered.once;
          granted = λ j e. let o = of_without had.knows.granted i j e in to_without book.numbers i j o.0 (has.numbered.granted j o.1);
          unused = λ j e. has.numbered.unused j (of_without had.knows.granted i j e).1;
        };
        leased = record { copies = has.leased.copies; blocks = has.leased.blocks };
        pinned = has.pinned;
        pending = λ b e. none_some b (sym can.idle ∙ e);
      })
      (before_less w c without_number h can.client (λ j e. e)) (after_less w c without_number h can.client (λ j e. e))
      (less_agrees had.knows (whole_graph w) (held_descriptors w) (h.agrees c can.client) without_number.knows (record { client = refl; own = λ n. refl; copies = record { nodes = λ j copy e. e; blocks = λ j b bytes e. e }; granted = λ j e. (of_without had.knows.granted i j e).1 }))

  pub number_returned_tree : world_state (number_returned w c i) ≡ world_state w
  number_returned_tree = tree_same w c w.kernel.shared without_it without_number refl refl refl

-- ---- pins

module _ (w : World) (c i : ℕ) (h : IsCoherent w) (is_c : is_client c ≡ true) where
  abbrev pinner : Client
  pinner = record (w.clients c) { pins = also (w.clients c).pins i }

  abbrev pin_book : Account
  pin_book = record (w.kernel.accounts c) { pins = also (w.kernel.accounts c).pins i }

  pub pinned_holds : IsCoherent (inode_pinned w c i)
  pinned_holds =
      let x = h.stands c is_c in
      quiet w c w.kernel.shared pin_book pinner h is_c refl refl refl
      (booked_fewer w c pin_book pinner h is_c (λ j e. e) (fits_same w c pin_book h is_c refl))
      (record {
        number = x.number;
        rests = x.rests;
        marked = x.marked;
        starts = x.starts;
        logged = x.logged;
        units = x.units;
        numbered = x.numbered;
        leased = x.leased;
        pinned = record {
          opened = λ n o e. in_rest (o.inode == i) ((w.clients c).pins o.inode) (x.pinned.opened n o e);
          booked = λ j e. of_also (λ y. also (w.kernel.accounts c).pins i y ≡ true) (w.clients c).pins i j e (in_first (i == i) ((w.kernel.accounts c).pins i) (itself i)) (λ was. in_rest (j == i) ((w.kernel.accounts c).pins j) (x.pinned.booked j was));
        };
        pending = λ b e. let p = x.pending b e in record { planned = p.planned; some = p.some; pinned = λ known what opens. in_rest (what.1.inode == i) ((w.clients c).pins what.1.inode) (p.pinned known what opens) };
      })
      (before_less w c pinner h is_c (λ j e. e)) (after_less w c pinner h is_c (λ j e. e)) (h.agrees c is_c)
    where
      itself : (i : ℕ) → (i == i) ≡ true
      itself i = elim (eqb_tells i i) [ inl same ↦ same.0 | inr off ↦ absurd (off.1 refl) ]

  pub pinned_tree : world_state (inode_pinned w c i) ≡ world_state w
  pinned_tree = tree_same w c w.kernel.shared pin_book pinner refl refl refl

module _ (w : World) (c i : ℕ) (h : IsCoherent w) (can : CanUnpin w c i) where
  abbrev dropper : Client
  dropper = record (w.clients c) { pins = without (w.clients c).pins i }

  abbrev drop_book : Account
  drop_book = record (w.kernel.accounts c) { pins = without (w.kernel.accounts c).pins i }

  pub unpinned_holds : IsCoherent (after_unpin w c i)
  unpinned_holds =
      let x = h.stands c can.client in
      quiet w c w.kernel.shared drop_book dropper h can.client refl refl refl
      (booked_fewer w c drop_book dropper h can.client (λ j e. e) (fits_same w c drop_book h can.client refl))
      (record {
        number = x.number;
        rests = x.rests;
        marked = x.marked;
        starts = x.starts;
        logged = x.logged;
        units = x.units;
        numbered = x.numbered;
        leased = x.leased;
        pinned = record {
          opened = λ n o e. to_without (w.clients c).pins i o.inode (can.closed n o e) (x.pinned.opened n o e);
          booked = λ j e. let o = of_without (w.clients c).pins i j e in to_without (w.kernel.accounts c).pins i j o.0 (x.pinned.booked j o.1);
        };
        pending = λ b e. elim can.idle [
          | inl idle ↦ none_some b (sym idle ∙ e)
          | inr failed ↦ let p = x.pending b e in record { planned = p.planned; some = p.some; pinned = λ known. absurd (known failed) }
        ];
      })
      (before_less w c dropper h can.client (λ j e. e)) (after_less w c dropper h can.client (λ j e. e)) (h.agrees c can.client)

  pub unpinned_tree : world_state (after_unpin w c i) ≡ world_state w
  unpinned_tree = tree_same w c w.kernel.shared drop_book dropper refl refl refl
