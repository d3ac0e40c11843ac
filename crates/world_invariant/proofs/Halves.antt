-- The two halves of a grant and of what is given back.
use Rattle.std.proofs.Common.{◌≡◌, inl, inr, ℕ, ◌+◌, ◌-◌, ◌<◌, ◌≤◌, ◌==◌, true, false, refl, None, ap, sym, ◌∙◌, arith}
use Rattle.std.proofs.lemmas.Bool.Decides.{eqb_tells}
use Rattle.posix_calls.specs.Tree.{sum_up_to}
use Rattle.posix_calls.specs.Operations.{is_client}
use Rattle.call_effects.specs.file_graph.Units.{charge}
use Rattle.call_effects.specs.Fits.{IsNew}
use Rattle.call_effects.proofs.Served.{less_agrees}
use Rattle.world_invariant.specs.Logs.{is_made_in, units_in}
use Rattle.world_invariant.specs.World.{Client, Account, World, records_of, log_of, whole_graph, held_descriptors, world_state, at}
use Rattle.world_invariant.specs.ClientParts.{IsSoundPart}
use Rattle.world_invariant.specs.Invariant.{IsCoherent}
use Rattle.world_invariant.specs.LeaseSteps.{also, without}
use Rattle.world_invariant.specs.BookSteps.{HasRoom, IsUnbooked, CanReturn, CanUnpin}
use Rattle.world_invariant.specs.Halves.{AreOnTheirWay, units_booked, units_unbooked, units_received, units_sent, IsOnItsWay, number_booked, number_unbooked, number_received, number_sent, IsPinnedAlone, pin_booked, pin_unbooked, pin_received, pin_sent}
use Rattle.world_invariant.proofs.Records.{both, in_rest, still_false}
use Rattle.world_invariant.proofs.Owners.{client_is}
use Rattle.world_invariant.proofs.Idle.{none_some}
use Rattle.world_invariant.proofs.Made.{clients_none}
use Rattle.world_invariant.proofs.Begins.{tree_same}
use Rattle.world_invariant.proofs.Moved.{quiet, units_moved, booked_same, booked_moved, before_less, after_less}
use Rattle.world_invariant.proofs.Books.{of_also, of_without, to_without, booked_fewer, fits_same}

itself : (i : ℕ) → (i == i) ≡ true
itself i = elim (eqb_tells i i) [ inl same ↦ same.0 | inr off ↦ absurd (off.1 refl) ]

-- ---- units

module _ (w : World) (c units : ℕ) (h : IsCoherent w) (is_c : is_client c ≡ true) where
  abbrev p : Client
  p = w.clients c

  abbrev a : Account
  a = w.kernel.accounts c

  s : IsSoundPart w.kernel.shared a c p
  s = h.stands c is_c

  abbrev richer : Account
  richer = record a { units = a.units + units }

  abbrev poorer : Account
  poorer = record a { units = a.units - units }

  abbrev receiver : Client
  receiver = record p { spare = p.spare + units }

  abbrev sender : Client
  sender = record p { spare = p.spare - units }

  pub units_booked_hold : HasRoom w.kernel units → IsCoherent (units_booked w c units)
  units_booked_hold room =
      let sums : sum_up_to 8 (λ d. (at w.kernel.accounts c richer d).units) + a.units ≡ sum_up_to 8 (λ d. (w.kernel.accounts d).units) + (a.units + units) = units_moved w c w.kernel.shared richer p h is_c in
      let enough : charge w.kernel.shared + (sum_up_to 8 (λ d. (w.kernel.accounts d).units) + units) ≤ w.kernel.capacity = room in
      let were : p.spare + units_in (records_of a p) ≤ a.units = s.units in
      quiet w c w.kernel.shared richer p h is_c refl refl refl (booked_fewer w c richer p h is_c (λ i e. e) (omega (arith, sums, enough)))
      (record { number = s.number; rests = s.rests; marked = s.marked; starts = s.starts; logged = s.logged; units = omega (arith, were); numbered = s.numbered; leased = s.leased; pinned = s.pinned; pending = s.pending })
      (before_less w c p h is_c (λ i e. e)) (after_less w c p h is_c (λ i e. e)) (h.agrees c is_c)

  pub units_booked_tree : world_state (units_booked w c units) ≡ world_state w
  units_booked_tree = tree_same w c w.kernel.shared richer p refl refl refl

  pub units_unbooked_hold : AreOnTheirWay w c units → IsCoherent (units_unbooked w c units)
  units_unbooked_hold can =
      let sums : sum_up_to 8 (λ d. (at w.kernel.accounts c poorer d).units) + a.units ≡ sum_up_to 8 (λ d. (w.kernel.accounts d).units) + (a.units - units) = units_moved w c w.kernel.shared poorer p h is_c in
      let fits : charge w.kernel.shared + sum_up_to 8 (λ d. (w.kernel.accounts d).units) ≤ w.kernel.capacity = h.booked.fits in
      let enough : p.spare + units_in (records_of a p) + units ≤ a.units = can.booked in
      quiet w c w.kernel.shared poorer p h is_c refl refl refl (booked_fewer w c poorer p h is_c (λ i e. e) (omega (arith, sums, fits)))
      (record { number = s.number; rests = s.rests; marked = s.marked; starts = s.starts; logged = s.logged; units = omega (arith, enough); numbered = s.numbered; leased = s.leased; pinned = s.pinned; pending = s.pending })
      (before_less w c p h is_c (λ i e. e)) (after_less w c p h is_c (λ i e. e)) (h.agrees c is_c)

  pub units_unbooked_tree : world_state (units_unbooked w c units) ≡ world_state w
  units_unbooked_tree = tree_same w c w.kernel.shared poorer p refl refl refl

  pub units_received_hold : AreOnTheirWay w c units → IsCoherent (units_received w c units)
  units_received_hold can =
      let enough : p.spare + units_in (records_of a p) + units ≤ a.units = can.booked in
      quiet w c w.kernel.shared a receiver h is_c refl refl refl (booked_same w c receiver h is_c)
      (record { number = s.number; rests = s.rests; marked = s.marked; starts = s.starts; logged = s.logged; units = omega (arith, enough); numbered = s.numbered; leased = s.leased; pinned = s.pinned; pending = s.pending })
      (before_less w c receiver h is_c (λ i e. e)) (after_less w c receiver h is_c (λ i e. e)) (h.agrees c is_c)

  pub units_received_tree : world_state (units_received w c units) ≡ world_state w
  units_received_tree = tree_same w c w.kernel.shared a receiver refl refl refl

  pub units_sent_hold : IsCoherent (units_sent w c units)
  units_sent_hold =
      let were : p.spare + units_in (records_of a p) ≤ a.units = s.units in
      quiet w c w.kernel.shared a sender h is_c refl refl refl (booked_same w c sender h is_c)
      (record { number = s.number; rests = s.rests; marked = s.marked; starts = s.starts; logged = s.logged; units = omega (arith, were); numbered = s.numbered; leased = s.leased; pinned = s.pinned; pending = s.pending })
      (before_less w c sender h is_c (λ i e. e)) (after_less w c sender h is_c (λ i e. e)) (h.agrees c is_c)

  pub units_sent_tree : world_state (units_sent w c units) ≡ world_state w
  units_sent_tree = tree_same w c w.kernel.shared a sender refl refl refl

-- ---- numbers

module _ (w : World) (c i : ℕ) (h : IsCoherent w) (is_c : is_client c ≡ true) where
  abbrev q : Client
  q = w.clients c

  abbrev b : Account
  b = w.kernel.accounts c

  t : IsSoundPart w.kernel.shared b c q
  t = h.stands c is_c

  abbrev with_it : Account
  with_it = record b { numbers = also b.numbers i }

  abbrev without_it : Account
  without_it = record b { numbers = without b.numbers i }

  abbrev with_number : Client
  with_number = record q { knows = record q.knows { granted = also q.knows.granted i } }

  abbrev without_number : Client
  without_number = record q { knows = record q.knows { granted = without q.knows.granted i } }

  pub number_booked_holds : IsUnbooked w.kernel i → IsCoherent (number_booked w c i)
  number_booked_holds free =
      quiet w c w.kernel.shared with_it q h is_c refl refl refl
      (booked_moved w c w.kernel.shared with_it q h is_c
      (λ j e. of_also (λ x. w.kernel.shared x ≡ None) b.numbers i j e free.none (λ has. h.booked.free c j is_c has))
      (λ d j is_d other e. h.booked.free d j is_d e)
      (λ j e. of_also (λ x. (1 < x) × (x ≤ 1024)) b.numbers i j e (free.low, free.high) (λ has. h.booked.range c j is_c has))
      (λ d j is_d other e. of_also (λ x. (w.kernel.accounts d).numbers x ≡ false) b.numbers i j e (free.nobody d is_d) (λ has. h.booked.alone c d j is_c is_d other has))
      h.booked.limits
      (fits_same w c with_it h is_c refl))
      (record { number = t.number; rests = t.rests; marked = t.marked; starts = t.starts; logged = t.logged; units = t.units; numbered = record { made = λ j e. in_rest (j == i) (b.numbers j) (t.numbered.made j e); once = t.numbered.once; granted = λ j e. in_rest (j == i) (b.numbers j) (t.numbered.granted j e); unused = t.numbered.unused }; leased = t.leased; pinned = t.pinned; pending = t.pending })
      (before_less w c q h is_c (λ j e. e)) (after_less w c q h is_c (λ j e. e)) (h.agrees c is_c)

  pub number_booked_tree : world_state (number_booked w c i) ≡ world_state w
  number_booked_tree = tree_same w c w.kernel.shared with_it q refl refl refl

  pub number_unbooked_holds : IsOnItsWay w c i → IsCoherent (number_unbooked w c i)
  number_unbooked_holds can =
      quiet w c w.kernel.shared without_it q h is_c refl refl refl
      (booked_fewer w c without_it q h is_c (λ j e. (of_without b.numbers i j e).1) (fits_same w c without_it h is_c refl))
      (record { number = t.number; rests = t.rests; marked = t.marked; starts = t.starts; logged = t.logged; units = t.units; numbered = record { made = λ j e. to_without b.numbers i j (λ same. both (is_made_in j (log_of w c)) e (ap (λ x. is_made_in x (log_of w c)) same ∙ can.unused)) (t.numbered.made j e); once = t.numbered.once; granted = λ j e. to_without b.numbers i j (λ same. both (q.knows.granted j) e (ap q.knows.granted same ∙ can.absent)) (t.numbered.granted j e); unused = t.numbered.unused }; leased = t.leased; pinned = t.pinned; pending = t.pending })
      (before_less w c q h is_c (λ j e. e)) (after_less w c q h is_c (λ j e. e)) (h.agrees c is_c)

  pub number_unbooked_tree : world_state (number_unbooked w c i) ≡ world_state w
  number_unbooked_tree = tree_same w c w.kernel.shared without_it q refl refl refl

  -- a number that is on its way is one of no node of the whole
  coming_new : IsOnItsWay w c i → IsNew (whole_graph w) i
  coming_new can = record {
    low = (h.booked.range c i is_c can.booked).0;
    high = (h.booked.range c i is_c can.booked).1;
    none = clients_none 8 (log_of w) w.kernel.shared i (h.booked.free c i is_c can.booked) (λ d low high. unmade d (client_is d low high));
  }
    where
      unmade : (d : ℕ) → is_client d ≡ true → is_made_in i (log_of w d) ≡ false
      unmade d is_d = elim (eqb_tells d c) [
        | inl same ↦ ap (λ x. is_made_in i (log_of w x)) same.1 ∙ can.unused
        | inr off ↦ still_false ((w.kernel.accounts d).numbers i) (is_made_in i (log_of w d)) (λ e. (h.stands d is_d).numbered.made i e) (h.booked.alone c d i is_c is_d off.1 can.booked)
      ]

  pub number_received_holds : IsOnItsWay w c i → IsCoherent (number_received w c i)
  number_received_holds can =
      let known = h.agrees c is_c in
      quiet w c w.kernel.shared b with_number h is_c refl refl refl (booked_same w c with_number h is_c)
      (record { number = t.number; rests = t.rests; marked = t.marked; starts = t.starts; logged = t.logged; units = t.units; numbered = record { made = t.numbered.made; once = t.numbered.once; granted = λ j e. of_also (λ x. b.numbers x ≡ true) q.knows.granted i j e can.booked (λ has. t.numbered.granted j has); unused = λ j e. of_also (λ x. is_made_in x (log_of w c) ≡ false) q.knows.granted i j e can.unused (λ has. t.numbered.unused j has) }; leased = record { copies = t.leased.copies; blocks = t.leased.blocks }; pinned = t.pinned; pending = λ x is. let y = t.pending x is in record { planned = record { comes = y.planned.comes; effects = y.planned.effects; number = λ m. in_rest (x.new == i) (q.knows.granted x.new) (y.planned.number m) }; some = y.some; pinned = y.pinned } })
      (before_less w c with_number h is_c (λ j e. e)) (after_less w c with_number h is_c (λ j e. e))
      (record {
        client = known.client;
        own = known.own;
        back = known.back;
        put_back = known.put_back;
        copies = known.copies;
        blocks = known.blocks;
        granted = λ j e. of_also (IsNew (whole_graph w)) q.knows.granted i j e (coming_new can) (λ has. known.granted j has);
      })

  pub number_received_tree : world_state (number_received w c i) ≡ world_state w
  number_received_tree = tree_same w c w.kernel.shared b with_number refl refl refl

  pub number_sent_holds : CanReturn w c i → IsCoherent (number_sent w c i)
  number_sent_holds can =
      quiet w c w.kernel.shared b without_number h is_c refl refl refl (booked_same w c without_number h is_c)
      (record { number = t.number; rests = t.rests; marked = t.marked; starts = t.starts; logged = t.logged; units = t.units; numbered = record { made = t.numbered.made; once = t.numbered.once; granted = λ j e. t.numbered.granted j (of_without q.knows.granted i j e).1; unused = λ j e. t.numbered.unused j (of_without q.knows.granted i j e).1 }; leased = record { copies = t.leased.copies; blocks = t.leased.blocks }; pinned = t.pinned; pending = λ x is. none_some x (sym can.idle ∙ is) })
      (before_less w c without_number h is_c (λ j e. e)) (after_less w c without_number h is_c (λ j e. e))
      (less_agrees q.knows (whole_graph w) (held_descriptors w) (h.agrees c is_c) without_number.knows (record { client = refl; own = λ n. refl; copies = record { nodes = λ j copy e. e; blocks = λ j b bytes e. e }; granted = λ j e. (of_without q.knows.granted i j e).1 }))

  pub number_sent_tree : world_state (number_sent w c i) ≡ world_state w
  number_sent_tree = tree_same w c w.kernel.shared b without_number refl refl refl

-- ---- pins

module _ (w : World) (c i : ℕ) (h : IsCoherent w) (is_c : is_client c ≡ true) where
  abbrev r : Client
  r = w.clients c

  abbrev e : Account
  e = w.kernel.accounts c

  u : IsSoundPart w.kernel.shared e c r
  u = h.stands c is_c

  abbrev with_pin : Account
  with_pin = record e { pins = also e.pins i }

  abbrev without_pin : Account
  without_pin = record e { pins = without e.pins i }

  abbrev pinner : Client
  pinner = record r { pins = also r.pins i }

  abbrev dropper : Client
  dropper = record r { pins = without r.pins i }

  pub pin_booked_holds : IsCoherent (pin_booked w c i)
  pin_booked_holds =
      quiet w c w.kernel.shared with_pin r h is_c refl refl refl
      (booked_fewer w c with_pin r h is_c (λ j has. has) (fits_same w c with_pin h is_c refl))
      (record { number = u.number; rests = u.rests; marked = u.marked; starts = u.starts; logged = u.logged; units = u.units; numbered = u.numbered; leased = u.leased; pinned = record { opened = u.pinned.opened; booked = λ j has. in_rest (j == i) (e.pins j) (u.pinned.booked j has) }; pending = u.pending })
      (before_less w c r h is_c (λ j has. has)) (after_less w c r h is_c (λ j has. has)) (h.agrees c is_c)

  pub pin_booked_tree : world_state (pin_booked w c i) ≡ world_state w
  pin_booked_tree = tree_same w c w.kernel.shared with_pin r refl refl refl

  pub pin_unbooked_holds : IsPinnedAlone w c i → IsCoherent (pin_unbooked w c i)
  pin_unbooked_holds can =
      quiet w c w.kernel.shared without_pin r h is_c refl refl refl
      (booked_fewer w c without_pin r h is_c (λ j has. has) (fits_same w c without_pin h is_c refl))
      (record { number = u.number; rests = u.rests; marked = u.marked; starts = u.starts; logged = u.logged; units = u.units; numbered = u.numbered; leased = u.leased; pinned = record { opened = u.pinned.opened; booked = λ j has. to_without e.pins i j (λ same. both (r.pins j) has (ap r.pins same ∙ can.absent)) (u.pinned.booked j has) }; pending = u.pending })
      (before_less w c r h is_c (λ j has. has)) (after_less w c r h is_c (λ j has. has)) (h.agrees c is_c)

  pub pin_unbooked_tree : world_state (pin_unbooked w c i) ≡ world_state w
  pin_unbooked_tree = tree_same w c w.kernel.shared without_pin r refl refl refl

  pub pin_received_holds : IsPinnedAlone w c i → IsCoherent (pin_received w c i)
  pin_received_holds can =
      quiet w c w.kernel.shared e pinner h is_c refl refl refl (booked_same w c pinner h is_c)
      (record { number = u.number; rests = u.rests; marked = u.marked; starts = u.starts; logged = u.logged; units = u.units; numbered = u.numbered; leased = u.leased; pinned = record { opened = λ n o is. in_rest (o.inode == i) (r.pins o.inode) (u.pinned.opened n o is); booked = λ j has. of_also (λ y. e.pins y ≡ true) r.pins i j has can.booked (λ was. u.pinned.booked j was) }; pending = λ x is. let y = u.pending x is in record { planned = y.planned; some = y.some; pinned = λ known what opens. in_rest (what.1.inode == i) (r.pins what.1.inode) (y.pinned known what opens) } })
      (before_less w c pinner h is_c (λ j has. has)) (after_less w c pinner h is_c (λ j has. has)) (h.agrees c is_c)

  pub pin_received_tree : world_state (pin_received w c i) ≡ world_state w
  pin_received_tree = tree_same w c w.kernel.shared e pinner refl refl refl

  pub pin_sent_holds : CanUnpin w c i → IsCoherent (pin_sent w c i)
  pin_sent_holds can =
      quiet w c w.kernel.shared e dropper h is_c refl refl refl (booked_same w c dropper h is_c)
      (record { number = u.number; rests = u.rests; marked = u.marked; starts = u.starts; logged = u.logged; units = u.units; numbered = u.numbered; leased = u.leased; pinned = record { opened = λ n o is. to_without r.pins i o.inode (can.closed n o is) (u.pinned.opened n o is); booked = λ j has. u.pinned.booked j (of_without r.pins i j has).1 }; pending = λ x is. elim can.idle [ inl idle ↦ none_some x (sym idle ∙ is) | inr failed ↦ let y = u.pending x is in record { planned = y.planned; some = y.some; pinned = λ known. absurd (known failed) } ] })
      (before_less w c dropper h is_c (λ j has. has)) (after_less w c dropper h is_c (λ j has. has)) (h.agrees c is_c)

  pub pin_sent_tree : world_state (pin_sent w c i) ≡ world_state w
  pin_sent_tree = tree_same w c w.kernel.shared e dropper refl refl refl
