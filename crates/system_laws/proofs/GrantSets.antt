-- Units and a set of numbers are granted to a client at once, or all that it has is given back: the whole stays.
use Rattle.std.proofs.Common.{◌≡◌, ◌⊎◌, inl, inr, ℕ, ◌+◌, ◌-◌, ◌≤◌, ◌||◌, ◌&&◌, Bool, true, false, not, None, refl, ap, sym, ◌∙◌, arith}
use Rattle.std.proofs.lemmas.Bool.{false≢true}
use Rattle.posix_calls.specs.Tree.{sum_up_to}
use Rattle.posix_calls.specs.Operations.{is_client}
use Rattle.event_steps.specs.call_effects.Knowledge.{Agrees}
use Rattle.event_steps.specs.libfs.NeedService.{with_numbers}
use Rattle.event_steps.specs.file_graph.Units.{charge}
use Rattle.event_steps.specs.world_invariant.BookSteps.{HasRoom, IsUnbooked}
use Rattle.event_steps.specs.world_invariant.ClientParts.{IsBooked, IsSoundPart}
use Rattle.event_steps.specs.world_invariant.Invariant.{IsCoherent}
use Rattle.event_steps.specs.world_invariant.Logs.{is_made_in, units_in}
use Rattle.event_steps.specs.world_invariant.World.{Account, Client, World, at, held_descriptors, log_of, moved_world, records_of, whole_graph, world_state}
use Rattle.event_steps.proofs.world_invariant_lemmas.Begins.{tree_same}
use Rattle.event_steps.proofs.world_invariant_lemmas.Books.{booked_fewer, unbooked_new}
use Rattle.event_steps.proofs.world_invariant_lemmas.Idle.{none_some}
use Rattle.event_steps.proofs.world_invariant_lemmas.Moved.{after_less, before_less, booked_moved, quiet, units_moved}
use Rattle.event_steps.proofs.call_effects_lemmas.Served.{less_agrees}
use Rattle.system_laws.proofs.Supplies.{account_with}

in_one : (a b : Bool) → (a || b) ≡ true → (a ≡ true) ⊎ (b ≡ true)
in_one true b e = inl refl
in_one false b e = inr e

in_old : (a b : Bool) → a ≡ true → (a || b) ≡ true
in_old a b e = ap (λ t. t || b) e

in_new : (a b : Bool) → b ≡ true → (a || b) ≡ true
in_new true b e = refl
in_new false b e = e

-- there and not given back
kept_one : (a b : Bool) → (a && not b) ≡ true → a ≡ true
kept_one true b e = refl
kept_one false b e = e

keeps_one : (a b : Bool) → a ≡ true → (b ≡ true → ⊥) → (a && not b) ≡ true
keeps_one a true is off = absurd (off refl)
keeps_one true false is off = refl
keeps_one false false is off = is

module _ (w : World) (c : ℕ) (h : IsCoherent w) (is_c : is_client c ≡ true) where
  abbrev a : Account
  a = w.kernel.accounts c

  abbrev p : Client
  p = w.clients c

  s : IsSoundPart w.kernel.shared a c p
  s = h.stands c is_c

  pub sums : (units : ℕ) (numbers pins : ℕ → Bool) → sum_up_to 8 (λ d. (at w.kernel.accounts c (account_with a units numbers pins) d).units) + a.units ≡ sum_up_to 8 (λ d. (w.kernel.accounts d).units) + units
  sums units numbers pins = units_moved w c w.kernel.shared (account_with a units numbers pins) p h is_c

  -- ---- granted

  module _ (units : ℕ) (numbers : ℕ → Bool) (room : HasRoom w.kernel units) (free : (i : ℕ) → numbers i ≡ true → IsUnbooked w.kernel i) where
    abbrev richer : Account
    richer = account_with a (a.units + units) (λ i. a.numbers i || numbers i) a.pins

    abbrev served : Client
    served = record p { spare = p.spare + units; knows = with_numbers p.knows numbers }

    abbrev served_world : World
    served_world = moved_world w c w.kernel.shared richer served

    still_booked : IsBooked served_world.kernel
    still_booked =
        let total = sums (a.units + units) (λ i. a.numbers i || numbers i) a.pins in
        let enough : charge w.kernel.shared + (sum_up_to 8 (λ d. (w.kernel.accounts d).units) + units) ≤ w.kernel.capacity = room in
        booked_moved w c w.kernel.shared richer served h is_c
        (λ i e. elim (in_one (a.numbers i) (numbers i) e) [ inl was ↦ h.booked.free c i is_c was | inr got ↦ (free i got).none ])
        (λ d i is_d other e. h.booked.free d i is_d e)
        (λ i e. elim (in_one (a.numbers i) (numbers i) e) [ inl was ↦ h.booked.range c i is_c was | inr got ↦ ((free i got).low, (free i got).high) ])
        (λ d i is_d other e. elim (in_one (a.numbers i) (numbers i) e) [ inl was ↦ h.booked.alone c d i is_c is_d other was | inr got ↦ (free i got).nobody d is_d ])
        h.booked.limits
        (omega (arith, total, enough))

    unmade : (i : ℕ) → numbers i ≡ true → is_made_in i (log_of w c) ≡ false
    unmade i got = by (is_made_in i (log_of w c)) refl
      where
        by : (b : Bool) → is_made_in i (log_of w c) ≡ b → b ≡ false
        by true made = absurd (false≢true (sym ((free i got).nobody c is_c) ∙ s.numbered.made i made))
        by false made = refl

    still_stands : IsSoundPart w.kernel.shared richer c served
    still_stands =
        let were : p.spare + units_in (records_of a p) ≤ a.units = s.units in
        record {
          number = s.number;
          rests = s.rests;
          marked = s.marked;
          starts = s.starts;
          logged = s.logged;
          units = omega (arith, were);
          numbered = record {
            made = λ i e. in_old (a.numbers i) (numbers i) (s.numbered.made i e);
            once = s.numbered.once;
            granted = λ i e. elim (in_one (p.knows.granted i) (numbers i) e) [ inl was ↦ in_old (a.numbers i) (numbers i) (s.numbered.granted i was) | inr got ↦ in_new (a.numbers i) (numbers i) got ];
            unused = λ i e. elim (in_one (p.knows.granted i) (numbers i) e) [ inl was ↦ s.numbered.unused i was | inr got ↦ unmade i got ];
          };
          leased = record { copies = s.leased.copies; blocks = s.leased.blocks };
          pinned = s.pinned;
          pending = λ b e. let q = s.pending b e in record { planned = record { comes = q.planned.comes; effects = q.planned.effects; number = λ m. in_old (p.knows.granted b.new) (numbers b.new) (q.planned.number m) }; some = q.some; pinned = q.pinned };
        }

    still_agrees : Agrees served.knows (whole_graph w) (held_descriptors w)
    still_agrees =
        let known = h.agrees c is_c in
        record {
          client = known.client;
          own = known.own;
          back = known.back;
          put_back = known.put_back;
          copies = known.copies;
          blocks = known.blocks;
          granted = λ i e. elim (in_one (p.knows.granted i) (numbers i) e) [ inl was ↦ known.granted i was | inr got ↦ unbooked_new w i h (free i got) ];
        }

    pub set_granted_holds : IsCoherent served_world
    set_granted_holds = quiet w c w.kernel.shared richer served h is_c refl refl refl still_booked still_stands (before_less w c served h is_c (λ i e. e)) (after_less w c served h is_c (λ i e. e)) still_agrees

    pub set_granted_tree : world_state served_world ≡ world_state w
    set_granted_tree = tree_same w c w.kernel.shared richer served refl refl refl

  -- ---- given back

  module _ (numbers : ℕ → Bool) (idle : p.begun ≡ None) (given : (i : ℕ) → numbers i ≡ true → p.knows.granted i ≡ true) where
    abbrev poorer : Account
    poorer = account_with a (a.units - p.spare) (λ i. a.numbers i && not (numbers i)) a.pins

    abbrev bare : Client
    bare = record p { spare = 0; knows = record p.knows { granted = λ i. false } }

    abbrev bare_world : World
    bare_world = moved_world w c w.kernel.shared poorer bare

    bare_stands : IsSoundPart w.kernel.shared poorer c bare
    bare_stands =
        let were : p.spare + units_in (records_of a p) ≤ a.units = s.units in
        record {
          number = s.number;
          rests = s.rests;
          marked = s.marked;
          starts = s.starts;
          logged = s.logged;
          units = omega (arith, were);
          numbered = record {
            made = λ i e. keeps_one (a.numbers i) (numbers i) (s.numbered.made i e) (λ back. false≢true (sym (s.numbered.unused i (given i back)) ∙ e));
            once = s.numbered.once;
            granted = λ i e. absurd (false≢true e);
            unused = λ i e. absurd (false≢true e);
          };
          leased = record { copies = s.leased.copies; blocks = s.leased.blocks };
          pinned = s.pinned;
          pending = λ b e. none_some b (sym idle ∙ e);
        }

    pub all_returned_holds : IsCoherent bare_world
    all_returned_holds =
        let total = sums (a.units - p.spare) (λ i. a.numbers i && not (numbers i)) a.pins in
        let fits : charge w.kernel.shared + sum_up_to 8 (λ d. (w.kernel.accounts d).units) ≤ w.kernel.capacity = h.booked.fits in
        quiet w c w.kernel.shared poorer bare h is_c refl refl refl
        (booked_fewer w c poorer bare h is_c (λ i e. kept_one (a.numbers i) (numbers i) e) (omega (arith, total, fits)))
        bare_stands (before_less w c bare h is_c (λ i e. e)) (after_less w c bare h is_c (λ i e. e))
        (less_agrees p.knows (whole_graph w) (held_descriptors w) (h.agrees c is_c) bare.knows (record { client = refl; own = λ n. refl; copies = record { nodes = λ i copy e. e; blocks = λ i b bytes e. e }; granted = λ i e. absurd (false≢true e) }))

    pub all_returned_tree : world_state bare_world ≡ world_state w
    all_returned_tree = tree_same w c w.kernel.shared poorer bare refl refl refl
