-- Leases are taken and given, and the whole stays.
use Rattle.std.proofs.Common.{◌≡◌, ◌≢◌, inl, inr, ℕ, ◌==◌, ◌||◌, cond, Bool, true, false, refl, Some, None, Option, ap, sym, ◌∙◌}
use Rattle.std.proofs.lemmas.Bool.{false≢true}
use Rattle.std.proofs.lemmas.Bool.Decides.{eqb_tells}
use Rattle.posix_calls.specs.Operations.{is_client}
use Rattle.posix_calls.proofs.Sums.{same_if}
use Rattle.call_effects.specs.Knowledge.{Knowledge, IsForgetful}
use Rattle.call_effects.proofs.Served.{less_agrees}
use Rattle.world_invariant.specs.Logs.{is_written}
use Rattle.world_invariant.specs.World.{Client, World, records_of, has_lease, whole_graph, held_descriptors, world_state}
use Rattle.world_invariant.specs.ClientParts.{IsSoundPart}
use Rattle.world_invariant.specs.Invariant.{IsCoherent}
use Rattle.world_invariant.specs.LeaseSteps.{also, without, IsUnwritten, IsUnheld, read_taken, write_taken, CanGive, without_copies, after_give}
use Rattle.world_invariant.proofs.Records.{both, or_first, or_rest, or_neither, in_first, in_rest}
use Rattle.world_invariant.proofs.Idle.{none_some}
use Rattle.world_invariant.proofs.Facts.{writing_holds}
use Rattle.world_invariant.proofs.Begins.{tree_same, idle_records}
use Rattle.world_invariant.proofs.Moved.{quiet, booked_same, before_less, after_less}

or_more : (a b x y : Bool) → (a ≡ true → x ≡ true) → (b ≡ true → y ≡ true) → (a || b) ≡ true → (x || y) ≡ true
or_more true b x y f g e = in_first x y (f refl)
or_more false b x y f g e = in_rest x y (g e)

-- ---- taken

module _ (w : World) (c i : ℕ) (h : IsCoherent w) (is_c : is_client c ≡ true) where
  abbrev reader : Client
  reader = record (w.clients c) { reads = also (w.clients c).reads i }

  abbrev writer : Client
  writer = record (w.clients c) { reads = without (w.clients c).reads i; writes = also (w.clients c).writes i }

  s : IsSoundPart w.kernel.shared (w.kernel.accounts c) c (w.clients c)
  s = h.stands c is_c

  reader_holds : (j : ℕ) → has_lease (w.clients c) j ≡ true → has_lease reader j ≡ true
  reader_holds j e = or_more ((w.clients c).reads j) ((w.clients c).writes j) (also (w.clients c).reads i j) ((w.clients c).writes j) (in_rest (j == i) ((w.clients c).reads j)) (λ x. x) e

  elsewhere : (j : ℕ) → (j == i) ≡ false → has_lease writer j ≡ has_lease (w.clients c) j
  elsewhere j off = ap (λ t. cond t false ((w.clients c).reads j) || (t || (w.clients c).writes j)) off

  writer_holds : (j : ℕ) → has_lease (w.clients c) j ≡ true → has_lease writer j ≡ true
  writer_holds j e = elim (eqb_tells j i) [
    | inl same ↦ in_rest (without (w.clients c).reads i j) (also (w.clients c).writes i j) (in_first (j == i) ((w.clients c).writes j) same.0)
    | inr off ↦ elsewhere j off.0 ∙ e
  ]

  pub read_taken_holds : IsUnwritten w c i → IsCoherent (read_taken w c i)
  read_taken_holds free = quiet w c w.kernel.shared (w.kernel.accounts c) reader h is_c refl refl refl (booked_same w c reader h is_c)
      (record { number = s.number; rests = s.rests; marked = s.marked; starts = s.starts; logged = s.logged; units = s.units; numbered = s.numbered; leased = record { copies = λ j copy e. reader_holds j (s.leased.copies j copy e); blocks = λ j b bytes e. reader_holds j (s.leased.blocks j b bytes e) }; pinned = s.pinned; pending = s.pending })
      (before_less w c reader h is_c (λ j e. e))
      (λ d is_d other j e. elim (eqb_tells j i) [
        | inl same ↦ both ((w.clients d).writes j) e (ap (w.clients d).writes same.1 ∙ free d is_d other)
        | inr off ↦ ap (λ t. (t || (w.clients c).reads j) || (w.clients c).writes j) off.0 ∙ h.beside d c is_d is_c (λ same. other (sym same)) j e
      ])
      (h.agrees c is_c)

  pub write_taken_holds : IsUnheld w c i → IsCoherent (write_taken w c i)
  write_taken_holds free = quiet w c w.kernel.shared (w.kernel.accounts c) writer h is_c refl refl refl (booked_same w c writer h is_c)
      (record {
        number = s.number;
        rests = s.rests;
        marked = s.marked;
        starts = s.starts;
        logged = record { leased = λ j e. in_rest (j == i) ((w.clients c).writes j) (s.logged.leased j e); paid = s.logged.paid; unnamed = s.logged.unnamed; limits = s.logged.limits };
        units = s.units;
        numbered = s.numbered;
        leased = record { copies = λ j copy e. writer_holds j (s.leased.copies j copy e); blocks = λ j b bytes e. writer_holds j (s.leased.blocks j b bytes e) };
        pinned = s.pinned;
        pending = s.pending;
      })
      (λ d is_d other j e. elim (eqb_tells j i) [
        | inl same ↦ ap (has_lease (w.clients d)) same.1 ∙ free d is_d other
        | inr off ↦ h.beside c d is_c is_d other j (ap (λ t. t || (w.clients c).writes j) (sym off.0) ∙ e)
      ])
      (λ d is_d other j e. elim (eqb_tells j i) [
        | inl same ↦ both (has_lease (w.clients d) j) (writing_holds w h d j e) (ap (has_lease (w.clients d)) same.1 ∙ free d is_d other)
        | inr off ↦ elsewhere j off.0 ∙ h.beside d c is_d is_c (λ same. other (sym same)) j e
      ])
      (h.agrees c is_c)

  pub read_taken_tree : world_state (read_taken w c i) ≡ world_state w
  read_taken_tree = tree_same w c w.kernel.shared (w.kernel.accounts c) reader refl refl refl

  pub write_taken_tree : world_state (write_taken w c i) ≡ world_state w
  write_taken_tree = tree_same w c w.kernel.shared (w.kernel.accounts c) writer refl refl refl

-- ---- given

kept_if : {A : Type 0} (P : Type 0) (j i : ℕ) (o : Option A) (x : A) → cond (j == i) None o ≡ Some x → (j ≢ i → o ≡ Some x → P) → P
kept_if P j i o x e there = elim (eqb_tells j i) [
  | inl same ↦ none_some x (sym (ap (λ t. cond t None o) same.0) ∙ e)
  | inr off ↦ there off.1 (sym (ap (λ t. cond t None o) off.0) ∙ e)
]

pub forgets : (k : Knowledge) (i : ℕ) → IsForgetful k (without_copies k i)
forgets k i = record {
  client = refl;
  own = λ n. refl;
  copies = record {
    nodes = λ j copy e. kept_if (k.copies j ≡ Some copy) j i (k.copies j) copy e (λ off there. there);
    blocks = λ j b bytes e. kept_if (k.blocks j b ≡ Some bytes) j i (k.blocks j b) bytes e (λ off there. there);
  };
  granted = λ j e. e;
}

module _ (w : World) (c i : ℕ) (h : IsCoherent w) (can : CanGive w c i) where
  abbrev giver : Client
  giver = record (w.clients c) { reads = without (w.clients c).reads i; writes = without (w.clients c).writes i; knows = without_copies (w.clients c).knows i }

  stood : IsSoundPart w.kernel.shared (w.kernel.accounts c) c (w.clients c)
  stood = h.stands c can.client

  still : (has : ℕ → Bool) (j : ℕ) → j ≢ i → without has i j ≡ has j
  still has j off = same_if j i false (has j) off

  less : (has : ℕ → Bool) (j : ℕ) → without has i j ≡ true → has j ≡ true
  less has j e = elim (eqb_tells j i) [
    | inl same ↦ absurd (false≢true (sym (ap (λ t. cond t false (has j)) same.0) ∙ e))
    | inr off ↦ sym (ap (λ t. cond t false (has j)) off.0) ∙ e
  ]

  fewer : (has : ℕ → Bool) (j : ℕ) → has j ≡ false → without has i j ≡ false
  fewer has j e = elim (eqb_tells j i) [ inl same ↦ ap (λ t. cond t false (has j)) same.0 | inr off ↦ ap (λ t. cond t false (has j)) off.0 ∙ e ]

  giver_holds : (j : ℕ) → j ≢ i → has_lease (w.clients c) j ≡ true → has_lease giver j ≡ true
  giver_holds j off e = ap (λ t. t || without (w.clients c).writes i j) (still (w.clients c).reads j off) ∙ ap (λ t. (w.clients c).reads j || t) (still (w.clients c).writes j off) ∙ e

  giver_clean : is_written i (records_of (w.kernel.accounts c) (w.clients c)) ≡ false
  giver_clean = ap (is_written i) (idle_records (w.kernel.accounts c) (w.clients c) can.idle) ∙ can.clean

  pub given_holds : IsCoherent (after_give w c i)
  given_holds = quiet w c w.kernel.shared (w.kernel.accounts c) giver h can.client refl refl refl (booked_same w c giver h can.client)
      (record {
        number = stood.number;
        rests = stood.rests;
        marked = stood.marked;
        starts = stood.starts;
        logged = record {
          leased = λ j e. still (w.clients c).writes j (λ same. both (is_written j (records_of (w.kernel.accounts c) (w.clients c))) e (ap (λ x. is_written x (records_of (w.kernel.accounts c) (w.clients c))) same ∙ giver_clean)) ∙ stood.logged.leased j e;
          paid = stood.logged.paid;
          unnamed = stood.logged.unnamed;
          limits = stood.logged.limits;
        };
        units = stood.units;
        numbered = stood.numbered;
        leased = record {
          copies = λ j copy e. kept_if (has_lease giver j ≡ true) j i ((w.clients c).knows.copies j) copy e (λ off there. giver_holds j off (stood.leased.copies j copy there));
          blocks = λ j b bytes e. kept_if (has_lease giver j ≡ true) j i ((w.clients c).knows.blocks j b) bytes e (λ off there. giver_holds j off (stood.leased.blocks j b bytes there));
        };
        pinned = stood.pinned;
        pending = λ b e. none_some b (sym can.idle ∙ e);
      })
      (before_less w c giver h can.client (λ j e. less (w.clients c).writes j e))
      (after_less w c giver h can.client (λ j e. or_neither (without (w.clients c).reads i j) (without (w.clients c).writes i j) (fewer (w.clients c).reads j (or_first ((w.clients c).reads j) ((w.clients c).writes j) e)) (fewer (w.clients c).writes j (or_rest ((w.clients c).reads j) ((w.clients c).writes j) e))))
      (less_agrees (w.clients c).knows (whole_graph w) (held_descriptors w) (h.agrees c can.client) (without_copies (w.clients c).knows i) (forgets (w.clients c).knows i))

  pub given_tree : world_state (after_give w c i) ≡ world_state w
  given_tree = tree_same w c w.kernel.shared (w.kernel.accounts c) giver refl refl refl
