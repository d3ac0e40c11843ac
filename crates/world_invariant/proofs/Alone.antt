-- All parts of the invariant but one, of a world in which one client's part and account are exchanged.
use Rattle.std.proofs.Common.{◌≡◌, ◌≢◌, ℕ, ◌+◌, ◌≤◌, ◌||◌, Bool, true, false, refl, ap, sym, ◌∙◌, arith}
use Rattle.posix_calls.specs.Tree.{sum_up_to}
use Rattle.posix_calls.specs.Operations.{is_client}
use Rattle.call_effects.specs.file_graph.Graph.{Graph}
use Rattle.call_effects.specs.Wholes.{IsSound}
use Rattle.call_effects.specs.Knowledge.{Agrees}
use Rattle.call_effects.specs.file_graph.Units.{charge}
use Rattle.world_invariant.specs.World.{Account, Client, World, undigested_records, has_lease, log_of, whole_graph, held_descriptors, at, moved_world}
use Rattle.world_invariant.specs.ClientParts.{IsBooked, IsBeside}
use Rattle.world_invariant.specs.Invariant.{IsCoherent}
use Rattle.world_invariant.specs.Parts.{BookPart, HoldsIn, ClientPart, HoldsOf, WorldPart, Book, Each, LeasesLegal, WholeSound, WholeKnown, HoldsOfWorld}
use Rattle.world_invariant.proofs.Kernels.{each}
use Rattle.world_invariant.proofs.Moved.{each_client, both_same, whole_same, held_same, units_moved, booked_moved, before_less, after_less}
use Rattle.world_invariant.proofs.Parts.{book_parts, client_parts}

-- the others' parts stand beside another graph
abbrev pub OthersStand : WorldPart → World → ℕ → Graph → Type 0
OthersStand part w c g = (q : ClientPart) → Each q ≢ part → (d : ℕ) → is_client d ≡ true → d ≢ c → HoldsOf q g (w.kernel.accounts d) d (w.clients d)

-- the leases of a client's part and of the others are legal
abbrev pub IsLegalBeside : World → ℕ → Client → Type 0
IsLegalBeside w c p = (d : ℕ) → is_client d ≡ true → d ≢ c → IsBeside p (w.clients d) × IsBeside (w.clients d) p

-- what one client knows is as the whole is, and what the others know
abbrev pub AllKnow : World → ℕ → Client → World → Type 0
AllKnow w c p now = Agrees p.knows (whole_graph now) (held_descriptors now) × ((d : ℕ) → is_client d ≡ true → d ≢ c → Agrees (w.clients d).knows (whole_graph now) (held_descriptors now))

module _ (part : WorldPart) (w : World) (c : ℕ) (g : Graph) (a : Account) (p : Client) (is_c : is_client c ≡ true) where
  pub moved_others : ((q : BookPart) → Book q ≢ part → HoldsIn q (moved_world w c g a p).kernel)
      → ((q : ClientPart) → Each q ≢ part → HoldsOf q g a c p)
      → OthersStand part w c g
      → (LeasesLegal ≢ part → HoldsOfWorld LeasesLegal w)
      → (LeasesLegal ≢ part → IsLegalBeside w c p)
      → (WholeSound ≢ part → IsSound (whole_graph (moved_world w c g a p)) (held_descriptors (moved_world w c g a p)))
      → (WholeKnown ≢ part → AllKnow w c p (moved_world w c g a p))
      → (q : WorldPart) → q ≢ part → HoldsOfWorld q (moved_world w c g a p)
  moved_others book own others were legal sound known (Book q) off = book q off
  moved_others book own others were legal sound known (Each q) off = λ d is_d. each_client w c g a p (λ e b r. is_client e ≡ true → HoldsOf q g b e r) (λ is. own q off) (λ e other is. others q off e is other) d is_d
  moved_others book own others were legal sound known LeasesLegal off = λ d e is_d is_e apart. beside d e is_d is_e apart
    where
      beside : (d e : ℕ) → is_client d ≡ true → is_client e ≡ true → e ≢ d → IsBeside (at w.clients c p d) (at w.clients c p e)
      beside d e is_d is_e apart =
          each w.clients c p (λ d q. is_client d ≡ true → e ≢ d → IsBeside q (at w.clients c p e))
          (λ is apart. each w.clients c p (λ e q. is_client e ≡ true → e ≢ c → IsBeside p q) (λ is other. absurd (other refl)) (λ e off_c is_e other. (legal off e is_e off_c).0) e is_e apart)
          (λ d off_c is apart. each w.clients c p (λ e q. is_client e ≡ true → e ≢ d → IsBeside (w.clients d) q) (λ is_c other. (legal off d is off_c).1) (λ e off_e is_e other. were off d e is is_e other) e is_e apart)
          d is_d apart
  moved_others book own others were legal sound known WholeSound off = sound off
  moved_others book own others were legal sound known WholeKnown off = λ d is_d. each w.clients c p (λ e r. is_client e ≡ true → Agrees r.knows (whole_graph (moved_world w c g a p)) (held_descriptors (moved_world w c g a p))) (λ is. (known off).0) (λ e other is. (known off).1 e is other) d is_d

-- the shared graph, the client's log and what it has open stay
module _ (part : WorldPart) (w : World) (c : ℕ) (a : Account) (p : Client) (h : IsCoherent w) (is_c : is_client c ≡ true) (log : undigested_records a p ≡ log_of w c) (own_same : p.knows.own ≡ (w.clients c).knows.own) where
  abbrev now : World
  now = moved_world w c w.kernel.shared a p

  pub quiet_others : ((q : BookPart) → Book q ≢ part → HoldsIn q now.kernel)
      → ((q : ClientPart) → Each q ≢ part → HoldsOf q w.kernel.shared a c p)
      → (LeasesLegal ≢ part → IsLegalBeside w c p)
      → (WholeKnown ≢ part → Agrees p.knows (whole_graph w) (held_descriptors w))
      → (q : WorldPart) → q ≢ part → HoldsOfWorld q now
  quiet_others book own legal known = moved_others part w c w.kernel.shared a p is_c book own
      (λ q off d is_d other. client_parts w.kernel.shared (w.kernel.accounts d) d (w.clients d) (h.stands d is_d) q)
      (λ off. h.beside) legal
      (λ off. both_same (λ s o. IsSound s o) (whole_same w c w.kernel.shared a p log refl) (held_same w c w.kernel.shared a p own_same) h.sound)
      (λ off. (both_same (λ s o. Agrees p.knows s o) (whole_same w c w.kernel.shared a p log refl) (held_same w c w.kernel.shared a p own_same) (known off), λ d is_d other. both_same (λ s o. Agrees (w.clients d).knows s o) (whole_same w c w.kernel.shared a p log refl) (held_same w c w.kernel.shared a p own_same) (h.agrees d is_d)))

-- and its account has no more numbers and units than before, and the client no more leases
pub record IsLess (w : World) (c : ℕ) (a : Account) (p : Client) : Type 0 where
  pub log : undigested_records a p ≡ log_of w c
  pub own : p.knows.own ≡ (w.clients c).knows.own
  pub numbers : (i : ℕ) → a.numbers i ≡ true → (w.kernel.accounts c).numbers i ≡ true
  pub units : a.units ≤ (w.kernel.accounts c).units
  pub writes : (i : ℕ) → p.writes i ≡ true → (w.clients c).writes i ≡ true
  pub leases : (i : ℕ) → has_lease (w.clients c) i ≡ false → has_lease p i ≡ false

-- the same account, and the same leases
pub same_less : (w : World) (c : ℕ) (p : Client) → undigested_records (w.kernel.accounts c) p ≡ log_of w c → p.knows.own ≡ (w.clients c).knows.own → p.reads ≡ (w.clients c).reads → p.writes ≡ (w.clients c).writes → IsLess w c (w.kernel.accounts c) p
same_less w c p log own reads writes = record {
  log = log;
  own = own;
  numbers = λ i e. e;
  units = omega arith;
  writes = λ i e. sym (ap (λ (f : ℕ → Bool). f i) writes) ∙ e;
  leases = λ i e. ap (λ (f : ℕ → Bool). f i || p.writes i) reads ∙ ap (λ (f : ℕ → Bool). (w.clients c).reads i || f i) writes ∙ e;
}

module _ (part : WorldPart) (w : World) (c : ℕ) (a : Account) (p : Client) (h : IsCoherent w) (is_c : is_client c ≡ true) (less : IsLess w c a p) where
  booked_less : IsBooked (moved_world w c w.kernel.shared a p).kernel
  booked_less = booked_moved w c w.kernel.shared a p h is_c
      (λ i e. h.booked.free c i is_c (less.numbers i e)) (λ d i is_d other e. h.booked.free d i is_d e)
      (λ i e. h.booked.range c i is_c (less.numbers i e)) (λ d i is_d other e. h.booked.alone c d i is_c is_d other (less.numbers i e))
      h.booked.limits fits
    where
      fits : charge w.kernel.shared + sum_up_to 8 (λ d. (at w.kernel.accounts c a d).units) ≤ w.kernel.capacity
      fits =
          let changed : sum_up_to 8 (λ d. (at w.kernel.accounts c a d).units) + (w.kernel.accounts c).units ≡ sum_up_to 8 (λ d. (w.kernel.accounts d).units) + a.units = units_moved w c w.kernel.shared a p h is_c in
          let fitted : charge w.kernel.shared + sum_up_to 8 (λ d. (w.kernel.accounts d).units) ≤ w.kernel.capacity = h.booked.fits in
          let fewer : a.units ≤ (w.kernel.accounts c).units = less.units in
          omega (arith, changed, fitted, fewer)

  pub less_others : ((q : ClientPart) → Each q ≢ part → HoldsOf q w.kernel.shared a c p)
      → (WholeKnown ≢ part → Agrees p.knows (whole_graph w) (held_descriptors w))
      → (q : WorldPart) → q ≢ part → HoldsOfWorld q (moved_world w c w.kernel.shared a p)
  less_others own known = quiet_others part w c a p h is_c less.log less.own
      (λ q off. book_parts (moved_world w c w.kernel.shared a p).kernel booked_less q) own
      (λ off d is_d other. (before_less w c p h is_c less.writes d is_d other, after_less w c p h is_c less.leases d is_d other)) known
