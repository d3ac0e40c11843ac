-- A step that changes the shared graph and one client's account and part: what it has to keep.
use Rattle.std.proofs.Common.{◌≡◌, ◌≢◌, inl, inr, ℕ, ◌+◌, ◌<◌, ◌≤◌, cond, true, false, refl, None, ap, sym, ◌∙◌, subst}
use Rattle.std.proofs.lemmas.Bool.Decides.{eqb_tells}
use Rattle.posix_calls.specs.Tree.{Own, Descriptors, with_own, sum_up_to}
use Rattle.posix_calls.specs.Operations.{is_client}
use Rattle.call_effects.specs.file_graph.Graph.{Graph}
use Rattle.call_effects.specs.file_graph.Units.{charge}
use Rattle.call_effects.specs.Wholes.{IsSound}
use Rattle.call_effects.specs.Knowledge.{Agrees}
use Rattle.world_invariant.specs.Limits.{AreWithin}
use Rattle.world_invariant.specs.Logs.{after_clients}
use Rattle.world_invariant.specs.World.{Client, Account, World, undigested_records, records_of, has_lease, log_of, all_of, whole_graph, held_descriptors, at, moved_world}
use Rattle.world_invariant.specs.ClientParts.{IsSoundPart, IsBooked, IsBeside}
use Rattle.world_invariant.specs.Invariant.{IsCoherent}
use Rattle.world_invariant.proofs.Kernels.{each}
use Rattle.world_invariant.proofs.Kernels as kernels

-- what is said of a graph and descriptors is so of others that are the same
pub both_same : (Q : Graph → Descriptors → Type 0) {g h : Graph} {d e : Descriptors} → h ≡ g → e ≡ d → Q g d → Q h e
both_same Q {g} {h} {d} {e} graph held q = subst (λ x. Q x e) (sym graph) (subst (λ o. Q g o) (sym held) q)

-- ---- what holds of the client that moved and of the others

module _ (w : World) (c : ℕ) (g : Graph) (a : Account) (p : Client) where
  pub each_client : (Q : ℕ → Account → Client → Type 0) → Q c a p → ((d : ℕ) → d ≢ c → Q d (w.kernel.accounts d) (w.clients d)) → (d : ℕ) → Q d (at w.kernel.accounts c a d) (at w.clients c p d)
  each_client Q own others d =
      elim (eqb_tells d c) [
        | inl same ↦ subst (λ b. Q d (cond b a (w.kernel.accounts d)) (cond b p (w.clients d))) (sym same.0) (subst (λ e. Q e a p) (sym same.1) own)
        | inr other ↦ subst (λ b. Q d (cond b a (w.kernel.accounts d)) (cond b p (w.clients d))) (sym other.0) (others d other.1)
      ]

  pub log_there : log_of (moved_world w c g a p) c ≡ undigested_records a p
  log_there = each_client (λ d b q. d ≡ c → undigested_records b q ≡ undigested_records a p) (λ e. refl) (λ d other e. absurd (other e)) c refl

  pub log_else : (d : ℕ) → d ≢ c → log_of (moved_world w c g a p) d ≡ log_of w d
  log_else d other = each_client (λ d b q. d ≢ c → undigested_records b q ≡ log_of w d) (λ e. absurd (e refl)) (λ d other e. refl) d other

  pub all_there : all_of (moved_world w c g a p) c ≡ records_of a p
  all_there = each_client (λ d b q. d ≡ c → records_of b q ≡ records_of a p) (λ e. refl) (λ d other e. absurd (other e)) c refl

  pub all_else : (d : ℕ) → d ≢ c → all_of (moved_world w c g a p) d ≡ all_of w d
  all_else d other = each_client (λ d b q. d ≢ c → records_of b q ≡ all_of w d) (λ e. absurd (e refl)) (λ d other e. refl) d other

  -- the same log: the same whole
  pub log_same : undigested_records a p ≡ log_of w c → (d : ℕ) → log_of (moved_world w c g a p) d ≡ log_of w d
  log_same e = each_client (λ d b q. undigested_records b q ≡ log_of w d) e (λ d other. refl)

  pub whole_same : undigested_records a p ≡ log_of w c → g ≡ w.kernel.shared → whole_graph (moved_world w c g a p) ≡ whole_graph w
  whole_same e same = ap (λ logs. after_clients logs g 8) (λ t d. log_same e d t) ∙ ap (λ h. after_clients (log_of w) h 8) same

  -- what is open is what the client has open now
  pub held_moved : is_client c ≡ true → held_descriptors (moved_world w c g a p) ≡ with_own (held_descriptors w) c p.knows.own
  held_moved is_c = λ t d n. opened d n t
    where
      opened : (d n : ℕ) → held_descriptors (moved_world w c g a p) d n ≡ with_own (held_descriptors w) c p.knows.own d n
      opened d n = elim (eqb_tells d c) [
        | inl same ↦ ap (λ b. cond (is_client d) ((cond b p (w.clients d)).knows.own n) None) same.0 ∙ ap (λ b. cond b (p.knows.own n) None) (ap is_client same.1 ∙ is_c) ∙ sym (ap (λ b. cond b (p.knows.own n) (held_descriptors w d n)) same.0)
        | inr other ↦ ap (λ b. cond (is_client d) ((cond b p (w.clients d)).knows.own n) None) other.0 ∙ sym (ap (λ b. cond b (p.knows.own n) (held_descriptors w d n)) other.0)
      ]

  pub held_same : p.knows.own ≡ (w.clients c).knows.own → held_descriptors (moved_world w c g a p) ≡ held_descriptors w
  held_same same = λ t d n. each w.clients c p (λ d q. cond (is_client d) (q.knows.own n) None ≡ held_descriptors w d n) (ap (λ (o : Own). cond (is_client c) (o n) None) same) (λ d other. refl) d t

-- ---- the invariant after it

pub at_same : {A : Type 0} (f : ℕ → A) (c : ℕ) → at f c (f c) ≡ f
at_same {A} f c = λ t d. there d t
  where
    there : (d : ℕ) → at f c (f c) d ≡ f d
    there d = elim (eqb_tells d c) [
      | inl same ↦ ap (λ b. cond b (f c) (f d)) same.0 ∙ ap f (sym same.1)
      | inr other ↦ ap (λ b. cond b (f c) (f d)) other.0
    ]

module _ (w : World) (c : ℕ) (g : Graph) (a : Account) (p : Client) (h : IsCoherent w) (is_c : is_client c ≡ true) where
  pub holds_moved : IsBooked (moved_world w c g a p).kernel
      → IsSoundPart g a c p
      → ((d : ℕ) → is_client d ≡ true → d ≢ c → IsSoundPart g (w.kernel.accounts d) d (w.clients d))
      → ((d : ℕ) → is_client d ≡ true → d ≢ c → IsBeside p (w.clients d))
      → ((d : ℕ) → is_client d ≡ true → d ≢ c → IsBeside (w.clients d) p)
      → IsSound (whole_graph (moved_world w c g a p)) (held_descriptors (moved_world w c g a p))
      → Agrees p.knows (whole_graph (moved_world w c g a p)) (held_descriptors (moved_world w c g a p))
      → ((d : ℕ) → is_client d ≡ true → d ≢ c → Agrees (w.clients d).knows (whole_graph (moved_world w c g a p)) (held_descriptors (moved_world w c g a p)))
      → IsCoherent (moved_world w c g a p)
  holds_moved booked own others before after sound own_agrees agrees = record {
    booked = booked;
    stands = each_client w c g a p (λ d b q. is_client d ≡ true → IsSoundPart g b d q) (λ is. own) (λ d other is_d. others d is_d other);
    beside = λ d e is_d is_e apart. beside d e is_d is_e apart;
    sound = sound;
    agrees = each w.clients c p (λ d q. is_client d ≡ true → Agrees q.knows (whole_graph (moved_world w c g a p)) (held_descriptors (moved_world w c g a p))) (λ is. own_agrees) (λ d other is_d. agrees d is_d other);
  }
    where
      beside : (d e : ℕ) → is_client d ≡ true → is_client e ≡ true → e ≢ d → IsBeside (at w.clients c p d) (at w.clients c p e)
      beside d e is_d is_e apart =
          each w.clients c p (λ d q. is_client d ≡ true → e ≢ d → IsBeside q (at w.clients c p e))
          (λ is apart. each w.clients c p (λ e q. is_client e ≡ true → e ≢ c → IsBeside p q) (λ is other. absurd (other refl)) (λ e off is_e other. before e is_e off) e is_e apart)
          (λ d off is apart. each w.clients c p (λ e q. is_client e ≡ true → e ≢ d → IsBeside (w.clients d) q) (λ is_c other. after d is off) (λ e off is_e other. h.beside d e is is_e other) e is_e apart)
          d is_d apart

  -- the sum of the units that are out
  pub units_moved : sum_up_to 8 (λ d. (at w.kernel.accounts c a d).units) + (w.kernel.accounts c).units ≡ sum_up_to 8 (λ d. (w.kernel.accounts d).units) + a.units
  units_moved = kernels.units_moved w.kernel c g a h.booked is_c

  pub booked_moved : ((i : ℕ) → a.numbers i ≡ true → g i ≡ None)
      → ((d i : ℕ) → is_client d ≡ true → d ≢ c → (w.kernel.accounts d).numbers i ≡ true → g i ≡ None)
      → ((i : ℕ) → a.numbers i ≡ true → (1 < i) × (i ≤ 1024))
      → ((d i : ℕ) → is_client d ≡ true → d ≢ c → a.numbers i ≡ true → (w.kernel.accounts d).numbers i ≡ false)
      → AreWithin g
      → charge g + sum_up_to 8 (λ d. (at w.kernel.accounts c a d).units) ≤ w.kernel.capacity
      → IsBooked (moved_world w c g a p).kernel
  booked_moved = kernels.booked_moved w.kernel c g a h.booked is_c

  -- The whole and what is open stay, and the client holds no more than before.
  pub quiet : g ≡ w.kernel.shared → undigested_records a p ≡ log_of w c → p.knows.own ≡ (w.clients c).knows.own
      → IsBooked (moved_world w c g a p).kernel → IsSoundPart g a c p
      → ((d : ℕ) → is_client d ≡ true → d ≢ c → IsBeside p (w.clients d))
      → ((d : ℕ) → is_client d ≡ true → d ≢ c → IsBeside (w.clients d) p)
      → Agrees p.knows (whole_graph w) (held_descriptors w) → IsCoherent (moved_world w c g a p)
  quiet shared log own booked stands before after agrees =
      let same : whole_graph (moved_world w c g a p) ≡ whole_graph w = whole_same w c g a p log shared in
      let open_same : held_descriptors (moved_world w c g a p) ≡ held_descriptors w = held_same w c g a p own in
      holds_moved booked stands (λ d is_d other. subst (λ s. IsSoundPart s (w.kernel.accounts d) d (w.clients d)) (sym shared) (h.stands d is_d)) before after
      (both_same (λ s o. IsSound s o) same open_same h.sound)
      (both_same (λ s o. Agrees p.knows s o) same open_same agrees)
      (λ d is_d other. both_same (λ s o. Agrees (w.clients d).knows s o) same open_same (h.agrees d is_d))

-- ---- steps of a client alone

-- the client with these leases and this part of its account keeps what holds of it and the others
module _ (w : World) (c : ℕ) (p : Client) (h : IsCoherent w) (is_c : is_client c ≡ true) where
  abbrev same_account : Account
  same_account = w.kernel.accounts c

  pub booked_same : IsBooked (moved_world w c w.kernel.shared (w.kernel.accounts c) p).kernel
  booked_same = subst (λ accounts. IsBooked (record { shared = w.kernel.shared; capacity = w.kernel.capacity; accounts = accounts })) (sym (at_same w.kernel.accounts c)) h.booked

  -- leases that are the same, or fewer
  pub before_less : ((i : ℕ) → p.writes i ≡ true → (w.clients c).writes i ≡ true) → (d : ℕ) → is_client d ≡ true → d ≢ c → IsBeside p (w.clients d)
  before_less less d is_d other i e = h.beside c d is_c is_d other i (less i e)

  pub after_less : ((i : ℕ) → has_lease (w.clients c) i ≡ false → has_lease p i ≡ false) → (d : ℕ) → is_client d ≡ true → d ≢ c → IsBeside (w.clients d) p
  after_less less d is_d other i e = less i (h.beside d c is_d is_c (λ same. other (sym same)) i e)
