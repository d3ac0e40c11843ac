-- Records of different clients commute, since no inode is written by two of them.
use Rattle.std.proofs.Common.{◌≡◌, ◌≢◌, inl, inr, ℕ, ◌-◌, ◌==◌, cond, true, false, List, [], ◌++◌, drop, refl, ap, sym, ◌∙◌, subst}
use Rattle.std.proofs.lemmas.Bool.Decides.{eqb_tells}
use Rattle.posix_calls.proofs.Sums.{same_if}
use Rattle.call_effects.specs.file_graph.Graph.{Graph}
use Rattle.call_effects.specs.log_record.declared.format.Record.{Record}
use Rattle.world_invariant.specs.Logs.{after_records, after_clients, after_each, is_written, LogsAreApart, IsOrder}
use Rattle.world_invariant.specs.World.{Client, Account, World, log_of, at}
use Rattle.world_invariant.specs.Invariant.{IsCoherent}
use Rattle.world_invariant.specs.KernelSteps.{CanDigest, records_digested}
use Rattle.world_invariant.specs.Machine.{account_after}
use Rattle.world_invariant.proofs.Records.{either, both, still_false, records_same, records_stay, front_written}
use Rattle.world_invariant.proofs.Owners.{ended_whole}
use Rattle.world_invariant.proofs.Idle.{no_records}
use Rattle.world_invariant.proofs.Facts.{apart_logs}

pub orders_same : (logs : ℕ → List Record) (g : Graph) (cs : List ℕ) → LogsAreApart logs → IsOrder cs → after_each logs g cs ≡ after_clients logs g 8
orders_same logs g cs apart order = λ t i. at i t
  where
    at : (i : ℕ) → after_each logs g cs i ≡ after_clients logs g 8 i
    at i = ap (λ h. after_each logs h cs i) (sym (no_records 8 g)) ∙ sym (ended_whole (λ c. []) logs logs g cs apart (λ c is_c. refl) order i)

-- ---- digests of two clients

-- records that write no inode in common
apart_commute : (g : Graph) (rs ss : List Record) → ((i : ℕ) → is_written i rs ≡ true → is_written i ss ≡ false) → (i : ℕ) → after_records (after_records g rs) ss i ≡ after_records (after_records g ss) rs i
apart_commute g rs ss apart i = elim (either (is_written i rs)) [
  | inl there ↦ records_stay (after_records g rs) ss i (apart i there) ∙ sym (records_same (after_records g ss) g rs (λ j at. records_stay g ss j (apart j at)) i (records_stay g ss i (apart i there)))
  | inr off ↦ records_same (after_records g rs) g ss (λ j at. records_stay g rs j (off_by j at)) i (records_stay g rs i off) ∙ sym (records_stay (after_records g ss) rs i off)
]
  where
    off_by : (j : ℕ) → is_written j ss ≡ true → is_written j rs ≡ false
    off_by j at = elim (either (is_written j rs)) [ inl there ↦ both (is_written j ss) at (apart j there) | inr clean ↦ clean ]

-- a change of one client's value, and one of another's
module _ {A : Type 0} (f : ℕ → A) (c d : ℕ) (u v : A → A) (off : d ≢ c) where
  abbrev one : ℕ → A
  one = at f c (u (f c))

  abbrev other : ℕ → A
  other = at f d (v (f d))

  at_both : (e : ℕ) → at one d (v (one d)) e ≡ at other c (u (other c)) e
  at_both e =
      ap (λ x. cond (e == d) (v x) (one e)) (same_if d c (u (f c)) (f d) off)
      ∙ swapped
      ∙ sym (ap (λ x. cond (e == c) (u x) (other e)) (same_if c d (v (f d)) (f c) (λ is. off (sym is))))
    where
      swapped : cond (e == d) (v (f d)) (cond (e == c) (u (f c)) (f e)) ≡ cond (e == c) (u (f c)) (cond (e == d) (v (f d)) (f e))
      swapped = elim (eqb_tells e d) [
        | inl is ↦
            ap (λ b. cond b (v (f d)) (cond (e == c) (u (f c)) (f e))) is.0
            ∙ sym (same_if e c (u (f c)) (cond (e == d) (v (f d)) (f e)) (λ same. off (sym is.1 ∙ same)) ∙ ap (λ b. cond b (v (f d)) (f e)) is.0)
        | inr isnt ↦
            ap (λ b. cond b (v (f d)) (cond (e == c) (u (f c)) (f e))) isnt.0
            ∙ ap (λ x. cond (e == c) (u (f c)) x) (sym (ap (λ b. cond b (v (f d)) (f e)) isnt.0))
      ]

module _ (w : World) (c d : ℕ) (first rest second more : List Record) where
  pub still_digests : d ≢ c → CanDigest w c first rest → CanDigest w d second more → CanDigest (records_digested w c first) d second more
  still_digests off can next = record {
    client = next.client;
    some = next.some;
    split = subst (λ (a : Account). drop (a.mark - ((records_digested w c first).clients d).past) ((records_digested w c first).clients d).sealed ≡ second ++ more) (sym (same_if d c (account_after (w.kernel.accounts c) first) (w.kernel.accounts d) off))
        (subst (λ (q : Client). drop ((w.kernel.accounts d).mark - q.past) q.sealed ≡ second ++ more) (sym (same_if d c (w.clients c) (w.clients d) off)) next.split);
  }

  module _ (h : IsCoherent w) (off : d ≢ c) (can : CanDigest w c first rest) (next : CanDigest w d second more) where
    of_log : (e : ℕ) (some others : List Record) → CanDigest w e some others → (i : ℕ) → is_written i some ≡ true → is_written i (log_of w e) ≡ true
    of_log e some others is i there = front_written i (drop ((w.kernel.accounts e).mark - (w.clients e).past) (w.clients e).sealed) (w.clients e).current (ap (is_written i) is.split ∙ front_written i some others there)

    apart : (i : ℕ) → is_written i first ≡ true → is_written i second ≡ false
    apart i there = still_false (is_written i (log_of w d)) (is_written i second) (of_log d second more next i) (apart_logs w h c d i can.client next.client off (of_log c first rest can i there))

    abbrev with_all : Graph → (ℕ → Account) → (ℕ → Client) → World
    with_all g accounts clients = record { kernel = record { shared = g; capacity = w.kernel.capacity; accounts = accounts }; clients = clients }

    pub digests_same : records_digested (records_digested w c first) d second ≡ records_digested (records_digested w d second) c first
    digests_same =
        let one = records_digested (records_digested w c first) d second in
        let other = records_digested (records_digested w d second) c first in
        ap (λ g. with_all g one.kernel.accounts one.clients) (λ t i. apart_commute w.kernel.shared first second apart i t)
        ∙ ap (λ accounts. with_all other.kernel.shared accounts one.clients) (λ t e. at_both w.kernel.accounts c d (λ a. account_after a first) (λ a. account_after a second) off e t)
        ∙ ap (λ clients. with_all other.kernel.shared other.kernel.accounts clients) (λ t e. at_both w.clients c d (λ p. p) (λ p. p) off e t)
