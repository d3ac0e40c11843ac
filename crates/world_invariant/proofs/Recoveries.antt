-- What a recovery finds stays so while it digests records and drops files that have no name.
use Rattle.std.proofs.Common.{◌≡◌, ◌≢◌, inl, inr, ℕ, ◌+◌, ◌-◌, ◌≤◌, zero, suc, true, false, List, [], ◌++◌, refl, None, ap, sym, ◌∙◌, subst, arith}
use Rattle.std.proofs.lemmas.Bool.{false≢true}
use Rattle.std.proofs.lemmas.Bool.Decides.{eqb_tells}
use Rattle.posix_calls.specs.Tree.{sum_up_to, any_up_to, refers_to, has_open, is_open}
use Rattle.posix_calls.specs.Operations.{is_client}
use Rattle.posix_calls.proofs.Sums.{same_if, there_if, one_changes, any_is}
use Rattle.call_effects.specs.file_graph.Graph.{Graph, set_node}
use Rattle.call_effects.specs.file_graph.Units.{charge}
use Rattle.call_effects.specs.log_record.declared.format.Record.{Record}
use Rattle.call_effects.specs.Fits.{IsUnusedFile}
use Rattle.call_effects.specs.ClosedGraph.{nobody, settled_graph}
use Rattle.call_effects.specs.Wholes.{IsSound, state_of}
use Rattle.call_effects.proofs.Settled.{closed_state, settled_state}
use Rattle.call_effects.proofs.Unused.{same_state, sound_still}
use Rattle.world_invariant.specs.Limits.{IsWithin, AreWithin}
use Rattle.world_invariant.specs.Logs.{after_records, after_clients, is_written, units_in, LogsAreApart, IsPaid, ArePaid, Keeps, KeepLimits, IsNameless}
use Rattle.world_invariant.specs.Recovery.{IsRecoverable}
use Rattle.world_invariant.specs.World.{at}
use Rattle.world_invariant.proofs.Records.{either, records_stay, rest_written, front_unwritten, units_append}
use Rattle.world_invariant.proofs.Owners.{is_low, is_high, client_is, owner_of, whole_at, digested_whole}
use Rattle.world_invariant.proofs.Facts.{apart_less}
use Rattle.world_invariant.proofs.Keeping.{through, keep_same}
use Rattle.world_invariant.proofs.Along.{along_front, along_rest}
use Rattle.world_invariant.proofs.Paid.{paid_same, charge_records}
use Rattle.world_invariant.proofs.Reclaims.{charge_less}

-- the graph after all clients' records is within the limits
pub after_all_within : (g : Graph) (logs : ℕ → List Record) → LogsAreApart logs → AreWithin g → ((c : ℕ) → is_client c ≡ true → KeepLimits g (logs c)) → AreWithin (after_clients logs g 8)
after_all_within g logs apart within keep i =
    let o = owner_of logs i apart in
    subst (IsWithin i) (sym (whole_at logs g o.0 i o.1)) (through IsWithin (logs o.0) g i (keep o.0 o.1.client) (within i))

-- ---- records are digested

module _ (capacity : ℕ) (g : Graph) (logs : ℕ → List Record) (c : ℕ) (first rest : List Record) (r : IsRecoverable capacity g logs) (is_c : is_client c ≡ true) (split : logs c ≡ first ++ rest) where
  abbrev after : Graph
  after = after_records g first

  abbrev left : ℕ → List Record
  left = at logs c rest

  left_there : left c ≡ rest
  left_there = there_if c rest (logs c)

  left_else : (d : ℕ) → d ≢ c → left d ≡ logs d
  left_else d other = same_if d c rest (logs d) other

  pub recovered_same : after_clients left after 8 ≡ after_clients logs g 8
  recovered_same = λ t i. digested_whole logs left g c first rest is_c r.apart split left_there left_else i t

  less : (d i : ℕ) → is_client d ≡ true → is_written i (left d) ≡ true → is_written i (logs d) ≡ true
  less d i is_d e = elim (eqb_tells d c) [
    | inl same ↦ ap (is_written i) (ap logs same.1 ∙ split) ∙ rest_written i first rest (ap (is_written i) (sym (ap left same.1 ∙ left_there)) ∙ e)
    | inr off ↦ ap (is_written i) (sym (left_else d off.1)) ∙ e
  ]

  -- who else writes an inode finds there what it found
  beside : (d i : ℕ) → is_client d ≡ true → d ≢ c → is_written i (logs d) ≡ true → g i ≡ after i
  beside d i is_d other e = sym (records_stay g first i (front_unwritten i first rest (ap (is_written i) (sym split) ∙ r.apart d c i is_d is_c (λ same. other (sym same)) e)))

  paid_all : ArePaid g (first ++ rest)
  paid_all = subst (λ rs. ArePaid g rs) split (r.paid c is_c)

  keep_all : KeepLimits g (first ++ rest)
  keep_all = subst (λ rs. KeepLimits g rs) split (r.keep c is_c)

  still_paid : (d : ℕ) → is_client d ≡ true → ArePaid after (left d)
  still_paid d is_d = elim (eqb_tells d c) [
    | inl same ↦ subst (λ rs. ArePaid after rs) (sym (ap left same.1 ∙ left_there)) (along_rest IsPaid first rest g paid_all)
    | inr off ↦ subst (λ rs. ArePaid after rs) (sym (left_else d off.1)) (paid_same (logs d) g after (λ i e. beside d i is_d off.1 e) (r.paid d is_d))
  ]

  still_keep : (d : ℕ) → is_client d ≡ true → KeepLimits after (left d)
  still_keep d is_d = elim (eqb_tells d c) [
    | inl same ↦ subst (λ rs. KeepLimits after rs) (sym (ap left same.1 ∙ left_there)) (along_rest (Keeps IsWithin) first rest g keep_all)
    | inr off ↦ subst (λ rs. KeepLimits after rs) (sym (left_else d off.1)) (keep_same IsWithin (logs d) g after (λ i e. beside d i is_d off.1 e) (r.keep d is_d))
  ]

  still_fits : charge after + sum_up_to 8 (λ d. units_in (left d)) ≤ capacity
  still_fits =
      let sums : sum_up_to 8 (λ d. units_in (left d)) + units_in (logs c) ≡ sum_up_to 8 (λ d. units_in (logs d)) + units_in (left c) =
      one_changes 8 (λ d. units_in (logs d)) (λ d. units_in (left d)) c (is_low c is_c) (is_high c is_c) (λ d other. ap units_in (left_else d other)) in
      let had : units_in (logs c) ≡ units_in first + units_in rest = ap units_in split ∙ units_append first rest in
      let has : units_in (left c) ≡ units_in rest = ap units_in left_there in
      let risen : charge after ≤ charge g + units_in first = charge_records first g (along_front IsPaid first rest g paid_all) in
      let fits : charge g + sum_up_to 8 (λ d. units_in (logs d)) ≤ capacity = r.fits in
      omega (arith, sums, had, has, risen, fits)

  pub still_recoverable : IsRecoverable capacity after left
  still_recoverable = record {
    apart = apart_less logs left less r.apart;
    limits = λ i. through IsWithin first g i (along_front (Keeps IsWithin) first rest g keep_all) (r.limits i);
    keep = still_keep;
    paid = still_paid;
    fits = still_fits;
    sound = subst (λ h. IsSound h nobody) (sym recovered_same) r.sound;
  }

  pub still_charged : charge after ≤ capacity
  still_charged = let fits : charge after + sum_up_to 8 (λ d. units_in (left d)) ≤ capacity = still_fits in omega (arith, fits)

-- ---- all are digested

nothing_written : (n : ℕ) (logs : ℕ → List Record) (g : Graph) → ((c : ℕ) → 1 ≤ c → c ≤ n → logs c ≡ []) → after_clients logs g n ≡ g
unfolding after_clients
nothing_written zero logs g none = refl
nothing_written (suc n) logs g none = ap (after_records (after_clients logs g n)) (none (suc n) (omega arith) (omega arith)) ∙ nothing_written n logs g (λ c low high. none c low (omega (arith, high)))

pub recovered_sound : (capacity : ℕ) (g : Graph) (logs : ℕ → List Record) → IsRecoverable capacity g logs → ((c : ℕ) → is_client c ≡ true → logs c ≡ []) → IsSound g nobody
recovered_sound capacity g logs r none = subst (λ h. IsSound h nobody) (nothing_written 8 logs g (λ c low high. none c (client_is c low high))) r.sound

pub recovered_fits : (capacity : ℕ) (g : Graph) (logs : ℕ → List Record) → IsRecoverable capacity g logs → charge g ≤ capacity
recovered_fits capacity g logs r = let fits : charge g + sum_up_to 8 (λ d. units_in (logs d)) ≤ capacity = r.fits in omega (arith, fits)

-- ---- a file that has no name is dropped

nobody_open : (i : ℕ) → is_open nobody i ≡ false
unfolding is_open
nobody_open i = elim (either (any_up_to 8 (λ c. has_open (nobody c) i))) [
  | inl there ↦
      let c = any_is 8 (λ c. has_open (nobody c) i) there in
      let n = any_is 32 (λ n. refers_to i (nobody c.k (n - 1))) c.passes in
      absurd (false≢true n.passes)
  | inr closed ↦ closed
]

module _ (g : Graph) (i : ℕ) (file : IsNameless (g i)) where
  abbrev dropped : Graph
  dropped = set_node g i None

  unused : IsUnusedFile g nobody i
  unused = record { bytes = file.bytes; is = file.is; closed = nobody_open i }

  pub dropped_sound : IsSound g nobody → IsSound dropped nobody
  dropped_sound sound = sound_still g nobody i unused sound

  pub dropped_charge : charge dropped ≤ charge g
  dropped_charge = charge_less i g dropped (there_if i None (g i)) (λ j off. same_if j i None (g j) off)

  pub dropped_within : AreWithin g → AreWithin dropped
  dropped_within within j = elim (eqb_tells j i) [
    | inl same ↦ subst (IsWithin j) (sym (ap dropped same.1 ∙ there_if i None (g i))) tt
    | inr off ↦ subst (IsWithin j) (sym (same_if j i None (g j) off.1)) (within j)
  ]

  pub dropped_state : state_of dropped nobody ≡ state_of g nobody
  dropped_state = same_state g nobody i unused

-- with or without them the state is the same
pub settled_same : (g : Graph) → IsSound g nobody → state_of g nobody ≡ state_of (settled_graph g) nobody
settled_same g sound = closed_state g nobody sound ∙ sym (settled_state g nobody sound)
