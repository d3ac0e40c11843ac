-- A call begins its record, is given up, or fails: no answer is given, and the whole stays.
use Rattle.std.proofs.Common.{◌≡◌, ◌≢◌, inl, inr, ℕ, ◌+◌, ◌-◌, ◌≤◌, ◌||◌, true, false, [], ◌∷◌, ◌++◌, refl, Some, None, ap, sym, ◌∙◌, subst, arith}
use Rattle.std.proofs.lemmas.Option.{same_Some}
use Rattle.posix_calls.specs.Operations.{is_client}
use Rattle.call_effects.specs.file_graph.Graph.{Graph}
use Rattle.call_effects.specs.file_graph.Units.{growth}
use Rattle.call_effects.specs.Wholes.{state_of}
use Rattle.call_effects.proofs.KnownUnits.{planned_units}
use Rattle.call_effects.proofs.Rises.{growth_local}
use Rattle.world_invariant.specs.Logs.{after_records, is_written, is_touched, units_in, IsPaid, ArePaid, IsNameless, Keeps, NamesNone, NameNone, KeepLimits}
use Rattle.world_invariant.specs.Limits.{IsWithin}
use Rattle.world_invariant.specs.World.{Begun, Failed, Status, Client, Account, World, undigested_records, records_of, change_of, log_of, whole_graph, held_descriptors, world_state, moved_world}
use Rattle.world_invariant.specs.ClientParts.{is_settled, IsPending, IsSoundPart}
use Rattle.world_invariant.specs.Invariant.{IsCoherent}
use Rattle.world_invariant.specs.ClientSteps.{CanBegin, call_begun, IsBegun, given_up, with_client}
use Rattle.world_invariant.proofs.Records.{either, both, append_nil, front_written, written_append, or_neither, units_append}
use Rattle.world_invariant.proofs.Owners.{whole_at}
use Rattle.world_invariant.proofs.Idle.{none_some}
use Rattle.world_invariant.proofs.Facts.{owned, writing_holds, whole_within}
use Rattle.world_invariant.proofs.Along.{along_front, along_join}
use Rattle.world_invariant.proofs.Keeping.{keep_same}
use Rattle.world_invariant.proofs.Nameless.{planned_names_none}
use Rattle.world_invariant.proofs.Within.{planned_within}
use Rattle.world_invariant.proofs.Moved.{quiet, booked_same, before_less, after_less, whole_same, held_same}

-- a client's step that changes neither its records nor what it has open
pub tree_same : (w : World) (c : ℕ) (g : Graph) (a : Account) (p : Client) → undigested_records a p ≡ log_of w c → g ≡ w.kernel.shared → p.knows.own ≡ (w.clients c).knows.own → world_state (moved_world w c g a p) ≡ world_state w
tree_same w c g a p log shared own = ap (λ s. state_of s (held_descriptors (moved_world w c g a p))) (whole_same w c g a p log shared) ∙ ap (λ o. state_of (whole_graph w) o) (held_same w c g a p own)

-- no record is begun
pub idle_records : (a : Account) (p : Client) → p.begun ≡ None → records_of a p ≡ undigested_records a p
idle_records a p idle = ap (λ o. undigested_records a p ++ change_of o) idle ∙ append_nil (undigested_records a p)

module _ (w : World) (c : ℕ) (b : Begun) (h : IsCoherent w) (can : CanBegin w c b) where
  abbrev old : Client
  old = w.clients c

  abbrev account : Account
  account = w.kernel.accounts c

  s : IsSoundPart w.kernel.shared account c old
  s = h.stands c can.client

  log_leased : (i : ℕ) → is_written i (log_of w c ++ (b.change ∷ [])) ≡ true → old.writes i ≡ true
  log_leased i e = elim (either (is_written i (log_of w c))) [
    | inl there ↦ s.logged.leased i (front_written i (log_of w c) (change_of old.begun) there)
    | inr clean ↦ elim (either (is_touched i b.change)) [
      | inl there ↦ can.leased i there
      | inr off ↦ both (is_written i (log_of w c ++ (b.change ∷ []))) e (written_append i (log_of w c) (b.change ∷ []) ∙ or_neither (is_written i (log_of w c)) (is_written i (b.change ∷ [])) clean (ap (λ x. x || false) off))
    ]
  ]

  -- where it touches, the whole is what the client's own records make of the shared graph
  own_view : (i : ℕ) → is_touched i b.change ≡ true → whole_graph w i ≡ after_records w.kernel.shared (log_of w c) i
  own_view i e = whole_at (log_of w) w.kernel.shared c i (owned w h c i can.client (writing_holds w h c i (can.leased i e)))

  grown : growth (after_records w.kernel.shared (log_of w c)) b.change.effects ≤ b.change.units
  grown =
      let same : growth (whole_graph w) b.change.effects ≡ growth (after_records w.kernel.shared (log_of w c)) b.change.effects = growth_local (whole_graph w) (after_records w.kernel.shared (log_of w c)) b.change.effects own_view in
      let units : growth (whole_graph w) b.change.effects ≡ b.change.units = planned_units old.knows (whole_graph w) (held_descriptors w) b.call b.new b.operation b.change.effects b.change.units h.sound (h.agrees c can.client) can.planned can.counted in
      omega (arith, same, units)

  log_paid : ArePaid w.kernel.shared (log_of w c ++ (b.change ∷ []))
  log_paid = along_join IsPaid (log_of w c) (b.change ∷ []) w.kernel.shared (along_front IsPaid (log_of w c) (change_of old.begun) w.kernel.shared s.logged.paid) (grown, tt)

  one_written : (i : ℕ) → is_written i (b.change ∷ []) ≡ true → is_touched i b.change ≡ true
  one_written i e = elim (either (is_touched i b.change)) [
    | inl there ↦ there
    | inr off ↦ both (is_written i (b.change ∷ [])) e (ap (λ x. x || false) off)
  ]

  log_unnamed : NameNone w.kernel.shared (log_of w c ++ (b.change ∷ []))
  log_unnamed = along_join NamesNone (log_of w c) (b.change ∷ []) w.kernel.shared (along_front NamesNone (log_of w c) (change_of old.begun) w.kernel.shared s.logged.unnamed)
      (keep_same (λ i o. IsNameless o) (b.change ∷ []) (whole_graph w) (after_records w.kernel.shared (log_of w c)) (λ i e. own_view i (one_written i e)) (planned_names_none old.knows (whole_graph w) (held_descriptors w) b.call b.new b.operation b.change.effects h.sound (h.agrees c can.client) can.planned, tt))

  log_limits : KeepLimits w.kernel.shared (log_of w c ++ (b.change ∷ []))
  log_limits = along_join (Keeps IsWithin) (log_of w c) (b.change ∷ []) w.kernel.shared (along_front (Keeps IsWithin) (log_of w c) (change_of old.begun) w.kernel.shared s.logged.limits)
      (keep_same IsWithin (b.change ∷ []) (whole_graph w) (after_records w.kernel.shared (log_of w c)) (λ i e. own_view i (one_written i e))
      ((λ i within. planned_within old.knows (whole_graph w) (held_descriptors w) b.call b.new b.operation b.change.effects h.sound (h.agrees c can.client) can.planned (whole_within w h) i), tt))

  pub begun_holds : IsCoherent (call_begun w c b)
  begun_holds =
      let were : old.spare + units_in (records_of account old) ≤ account.units = s.units in
      let before : units_in (records_of account old) ≡ units_in (log_of w c) = ap units_in (idle_records account old can.idle) in
      let after : units_in (log_of w c ++ (b.change ∷ [])) ≡ units_in (log_of w c) + (b.change.units + 0) = units_append (log_of w c) (b.change ∷ []) in
      let enough : b.change.units ≤ old.spare = can.enough in
      let p : Client = record old { begun = Some b; spare = old.spare - b.change.units } in
      quiet w c w.kernel.shared account (record old { begun = Some b; spare = old.spare - b.change.units }) h can.client refl refl refl
      (booked_same w c (record old { begun = Some b; spare = old.spare - b.change.units }) h can.client)
      (record {
        number = s.number;
        rests = record { closed = s.rests.closed; idle = λ e. both (is_settled old.status) e (ap is_settled can.alive) };
        marked = s.marked;
        starts = record { records = s.starts.records; idle = λ e. both old.ready can.ready e };
        logged = record { leased = log_leased; paid = log_paid; unnamed = log_unnamed; limits = log_limits };
        units = omega (arith, were, before, after, enough);
        numbered = s.numbered;
        leased = s.leased;
        pinned = s.pinned;
        pending = λ d e. subst (λ x. IsPending old.status old.knows old.pins x) (same_Some b d e) (record { planned = can.planned; some = can.some; pinned = λ known. can.pinned });
      })
      (before_less w c (record old { begun = Some b; spare = old.spare - b.change.units }) h can.client (λ i e. e))
      (after_less w c (record old { begun = Some b; spare = old.spare - b.change.units }) h can.client (λ i e. e))
      (h.agrees c can.client)

  pub begun_tree : world_state (call_begun w c b) ≡ world_state w
  begun_tree = tree_same w c w.kernel.shared account (record old { begun = Some b; spare = old.spare - b.change.units }) refl refl refl

module _ (w : World) (c : ℕ) (b : Begun) (h : IsCoherent w) (is : IsBegun w c b) where
  abbrev was : Client
  was = w.clients c

  abbrev its : Account
  its = w.kernel.accounts c

  stood : IsSoundPart w.kernel.shared its c was
  stood = h.stands c is.client

  abbrev less : Client
  less = record was { begun = None; spare = was.spare + b.change.units }

  records_were : records_of its was ≡ log_of w c ++ (b.change ∷ [])
  records_were = ap (λ o. log_of w c ++ change_of o) is.there

  pub given_up_holds : IsCoherent (given_up w c b)
  given_up_holds =
      let were : was.spare + units_in (records_of its was) ≤ its.units = stood.units in
      let before : units_in (records_of its was) ≡ units_in (log_of w c) + (b.change.units + 0) = ap units_in records_were ∙ units_append (log_of w c) (b.change ∷ []) in
      let after : units_in (log_of w c ++ []) ≡ units_in (log_of w c) = ap units_in (append_nil (log_of w c)) in
      quiet w c w.kernel.shared its less h is.client refl refl refl (booked_same w c less h is.client)
      (record {
        number = stood.number;
        rests = record { closed = stood.rests.closed; idle = λ e. refl };
        marked = stood.marked;
        starts = record { records = stood.starts.records; idle = λ e. refl };
        logged = record {
          leased = λ i e. stood.logged.leased i (front_written i (log_of w c) (change_of was.begun) (sym (ap (is_written i) (append_nil (log_of w c))) ∙ e));
          paid = subst (λ rs. ArePaid w.kernel.shared rs) (sym (append_nil (log_of w c))) (along_front IsPaid (log_of w c) (change_of was.begun) w.kernel.shared stood.logged.paid);
          unnamed = subst (λ rs. NameNone w.kernel.shared rs) (sym (append_nil (log_of w c))) (along_front NamesNone (log_of w c) (change_of was.begun) w.kernel.shared stood.logged.unnamed);
          limits = subst (λ rs. KeepLimits w.kernel.shared rs) (sym (append_nil (log_of w c))) (along_front (Keeps IsWithin) (log_of w c) (change_of was.begun) w.kernel.shared stood.logged.limits);
        };
        units = omega (arith, were, before, after);
        numbered = stood.numbered;
        leased = stood.leased;
        pinned = stood.pinned;
        pending = λ d e. none_some d e;
      })
      (before_less w c less h is.client (λ i e. e)) (after_less w c less h is.client (λ i e. e)) (h.agrees c is.client)

  pub given_up_tree : world_state (given_up w c b) ≡ world_state w
  given_up_tree = tree_same w c w.kernel.shared its less refl refl refl

-- a client that is not settled has become of another status; one that failed stays failed
module _ (w : World) (c : ℕ) (status : Status) (h : IsCoherent w) (is_c : is_client c ≡ true) (going : is_settled status ≡ false) (known : status ≢ Failed → (w.clients c).status ≢ Failed) where
  abbrev turned : Client
  turned = record (w.clients c) { status = status }

  pub turned_holds : IsCoherent (with_client w c turned)
  turned_holds =
      let x = h.stands c is_c in
      quiet w c w.kernel.shared (w.kernel.accounts c) turned h is_c refl refl refl (booked_same w c turned h is_c)
      (record { number = x.number; rests = record { closed = λ e. both (is_settled status) e going; idle = λ e. both (is_settled status) e going }; marked = x.marked; starts = x.starts; logged = x.logged; units = x.units; numbered = x.numbered; leased = x.leased; pinned = x.pinned; pending = λ b e. let p = x.pending b e in record { planned = p.planned; some = p.some; pinned = λ off. p.pinned (known off) } })
      (before_less w c turned h is_c (λ i e. e)) (after_less w c turned h is_c (λ i e. e)) (h.agrees c is_c)

  pub turned_tree : world_state (with_client w c turned) ≡ world_state w
  turned_tree = tree_same w c w.kernel.shared (w.kernel.accounts c) turned refl refl refl
