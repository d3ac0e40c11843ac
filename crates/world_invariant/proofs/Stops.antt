-- What a stop stores: the whole graph after the effects of some begun records, which are a run of the file tree.
use Rattle.std.proofs.Common.{◌≡◌, ◌≢◌, ◌⊎◌, inl, inr, ℕ, zero, suc, ◌+◌, ◌≤◌, ◌==◌, cond, true, false, List, [], ◌∷◌, ◌++◌, refl, Some, None, ap, sym, ◌∙◌, subst, arith}
use Rattle.std.specs.Prelude.{option_map}
use Rattle.std.proofs.lemmas.Bool.{false≢true}
use Rattle.std.proofs.lemmas.Bool.Decides.{eqb_tells}
use Rattle.posix_calls.specs.Tree.{Descriptors, with_own, sum_up_to}
use Rattle.posix_calls.specs.Run.{Run, Turn, Asked}
use Rattle.posix_calls.specs.Operations.{is_client, own_after, reply_of, Step}
use Rattle.posix_calls.proofs.Sums.{same_if}
use Rattle.call_effects.specs.file_graph.Graph.{Graph, after_effects, is_among, touches}
use Rattle.call_effects.specs.file_graph.Units.{charge}
use Rattle.call_effects.specs.log_record.declared.format.Record.{Record}
use Rattle.call_effects.specs.Wholes.{IsSound, state_of}
use Rattle.call_effects.specs.Knowledge.{Knowledge, Agrees, IsPlanned}
use Rattle.call_effects.proofs.Settled.{closed_sound, settled_state, settled_well_formed, settled_within}
use Rattle.call_effects.proofs.Limits.{seen_within}
use Rattle.call_effects.proofs.KnownSteps.{planned_step, planned_sound}
use Rattle.call_effects.proofs.KnownAfter.{other_agrees}
use Rattle.world_invariant.specs.Limits.{IsWithin}
use Rattle.world_invariant.specs.Recovery.{IsRecoverable}
use Rattle.world_invariant.specs.Logs.{after_records, after_each, is_written, is_touched, units_in, IsPaid, ArePaid, Keeps, KeepLimits, LogsAreApart, IsDistinct, IsOrder}
use Rattle.world_invariant.specs.World.{Begun, World, change_of, records_of, log_of, all_of, has_lease, whole_graph, held_descriptors, world_state, at}
use Rattle.world_invariant.specs.Invariant.{IsCoherent}
use Rattle.posix_calls.specs.Outcome.{Unfinished, AreSomeOf}
use Rattle.world_invariant.specs.Stop.{Leaves, stored_graph, begun_calls, Stores}
use Rattle.world_invariant.proofs.Records.{either, both, in_first, in_rest, append_nil, front_written, rest_written, units_append}
use Rattle.world_invariant.proofs.Owners.{is_low, is_high, client_is, ended_whole, first_in, among_rest}
use Rattle.world_invariant.proofs.Facts.{apart_all, apart_less, granted_alone}
use Rattle.world_invariant.proofs.Along.{along_front}
use Rattle.world_invariant.proofs.Within.{tree_within}
use Rattle.world_invariant.proofs.Recoveries.{after_all_within}

-- ---- all clients, in an order

unfoldable down_from : ℕ → List ℕ
down_from zero = []
down_from (suc n) = suc n ∷ down_from n

down_within : (n c : ℕ) → is_among c (down_from n) ≡ true → (1 ≤ c) × (c ≤ n)
unfolding down_from
down_within zero c there = absurd (false≢true there)
down_within (suc n) c there =
    elim (eqb_tells c (suc n)) [
      | inl last ↦ (omega (arith, last.1), omega (arith, last.1))
      | inr other ↦ let d = down_within n c (among_rest c (suc n) (down_from n) there other.1) in (d.0, omega (arith, d.1))
    ]

down_all : (n c : ℕ) → 1 ≤ c → c ≤ n → is_among c (down_from n) ≡ true
unfolding down_from
down_all zero c low high = absurd (omega arith)
down_all (suc n) c low high =
    elim (eqb_tells c (suc n)) [
      | inl last ↦ subst (λ x. is_among x (suc n ∷ down_from n) ≡ true) (sym last.1) (first_in (suc n) (down_from n))
      | inr other ↦ in_rest (suc n == c) (is_among c (down_from n)) (down_all n c low (omega (arith, high, other.1)))
    ]

down_once : (n : ℕ) → IsDistinct (down_from n)
unfolding down_from
down_once zero = tt
down_once (suc n) = (elim (either (is_among (suc n) (down_from n))) [ inl there ↦ absurd (past n (down_within n (suc n) there).1) | inr out ↦ out ], down_once n)
  where
    past : (n : ℕ) → suc n ≤ n → ⊥
    past n h = omega (arith, h)

abbrev all_clients : List ℕ
all_clients = down_from 8

the_order : IsOrder all_clients
the_order = record {
  clients = λ c there. let d = down_within 8 c there in client_is c d.0 d.1;
  all = λ c is_c. down_all 8 c (is_low c is_c) (is_high c is_c);
  once = down_once 8;
}

-- ---- begun calls, one after another

module _ (w : World) (h : IsCoherent w) where
  -- what other clients hold a begun record doesn't touch
  begun_beside : (c d i : ℕ) (b : Begun) → is_client c ≡ true → is_client d ≡ true → d ≢ c → (w.clients c).begun ≡ Some b → has_lease (w.clients d) i ≡ true → is_among i (touches b.change.effects) ≡ false
  begun_beside c d i b is_c is_d other begun has = elim (either (is_among i (touches b.change.effects))) [
    | inl there ↦ both (has_lease (w.clients d) i) has (h.beside c d is_c is_d other i ((h.stands c is_c).logged.leased i
        (ap (λ o. is_written i (log_of w c ++ change_of o)) begun ∙ rest_written i (log_of w c) (b.change ∷ []) (in_first (is_touched i b.change) false there))))
    | inr clean ↦ clean
  ]

  -- some clients, and what has become of the whole: sound, and as each of them knows it
  pub record Goes (cs : List ℕ) (g : Graph) (ds : Descriptors) : Type 0 where
    pub once : IsDistinct cs
    pub clients : (c : ℕ) → is_among c cs ≡ true → is_client c ≡ true
    pub sound : IsSound g ds
    pub agrees : (c : ℕ) → is_among c cs ≡ true → Agrees (w.clients c).knows g ds

  -- records in the end of the logs that are begun ones or none
  pub record Ends (more : ℕ → List Record) (calls : Unfinished) (cs : List ℕ) (g : Graph) (ds : Descriptors) : Type 0 where
    pub turns : List Turn
    pub last : Descriptors
    pub some_of : AreSomeOf calls turns
    pub run : Run (state_of g ds) turns (state_of (after_each more g cs) last)
    pub sound : IsSound (after_each more g cs) last

  skipped : (more : ℕ → List Record) (calls : Unfinished) (c : ℕ) (cs : List ℕ) (g : Graph) (ds : Descriptors) → more c ≡ [] → Ends more calls cs g ds → Ends more calls (c ∷ cs) g ds
  skipped more calls c cs g ds none e = record {
    turns = e.turns;
    last = e.last;
    some_of = e.some_of;
    run = subst (λ rs. Run (state_of g ds) e.turns (state_of (after_each more (after_records g rs) cs) e.last)) (sym none) e.run;
    sound = subst (λ rs. IsSound (after_each more (after_records g rs) cs) e.last) (sym none) e.sound;
  }

  begun_run : (more : ℕ → List Record) → ((c : ℕ) → is_client c ≡ true → (more c ≡ []) ⊎ (more c ≡ change_of (w.clients c).begun))
      → (cs : List ℕ) (calls : Unfinished) (g : Graph) (ds : Descriptors) → Goes cs g ds → ((c : ℕ) → is_among c cs ≡ true → calls c ≡ begun_calls w c) → Ends more calls cs g ds
  begun_run more some [] calls g ds goes are = record { turns = []; last = ds; some_of = tt; run = refl; sound = goes.sound }
  begun_run more some (c ∷ cs) calls g ds goes are =
      elim (some c is_c) [
        | inl none ↦ skipped more calls c cs g ds none (begun_run more some cs calls g ds rest (λ d there. are d (in_rest (c == d) (is_among d cs) there)))
        | inr begun ↦ elim ((w.clients c).begun) as (λ o. (w.clients c).begun ≡ o → Ends more calls (c ∷ cs) g ds) [
          | None ↦ λ idle. skipped more calls c cs g ds (begun ∙ ap change_of idle) (begun_run more some cs calls g ds rest (λ d there. are d (in_rest (c == d) (is_among d cs) there)))
          | Some b ↦ λ is. taken b is (begun ∙ ap change_of is) (λ calls g ds goes are. begun_run more some cs calls g ds goes are)
        ] refl
      ]
    where
      is_c : is_client c ≡ true
      is_c = goes.clients c (first_in c cs)

      apart : (d : ℕ) → is_among d cs ≡ true → d ≢ c
      apart d there same = both (is_among c cs) (ap (λ x. is_among x cs) (sym same) ∙ there) goes.once.0

      rest : Goes cs g ds
      rest = record { once = goes.once.1; clients = λ d there. goes.clients d (in_rest (c == d) (is_among d cs) there); sound = goes.sound; agrees = λ d there. goes.agrees d (in_rest (c == d) (is_among d cs) there) }

      taken : (b : Begun) → (w.clients c).begun ≡ Some b → more c ≡ b.change ∷ [] → ((calls : Unfinished) (g : Graph) (ds : Descriptors) → Goes cs g ds → ((c : ℕ) → is_among c cs ≡ true → calls c ≡ begun_calls w c) → Ends more calls cs g ds) → Ends more calls (c ∷ cs) g ds
      taken b is there go =
          let k : Knowledge = (w.clients c).knows in
          let number : (w.clients c).knows.client ≡ c = (h.stands c is_c).number in
          let planned : IsPlanned (w.clients c).knows b.call b.new b.operation b.change.effects = ((h.stands c is_c).pending b is).planned in
          let agrees : Agrees (w.clients c).knows g ds = goes.agrees c (first_in c cs) in
          let own = own_after b.new (w.clients c).knows.own b.operation in
          let next : Ends more (at calls c None) cs (after_effects g b.change.effects) (with_own ds c (own_after b.new (w.clients c).knows.own b.operation)) =
          go (at calls c None) (after_effects g b.change.effects) (with_own ds c (own_after b.new (w.clients c).knows.own b.operation))
          (record {
            once = goes.once.1;
            clients = rest.clients;
            sound = subst (λ d. IsSound (after_effects g b.change.effects) (with_own ds d (own_after b.new (w.clients c).knows.own b.operation))) number (planned_sound (w.clients c).knows g ds goes.sound agrees b.call b.new b.operation b.change.effects planned);
            agrees = λ d is_in. let is_d = rest.clients d is_in in subst (λ e. Agrees (w.clients d).knows (after_effects g b.change.effects) (with_own ds e (own_after b.new (w.clients c).knows.own b.operation))) number
                (other_agrees (w.clients c).knows g ds b.call b.new b.operation b.change.effects goes.sound agrees planned (w.clients d).knows (rest.agrees d is_in)
                (λ same. apart d is_in (sym (h.stands d is_d).number ∙ same ∙ number))
                (λ i copy e. begun_beside c d i b is_c is_d (apart d is_in) is ((h.stands d is_d).leased.copies i copy e))
                (λ i n bytes e. begun_beside c d i b is_c is_d (apart d is_in) is ((h.stands d is_d).leased.blocks i n bytes e))
                (λ m. granted_alone w h c d b.new is_c is_d (apart d is_in) (planned.number m)));
          })
          (λ d is_in. same_if d c None (calls d) (apart d is_in) ∙ are d (in_rest (c == d) (is_among d cs) is_in)) in
          record {
            turns = Asked c b.call (reply_of b.operation) ∷ next.turns;
            last = next.last;
            some_of = (are c (first_in c cs) ∙ ap (λ t. cond t (option_map (λ (x : Begun). x.call) (w.clients c).begun) None) is_c ∙ ap (option_map (λ (x : Begun). x.call)) is, next.some_of);
            run = (
              state_of (after_effects g b.change.effects) (with_own ds c (own_after b.new (w.clients c).knows.own b.operation)),
              subst (λ d. Step (state_of g ds) d b.call (reply_of b.operation) (state_of (after_effects g b.change.effects) (with_own ds d (own_after b.new (w.clients c).knows.own b.operation)))) number (planned_step (w.clients c).knows g ds goes.sound agrees b.call b.new b.operation b.change.effects planned),
              subst (λ rs. Run (state_of (after_effects g b.change.effects) (with_own ds c (own_after b.new (w.clients c).knows.own b.operation))) next.turns (state_of (after_each more (after_records g rs) cs) next.last)) (sym there) next.run,
            );
            sound = subst (λ rs. IsSound (after_each more (after_records g rs) cs) next.last) (sym there) next.sound;
          }

-- ---- a stop

-- all of it in the second case
abbrev picked : {A B : Type 0} → A ⊎ B → List Record → List Record
picked (inl none) rs = []
picked (inr all) rs = rs

picked_some : {A B : Type 0} (l : A ⊎ B) (rs : List Record) → (picked l rs ≡ []) ⊎ (picked l rs ≡ rs)
picked_some (inl none) rs = inl refl
picked_some (inr all) rs = inr refl

picked_end : (left log rs : List Record) (l : (left ≡ log) ⊎ (left ≡ log ++ rs)) → left ≡ log ++ picked l rs
picked_end left log rs (inl none) = none ∙ sym (append_nil log)
picked_end left log rs (inr all) = all

module _ (w : World) (logs : ℕ → List Record) (h : IsCoherent w) (left : Leaves w logs) where
  -- what is left of the begun records
  abbrev more_of : (c : ℕ) → (is_client c ≡ true) ⊎ (is_client c ≡ false) → List Record
  more_of c (inl is) = picked (left c is) (change_of (w.clients c).begun)
  more_of c (inr out) = []

  abbrev more : ℕ → List Record
  more c = more_of c (either (is_client c))

  some_more : (c : ℕ) (t : (is_client c ≡ true) ⊎ (is_client c ≡ false)) → is_client c ≡ true → (more_of c t ≡ []) ⊎ (more_of c t ≡ change_of (w.clients c).begun)
  some_more c (inl is) is_c = picked_some (left c is) (change_of (w.clients c).begun)
  some_more c (inr out) is_c = both (is_client c) is_c out

  logs_end : (c : ℕ) (t : (is_client c ≡ true) ⊎ (is_client c ≡ false)) → is_client c ≡ true → logs c ≡ log_of w c ++ more_of c t
  logs_end c (inl is) is_c = picked_end (logs c) (log_of w c) (change_of (w.clients c).begun) (left c is)
  logs_end c (inr out) is_c = both (is_client c) is_c out

  pub stop_apart : LogsAreApart logs
  stop_apart = apart_less (all_of w) logs (λ d i is_d e. elim (left d is_d) [
    | inl none ↦ front_written i (log_of w d) (change_of (w.clients d).begun) (ap (is_written i) (sym none) ∙ e)
    | inr all ↦ ap (is_written i) (sym all) ∙ e
  ]) (apart_all w h)

  pub stop_paid : (c : ℕ) → is_client c ≡ true → ArePaid w.kernel.shared (logs c)
  stop_paid c is_c = elim (left c is_c) [
    | inl none ↦ subst (λ rs. ArePaid w.kernel.shared rs) (sym none) (along_front IsPaid (log_of w c) (change_of (w.clients c).begun) w.kernel.shared (h.stands c is_c).logged.paid)
    | inr all ↦ subst (λ rs. ArePaid w.kernel.shared rs) (sym all) (h.stands c is_c).logged.paid
  ]

  stop_units : (c : ℕ) → is_client c ≡ true → units_in (logs c) ≤ (w.kernel.accounts c).units
  stop_units c is_c =
      let were : (w.clients c).spare + units_in (records_of (w.kernel.accounts c) (w.clients c)) ≤ (w.kernel.accounts c).units = (h.stands c is_c).units in
      let parts : units_in (records_of (w.kernel.accounts c) (w.clients c)) ≡ units_in (log_of w c) + units_in (change_of (w.clients c).begun) = units_append (log_of w c) (change_of (w.clients c).begun) in
      elim (left c is_c) [
        | inl none ↦ let e : units_in (logs c) ≡ units_in (log_of w c) = ap units_in none in omega (arith, were, parts, e)
        | inr all ↦ let e : units_in (logs c) ≡ units_in (records_of (w.kernel.accounts c) (w.clients c)) = ap units_in all in omega (arith, were, e)
      ]

  stop_keeps : (c : ℕ) → is_client c ≡ true → KeepLimits w.kernel.shared (logs c)
  stop_keeps c is_c = elim (left c is_c) [
    | inl none ↦ subst (λ rs. KeepLimits w.kernel.shared rs) (sym none) (along_front (Keeps IsWithin) (log_of w c) (change_of (w.clients c).begun) w.kernel.shared (h.stands c is_c).logged.limits)
    | inr all ↦ subst (λ rs. KeepLimits w.kernel.shared rs) (sym all) (h.stands c is_c).logged.limits
  ]

  -- the units of the logs of clients 1 to n are in the book
  booked_units : (n : ℕ) → n ≤ 8 → sum_up_to n (λ c. units_in (logs c)) ≤ sum_up_to n (λ c. (w.kernel.accounts c).units)
  unfolding sum_up_to
  booked_units zero within = omega arith
  booked_units (suc n) within =
      let is_c : is_client (suc n) ≡ true = client_is (suc n) (omega arith) within in
      let before : sum_up_to n (λ c. units_in (logs c)) ≤ sum_up_to n (λ c. (w.kernel.accounts c).units) = booked_units n (omega (arith, within)) in
      let last : units_in (logs (suc n)) ≤ (w.kernel.accounts (suc n)).units = stop_units (suc n) is_c in
      omega (arith, before, last)

  ends : Ends w h more (begun_calls w) all_clients (whole_graph w) (held_descriptors w)
  ends = begun_run w h more (λ c is_c. some_more c (either (is_client c)) is_c) all_clients (begun_calls w) (whole_graph w) (held_descriptors w)
      (record { once = the_order.once; clients = the_order.clients; sound = h.sound; agrees = λ c there. h.agrees c (the_order.clients c there) }) (λ c there. refl)

  stored_is : stored_graph w logs ≡ after_each more (whole_graph w) all_clients
  stored_is = λ t i. ended_whole (log_of w) logs more w.kernel.shared all_clients stop_apart (λ c is_c. logs_end c (either (is_client c)) is_c) the_order i t

  stop_recoverable : IsSound (stored_graph w logs) ends.last → IsRecoverable w.kernel.capacity w.kernel.shared logs
  stop_recoverable sound =
      let units : sum_up_to 8 (λ c. units_in (logs c)) ≤ sum_up_to 8 (λ c. (w.kernel.accounts c).units) = booked_units 8 (omega arith) in
      let fits : charge w.kernel.shared + sum_up_to 8 (λ c. (w.kernel.accounts c).units) ≤ w.kernel.capacity = h.booked.fits in
      record { apart = stop_apart; limits = h.booked.limits; keep = stop_keeps; paid = stop_paid; fits = omega (arith, units, fits); sound = closed_sound (stored_graph w logs) ends.last sound }

  pub stop_stores : Stores w logs
  stop_stores =
      let sound : IsSound (stored_graph w logs) ends.last = subst (λ g. IsSound g ends.last) (sym stored_is) ends.sound in
      let found = stop_recoverable sound in
      record {
        recoverable = found;
        well_formed = settled_well_formed (stored_graph w logs) ends.last sound;
        within = settled_within (stored_graph w logs) ends.last sound (seen_within (stored_graph w logs) ends.last (tree_within (stored_graph w logs) ends.last sound (after_all_within w.kernel.shared logs stop_apart found.limits found.keep)));
        outcome = record {
          more = ends.turns;
          last = state_of (stored_graph w logs) ends.last;
          some_of = ends.some_of;
          run = subst (λ g. Run (world_state w) ends.turns (state_of g ends.last)) (sym stored_is) ends.run;
          settled = settled_state (stored_graph w logs) ends.last sound;
        };
      }
