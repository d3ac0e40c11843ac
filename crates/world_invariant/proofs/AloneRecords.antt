-- Small worlds that break a part of the invariant on a client's records, and no other part.
use Rattle.std.proofs.Common.{◌≡◌, ◌≢◌, inl, inr, ℕ, ◌+◌, ◌-◌, ◌≤◌, ◌==◌, ◌||◌, cond, Bool, List, [], ◌∷◌, true, false, refl, Some, None, Option, ap, sym, ◌∙◌, subst, arith}
use Rattle.std.specs.Prelude.{is_some, option_map}
use Rattle.std.specs.FinMap as fin
use Rattle.std.proofs.lemmas.Bool.{false≢true, eqb-true}
use Rattle.std.proofs.lemmas.Bool.Decides.{eqb_tells}
use Rattle.posix_calls.specs.Content.{Entries}
use Rattle.posix_calls.specs.Units.{directory_units}
use Rattle.posix_calls.specs.Tree.{sum_up_to}
use Rattle.posix_calls.proofs.Counts.{order}
use Rattle.posix_calls.proofs.Sums.{all_zero, one_changes}
use Rattle.call_effects.specs.file_graph.Graph.{Graph, Node, fresh, after_effects, touches, is_among}
use Rattle.call_effects.specs.file_graph.Units.{charge, growth, rise}
use Rattle.call_effects.specs.file_graph.declared.effect.Kind.{Kind}
use Rattle.call_effects.specs.file_graph.declared.effect.Kind.TheVariants as kind
use Rattle.call_effects.specs.ClosedGraph.{nobody}
use Rattle.call_effects.specs.Wholes.{IsSound}
use Rattle.call_effects.proofs.Rises.{len_inserted}
use Rattle.call_effects.specs.log_record.declared.format.Record.{Record}
use Rattle.world_invariant.specs.Limits.{AreWithin}
use Rattle.world_invariant.specs.Logs.{after_records, after_clients, NamesNone, IsPaid}
use Rattle.world_invariant.specs.World.{Account, Away, Client, whole_graph, held_descriptors, has_lease}
use Rattle.world_invariant.specs.FormatWorld.{idle_client, idle_account}
use Rattle.world_invariant.specs.LeaseSteps.{IsUnheld, CanFetch, write_taken, after_fetch}
use Rattle.call_effects.specs.NodeView.{view_of_node}
use Rattle.call_effects.specs.Knowledge.{Agrees}
use Rattle.world_invariant.specs.Walk.{made_world}
use Rattle.world_invariant.specs.UnlinkWalk as unlink_walked
use Rattle.world_invariant.specs.BrokenWorlds.{make_record, unpaid_record, overdrawn, counted_record, name_record, to_be_named, with_file, entered_graph, past_limit, root_alone, unleased_world}
use Rattle.world_invariant.specs.Parts.{ClientPart, MarkNotPast, AwayHasRecords, BackHasNone, RecordsLeased, RecordsPaid, RecordsNameNone, RecordsKeepLimits, UnitsBooked, MadeBooked, MadeOnce, GrantedBooked, GrantedUnused, CopiesLeased, BlocksLeased, HoldsOf, Each, BreaksAlone}
use Rattle.world_invariant.proofs.Alone.{IsLess, less_others}
use Rattle.world_invariant.proofs.AloneIdle.{nothing_known, one_others}
use Rattle.world_invariant.proofs.BrokenWorlds.{unpaid_broken}
use Rattle.world_invariant.proofs.Facts.{whole_within}
use Rattle.world_invariant.proofs.Fresh.{fresh_within}
use Rattle.world_invariant.proofs.Idle.{none_some, idle_stands}
use Rattle.world_invariant.proofs.NewNodes.{new_paid, new_names_none, new_keeps_limits, makes_file, file_sound, file_within, count_paid, count_names_none, counted_back, two_of, sound_closed}
use Rattle.world_invariant.proofs.Parts.{client_parts}
use Rattle.world_invariant.proofs.Walks.{apart, made_holds}
use Rattle.world_invariant.proofs.UnlinkWalks.{eight, opened_holds}
use Rattle.world_invariant.proofs.Owners.{is_low, is_high}

-- ---- a record that makes a file: it has no units, or they are not in the book

abbrev over_account : Account
over_account = record (idle_account 0) { numbers = λ i. i == 2 }

abbrev over_client : Record → Client
over_client r = record (idle_client 1 0) { sealed = r ∷ []; other = Away; writes = λ i. i == 2 }

no_record : (r : Record) (rs : List Record) → r ∷ rs ≢ []
no_record r rs e = absurd (cc)

unpaid_own : (q : ClientPart) → Each q ≢ Each RecordsPaid → HoldsOf q fresh over_account 1 (over_client unpaid_record)
unpaid_own RecordsPaid off = absurd (off refl)
unpaid_own MarkNotPast off = omega arith
unpaid_own AwayHasRecords off = λ away. no_record unpaid_record []
unpaid_own BackHasNone off = λ back. absurd (back refl)
unpaid_own RecordsLeased off = λ i e. two_of (λ b. (b || false) || false) refl i e
unpaid_own RecordsNameNone off = (new_names_none kind.File 0, tt)
unpaid_own RecordsKeepLimits off = (new_keeps_limits kind.File 0, tt)
unpaid_own UnitsBooked off = omega arith
unpaid_own MadeBooked off = λ i e. two_of (λ b. (b || false) || false) refl i e
unpaid_own MadeOnce off = λ i. (λ e. refl, tt)
unpaid_own GrantedBooked off = λ i e. absurd (false≢true e)
unpaid_own GrantedUnused off = λ i e. absurd (false≢true e)
unpaid_own CopiesLeased off = λ i copy e. none_some copy e
unpaid_own BlocksLeased off = λ i b bytes e. none_some bytes e
unpaid_own q off = client_parts fresh (idle_account 0) 1 (idle_client 1 0) (idle_stands fresh 1 0) q

pub unpaid_alone : BreaksAlone (Each RecordsPaid) (overdrawn unpaid_record)
unpaid_alone = record {
  broken = λ is. unpaid_broken (is 1 refl);
  others = one_others (Each RecordsPaid) (charge fresh) fresh over_account (over_client unpaid_record) (record {
    own = unpaid_own;
    closed = refl;
    free = λ off i e. ap fresh (eqb-true i 2 e);
    range = λ off i e. let two = eqb-true i 2 e in (omega (arith, two), omega (arith, two));
    within = fresh_within;
    fits = omega arith;
    sound = subst (λ g. IsSound g nobody) (sym makes_file) (file_sound []);
    known = nothing_known 1 (after_effects fresh unpaid_record.effects) refl;
  });
}

unbooked_own : (q : ClientPart) → Each q ≢ Each UnitsBooked → HoldsOf q fresh over_account 1 (over_client make_record)
unbooked_own UnitsBooked off = absurd (off refl)
unbooked_own MarkNotPast off = omega arith
unbooked_own AwayHasRecords off = λ away. no_record make_record []
unbooked_own BackHasNone off = λ back. absurd (back refl)
unbooked_own RecordsLeased off = λ i e. two_of (λ b. (b || false) || false) refl i e
unbooked_own RecordsPaid off = (new_paid kind.File 1 (omega arith), tt)
unbooked_own RecordsNameNone off = (new_names_none kind.File 1, tt)
unbooked_own RecordsKeepLimits off = (new_keeps_limits kind.File 1, tt)
unbooked_own MadeBooked off = λ i e. two_of (λ b. (b || false) || false) refl i e
unbooked_own MadeOnce off = λ i. (λ e. refl, tt)
unbooked_own GrantedBooked off = λ i e. absurd (false≢true e)
unbooked_own GrantedUnused off = λ i e. absurd (false≢true e)
unbooked_own CopiesLeased off = λ i copy e. none_some copy e
unbooked_own BlocksLeased off = λ i b bytes e. none_some bytes e
unbooked_own q off = client_parts fresh (idle_account 0) 1 (idle_client 1 0) (idle_stands fresh 1 0) q

pub unbooked_alone : BreaksAlone (Each UnitsBooked) (overdrawn make_record)
unbooked_alone = record {
  broken = λ is. let one : 1 ≤ 0 = is 1 refl in absurd (omega (arith, one));
  others = one_others (Each UnitsBooked) (charge fresh) fresh over_account (over_client make_record) (record {
    own = unbooked_own;
    closed = refl;
    free = λ off i e. ap fresh (eqb-true i 2 e);
    range = λ off i e. let two = eqb-true i 2 e in (omega (arith, two), omega (arith, two));
    within = fresh_within;
    fits = omega arith;
    sound = subst (λ g. IsSound g nobody) (sym makes_file) (file_sound []);
    known = nothing_known 1 (after_effects fresh make_record.effects) refl;
  });
}

-- ---- a record that gives a name to a file that has none

abbrev naming_account : Account
naming_account = record (idle_account 0) { units = 1 }

abbrev naming_client : Client
naming_client = record (idle_client 1 0) { sealed = name_record ∷ []; other = Away; writes = λ i. i == 1 || i == 2 }

abbrev named : Graph
named = after_effects with_file name_record.effects

-- it is the whole once the walk's call has opened a file
opened_whole : whole_graph unlink_walked.opened_world ≡ after_effects fresh unlink_walked.open_a.change.effects
unfolding after_clients
opened_whole = refl

named_is : whole_graph unlink_walked.opened_world ≡ named
named_is = opened_whole ∙ ap (λ g. after_effects g name_record.effects) makes_file

named_within : AreWithin named
named_within = subst AreWithin named_is (whole_within unlink_walked.opened_world opened_holds)

named_sound : IsSound named nobody
named_sound = sound_closed named (held_descriptors unlink_walked.opened_world) (subst (λ g. IsSound g (held_descriptors unlink_walked.opened_world)) named_is opened_holds.sound)

either_of : (i : ℕ) → (1 == i || (2 == i || false)) || false ≡ true → (i == 1 || i == 2) ≡ true
either_of i e = elim (eqb_tells i 1) [
  | inl one ↦ ap (λ b. b || i == 2) one.0
  | inr off ↦ ap (λ b. b || i == 2) off.0 ∙ two_of (λ b. (b || false) || false) refl i (sym (ap (λ b. (b || (2 == i || false)) || false) (not_one off.1)) ∙ e)
]
  where
    not_one : i ≢ 1 → (1 == i) ≡ false
    not_one off = elim (eqb_tells 1 i) [ inl same ↦ absurd (off (sym same.1)) | inr other ↦ other.0 ]

abbrev no_entry : Entries (ℕ × Kind)
no_entry = fin.empty

abbrev entry : Entries (ℕ × Kind)
entry = fin.insert fin.empty (97 ∷ []) (2, kind.File)

one_entry : fin.len entry ≡ 1
one_entry = len_inserted fin.empty (97 ∷ []) (2, kind.File) (simp fin.gets refl) ∙ ap (λ n. n + 1) (fin.len-empty order (ℕ × Kind))

off_both : (j : ℕ) → j ≢ 1 → j ≢ 2 → is_among j (touches name_record.effects) ≡ false
off_both j one two = ap (λ b. b || (2 == j || false)) (apart j 1 one) ∙ ap (λ b. b || false) (apart j 2 two)

-- the root has one entry more, and the file costs what it did
naming_paid : IsPaid with_file name_record
unfolding growth
naming_paid =
    let nothing : sum_up_to 1024 (λ i. 0) ≡ 0 = all_zero 1024 (λ i. 0) (λ i. refl) in
    let changed : sum_up_to 1024 (λ i. cond (is_among i (touches name_record.effects)) (rise with_file named i) 0) + 0 ≡ sum_up_to 1024 (λ i. 0) + (directory_units (fin.len entry) - directory_units (fin.len no_entry)) =
    one_changes 1024 (λ i. 0) (λ i. cond (is_among i (touches name_record.effects)) (rise with_file named i) 0) 1 (omega arith) (omega arith) (λ j other. elsewhere j other) in
    let more : directory_units (fin.len entry) ≡ 2 = ap directory_units one_entry in
    let few : directory_units (fin.len no_entry) ≡ 1 = ap directory_units (fin.len-empty order (ℕ × Kind)) in
    omega (arith, nothing, changed, more, few)
  where
    elsewhere : (j : ℕ) → j ≢ 1 → cond (is_among j (touches name_record.effects)) (rise with_file named j) 0 ≡ 0
    elsewhere j other = elim (eqb_tells j 2) [
      | inl two ↦ ap (λ i. cond (is_among i (touches name_record.effects)) (rise with_file named i) 0) two.1
      | inr off ↦ ap (λ b. cond b (rise with_file named j) 0) (off_both j other off.1)
    ]

naming_own : (q : ClientPart) → Each q ≢ Each RecordsNameNone → HoldsOf q with_file naming_account 1 naming_client
naming_own RecordsNameNone off = absurd (off refl)
naming_own MarkNotPast off = omega arith
naming_own AwayHasRecords off = λ away. no_record name_record []
naming_own BackHasNone off = λ back. absurd (back refl)
naming_own RecordsLeased off = either_of
naming_own RecordsPaid off = (naming_paid, tt)
naming_own RecordsKeepLimits off = (λ i was. named_within i, tt)
naming_own UnitsBooked off = omega arith
naming_own MadeBooked off = λ i e. absurd (false≢true e)
naming_own MadeOnce off = λ i. (λ e. refl, tt)
naming_own CopiesLeased off = λ i copy e. none_some copy e
naming_own BlocksLeased off = λ i b bytes e. none_some bytes e
naming_own q off = client_parts with_file (idle_account 0) 1 (idle_client 1 0) (idle_stands with_file 1 0) q

counts_one : Option Node → Bool
counts_one None = false
counts_one (Some n) = n.names == 1

names_it : NamesNone with_file name_record → ⊥
unfolding counts_one
names_it none = let still = none 2 (record { bytes = []; is = refl }) in false≢true (sym (ap counts_one still.is))

pub naming_alone : BreaksAlone (Each RecordsNameNone) to_be_named
naming_alone = record {
  broken = λ is. names_it (is 1 refl).0;
  others = one_others (Each RecordsNameNone) (charge with_file + 1) with_file naming_account naming_client (record {
    own = naming_own;
    closed = refl;
    free = λ off i e. absurd (false≢true e);
    range = λ off i e. absurd (false≢true e);
    within = file_within [] (omega arith);
    fits = omega arith;
    sound = named_sound;
    known = nothing_known 1 named refl;
  });
}

-- ---- a record that takes a node past a limit

abbrev past_client : Client
past_client = record (idle_client 1 0) { sealed = counted_record 2000 ∷ counted_record 1 ∷ []; other = Away; writes = λ i. i == 2 }

made_whole : whole_graph made_world ≡ entered_graph
unfolding after_clients
made_whole = refl

pub entered_within : AreWithin entered_graph
entered_within = subst AreWithin made_whole (whole_within made_world made_holds)

pub entered_sound : IsSound entered_graph nobody
entered_sound = sound_closed entered_graph (held_descriptors made_world) (subst (λ g. IsSound g (held_descriptors made_world)) made_whole made_holds.sound)

abbrev uncounted : Graph
uncounted = after_effects entered_graph (counted_record 2000).effects

past_own : (q : ClientPart) → Each q ≢ Each RecordsKeepLimits → HoldsOf q entered_graph (idle_account 0) 1 past_client
past_own RecordsKeepLimits off = absurd (off refl)
past_own MarkNotPast off = omega arith
past_own AwayHasRecords off = λ away. no_record (counted_record 2000) (counted_record 1 ∷ [])
past_own BackHasNone off = λ back. absurd (back refl)
past_own RecordsLeased off = λ i e. two_of (λ b. (b || false) || ((b || false) || false)) refl i e
past_own RecordsPaid off = (count_paid entered_graph 2000, (count_paid uncounted 1, tt))
past_own RecordsNameNone off = (count_names_none entered_graph 2000 refl, (count_names_none uncounted 1 refl, tt))
past_own UnitsBooked off = omega arith
past_own MadeBooked off = λ i e. absurd (false≢true e)
past_own MadeOnce off = λ i. (λ e. refl, (λ e. refl, tt))
past_own CopiesLeased off = λ i copy e. none_some copy e
past_own BlocksLeased off = λ i b bytes e. none_some bytes e
past_own q off = client_parts entered_graph (idle_account 0) 1 (idle_client 1 0) (idle_stands entered_graph 1 0) q

pub past_alone : BreaksAlone (Each RecordsKeepLimits) past_limit
past_alone = record {
  broken = λ is. let many : 2000 ≤ 1000 = ((is 1 refl).0 2 (entered_within 2)).names in absurd (omega (arith, many));
  others = one_others (Each RecordsKeepLimits) (charge entered_graph) entered_graph (idle_account 0) past_client (record {
    own = past_own;
    closed = refl;
    free = λ off i e. absurd (false≢true e);
    range = λ off i e. absurd (false≢true e);
    within = entered_within;
    fits = omega arith;
    sound = subst (λ g. IsSound g nobody) (sym counted_back) entered_sound;
    known = nothing_known 1 (after_records entered_graph (counted_record 2000 ∷ counted_record 1 ∷ [])) refl;
  });
}

-- ---- a record of what its client doesn't hold

abbrev fewer : Client
fewer = record (made_world.clients 1) { reads = λ i. false; writes = root_alone }

fewer_less : IsLess made_world 1 (made_world.kernel.accounts 1) fewer
fewer_less = record { log = refl; own = refl; numbers = λ i e. e; units = omega arith; writes = λ i e. wider (i == 2) (i == 1) e; leases = λ i e. narrower (i == 2) (i == 1) e }
  where
    wider : (a b : Bool) → b ≡ true → (a || (b || false)) ≡ true
    wider true b e = refl
    wider false true e = refl
    wider false false e = e

    narrower : (a b : Bool) → (cond a false (cond b false false) || (a || (b || false))) ≡ false → b ≡ false
    narrower true b e = absurd (false≢true (sym e))
    narrower false true e = e
    narrower false false e = refl

made_parts : (q : ClientPart) → HoldsOf q made_world.kernel.shared (made_world.kernel.accounts 1) 1 (made_world.clients 1)
made_parts q = client_parts made_world.kernel.shared (made_world.kernel.accounts 1) 1 (made_world.clients 1) (made_holds.stands 1 refl) q

-- what it held beside the directory was the root
root_held : (a b : Bool) → (cond a false (cond b false false) || (a || (b || false))) ≡ true → a ≡ false → b ≡ true
root_held true b e off = absurd (false≢true (sym off))
root_held false true e off = refl
root_held false false e off = e

fewer_own : (q : ClientPart) → Each q ≢ Each RecordsLeased → HoldsOf q made_world.kernel.shared (made_world.kernel.accounts 1) 1 fewer
fewer_own RecordsLeased off = absurd (off refl)
fewer_own CopiesLeased off = λ i copy e. elim (eqb_tells i 2) [
  | inl two ↦ none_some copy (sym (ap (made_world.clients 1).knows.copies two.1) ∙ e)
  | inr off ↦ root_held (i == 2) (i == 1) (made_parts CopiesLeased i copy e) off.0
]
fewer_own BlocksLeased off = λ i b bytes e. elim (eqb_tells i 2) [
  | inl two ↦ none_some bytes (sym (ap (λ j. (made_world.clients 1).knows.blocks j b) two.1) ∙ e)
  | inr off ↦ root_held (i == 2) (i == 1) (made_parts BlocksLeased i b bytes e) off.0
]
fewer_own q off = made_parts q

pub fewer_alone : BreaksAlone (Each RecordsLeased) unleased_world
fewer_alone = record {
  broken = λ is. false≢true (is 1 refl 2 refl);
  others = less_others (Each RecordsLeased) made_world 1 (made_world.kernel.accounts 1) fewer made_holds refl fewer_less fewer_own (λ off. made_holds.agrees 1 refl);
}

pub fewer_unheld : IsUnheld unleased_world 2 2
fewer_unheld d is_d other = eight (λ d. has_lease (unleased_world.clients d) 2 ≡ false) refl refl refl refl refl refl refl refl d (is_low d is_d) (is_high d is_d)

pub fewer_fetch : CanFetch (write_taken unleased_world 2 2) 2 2
fewer_fetch = record { client = refl; leased = refl; missing = inl refl; clear = λ none b. refl }

pub fewer_wrong : Agrees ((after_fetch (write_taken unleased_world 2 2) 2 2).clients 2).knows (whole_graph (after_fetch (write_taken unleased_world 2 2) 2 2)) (held_descriptors (after_fetch (write_taken unleased_world 2 2) 2 2)) → ⊥
unfolding after_clients
fewer_wrong agrees = elim (agrees.put_back 2) [
  | inl same ↦ false≢true (sym (ap is_some (agrees.copies 2 None refl)) ∙ ap (λ o. is_some (option_map view_of_node o)) same)
  | inr gone ↦ false≢true (sym (ap is_some gone.nothing))
]
