-- A client that died departs, is buried, and a new one joins under its number: the whole stays, and what it had open is closed.
use Rattle.std.proofs.Common.{◌≡◌, ◌≢◌, inl, inr, ℕ, ◌+◌, ◌-◌, ◌≤◌, cond, Bool, true, [], refl, Some, None, ap, sym, ◌∙◌, arith}
use Rattle.std.proofs.lemmas.Bool.{false≢true}
use Rattle.std.proofs.lemmas.Bool.Decides.{eqb_tells}
use Rattle.posix_calls.specs.Tree.{Own, Descriptors, sum_up_to}
use Rattle.posix_calls.specs.Operations.{is_client}
use Rattle.posix_calls.specs.declared.descriptor.Descriptor.{Descriptor}
use Rattle.posix_calls.proofs.Sums.{same_if, there_if}
use Rattle.call_effects.specs.file_graph.Graph.{Graph}
use Rattle.call_effects.specs.file_graph.Units.{charge}
use Rattle.posix_calls.specs.Run.{without_client, departed}
use Rattle.call_effects.specs.Wholes.{IsSound, state_of}
use Rattle.call_effects.proofs.Settled.{fewer_state, without_fewer}
use Rattle.call_effects.specs.Knowledge.{Agrees}
use Rattle.world_invariant.specs.World.{Region, Wiped, Away, Status, Alive, Settled, Buried, Client, Account, World, undigested_records, log_of, whole_graph, held_descriptors, world_state, at, moved_world}
use Rattle.world_invariant.specs.Invariant.{IsCoherent}
use Rattle.world_invariant.specs.FormatWorld.{knows_nothing, idle_client, idle_account}
use Rattle.world_invariant.specs.ClientSteps.{with_client}
use Rattle.world_invariant.specs.ClientParts.{IsSoundPart, is_settled}
use Rattle.world_invariant.specs.Burial.{CanDepart, after_departure, CanBury, client_buried, CanJoin, client_joined}
use Rattle.world_invariant.proofs.Idle.{none_some, idle_stands, nothing_left}
use Rattle.world_invariant.proofs.Begins.{tree_same}
use Rattle.world_invariant.proofs.Moved.{both_same, holds_moved, quiet, booked_same, before_less, after_less, units_moved, whole_same, held_moved, at_same}
use Rattle.world_invariant.proofs.Books.{booked_fewer}

abbrev nothing_open : Own
nothing_open n = None

-- a sound graph stays sound where one client has nothing open
less_open : (g : Graph) (held : Descriptors) (c : ℕ) → IsSound g held → IsSound g (without_client held c)
less_open g held c sound = record {
  typed = record {
    kinds = sound.typed.kinds;
    numbers = sound.typed.numbers;
    root = sound.typed.root;
    opened = λ d n o e. sound.typed.opened d n o (was d n o e);
    in_range = λ d n o e. sound.typed.in_range d n o (was d n o e);
  };
  counts = sound.counts;
  reached = sound.reached;
}
  where
    was : (d n : ℕ) (o : Descriptor) → without_client held c d n ≡ Some o → held d n ≡ Some o
    was d n o e = elim (eqb_tells d c) [
      | inl same ↦ none_some o (sym (ap (λ b. cond b None (held d n)) same.0) ∙ e)
      | inr off ↦ sym (ap (λ b. cond b None (held d n)) off.0) ∙ e
    ]

-- ---- departed

module _ (w : World) (c : ℕ) (h : IsCoherent w) (can : CanDepart w c) where
  abbrev account : Account
  account = w.kernel.accounts c

  abbrev leaver : Client
  leaver = record (w.clients c) { knows = record (w.clients c).knows { own = λ n. None }; status = Settled }

  whole_stays : whole_graph (after_departure w c) ≡ whole_graph w
  whole_stays = whole_same w c w.kernel.shared account leaver refl refl

  held_is : held_descriptors (after_departure w c) ≡ without_client (held_descriptors w) c
  held_is = held_moved w c w.kernel.shared account leaver can.client

  s : IsSoundPart w.kernel.shared account c (w.clients c)
  s = h.stands c can.client

  departed_stands : IsSoundPart w.kernel.shared account c leaver
  departed_stands = record {
    number = s.number;
    rests = record { closed = λ e n. refl; idle = λ e. can.idle };
    marked = s.marked;
    starts = s.starts;
    logged = s.logged;
    units = s.units;
    numbered = s.numbered;
    leased = record { copies = s.leased.copies; blocks = s.leased.blocks };
    pinned = record { opened = λ n o e. none_some o e; booked = s.pinned.booked };
    pending = λ b e. none_some b (sym can.idle ∙ e);
  }

  -- another client has open what it had
  others : (d : ℕ) → is_client d ≡ true → d ≢ c → Agrees (w.clients d).knows (whole_graph w) (without_client (held_descriptors w) c)
  others d is_d other = let known = h.agrees d is_d in record {
    client = known.client;
    own = λ n. same_if ((w.clients d).knows.client) c None (held_descriptors w (w.clients d).knows.client n) (λ same. other (sym (h.stands d is_d).number ∙ same)) ∙ known.own n;
    back = known.back;
    put_back = known.put_back;
    copies = known.copies;
    blocks = known.blocks;
    granted = known.granted;
  }

  itself : Agrees leaver.knows (whole_graph w) (without_client (held_descriptors w) c)
  itself = let known = h.agrees c can.client in record {
    client = known.client;
    own = λ n. ap (λ d. without_client (held_descriptors w) c d n) s.number ∙ there_if c None (held_descriptors w c n);
    back = known.back;
    put_back = known.put_back;
    copies = known.copies;
    blocks = known.blocks;
    granted = known.granted;
  }

  pub departed_holds : IsCoherent (after_departure w c)
  departed_holds = holds_moved w c w.kernel.shared account leaver h can.client
      (booked_same w c leaver h can.client)
      departed_stands
      (λ d is_d other. h.stands d is_d)
      (before_less w c leaver h can.client (λ i e. e)) (after_less w c leaver h can.client (λ i e. e))
      (both_same (λ g o. IsSound g o) whole_stays held_is (less_open (whole_graph w) (held_descriptors w) c h.sound))
      (both_same (λ g o. Agrees leaver.knows g o) whole_stays held_is itself)
      (λ d is_d other. both_same (λ g o. Agrees (w.clients d).knows g o) whole_stays held_is (others d is_d other))

  pub departed_tree : world_state (after_departure w c) ≡ departed (world_state w) c
  departed_tree =
      ap (λ g. state_of g (held_descriptors (after_departure w c))) whole_stays ∙ ap (λ o. state_of (whole_graph w) o) held_is
      ∙ fewer_state (whole_graph w) (held_descriptors w) h.sound (without_client (held_descriptors w) c) (without_fewer (held_descriptors w) c)

-- ---- nothing is left of a client but its mark and where its regions are

module _ (w : World) (c : ℕ) (other : Region) (ready : Bool) (status : Status) (h : IsCoherent w) (is_c : is_client c ≡ true) (digested : log_of w c ≡ []) (gone : is_settled (w.clients c).status ≡ true) (back : other ≢ Away) where
  abbrev mark : ℕ
  mark = (w.kernel.accounts c).mark

  abbrev empty : Account
  empty = idle_account mark

  abbrev grave : Client
  grave = record (idle_client c mark) { other = other; ready = ready; status = status }

  log_same : undigested_records empty grave ≡ log_of w c
  log_same = nothing_left (mark - mark) ∙ sym digested

  had_closed : (n : ℕ) → (w.clients c).knows.own n ≡ None
  had_closed n = (h.stands c is_c).rests.closed gone n

  own_same : grave.knows.own ≡ (w.clients c).knows.own
  own_same = λ t n. sym (had_closed n) t

  fits : charge w.kernel.shared + sum_up_to 8 (λ d. (at w.kernel.accounts c empty d).units) ≤ w.kernel.capacity
  fits =
      let sums : sum_up_to 8 (λ d. (at w.kernel.accounts c empty d).units) + (w.kernel.accounts c).units ≡ sum_up_to 8 (λ d. (w.kernel.accounts d).units) + 0 = units_moved w c w.kernel.shared empty grave h is_c in
      let before : charge w.kernel.shared + sum_up_to 8 (λ d. (w.kernel.accounts d).units) ≤ w.kernel.capacity = h.booked.fits in
      omega (arith, sums, before)

  nothing_known : Agrees (knows_nothing c) (whole_graph w) (held_descriptors w)
  nothing_known = record {
    client = is_c;
    own = λ n. ap (λ b. cond b ((w.clients c).knows.own n) None) is_c ∙ had_closed n;
    back = whole_graph w;
    put_back = λ i. inl refl;
    copies = λ i copy e. none_some copy e;
    blocks = λ i b bytes e. none_some bytes e;
    granted = λ i e. absurd (false≢true e);
  }

  grave_stands : IsSoundPart w.kernel.shared empty c grave
  grave_stands = let idle = idle_stands w.kernel.shared c mark in record {
    number = idle.number;
    rests = record { closed = λ e n. refl; idle = λ e. refl };
    marked = record { low = idle.marked.low; high = idle.marked.high; some = λ away. absurd (back away); none = λ off. refl };
    starts = record { records = λ e. refl; idle = λ e. refl };
    logged = idle.logged;
    units = idle.units;
    numbered = idle.numbered;
    leased = idle.leased;
    pinned = idle.pinned;
    pending = λ b e. none_some b e;
  }

  emptied_holds : IsCoherent (moved_world w c w.kernel.shared empty grave)
  emptied_holds = quiet w c w.kernel.shared empty grave h is_c refl log_same own_same
      (booked_fewer w c empty grave h is_c (λ i e. absurd (false≢true e)) fits)
      grave_stands
      (λ d is_d off i e. absurd (false≢true e))
      (λ d is_d off i e. refl)
      nothing_known

  emptied_tree : world_state (moved_world w c w.kernel.shared empty grave) ≡ world_state w
  emptied_tree = tree_same w c w.kernel.shared empty grave log_same refl own_same

-- ---- buried

module _ (w : World) (c : ℕ) (h : IsCoherent w) (can : CanBury w c) where
  pub buried_holds : IsCoherent (client_buried w c)
  buried_holds = emptied_holds w c (w.clients c).other (w.clients c).ready Buried h can.client can.digested (ap is_settled can.settled) can.back

  pub buried_tree : world_state (client_buried w c) ≡ world_state w
  buried_tree = emptied_tree w c (w.clients c).other (w.clients c).ready Buried h can.client can.digested (ap is_settled can.settled) can.back

pub buried_account : (w : World) (c : ℕ) → (client_buried w c).kernel.accounts c ≡ idle_account (w.kernel.accounts c).mark
buried_account w c = there_if c (idle_account (w.kernel.accounts c).mark) (w.kernel.accounts c)

-- ---- joined

module _ (w : World) (c : ℕ) (h : IsCoherent w) (can : CanJoin w c) where
  wiped : Wiped ≢ Away
  wiped e = let clash : Wiped ≡ Away = e in cc

  pub joined_holds : IsCoherent (client_joined w c)
  joined_holds = emptied_holds w c Wiped true Alive h can.client can.digested (ap is_settled can.buried) wiped

  pub joined_tree : world_state (client_joined w c) ≡ world_state w
  joined_tree = emptied_tree w c Wiped true Alive h can.client can.digested (ap is_settled can.buried) wiped

pub joined_client : (w : World) (c : ℕ) → (client_joined w c).clients c ≡ idle_client c (w.kernel.accounts c).mark
joined_client w c = there_if c (idle_client c (w.kernel.accounts c).mark) (w.clients c)

-- where the account is empty already, as a burial leaves it, the kernel has nothing to do
pub joined_kernel : (w : World) (c : ℕ) → w.kernel.accounts c ≡ idle_account (w.kernel.accounts c).mark → (client_joined w c).kernel ≡ w.kernel
joined_kernel w c empty = ap (λ (accounts : ℕ → Account). record { shared = w.kernel.shared; capacity = w.kernel.capacity; accounts = accounts })
    (ap (λ a. at w.kernel.accounts c a) (sym empty) ∙ at_same w.kernel.accounts c)

-- ---- the seat taken, with the account as it is

module _ (w : World) (c : ℕ) (h : IsCoherent w) (can : CanJoin w c) where
  abbrev its_account : Account
  its_account = w.kernel.accounts c

  abbrev new_part : Client
  new_part = idle_client c its_account.mark

  new_stands : IsSoundPart w.kernel.shared its_account c new_part
  new_stands = let idle = idle_stands w.kernel.shared c its_account.mark in record {
    number = idle.number;
    rests = idle.rests;
    marked = idle.marked;
    starts = idle.starts;
    logged = idle.logged;
    units = let none = idle.units in omega (arith, none);
    numbered = record {
      made = λ i e. absurd (false≢true (idle.numbered.made i e));
      once = idle.numbered.once;
      granted = λ i e. absurd (false≢true e);
      unused = λ i e. absurd (false≢true e);
    };
    leased = idle.leased;
    pinned = record { opened = λ n o e. none_some o e; booked = λ i e. absurd (false≢true e) };
    pending = λ b e. none_some b e;
  }

  was_closed : (n : ℕ) → (w.clients c).knows.own n ≡ None
  was_closed n = (h.stands c can.client).rests.closed (ap is_settled can.buried) n

  now_known : Agrees (knows_nothing c) (whole_graph w) (held_descriptors w)
  now_known = record {
    client = can.client;
    own = λ n. ap (λ b. cond b ((w.clients c).knows.own n) None) can.client ∙ was_closed n;
    back = whole_graph w;
    put_back = λ i. inl refl;
    copies = λ i copy e. none_some copy e;
    blocks = λ i b bytes e. none_some bytes e;
    granted = λ i e. absurd (false≢true e);
  }

  no_log : undigested_records its_account new_part ≡ log_of w c
  no_log = nothing_left (its_account.mark - its_account.mark) ∙ sym can.digested

  still_closed : new_part.knows.own ≡ (w.clients c).knows.own
  still_closed = λ t n. sym (was_closed n) t

  pub seated_holds : IsCoherent (with_client w c new_part)
  seated_holds = quiet w c w.kernel.shared its_account new_part h can.client refl no_log still_closed
      (booked_same w c new_part h can.client)
      new_stands
      (λ d is_d off i e. absurd (false≢true e))
      (λ d is_d off i e. refl)
      now_known

  pub seated_tree : world_state (with_client w c new_part) ≡ world_state w
  seated_tree = tree_same w c w.kernel.shared its_account new_part no_log refl still_closed
