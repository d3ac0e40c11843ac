-- What is read of a world node by node, what that leaves of it, and that the nodes and the records that clients keep are its tree.
use Rattle.std.proofs.Common.{◌≡◌, ◌⊎◌, inl, inr, ℕ, zero, suc, ◌-◌, ◌≤◌, ◌==◌, ◌&&◌, nat_le, cond, Bool, true, false, List, [], ◌∷◌, ◌++◌, drop, Option, Some, None, refl, ap, sym, ◌∙◌, subst, arith}
use Rattle.std.specs.Prelude.{Result, Ok, Err, OnOk, IfErr, slice_get}
use Rattle.std.proofs.lemmas.Bool.{false≢true, true≢false}
use Rattle.std.proofs.lemmas.Bool.Decides.{eqb_tells, leb_tells, nat_tests}
use Rattle.tier_device.specs.declared.media.Media.{Ghosts}
use Rattle.tier_device.specs.Media.{Rose}
use Rattle.posix_calls.specs.Operations.{is_client}
use Rattle.posix_calls.specs.declared.limits.TheConstants.{MAX_CLIENTS}
use Rattle.system_laws.specs.batch_journal.Course.{Unmoved}
use Rattle.system_laws.specs.area_reader.Looks.{Looks}
use Rattle.system_laws.specs.area_reader.Store.{Store, disk, graph, marks}
use Rattle.system_laws.specs.area_reader.declared.error.AreaError.{AreaError}
use Rattle.system_laws.specs.area_reader.declared.error.AreaError.TheVariants as errors
use Rattle.system_laws.specs.shared_area.Parts.{IsNoDamage}
use Rattle.system_laws.specs.kernel_fs.KernelAnswers.{Answers, OnRefusal, kernel_answer}
use Rattle.system_laws.specs.kernel_fs.KernelView.{KernelView}
use Rattle.system_laws.specs.kernel_fs.declared.error.KernelError.{KernelError}
use Rattle.system_laws.specs.kernel_fs.declared.error.KernelError.TheVariants as why
use Rattle.system_laws.specs.layout.Places.{Sizes}
use Rattle.system_laws.specs.layout.declared.marks.Marks.{Marks}
use Rattle.system_laws.specs.file_graph.Graph.{Graph, after_effects, fresh, set_node}
use Rattle.system_laws.specs.log_record.declared.format.Record.{Record}
use Rattle.system_laws.specs.world_invariant.Limits.{AreWithin, IsWithin}
use Rattle.system_laws.specs.world_invariant.Logs.{after_clients, after_records}
use Rattle.system_laws.specs.event_steps.View.{HasSeat, SeatView, SystemView, done_of, seat_of}
use Rattle.system_laws.specs.recovery_laws.Contents.{mark_by}
use Rattle.system_laws.specs.Leaves.{SystemLeaves}
use Rattle.system_laws.specs.Relation.{IsWorld}
use Rattle.system_laws.specs.WorldTree.{log_by, log_of, whole_graph, world_tree}
use Rattle.system_laws.specs.WorldView.{WorldView}
use Rattle.system_laws.specs.client_log.View.{current_records}
use Rattle.system_laws.proofs.Seated.{own_mark}
use Rattle.system_laws.proofs.Seats.{same_seat}
use Rattle.system_laws.proofs.SpelledWorlds.{spelled_now}
use Rattle.system_laws.proofs.Trees.{log_is}
use Rattle.interleavings.specs.Snapshots.{IsQuiet, IsRead, IsRefusedReading, kept_by, kept_log, shared_graph, with_nodes}
use Rattle.interleavings.proofs.LookedWorlds.{either, same_disk, tree_by}

-- ---- nodes put one after the other

put_or_before : (g other : Graph) (n i : ℕ) → 1 ≤ n → (i == n) ≡ false → (nat_le 1 i && nat_le i (n - 1)) ≡ (nat_le 1 i && nat_le i n)
put_or_before g other n i some off = elim (leb_tells i (n - 1)) [
  | inl low ↦ elim (leb_tells i n) [
    | inl there ↦ ap (λ (b : Bool). nat_le 1 i && b) (low.0 ∙ sym there.0)
    | inr past ↦ absurd (let a = low.1 in let b = past.1 in omega (arith, a, b))
  ]
  | inr high ↦ elim (leb_tells i n) [
    | inl there ↦ absurd (let a = high.1 in let b = there.1 in elim (eqb_tells i n) [
      | inl same ↦ absurd cc
      | inr other ↦ other.1 (omega (arith, a, b, some))
    ])
    | inr past ↦ ap (λ (b : Bool). nat_le 1 i && b) (high.0 ∙ sym past.0)
  ]
]

-- one node more
pub more_nodes : (g other : Graph) (n : ℕ) → 1 ≤ n → set_node (with_nodes g other (n - 1)) n (other n) ≡ with_nodes g other n
more_nodes g other n some = λ t i. at i t
  where
    within : nat_le 1 n && nat_le n n ≡ true
    within = elim (leb_tells 1 n) [
      | inl one ↦ elim (leb_tells n n) [
        | inl all ↦ ap (λ (b : Bool). b && nat_le n n) one.0 ∙ all.0
        | inr past ↦ absurd (let a = past.1 in omega (arith, a))
      ]
      | inr past ↦ absurd (let a = past.1 in omega (arith, a, some))
    ]

    at : (i : ℕ) → set_node (with_nodes g other (n - 1)) n (other n) i ≡ with_nodes g other n i
    at i = elim (eqb_tells i n) [
      | inl same ↦ ap (λ (b : Bool). cond b (other n) (with_nodes g other (n - 1) i)) same.0
          ∙ sym (ap (with_nodes g other n) same.1 ∙ ap (λ (b : Bool). cond b (other n) (g n)) within)
      | inr off ↦ ap (λ (b : Bool). cond b (other n) (with_nodes g other (n - 1) i)) off.0
          ∙ ap (λ (b : Bool). cond b (other i) (g i)) (put_or_before g other n i some off.0)
    ]

and_false : {A : Type 0} (a b : Bool) (x y : A) → b ≡ false → cond (a && b) x y ≡ y
and_false true b x y off = ap (λ c. cond c x y) off
and_false false b x y off = refl

-- no node yet
pub no_nodes : (g other : Graph) → with_nodes g other 0 ≡ g
no_nodes g other = λ t i. at i t
  where
    at : (i : ℕ) → with_nodes g other 0 i ≡ g i
    at zero = refl
    at (suc i) = elim (leb_tells (suc i) 0) [
      | inl low ↦ absurd (let a = low.1 in omega (arith, a))
      | inr past ↦ and_false (nat_le 1 (suc i)) (nat_le (suc i) 0) (other (suc i)) (g (suc i)) past.0
    ]

-- nodes stand at inodes alone
nothing_outside : (g : Graph) (i : ℕ) → AreWithin g → (nat_le 1 i && nat_le i 1024) ≡ false → None ≡ g i
nothing_outside g i within out = elim (g i) as (λ o. IsWithin i o → None ≡ o) [
  | None ↦ λ _. refl
  | Some n ↦ λ is. absurd (elim (leb_tells 1 i) [
    | inl one ↦ elim (leb_tells i 1024) [
      | inl low ↦ true≢false (sym (ap (λ (b : Bool). b && nat_le i 1024) one.0 ∙ low.0) ∙ out)
      | inr past ↦ (let a = past.1 in let b = is.high in omega (arith, a, b))
    ]
    | inr past ↦ (let a = past.1 in let b = is.low in omega (arith, a, b))
  ])
] (within i)

fresh_outside : (i : ℕ) → (nat_le 1 i && nat_le i 1024) ≡ false → fresh i ≡ None
fresh_outside i out = elim (eqb_tells i 1) [
  | inl same ↦ absurd (false≢true (sym out ∙ ap (λ (n : ℕ). nat_le 1 n && nat_le n 1024) same.1))
  | inr off ↦ ap (λ (b : Bool). cond b (fresh 1) None) off.0
]

-- all nodes over the root alone
pub all_nodes : (g : Graph) → AreWithin g → with_nodes fresh g 1024 ≡ g
all_nodes g within = λ t i. at i t
  where
    at : (i : ℕ) → with_nodes fresh g 1024 i ≡ g i
    at i = elim (nat_le 1 i && nat_le i 1024) as (λ b. (nat_le 1 i && nat_le i 1024) ≡ b → cond b (g i) (fresh i) ≡ g i) [
      | true ↦ λ _. refl
      | false ↦ λ out. fresh_outside i out ∙ nothing_outside g i within out
    ] refl

-- ---- logs done one after the other

pub more_logs : (logs : ℕ → List Record) (g : Graph) (n : ℕ) → 1 ≤ n → after_records (after_clients logs g (n - 1)) (logs n) ≡ after_clients logs g n
unfolding after_clients
more_logs logs g zero some = absurd (omega (arith, some))
more_logs logs g (suc n) some = ap (λ (k : ℕ). after_records (after_clients logs g k) (logs (suc n))) (omega arith)

pub no_logs : (logs : ℕ → List Record) (g : Graph) → after_clients logs g 0 ≡ g
unfolding after_clients
no_logs logs g = refl

pub after_both : (g : Graph) (rs ss : List Record) → after_records (after_records g rs) ss ≡ after_records g (rs ++ ss)
after_both g [] ss = refl
after_both g (r ∷ rs) ss = after_both (after_effects g r.effects) rs ss

same_logs : (n : ℕ) (new old : ℕ → List Record) (g : Graph) → ((d : ℕ) → 1 ≤ d → d ≤ n → new d ≡ old d) → after_clients new g n ≡ after_clients old g n
unfolding after_clients
same_logs zero new old g same = refl
same_logs (suc n) new old g same =
    ap (λ h. after_records h (new (suc n))) (same_logs n new old g (λ d low high. same d low (omega (arith, high))))
    ∙ ap (λ rs. after_records (after_clients old g n) rs) (same (suc n) (omega arith) (omega arith))

module _ {M : Type 0} (device : Ghosts M) where
  -- ---- what reading leaves

  -- what a reading leaves of a kernel's medium
  abbrev ReadsOf : KernelView M → KernelView M → Type 0
  ReadsOf old new = Unmoved (device.moment old.area.media) (device.moment new.area.media) (device.seen old.area.media) (device.seen new.area.media) (device.left old.area.media) (device.left new.area.media)

  reads_same : (k : KernelView M) → ReadsOf k k
  reads_same k = record { clock = refl; reads = λ t. refl; past = λ m t c low left. left; kept = λ m t c low left. left }

  pub read_same : (v : WorldView M) → IsRead device v v
  read_same v = record { unmoved = reads_same v.system.kernel; geometry = refl; book = refl; opening = refl; seats = refl; calls = refl; more_faults = omega arith }

  pub read_then : (old mid new : WorldView M) → IsRead device old mid → IsRead device mid new → IsRead device old new
  read_then old mid new one two = record {
    unmoved = record {
      clock = two.unmoved.clock ∙ one.unmoved.clock;
      reads = λ t. two.unmoved.reads t ∙ one.unmoved.reads t;
      past = λ m t c low left. let clock = one.unmoved.clock in one.unmoved.past m t c low (two.unmoved.past m t c (omega (arith, low, clock)) left);
      kept = λ m t c low left. let clock = one.unmoved.clock in two.unmoved.kept m t c (omega (arith, low, clock)) (one.unmoved.kept m t c low left);
    };
    geometry = two.geometry ∙ one.geometry;
    book = two.book ∙ one.book;
    opening = two.opening ∙ one.opening;
    seats = two.seats ∙ one.seats;
    calls = two.calls ∙ one.calls;
    more_faults = let a = one.more_faults in let b = two.more_faults in omega (arith, a, b);
  }

  -- one that was quiet, and another
  pub quiet_then : (old mid new : WorldView M) → IsQuiet device old mid → IsQuiet device mid new → IsQuiet device old new
  quiet_then old mid new one two = record { before = one.before; behind = two.behind; faults = two.faults ∙ one.faults }

  pub quiet_same : (v : WorldView M) → v.system.kernel.area.failed ≡ false → IsQuiet device v v
  quiet_same v going = record { before = going; behind = going; faults = refl }

  module _ {T : Type 0} (old new : WorldView M) (result : Result T (KernelError AreaError)) (answers : Answers old.system.kernel.area.failed old.system.kernel new.system.kernel result (Looks device old.system.kernel.area new.system.kernel.area)) where
    -- a look leaves all else
    pub read_of_look : new.system.kernel.book ≡ old.system.kernel.book → new.system.kernel.opening ≡ old.system.kernel.opening → new.system.seats ≡ old.system.seats → new.calls ≡ old.calls → IsRead device old new
    read_of_look book opening seats calls = elim (either old.system.kernel.area.failed) [
      | inl failed ↦
          let same = (answers.failed failed).1 in record {
            unmoved = subst (ReadsOf old.system.kernel) (sym same) (reads_same old.system.kernel);
            geometry = ap (λ (k : KernelView M). k.area.geometry) same;
            book = book;
            opening = opening;
            seats = seats;
            calls = calls;
            more_faults = subst (λ (k : KernelView M). device.faults old.system.kernel.area.media ≤ device.faults k.area.media) (sym same) (omega arith);
          }
      | inr going ↦
          let looks = (answers.going going).2 in record {
            unmoved = looks.unmoved;
            geometry = looks.geometry;
            book = book;
            opening = opening;
            seats = seats;
            calls = calls;
            more_faults = looks.more_faults;
          }
    ]

  -- one that answers was of a kernel that goes, and leaves it so
  pub quiet_of_look : {T : Type 0} (old new : WorldView M) (result : Result T (KernelError AreaError)) → Answers old.system.kernel.area.failed old.system.kernel new.system.kernel result (Looks device old.system.kernel.area new.system.kernel.area)
      → OnOk result (IsQuiet device old new)
  quiet_of_look old new (Err e) answers = tt
  quiet_of_look old new (Ok x) answers = elim (either old.system.kernel.area.failed) [
    | inl failed ↦ absurd (let is = (answers.failed failed).0 in cc)
    | inr going ↦ of_answer (answers.going going).0 (answers.going going).1 (answers.going going).2
  ]
    where
      of_answer : (r : Result _ AreaError) → Ok x ≡ kernel_answer r → Looks device old.system.kernel.area new.system.kernel.area r → IsQuiet device old new
      of_answer (Ok y) is looks = record { before = looks.going.0; behind = looks.going.1; faults = looks.quiet }
      of_answer (Err y) is looks = absurd cc

  -- why one is refused
  pub refused_of_look : {T : Type 0} (old new : WorldView M) (result : Result T (KernelError AreaError)) → Answers old.system.kernel.area.failed old.system.kernel new.system.kernel result (Looks device old.system.kernel.area new.system.kernel.area)
      → IfErr result (λ e. OnRefusal e IsNoDamage) → IfErr result (IsRefusedReading device old new)
  refused_of_look old new (Ok x) answers only = tt
  refused_of_look {T = T} old new (Err e) answers only = elim (either old.system.kernel.area.failed) [
    | inl failed ↦ let is = (answers.failed failed).0 in record { only = only; failed = λ _. failed; fault = λ told. absurd cc; memory = λ told. absurd cc }
    | inr going ↦ of_answer going (answers.going going).0 (answers.going going).1 (answers.going going).2
  ]
    where
      of_answer : old.system.kernel.area.failed ≡ false → (r : Result T AreaError) → Err e ≡ kernel_answer r → Looks device old.system.kernel.area new.system.kernel.area r → IsRefusedReading device old new e
      of_answer going (Ok y) is looks = absurd cc
      of_answer going (Err y) is looks =
          let named : e ≡ why.Refused y = cc in record {
            only = only;
            failed = λ told. absurd cc;
            fault = λ told. by_fault going (looks.fault cc);
            memory = λ told. quiet (looks.quiet_refused (λ fault. absurd cc));
          }
        where
          by_fault : old.system.kernel.area.failed ≡ false → (new.system.kernel.area.failed ≡ true) × ((old.system.kernel.area.failed ≡ true) ⊎ Rose (device.faults old.system.kernel.area.media) (device.faults new.system.kernel.area.media)) → (new.system.kernel.area.failed ≡ true) × Rose (device.faults old.system.kernel.area.media) (device.faults new.system.kernel.area.media)
          by_fault going (failed, inl before) = absurd (true≢false (sym before ∙ going))
          by_fault going (failed, inr rose) = (failed, rose)

          quiet : (device.faults new.system.kernel.area.media ≡ device.faults old.system.kernel.area.media) × (old.system.kernel.area.failed ≡ false) × (new.system.kernel.area.failed ≡ false) → IsQuiet device old new
          quiet (faults, before, behind) = record { before = before; behind = behind; faults = faults }

  -- one that comes after others is refused for the same
  pub refused_then : (old mid new : WorldView M) (e : KernelError AreaError) → IsQuiet device old mid → IsRefusedReading device mid new e → IsRefusedReading device old new e
  refused_then old mid new e one two = record {
    only = two.only;
    failed = λ told. absurd (true≢false (sym (two.failed told) ∙ one.behind));
    fault = λ told. ((two.fault told).0, subst (λ (n : ℕ). Rose n (device.faults new.system.kernel.area.media)) one.faults (two.fault told).1);
    memory = λ told. quiet_then old mid new one (two.memory told);
  }

  -- want of memory is no fault
  pub refused_memory : (old new : WorldView M) (e : KernelError AreaError) → IsQuiet device old new → e ≡ why.Refused errors.Memory → IsRefusedReading device old new e
  refused_memory old new e quiet is = record {
    only = subst (λ (x : KernelError AreaError). OnRefusal x IsNoDamage) (sym is) tt;
    failed = λ told. absurd cc;
    fault = λ told. absurd cc;
    memory = λ told. quiet;
  }

  -- a refusal of one that comes after others
  pub refused_after : {T : Type 0} (old mid new : WorldView M) (result : Result T (KernelError AreaError)) → IsQuiet device old mid → IfErr result (IsRefusedReading device mid new) → IfErr result (IsRefusedReading device old new)
  refused_after old mid new (Ok x) one two = tt
  refused_after old mid new (Err e) one two = refused_then old mid new e one two

  -- ---- what is read is the same all the while

  read_disk : (old new : WorldView M) → IsRead device old new → disk device new.system.kernel.area ≡ disk device old.system.kernel.area
  read_disk old new read = same_disk device old.system.kernel new.system.kernel read.unmoved.reads

  pub same_shared : (old new : WorldView M) → IsRead device old new → shared_graph device new ≡ shared_graph device old
  same_shared old new read = ap (λ (g : Sizes). graph g (disk device new.system.kernel.area)) read.geometry ∙ ap (graph old.system.kernel.area.geometry) (read_disk old new read)

  pub same_kept : (old new : WorldView M) → IsRead device old new → kept_log device new.system ≡ kept_log device old.system
  same_kept old new read = λ t c. ap (λ (ss : List (SeatView M)). kept_by device (slice_get ss (c - 1))) read.seats t

  pub same_tree : (old new : WorldView M) → IsRead device old new → world_tree device new ≡ world_tree device old
  same_tree old new read =
      ap (λ (g : Sizes). tree_by device g (disk device new.system.kernel.area) new.system.seats) read.geometry
      ∙ ap (λ (s : Store). tree_by device old.system.kernel.area.geometry s new.system.seats) (read_disk old new read)
      ∙ ap (tree_by device old.system.kernel.area.geometry (disk device old.system.kernel.area)) read.seats

  abbrev whole_by : Sizes → Store → List (SeatView M) → Graph
  whole_by g s seats = after_clients (λ c. log_by device (mark_by (marks s) c) (slice_get seats (c - 1))) (graph g s) MAX_CLIENTS

  pub same_whole : (old new : WorldView M) → IsRead device old new → whole_graph device new.system ≡ whole_graph device old.system
  same_whole old new read =
      ap (λ (g : Sizes). whole_by g (disk device new.system.kernel.area) new.system.seats) read.geometry
      ∙ ap (λ (s : Store). whole_by old.system.kernel.area.geometry s new.system.seats) (read_disk old new read)
      ∙ ap (whole_by old.system.kernel.area.geometry (disk device old.system.kernel.area)) read.seats

  -- the records that a client keeps, in two parts
  pub kept_of_seat : (w : SystemView M) (c : ℕ) (sealed current : List Record) → HasSeat w c (λ s. sealed ≡ drop (done_of s.away) s.client.sealed) → HasSeat w c (λ s. current ≡ current_records device s.client.log) → sealed ++ current ≡ kept_log device w c
  kept_of_seat w c sealed current one two =
      ap (λ (rs : List Record). rs ++ current) one.2
      ∙ ap (λ (rs : List Record). drop (done_of one.0.away) one.0.client.sealed ++ rs) (two.2 ∙ ap (λ (s : SeatView M). current_records device s.client.log) (same_seat two.0 one.0 (sym two.1 ∙ one.1)))
      ∙ sym (ap (λ (o : Option (SeatView M)). kept_by device o) one.1)

  -- ---- the records that clients keep are those behind their marks

  module _ (v : WorldView M) (stands : IsWorld device v) (leaves : SystemLeaves device v.system) (going : v.system.kernel.area.failed ≡ false) where
    kept_are_logged : (c : ℕ) → is_client c ≡ true → kept_log device v.system c ≡ log_of device v.system c
    kept_are_logged c is_c =
        let is = stands.is in
        let w = stands.world in
        let own = is.clients c is_c in
        let s = own.0 in
        let p = w.clients c in
        let a = w.kernel.accounts c in
        let mark = own_mark device v w stands.accepted stands.shared_marks stands.cut c s is is_c own.1 in
        let count : done_of s.away ≡ a.mark - p.past = let moved = mark.digested in omega (arith, moved) in
        ap (λ (o : Option (SeatView M)). kept_by device o) own.1
        ∙ ap (λ (n : ℕ). drop n s.client.sealed ++ current_records device s.client.log) count
        ∙ ap (λ (rs : List Record). drop (a.mark - p.past) rs ++ current_records device s.client.log) (sym own.2.sealed)
        ∙ ap (λ (rs : List Record). drop (a.mark - p.past) p.sealed ++ rs) (sym own.2.turn.current)
        ∙ sym (log_is device v w w stands.shared_marks (spelled_now device v w stands.accepted stands.shared_marks stands.cut is leaves) c is_c)
        ∙ ap (λ (m : Option Marks). log_by device (mark_by m c) (seat_of v.system c)) (sym (is.going going).1)

    client_is : (c : ℕ) → 1 ≤ c → c ≤ 8 → is_client c ≡ true
    client_is c low high = grind (arith, nat_tests, low, high)

    shared_within : AreWithin (shared_graph device v)
    shared_within = subst AreWithin (stands.is.going going).0.shared stands.is.coherent.booked.limits

    -- the nodes of the shared medium and the records that clients keep are the whole
    pub kept_whole : (now then : Graph) → now ≡ with_nodes fresh (shared_graph device v) 1024 → then ≡ after_clients (kept_log device v.system) now 8 → then ≡ whole_graph device v.system
    kept_whole now then put done =
        done
        ∙ ap (λ (g : Graph). after_clients (kept_log device v.system) g 8) (put ∙ all_nodes (shared_graph device v) shared_within)
        ∙ same_logs 8 (kept_log device v.system) (log_of device v.system) (shared_graph device v) (λ c low high. kept_are_logged c (client_is c low high))
