-- Each step of the walk of two clients may be taken.
use Rattle.std.proofs.Common.{◌≡◌, ◌⊎◌, inl, inr, ℕ, ◌+◌, ◌-◌, ◌==◌, ◌||◌, cond, Bool, true, false, [], ◌∷◌, refl, Some, Ok, ap, sym, ◌∙◌, arith}
use Rattle.std.specs.Prelude.{min, is_some, ◌&&◌}
use Rattle.std.specs.FinMap as fin
use Rattle.std.proofs.lemmas.Bool.{false≢true}
use Rattle.std.proofs.lemmas.Bool.Decides.{eqb_tells}
use Rattle.posix_calls.specs.Content.{Entries}
use Rattle.posix_calls.specs.Units.{directory_units}
use Rattle.posix_calls.specs.Tree.{sum_up_to}
use Rattle.posix_calls.specs.Operations.{Step}
use Rattle.posix_calls.specs.declared.call.Reply.TheVariants.{Done, Wrote}
use Rattle.posix_calls.specs.Part.{Known, run_part}
use Rattle.posix_calls.specs.Walk.{walk}
use Rattle.posix_calls.specs.Decide.{mkdir, pwrite}
use Rattle.posix_calls.proofs.Chain.{part_bind, part_gives, part_refuses}
use Rattle.posix_calls.proofs.Counts.{order}
use Rattle.posix_calls.proofs.Directory.{lists}
use Rattle.call_effects.specs.file_graph.Graph.{file_bytes}
use Rattle.call_effects.specs.file_graph.declared.effect.Kind.{Kind}
use Rattle.call_effects.specs.file_graph.declared.effect.Kind.TheVariants as kind
use Rattle.call_effects.specs.Knowledge.{part_of}
use Rattle.call_effects.specs.Records.{units_asked}
use Rattle.call_effects.specs.Wholes.{without_kinds}
use Rattle.call_effects.proofs.GrowthAsked.{len_seen}
use Rattle.call_effects.proofs.Rises.{len_inserted}
use Rattle.world_invariant.specs.Logs.{after_clients, is_touched}
use Rattle.world_invariant.specs.World.{has_lease, log_of, all_of, world_state}
use Rattle.world_invariant.specs.Invariant.{IsCoherent}
use Rattle.world_invariant.specs.Stop.{Leaves, Stores, stored_graph}
use Rattle.world_invariant.specs.ClientSteps.{CanBegin, IsBegun, after_reply}
use Rattle.world_invariant.specs.LeaseSteps.{IsUnheld, CanFetch, CanGive, after_give}
use Rattle.world_invariant.specs.BookSteps.{HasRoom, IsUnbooked, units_granted}
use Rattle.world_invariant.specs.RegionSteps.{region_sealed}
use Rattle.world_invariant.specs.KernelSteps.{CanDigest}
use Rattle.world_invariant.specs.UnlinkWalk as opened
use Rattle.world_invariant.specs.PairWalk as walked
use Rattle.world_invariant.proofs.Idle.{none_some}
use Rattle.world_invariant.proofs.Owners.{is_low, is_high}
use Rattle.world_invariant.proofs.Begins.{begun_holds}
use Rattle.world_invariant.proofs.Replies.{replied_holds, replied_step}
use Rattle.world_invariant.proofs.Leases.{write_taken_holds, given_holds}
use Rattle.world_invariant.proofs.Fetches.{fetched_holds}
use Rattle.world_invariant.proofs.Books.{units_granted_hold, units_returned_hold, number_granted_holds}
use Rattle.world_invariant.proofs.Regions.{sealed_holds, taken_back_holds}
use Rattle.world_invariant.proofs.Digests.{digested_holds}
use Rattle.world_invariant.proofs.Stops.{stop_stores}
use Rattle.world_invariant.proofs.Walks.{part_is_dir, part_look, apart}
use Rattle.world_invariant.proofs.UnlinkWalks.{eight, known_holds}

ruleset parts = (part_bind, part_gives, part_refuses, part_is_dir, part_look)

-- ---- units, a number and a lease for client 2

returned_holds : IsCoherent walked.returned_world
returned_holds = units_returned_hold opened.known_world 1 4 known_holds refl (omega arith)

room : HasRoom walked.returned_world.kernel 4
unfolding sum_up_to
room = omega arith

with_units : IsCoherent (units_granted walked.returned_world 2 4)
with_units = units_granted_hold walked.returned_world 2 4 returned_holds refl room

unbooked : IsUnbooked (units_granted walked.returned_world 2 4).kernel 3
unbooked = record {
  low = omega arith;
  high = omega arith;
  none = refl;
  nobody = λ d is_d. eight (λ d. ((units_granted walked.returned_world 2 4).kernel.accounts d).numbers 3 ≡ false) refl refl refl refl refl refl refl refl d (is_low d is_d) (is_high d is_d);
}

granted_holds : IsCoherent walked.granted_world
granted_holds = number_granted_holds (units_granted walked.returned_world 2 4) 2 3 with_units refl unbooked

three_unheld : IsUnheld walked.granted_world 2 3
three_unheld d is_d other = eight (λ d. has_lease (walked.granted_world.clients d) 3 ≡ false) refl refl refl refl refl refl refl refl d (is_low d is_d) (is_high d is_d)

three_holds : IsCoherent walked.held_three
three_holds = write_taken_holds walked.granted_world 2 3 granted_holds refl three_unheld

-- ---- client 1's record is digested, and the root passed on

kept_holds : IsCoherent walked.kept_world
kept_holds = digested_holds (region_sealed walked.held_three 1) 1 (opened.open_a.change ∷ []) [] (sealed_holds walked.held_three 1 three_holds (record { client = refl; idle = refl; some = λ e. absurd (cc); back = λ e. absurd (cc) })) (record { client = refl; some = λ e. absurd (cc); split = refl })

back_holds : IsCoherent walked.back
back_holds = taken_back_holds walked.kept_world 1 kept_holds (record { client = refl; away = refl; digested = refl })

pub can_give : CanGive walked.back 1 1
can_give = record { client = refl; idle = refl; clean = refl }

given_root : IsCoherent (after_give walked.back 1 1)
given_root = given_holds walked.back 1 1 back_holds can_give

root_unheld : IsUnheld (after_give walked.back 1 1) 2 1
root_unheld d is_d other = eight (λ d. has_lease ((after_give walked.back 1 1).clients d) 1 ≡ false) refl refl refl refl refl refl refl refl d (is_low d is_d) (is_high d is_d)

passed_holds : IsCoherent walked.passed_world
passed_holds = write_taken_holds (after_give walked.back 1 1) 2 1 given_root refl root_unheld

can_fetch : CanFetch walked.passed_world 2 1
can_fetch = record { client = refl; leased = refl; missing = inl refl; clear = λ none. absurd (false≢true (sym (ap is_some none))) }

ready_holds : IsCoherent walked.ready
ready_holds = fetched_holds walked.passed_world 2 1 passed_holds can_fetch

-- ---- both begin

abbrev root_entries : Entries (ℕ × Kind)
root_entries = fin.insert fin.empty (97 ∷ []) (2, kind.File)

one_seen : fin.len (without_kinds root_entries) ≡ 1
one_seen = len_seen root_entries ∙ len_inserted fin.empty (97 ∷ []) (2, kind.File) (simp fin.gets refl) ∙ ap (λ n. n + 1) (fin.len-empty order (ℕ × Kind))

mkdir_comes : run_part (part_of (walked.ready.clients 2).knows) (mkdir (47 ∷ 98 ∷ [])) ≡ Known (Ok walked.mkdir_b.operation)
unfolding mkdir walk
mkdir_comes = simp (parts, lists, fin.gets) refl

mkdir_counted : run_part (part_of (walked.ready.clients 2).knows) (units_asked walked.mkdir_b.operation) ≡ Known (Ok 1)
mkdir_counted = simp parts (ap (λ n. Known (Ok (min (directory_units 0 + (directory_units (n + 1) - directory_units n)) 4294967295))) one_seen)

held_both : (i : ℕ) → is_touched i walked.mkdir_b.change ≡ true → (i == 1 || (i == 3 || false)) ≡ true
held_both i e = elim (eqb_tells i 1) [
  | inl there ↦ ap (λ b. b || (i == 3 || false)) there.0
  | inr off ↦ elim (eqb_tells i 3) [
    | inl there ↦ ap (λ b. b || (i == 3 || false)) off.0 ∙ ap (λ b. b || false) there.0
    | inr away ↦ absurd (false≢true (sym (ap (λ b. b || (1 == i || (b || false))) (apart i 3 away.1) ∙ ap (λ b. b || false) (apart i 1 off.1)) ∙ e))
  ]
]

can_make : CanBegin walked.ready 2 walked.mkdir_b
can_make = record {
  client = refl;
  alive = refl;
  idle = refl;
  ready = refl;
  planned = record { comes = mkdir_comes; effects = simp parts refl; number = λ m. refl };
  some = λ e. absurd (cc);
  counted = mkdir_counted;
  leased = held_both;
  enough = omega arith;
  pinned = λ what e. none_some what e;
}

one_holds : IsCoherent walked.one
one_holds = begun_holds walked.ready 2 walked.mkdir_b ready_holds can_make

write_comes : run_part (part_of (walked.one.clients 1).knows) (pwrite (walked.one.clients 1).knows.own 0 0 (7 ∷ [])) ≡ Known (Ok walked.write_7.operation)
unfolding pwrite
write_comes = simp parts refl

can_write : CanBegin walked.one 1 walked.write_7
can_write = record {
  client = refl;
  alive = refl;
  idle = refl;
  ready = refl;
  planned = record { comes = write_comes; effects = simp parts refl; number = λ m. absurd (false≢true m) };
  some = λ e. absurd (cc);
  counted = simp parts refl;
  leased = λ i e. elim (eqb_tells i 2) [
    | inl there ↦ ap (λ x. (walked.one.clients 1).writes x) there.1
    | inr off ↦ absurd (false≢true (sym (ap (λ b. b || false) (apart i 2 off.1)) ∙ e))
  ];
  enough = omega arith;
  pinned = λ what e. none_some what e;
}

pub two_hold : IsCoherent walked.two
two_hold = begun_holds walked.one 1 walked.write_7 one_holds can_write

-- ---- a stop

leaves : (first second : Bool) → Leaves walked.two (walked.logs_left first second)
leaves first second c is_c = elim ((c == 1 && first) || (c == 2 && second)) as (λ b. (cond b (all_of walked.two c) (log_of walked.two c) ≡ log_of walked.two c) ⊎ (cond b (all_of walked.two c) (log_of walked.two c) ≡ all_of walked.two c)) [ true ↦ inr refl | false ↦ inl refl ]

pub outcomes : (first second : Bool) → Stores walked.two (walked.logs_left first second)
outcomes first second = stop_stores walked.two (walked.logs_left first second) two_hold (leaves first second)

pub written_if : (first second : Bool) → file_bytes (stored_graph walked.two (walked.logs_left first second) 2) ≡ Some (cond first (7 ∷ []) [])
unfolding after_clients
written_if true true = refl
written_if true false = refl
written_if false true = refl
written_if false false = refl

pub made_if : (first second : Bool) → is_some (stored_graph walked.two (walked.logs_left first second) 3) ≡ second
unfolding after_clients
made_if true true = refl
made_if true false = refl
made_if false true = refl
made_if false false = refl

-- ---- a digest beside the begun call

pub written_holds : IsCoherent walked.written_world
written_holds = replied_holds walked.two 1 walked.write_7 two_hold (record { client = refl; there = refl; known = λ e. absurd (cc) })

pub written_step : Step (world_state walked.two) 1 walked.write_7.call (Wrote 1) (world_state (after_reply walked.two 1 walked.write_7))
written_step = replied_step walked.two 1 walked.write_7 two_hold (record { client = refl; there = refl; known = λ e. absurd (cc) })

pub beside_holds : IsCoherent walked.beside
beside_holds = digested_holds (region_sealed walked.written_world 1) 1 (walked.write_7.change ∷ []) [] (sealed_holds walked.written_world 1 written_holds (record { client = refl; idle = refl; some = λ e. absurd (cc); back = λ e. absurd (cc) })) (record { client = refl; some = λ e. absurd (cc); split = refl })

pub still_begun : IsBegun walked.beside 2 walked.mkdir_b
still_begun = record { client = refl; there = refl; known = λ e. absurd (cc) }

pub made_step : Step (world_state walked.beside) 2 walked.mkdir_b.call Done (world_state walked.made_world)
made_step = replied_step walked.beside 2 walked.mkdir_b beside_holds still_begun

-- ---- both regions are sealed

both_answered : IsCoherent (after_reply walked.written_world 2 walked.mkdir_b)
both_answered = replied_holds walked.written_world 2 walked.mkdir_b written_holds (record { client = refl; there = refl; known = λ e. absurd (cc) })

first_sealed : IsCoherent (region_sealed (after_reply walked.written_world 2 walked.mkdir_b) 1)
first_sealed = sealed_holds (after_reply walked.written_world 2 walked.mkdir_b) 1 both_answered (record { client = refl; idle = refl; some = λ e. absurd (cc); back = λ e. absurd (cc) })

pub both_hold : IsCoherent walked.both
both_hold = sealed_holds (region_sealed (after_reply walked.written_world 2 walked.mkdir_b) 1) 2 first_sealed (record { client = refl; idle = refl; some = λ e. absurd (cc); back = λ e. absurd (cc) })

pub first_digests : CanDigest walked.both 1 (walked.write_7.change ∷ []) []
first_digests = record { client = refl; some = λ e. absurd (cc); split = refl }

pub second_digests : CanDigest walked.both 2 (walked.mkdir_b.change ∷ []) []
second_digests = record { client = refl; some = λ e. absurd (cc); split = refl }
