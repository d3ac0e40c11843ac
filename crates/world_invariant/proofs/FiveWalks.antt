-- Each step of the walk of five nodes may be taken.
use Rattle.std.proofs.Common.{◌≡◌, ◌≢◌, inl, inr, ℕ, ◌+◌, ◌-◌, ◌==◌, ◌||◌, true, false, [], ◌∷◌, refl, Ok, ap, sym, ◌∙◌, arith}
use Rattle.std.specs.Prelude.{min, is_some}
use Rattle.std.specs.FinMap as fin
use Rattle.std.proofs.lemmas.Bool.{false≢true}
use Rattle.std.proofs.lemmas.Bool.Decides.{eqb_tells}
use Rattle.posix_calls.specs.Content.{Entries}
use Rattle.posix_calls.specs.Units.{file_units, directory_units}
use Rattle.posix_calls.specs.Operations.{Step}
use Rattle.posix_calls.specs.declared.call.Reply.TheVariants.{Done, Opened}
use Rattle.posix_calls.specs.Part.{Known, run_part}
use Rattle.posix_calls.specs.Walk.{walk}
use Rattle.posix_calls.specs.Decide.{open_path, mkdir, unlink}
use Rattle.posix_calls.proofs.Chain.{part_bind, part_gives, part_refuses}
use Rattle.posix_calls.proofs.Counts.{order}
use Rattle.posix_calls.proofs.Directory.{lists}
use Rattle.call_effects.specs.file_graph.declared.effect.Kind.{Kind}
use Rattle.call_effects.specs.file_graph.declared.effect.Kind.TheVariants as kind
use Rattle.call_effects.specs.Knowledge.{part_of}
use Rattle.call_effects.specs.Records.{units_asked}
use Rattle.call_effects.specs.Wholes.{without_kinds}
use Rattle.call_effects.proofs.GrowthAsked.{len_seen}
use Rattle.call_effects.proofs.Rises.{len_inserted}
use Rattle.world_invariant.specs.Logs.{IsNameless}
use Rattle.world_invariant.specs.World.{has_lease, world_state}
use Rattle.world_invariant.specs.Invariant.{IsCoherent}
use Rattle.world_invariant.specs.ClientSteps.{CanBegin}
use Rattle.world_invariant.specs.LeaseSteps.{IsUnheld, CanFetch, CanGive, write_taken, after_fetch}
use Rattle.world_invariant.specs.BookSteps.{IsUnbooked, number_granted}
use Rattle.world_invariant.specs.RegionSteps.{region_sealed, taken_back}
use Rattle.world_invariant.specs.KernelSteps.{CanReclaim}
use Rattle.world_invariant.specs.UnlinkWalk.{unlink_a}
use Rattle.world_invariant.specs.PairWalk as pair
use Rattle.world_invariant.specs.FiveWalk as walked
use Rattle.world_invariant.proofs.Idle.{none_some}
use Rattle.world_invariant.proofs.Owners.{is_low, is_high}
use Rattle.world_invariant.proofs.Begins.{begun_holds}
use Rattle.world_invariant.proofs.Replies.{replied_holds, replied_step}
use Rattle.world_invariant.proofs.Leases.{write_taken_holds, given_holds}
use Rattle.world_invariant.proofs.Fetches.{fetched_holds}
use Rattle.world_invariant.proofs.Books.{number_granted_holds, pinned_holds}
use Rattle.world_invariant.proofs.Regions.{sealed_holds, taken_back_holds, current_wiped_holds}
use Rattle.world_invariant.proofs.Digests.{digested_holds}
use Rattle.world_invariant.proofs.Walks.{part_is_dir, part_look, apart, none_seen}
use Rattle.world_invariant.proofs.UnlinkWalks.{eight}
use Rattle.world_invariant.proofs.PairWalks.{beside_holds, still_begun}

ruleset parts = (part_bind, part_gives, part_refuses, part_is_dir, part_look)

-- ---- the lease on the open file passes on

pair_holds : IsCoherent pair.made_world
pair_holds = replied_holds pair.beside 2 pair.mkdir_b beside_holds still_begun

back_holds : IsCoherent walked.back
back_holds = current_wiped_holds (taken_back pair.made_world 1) 1 (taken_back_holds pair.made_world 1 pair_holds (record { client = refl; away = refl; digested = refl })) refl refl

pub can_give : CanGive walked.back 1 2
can_give = record { client = refl; idle = refl; clean = refl }

passed_holds : IsCoherent walked.passed_world
passed_holds = given_holds walked.back 1 2 back_holds can_give

four_unbooked : IsUnbooked walked.passed_world.kernel 4
four_unbooked = record { low = omega arith; high = omega arith; none = refl; nobody = λ d is_d. eight (λ d. (walked.passed_world.kernel.accounts d).numbers 4 ≡ false) refl refl refl refl refl refl refl refl d (is_low d is_d) (is_high d is_d) }

with_four : IsCoherent (number_granted walked.passed_world 2 4)
with_four = number_granted_holds walked.passed_world 2 4 passed_holds refl four_unbooked

five_unbooked : IsUnbooked (number_granted walked.passed_world 2 4).kernel 5
five_unbooked = record { low = omega arith; high = omega arith; none = refl; nobody = λ d is_d. eight (λ d. ((number_granted walked.passed_world 2 4).kernel.accounts d).numbers 5 ≡ false) refl refl refl refl refl refl refl refl d (is_low d is_d) (is_high d is_d) }

granted_holds : IsCoherent walked.granted_world
granted_holds = number_granted_holds (number_granted walked.passed_world 2 4) 2 5 with_four refl five_unbooked

four_unheld : IsUnheld walked.granted_world 2 4
four_unheld d is_d other = eight (λ d. has_lease (walked.granted_world.clients d) 4 ≡ false) refl refl refl refl refl refl refl refl d (is_low d is_d) (is_high d is_d)

four_holds : IsCoherent (write_taken walked.granted_world 2 4)
four_holds = write_taken_holds walked.granted_world 2 4 granted_holds refl four_unheld

five_unheld : IsUnheld (write_taken walked.granted_world 2 4) 2 5
five_unheld d is_d other = eight (λ d. has_lease ((write_taken walked.granted_world 2 4).clients d) 5 ≡ false) refl refl refl refl refl refl refl refl d (is_low d is_d) (is_high d is_d)

five_holds : IsCoherent (write_taken (write_taken walked.granted_world 2 4) 2 5)
five_holds = write_taken_holds (write_taken walked.granted_world 2 4) 2 5 four_holds refl five_unheld

two_unheld : IsUnheld (write_taken (write_taken walked.granted_world 2 4) 2 5) 2 2
two_unheld d is_d other = eight (λ d. has_lease ((write_taken (write_taken walked.granted_world 2 4) 2 5).clients d) 2 ≡ false) refl refl refl refl refl refl refl refl d (is_low d is_d) (is_high d is_d)

holding_holds : IsCoherent walked.lease_world
holding_holds = write_taken_holds (write_taken (write_taken walked.granted_world 2 4) 2 5) 2 2 five_holds refl two_unheld

fetch_three : CanFetch walked.lease_world 2 3
fetch_three = record { client = refl; leased = refl; missing = inl refl; clear = λ none. absurd (false≢true (sym (ap is_some none))) }

three_known : IsCoherent (after_fetch walked.lease_world 2 3)
three_known = fetched_holds walked.lease_world 2 3 holding_holds fetch_three

fetch_two : CanFetch (after_fetch walked.lease_world 2 3) 2 2
fetch_two = record { client = refl; leased = refl; missing = inl refl; clear = λ none. absurd (false≢true (sym (ap is_some none))) }

known_holds : IsCoherent walked.known_world
known_holds = fetched_holds (after_fetch walked.lease_world 2 3) 2 2 three_known fetch_two

ready_holds : IsCoherent walked.ready
ready_holds = pinned_holds walked.known_world 2 5 known_holds refl

-- ---- a directory in the directory

mkdir_comes : run_part (part_of (walked.ready.clients 2).knows) (mkdir (47 ∷ 98 ∷ 47 ∷ 120 ∷ [])) ≡ Known (Ok walked.mkdir_x.operation)
unfolding mkdir walk
mkdir_comes = simp (parts, lists, fin.gets) refl

mkdir_counted : run_part (part_of (walked.ready.clients 2).knows) (units_asked walked.mkdir_x.operation) ≡ Known (Ok 2)
mkdir_counted = simp parts (ap (λ n. Known (Ok (min (directory_units 0 + (directory_units (n + 1) - directory_units n)) 4294967295))) none_seen)

-- what two numbers touch
only_both : (a b i : ℕ) → i ≢ a → i ≢ b → (a == i || (b == i || (a == i || false))) ≡ false
only_both a b i off away = ap (λ t. t || (b == i || (t || false))) (apart i a off) ∙ ap (λ t. t || false) (apart i b away)

can_make : CanBegin walked.ready 2 walked.mkdir_x
can_make = record {
  client = refl;
  alive = refl;
  idle = refl;
  ready = refl;
  planned = record { comes = mkdir_comes; effects = simp parts refl; number = λ m. refl };
  some = λ e. absurd (cc);
  counted = mkdir_counted;
  leased = λ i e. elim (eqb_tells i 4) [
    | inl there ↦ ap (λ x. (walked.ready.clients 2).writes x) there.1
    | inr off ↦ elim (eqb_tells i 3) [
      | inl there ↦ ap (λ x. (walked.ready.clients 2).writes x) there.1
      | inr away ↦ absurd (false≢true (sym (only_both 4 3 i off.1 away.1) ∙ e))
    ]
  ];
  enough = omega arith;
  pinned = λ what e. none_some what e;
}

making_holds : IsCoherent walked.make_world
making_holds = begun_holds walked.ready 2 walked.mkdir_x ready_holds can_make

made_holds : IsCoherent walked.made_world
made_holds = replied_holds walked.make_world 2 walked.mkdir_x making_holds (record { client = refl; there = refl; known = λ e. absurd (cc) })

pub made_step : Step (world_state walked.make_world) 2 walked.mkdir_x.call Done (world_state walked.made_world)
made_step = replied_step walked.make_world 2 walked.mkdir_x making_holds (record { client = refl; there = refl; known = λ e. absurd (cc) })

-- ---- a file in it

abbrev entries : Entries (ℕ × Kind)
entries = fin.insert fin.empty (120 ∷ []) (4, kind.Directory)

one_seen : fin.len (without_kinds entries) ≡ 1
one_seen = len_seen entries ∙ len_inserted fin.empty (120 ∷ []) (4, kind.Directory) (simp fin.gets refl) ∙ ap (λ n. n + 1) (fin.len-empty order (ℕ × Kind))

open_comes : run_part (part_of (walked.made_world.clients 2).knows) (open_path (walked.made_world.clients 2).knows.own (47 ∷ 98 ∷ 47 ∷ 121 ∷ []) (record { read = true; write = true; create = true; exclusive = false; truncate = false })) ≡ Known (Ok walked.open_y.operation)
unfolding open_path walk
open_comes = simp (parts, lists, fin.gets) refl

open_counted : run_part (part_of (walked.made_world.clients 2).knows) (units_asked walked.open_y.operation) ≡ Known (Ok 1)
open_counted = simp parts (ap (λ n. Known (Ok (min (file_units 0 + (directory_units (n + 1) - directory_units n)) 4294967295))) one_seen)

can_open : CanBegin walked.made_world 2 walked.open_y
can_open = record {
  client = refl;
  alive = refl;
  idle = refl;
  ready = refl;
  planned = record { comes = open_comes; effects = simp parts refl; number = λ m. refl };
  some = λ e. absurd (cc);
  counted = open_counted;
  leased = λ i e. elim (eqb_tells i 5) [
    | inl there ↦ ap (λ x. (walked.made_world.clients 2).writes x) there.1
    | inr off ↦ elim (eqb_tells i 3) [
      | inl there ↦ ap (λ x. (walked.made_world.clients 2).writes x) there.1
      | inr away ↦ absurd (false≢true (sym (only_both 5 3 i off.1 away.1) ∙ e))
    ]
  ];
  enough = omega arith;
  pinned = λ what e. let same : (0, record { inode = 5; reads = true; writes = true }) ≡ what = cc in ap (λ o. (walked.made_world.clients 2).pins o.1.inode) (sym same);
}

opening_holds : IsCoherent walked.initial_world
opening_holds = begun_holds walked.made_world 2 walked.open_y made_holds can_open

opened_holds : IsCoherent walked.opened_world
opened_holds = replied_holds walked.initial_world 2 walked.open_y opening_holds (record { client = refl; there = refl; known = λ e. absurd (cc) })

pub opened_step : Step (world_state walked.initial_world) 2 walked.open_y.call (Opened 0) (world_state walked.opened_world)
opened_step = replied_step walked.initial_world 2 walked.open_y opening_holds (record { client = refl; there = refl; known = λ e. absurd (cc) })

-- ---- the file that client 1 has open loses its name

unlink_comes : run_part (part_of (walked.opened_world.clients 2).knows) (unlink (47 ∷ 97 ∷ [])) ≡ Known (Ok unlink_a.operation)
unfolding unlink walk
unlink_comes = simp (parts, lists, fin.gets) refl

can_unlink : CanBegin walked.opened_world 2 unlink_a
can_unlink = record {
  client = refl;
  alive = refl;
  idle = refl;
  ready = refl;
  planned = record { comes = unlink_comes; effects = simp parts refl; number = λ m. absurd (false≢true m) };
  some = λ e. absurd (cc);
  counted = simp parts refl;
  leased = λ i e. elim (eqb_tells i 1) [
    | inl there ↦ ap (λ x. (walked.opened_world.clients 2).writes x) there.1
    | inr off ↦ elim (eqb_tells i 2) [
      | inl there ↦ ap (λ x. (walked.opened_world.clients 2).writes x) there.1
      | inr away ↦ absurd (false≢true (sym (ap (λ t. t || (2 == i || false)) (apart i 1 off.1) ∙ ap (λ t. t || false) (apart i 2 away.1)) ∙ e))
    ]
  ];
  enough = omega arith;
  pinned = λ what e. none_some what e;
}

unlinking_holds : IsCoherent walked.unlink_world
unlinking_holds = begun_holds walked.opened_world 2 unlink_a opened_holds can_unlink

unlinked_holds : IsCoherent walked.unlinked_world
unlinked_holds = replied_holds walked.unlink_world 2 unlink_a unlinking_holds (record { client = refl; there = refl; known = λ e. absurd (cc) })

pub unlinked_step : Step (world_state walked.unlink_world) 2 unlink_a.call Done (world_state walked.unlinked_world)
unlinked_step = replied_step walked.unlink_world 2 unlink_a unlinking_holds (record { client = refl; there = refl; known = λ e. absurd (cc) })

-- ---- digested

pub kept_holds : IsCoherent walked.kept_world
kept_holds = digested_holds (region_sealed walked.unlinked_world 2) 2 (pair.mkdir_b.change ∷ walked.mkdir_x.change ∷ walked.open_y.change ∷ unlink_a.change ∷ []) []
    (sealed_holds walked.unlinked_world 2 unlinked_holds (record { client = refl; idle = refl; some = λ e. absurd (cc); back = λ e. absurd (cc) }))
    (record { client = refl; some = λ e. absurd (cc); split = refl })

pub kept_nameless : IsNameless (walked.kept_world.kernel.shared 2)
kept_nameless = record { bytes = 7 ∷ []; is = refl }

-- client 1 has it open
pub kept_unreclaimed : CanReclaim walked.kept_world.kernel 2 → ⊥
kept_unreclaimed can = false≢true (sym (can.unpinned 1 refl))
