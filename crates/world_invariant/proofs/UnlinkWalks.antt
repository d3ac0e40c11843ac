-- Each step of the walk may be taken.
use Rattle.std.proofs.Common.{◌≡◌, inl, inr, ℕ, zero, suc, ◌+◌, ◌-◌, ◌≤◌, ◌==◌, ◌||◌, cond, true, false, [], ◌∷◌, refl, Some, None, Ok, ap, sym, ◌∙◌, arith}
use Rattle.std.specs.Prelude.{min, is_some}
use Rattle.std.specs.FinMap as fin
use Rattle.std.proofs.lemmas.Bool.{false≢true}
use Rattle.std.proofs.lemmas.Bool.Decides.{eqb_tells}
use Rattle.posix_calls.specs.Units.{file_units, directory_units}
use Rattle.posix_calls.specs.Operations.{Step}
use Rattle.posix_calls.specs.declared.call.Reply.TheVariants.{Done, Opened}
use Rattle.posix_calls.specs.Part.{Known, run_part}
use Rattle.posix_calls.specs.Walk.{walk}
use Rattle.posix_calls.specs.Decide.{open_path, unlink, close}
use Rattle.posix_calls.proofs.Directory.{lists}
use Rattle.call_effects.specs.Knowledge.{part_of}
use Rattle.call_effects.specs.Records.{units_asked}
use Rattle.world_invariant.specs.Logs.{is_touched, IsNameless}
use Rattle.world_invariant.specs.World.{world_state}
use Rattle.world_invariant.specs.Invariant.{IsCoherent}
use Rattle.world_invariant.specs.ClientSteps.{CanAnswer, CanBegin, IsBegun}
use Rattle.world_invariant.specs.LeaseSteps.{CanFetch}
use Rattle.world_invariant.specs.BookSteps.{CanUnpin}
use Rattle.world_invariant.specs.RegionSteps.{region_sealed}
use Rattle.world_invariant.specs.KernelSteps.{CanReclaim}
use Rattle.world_invariant.specs.Walk as made
use Rattle.world_invariant.specs.UnlinkWalk as walked
use Rattle.world_invariant.proofs.Idle.{none_some}
use Rattle.world_invariant.proofs.Owners.{is_low, is_high}
use Rattle.world_invariant.proofs.Begins.{begun_holds}
use Rattle.world_invariant.proofs.Replies.{replied_holds, replied_step, answered_holds, answered_step}
use Rattle.world_invariant.proofs.Fetches.{fetched_holds}
use Rattle.world_invariant.proofs.Books.{pinned_holds, unpinned_holds}
use Rattle.world_invariant.proofs.Regions.{sealed_holds}
use Rattle.world_invariant.proofs.Digests.{digested_holds}
use Rattle.world_invariant.proofs.Reclaims.{reclaimed_holds, reclaimed_tree}
use Rattle.world_invariant.proofs.Walks.{ready_holds, part_is_dir, part_look, held_both, none_seen}
use Rattle.posix_calls.proofs.Chain.{part_bind, part_gives, part_refuses}

ruleset parts = (part_bind, part_gives, part_refuses, part_is_dir, part_look)

-- ---- each client by its number

pub eight : (P : ℕ → Type 0) → P 1 → P 2 → P 3 → P 4 → P 5 → P 6 → P 7 → P 8 → (c : ℕ) → 1 ≤ c → c ≤ 8 → P c
eight P a b d e f g h i zero low high = absurd (omega (arith, low))
eight P a b d e f g h i (suc zero) low high = a
eight P a b d e f g h i (suc (suc zero)) low high = b
eight P a b d e f g h i (suc (suc (suc zero))) low high = d
eight P a b d e f g h i (suc (suc (suc (suc zero)))) low high = e
eight P a b d e f g h i (suc (suc (suc (suc (suc zero))))) low high = f
eight P a b d e f g h i (suc (suc (suc (suc (suc (suc zero)))))) low high = g
eight P a b d e f g h i (suc (suc (suc (suc (suc (suc (suc zero))))))) low high = h
eight P a b d e f g h i (suc (suc (suc (suc (suc (suc (suc (suc zero)))))))) low high = i
eight P a b d e f g h i (suc (suc (suc (suc (suc (suc (suc (suc (suc n))))))))) low high = absurd (omega (arith, high))

-- ---- open

start_holds : IsCoherent walked.ready
start_holds = pinned_holds made.ready 1 2 ready_holds refl

open_comes : run_part (part_of (walked.ready.clients 1).knows) (open_path (λ n. None) (47 ∷ 97 ∷ []) (record { read = true; write = true; create = true; exclusive = false; truncate = false })) ≡ Known (Ok walked.open_a.operation)
unfolding open_path walk
open_comes = simp (parts, lists, fin.gets) refl

open_counted : run_part (part_of (walked.ready.clients 1).knows) (units_asked walked.open_a.operation) ≡ Known (Ok 2)
open_counted = simp parts (ap (λ n. Known (Ok (min (file_units 0 + (directory_units (n + 1) - directory_units n)) 4294967295))) none_seen)

can_open : CanBegin walked.ready 1 walked.open_a
can_open = record {
  client = refl;
  alive = refl;
  idle = refl;
  ready = refl;
  planned = record { comes = open_comes; effects = simp parts refl; number = λ m. refl };
  some = λ e. absurd (cc);
  counted = open_counted;
  leased = held_both;
  enough = omega arith;
  pinned = λ what e. let same : (0, record { inode = 2; reads = true; writes = true }) ≡ what = cc in ap (λ o. (walked.ready.clients 1).pins o.1.inode) (sym same);
}

pub opening_holds : IsCoherent walked.initial_world
opening_holds = begun_holds walked.ready 1 walked.open_a start_holds can_open

opening_begun : IsBegun walked.initial_world 1 walked.open_a
opening_begun = record { client = refl; there = refl; known = λ e. absurd (cc) }

pub opened_holds : IsCoherent walked.opened_world
opened_holds = replied_holds walked.initial_world 1 walked.open_a opening_holds opening_begun

pub opened_step : Step (world_state walked.initial_world) 1 walked.open_a.call (Opened 0) (world_state walked.opened_world)
opened_step = replied_step walked.initial_world 1 walked.open_a opening_holds opening_begun

-- ---- unlink

can_fetch : CanFetch walked.opened_world 1 2
can_fetch = record { client = refl; leased = refl; missing = inl refl; clear = λ none. absurd (false≢true (sym (ap is_some none))) }

pub known_holds : IsCoherent walked.known_world
known_holds = fetched_holds walked.opened_world 1 2 opened_holds can_fetch

unlink_comes : run_part (part_of (walked.known_world.clients 1).knows) (unlink (47 ∷ 97 ∷ [])) ≡ Known (Ok walked.unlink_a.operation)
unfolding unlink walk
unlink_comes = simp (parts, lists, fin.gets) refl

pub can_unlink : CanBegin walked.known_world 1 walked.unlink_a
can_unlink = record {
  client = refl;
  alive = refl;
  idle = refl;
  ready = refl;
  planned = record { comes = unlink_comes; effects = simp parts refl; number = λ m. absurd (false≢true m) };
  some = λ e. absurd (cc);
  counted = simp parts refl;
  leased = λ i e. held_both i (wider i e);
  enough = omega arith;
  pinned = λ what e. none_some what e;
}
  where
    wider : (i : ℕ) → is_touched i walked.unlink_a.change ≡ true → is_touched i made.mkdir_a.change ≡ true
    wider i e = elim (2 == i) as (λ b. (1 == i || (b || false)) ≡ true → (b || (1 == i || (b || false))) ≡ true) [ true ↦ λ e. refl | false ↦ λ e. e ] e

pub unlinking_holds : IsCoherent walked.unlink_world
unlinking_holds = begun_holds walked.known_world 1 walked.unlink_a known_holds can_unlink

unlinking_begun : IsBegun walked.unlink_world 1 walked.unlink_a
unlinking_begun = record { client = refl; there = refl; known = λ e. absurd (cc) }

pub unlinked_holds : IsCoherent walked.unlinked_world
unlinked_holds = replied_holds walked.unlink_world 1 walked.unlink_a unlinking_holds unlinking_begun

pub unlinked_step : Step (world_state walked.unlink_world) 1 walked.unlink_a.call Done (world_state walked.unlinked_world)
unlinked_step = replied_step walked.unlink_world 1 walked.unlink_a unlinking_holds unlinking_begun

-- ---- digested

pub kept_holds : IsCoherent walked.kept_world
kept_holds = digested_holds (region_sealed walked.unlinked_world 1) 1 (walked.open_a.change ∷ walked.unlink_a.change ∷ []) [] (sealed_holds walked.unlinked_world 1 unlinked_holds (record { client = refl; idle = refl; some = λ e. absurd (cc); back = λ e. absurd (cc) })) (record { client = refl; some = λ e. absurd (cc); split = refl })

pub kept_nameless : IsNameless (walked.kept_world.kernel.shared 2)
kept_nameless = record { bytes = []; is = refl }

-- while it is open it is pinned
pub kept_unreclaimed : CanReclaim walked.kept_world.kernel 2 → ⊥
kept_unreclaimed can = false≢true (sym (can.unpinned 1 refl))

-- ---- closed

close_comes : run_part (part_of (walked.kept_world.clients 1).knows) (close (walked.kept_world.clients 1).knows.own 0) ≡ Known (Ok walked.close_operation)
unfolding close
close_comes = simp parts refl

can_close : CanAnswer walked.kept_world 1 walked.close_0 0 walked.close_operation
can_close = record {
  client = refl;
  alive = refl;
  idle = refl;
  planned = record { comes = close_comes; effects = simp parts refl; number = λ m. absurd (false≢true m) };
  pinned = λ what e. none_some what e;
}

pub closed_holds : IsCoherent walked.closed_world
closed_holds = answered_holds walked.kept_world 1 walked.close_0 0 walked.close_operation kept_holds can_close

pub closed_step : Step (world_state walked.kept_world) 1 walked.close_0 Done (world_state walked.closed_world)
closed_step = answered_step walked.kept_world 1 walked.close_0 0 walked.close_operation kept_holds can_close

can_unpin : CanUnpin walked.closed_world 1 2
can_unpin = record {
  client = refl;
  idle = inl refl;
  closed = λ n o e. elim (eqb_tells n 0) [
    | inl same ↦ none_some o (sym (ap (λ m. (walked.closed_world.clients 1).knows.own m) same.1) ∙ e)
    | inr off ↦ none_some o (sym (ap (λ b. cond b None (cond b (Some (record { inode = 2; reads = true; writes = true })) None)) off.0) ∙ e)
  ];
}

released_holds : IsCoherent walked.released_world
released_holds = unpinned_holds walked.closed_world 1 2 closed_holds can_unpin

pub can_reclaim : CanReclaim walked.released_world.kernel 2
can_reclaim = record {
  file = record { bytes = []; is = refl };
  unpinned = λ c is_c. eight (λ c. (walked.released_world.kernel.accounts c).pins 2 ≡ false) refl refl refl refl refl refl refl refl c (is_low c is_c) (is_high c is_c);
}

pub emptied_holds : IsCoherent walked.emptied_world
emptied_holds = reclaimed_holds walked.released_world 2 released_holds can_reclaim

pub emptied_tree : world_state walked.emptied_world ≡ world_state walked.released_world
emptied_tree = reclaimed_tree walked.released_world 2 released_holds can_reclaim
