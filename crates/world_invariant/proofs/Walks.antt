-- Each step of the walk may be taken.
use Rattle.std.proofs.Common.{◌≡◌, ◌≢◌, inl, inr, ℕ, ◌+◌, ◌-◌, ◌==◌, ◌||◌, cond, Bool, true, false, [], ◌∷◌, refl, Some, None, Option, Ok, ap, sym, ◌∙◌, subst, arith}
use Rattle.std.specs.Prelude.{min}
use Rattle.std.specs.FinMap as fin
use Rattle.std.proofs.lemmas.Bool.{false≢true}
use Rattle.std.proofs.lemmas.Bool.Decides.{eqb_tells}
use Rattle.posix_calls.specs.Units.{directory_units}
use Rattle.posix_calls.specs.Tree.{sum_up_to}
use Rattle.posix_calls.specs.EmptyTree.{empty_state}
use Rattle.posix_calls.specs.Operations.{is_client, Step}
use Rattle.posix_calls.specs.declared.call.Reply.TheVariants.{Done}
use Rattle.posix_calls.specs.Query.{Seen, Query, IsDir, Look}
use Rattle.posix_calls.specs.Part.{Part, Found, Known, Unknown, run_part}
use Rattle.posix_calls.specs.Walk.{walk}
use Rattle.posix_calls.specs.Decide.{mkdir}
use Rattle.posix_calls.specs.declared.operation.Missing.{Missing}
use Rattle.posix_calls.specs.declared.operation.Missing.TheVariants as missing
use Rattle.posix_calls.specs.declared.operation.Operation.TheVariants.{NewDir}
use Rattle.posix_calls.proofs.Chain.{part_bind, part_gives, part_refuses}
use Rattle.posix_calls.proofs.Directory.{lists}
use Rattle.posix_calls.proofs.Sums.{all_zero}
use Rattle.call_effects.specs.file_graph.Graph.{fresh}
use Rattle.call_effects.specs.file_graph.Units.{charge}
use Rattle.call_effects.specs.file_graph.declared.effect.Kind.{Kind}
use Rattle.call_effects.specs.NodeView.{view_at}
use Rattle.call_effects.specs.Records.{units_asked}
use Rattle.call_effects.specs.Wholes.{without_kinds}
use Rattle.call_effects.specs.Knowledge.{Knowledge, IsPlanned, part_of}
use Rattle.posix_calls.proofs.Counts.{order}
use Rattle.call_effects.proofs.GrowthAsked.{len_seen}
use Rattle.world_invariant.specs.Logs.{is_touched}
use Rattle.world_invariant.specs.World.{log_of, all_of, has_lease, world_state}
use Rattle.world_invariant.specs.Stop.{Stores}
use Rattle.world_invariant.specs.Invariant.{IsCoherent}
use Rattle.world_invariant.specs.ClientSteps.{CanBegin, IsBegun}
use Rattle.world_invariant.specs.LeaseSteps.{IsUnheld, CanFetch, CanGive, write_taken, after_give}
use Rattle.world_invariant.specs.BookSteps.{HasRoom, IsUnbooked, units_granted}
use Rattle.world_invariant.specs.Walk as walked
use Rattle.world_invariant.proofs.Idle.{none_some, idle_holds, idle_tree}
use Rattle.world_invariant.proofs.Fresh.{fresh_within}
use Rattle.world_invariant.proofs.Kernels.{each}
use Rattle.call_effects.proofs.Fresh.{fresh_sound, fresh_state}
use Rattle.world_invariant.proofs.Begins.{begun_holds, begun_tree}
use Rattle.world_invariant.proofs.Replies.{replied_holds, replied_step}
use Rattle.world_invariant.proofs.Leases.{write_taken_holds, write_taken_tree, given_holds, given_tree}
use Rattle.world_invariant.proofs.Fetches.{fetched_holds, fetched_tree}
use Rattle.world_invariant.proofs.Books.{units_granted_hold, units_granted_tree, number_granted_holds, number_granted_tree}
use Rattle.world_invariant.proofs.Regions.{sealed_holds, sealed_tree, taken_back_holds, taken_back_tree}
use Rattle.world_invariant.proofs.Digests.{digested_holds, digested_tree}
use Rattle.world_invariant.proofs.Stops.{stop_stores}

-- ---- how questions run by a part

abbrev answered : {A X : Type 0} → Missing → Option X → (X → Found A) → Found A
answered what None f = Unknown what
answered what (Some x) f = f x

pub part_is_dir : {A : Type 0} (p : Part) (i : ℕ) (next : Option Bool → Query A) → run_part p (IsDir i next) ≡ answered (missing.Node i) (p.is_dir i) (λ o. run_part p (next o))
unfolding run_part
part_is_dir {A = A} p i next = elim (p.is_dir i) as (λ o. ◌≡◌ {A = Found A} (elim o [ None ↦ Unknown (missing.Node i) | Some a ↦ run_part p (next a) ]) (answered (missing.Node i) o (λ o. run_part p (next o)))) [ None ↦ refl | Some a ↦ refl ]

pub part_look : {A : Type 0} (p : Part) (i : ℕ) (next : Option Seen → Query A) → run_part p (Look i next) ≡ answered (missing.Node i) (p.node i) (λ o. run_part p (next o))
unfolding run_part
part_look {A = A} p i next = elim (p.node i) as (λ o. ◌≡◌ {A = Found A} (elim o [ None ↦ Unknown (missing.Node i) | Some a ↦ run_part p (next a) ]) (answered (missing.Node i) o (λ o. run_part p (next o)))) [ None ↦ refl | Some a ↦ refl ]

ruleset parts = (part_bind, part_gives, part_refuses, part_is_dir, part_look)

abbrev k : Knowledge
k = record { client = 1; own = λ n. None; copies = λ i. cond (i == 1) (Some (view_at fresh 1)) None; blocks = λ i b. None; granted = λ i. i == 2 || false }

comes : run_part (part_of k) (mkdir (47 ∷ 97 ∷ [])) ≡ Known (Ok (NewDir (record { parent = 1; name = 97 ∷ [] })))
unfolding mkdir walk
comes = simp (parts, lists, fin.gets) refl

pub none_seen : fin.len (without_kinds fin.empty) ≡ 0
none_seen = len_seen fin.empty ∙ fin.len-empty order (ℕ × Kind)

counted : run_part (part_of k) (units_asked walked.mkdir_a.operation) ≡ Known (Ok 2)
counted = simp parts (ap (λ n. Known (Ok (min (directory_units 0 + (directory_units (n + 1) - directory_units n)) 4294967295))) none_seen)

pub planned : IsPlanned k walked.mkdir_a.call 2 walked.mkdir_a.operation walked.mkdir_a.change.effects
planned = record { comes = comes; effects = simp parts refl; number = λ m. refl }

-- ---- up to the call

start_holds : IsCoherent walked.start
start_holds = idle_holds (charge fresh + 10) fresh (omega arith) fresh_sound fresh_within

room : HasRoom walked.start.kernel 10
room = let nothing : sum_up_to 8 (λ c. 0) ≡ 0 = all_zero 8 (λ c. 0) (λ c. refl) in omega (arith, nothing)

with_units : IsCoherent (units_granted walked.start 1 10)
with_units = units_granted_hold walked.start 1 10 start_holds refl room

unbooked : IsUnbooked (units_granted walked.start 1 10).kernel 2
unbooked = record { low = omega arith; high = omega arith; none = refl; nobody = λ d is_d. each walked.start.kernel.accounts 1 (record (walked.start.kernel.accounts 1) { units = 10 }) (λ d a. a.numbers 2 ≡ false) refl (λ d other. refl) d }

granted_holds : IsCoherent walked.granted_world
granted_holds = number_granted_holds (units_granted walked.start 1 10) 1 2 with_units refl unbooked

-- nobody else holds anything
root_unheld : IsUnheld walked.granted_world 1 1
root_unheld d is_d other = each (units_granted walked.start 1 10).clients 1 (walked.granted_world.clients 1) (λ d p. d ≢ 1 → has_lease p 1 ≡ false) (λ off. absurd (off refl)) (λ d off again. each walked.start.clients 1 ((units_granted walked.start 1 10).clients 1) (λ d p. d ≢ 1 → has_lease p 1 ≡ false) (λ off. absurd (off refl)) (λ d off again. refl) d off) d other

with_root : IsCoherent (write_taken walked.granted_world 1 1)
with_root = write_taken_holds walked.granted_world 1 1 granted_holds refl root_unheld

new_unheld : IsUnheld (write_taken walked.granted_world 1 1) 1 2
new_unheld d is_d other = each walked.granted_world.clients 1 ((write_taken walked.granted_world 1 1).clients 1) (λ d p. d ≢ 1 → has_lease p 2 ≡ false) (λ off. absurd (off refl)) (λ d off again. each (units_granted walked.start 1 10).clients 1 (walked.granted_world.clients 1) (λ d p. d ≢ 1 → has_lease p 2 ≡ false) (λ off. absurd (off refl)) (λ d off again. each walked.start.clients 1 ((units_granted walked.start 1 10).clients 1) (λ d p. d ≢ 1 → has_lease p 2 ≡ false) (λ off. absurd (off refl)) (λ d off again. refl) d off) d off) d other

holding_holds : IsCoherent walked.lease_world
holding_holds = write_taken_holds (write_taken walked.granted_world 1 1) 1 2 with_root refl new_unheld

can_fetch : CanFetch walked.lease_world 1 1
can_fetch = record { client = refl; leased = refl; missing = inl refl; clear = λ none. absurd (let clash : None ≡ fresh 1 = sym none in cc) }

pub ready_holds : IsCoherent walked.ready
ready_holds = fetched_holds walked.lease_world 1 1 holding_holds can_fetch

-- ---- the call

pub apart : (i j : ℕ) → i ≢ j → (j == i) ≡ false
apart i j off = elim (eqb_tells j i) [ inl same ↦ absurd (off (sym same.1)) | inr other ↦ other.0 ]

pub held_both : (i : ℕ) → is_touched i walked.mkdir_a.change ≡ true → (i == 2 || (i == 1 || false)) ≡ true
held_both i e = elim (eqb_tells i 2) [
  | inl there ↦ ap (λ b. b || (i == 1 || false)) there.0
  | inr off ↦ elim (eqb_tells i 1) [
    | inl there ↦ ap (λ b. b || (i == 1 || false)) off.0 ∙ ap (λ b. b || false) there.0
    | inr away ↦ absurd (false≢true (sym (untouched i off.1 away.1) ∙ e))
  ]
]
  where
    untouched : (i : ℕ) → i ≢ 2 → i ≢ 1 → (2 == i || (1 == i || (2 == i || false))) ≡ false
    untouched i off away = ap (λ b. b || (1 == i || (b || false))) (apart i 2 off) ∙ ap (λ b. b || false) (apart i 1 away)

can_begin : CanBegin walked.ready 1 walked.mkdir_a
can_begin = record {
  client = refl;
  alive = refl;
  idle = refl;
  ready = refl;
  planned = planned;
  some = λ e. absurd (cc);
  counted = counted;
  leased = held_both;
  enough = omega arith;
  pinned = λ what e. none_some what e;
}

pub making_holds : IsCoherent walked.make_world
making_holds = begun_holds walked.ready 1 walked.mkdir_a ready_holds can_begin

pub is_begun : IsBegun walked.make_world 1 walked.mkdir_a
is_begun = record { client = refl; there = refl; known = λ e. absurd (cc) }

pub made_holds : IsCoherent walked.made_world
made_holds = replied_holds walked.make_world 1 walked.mkdir_a making_holds is_begun

-- ---- digested, and passed on

pub handed_holds : IsCoherent walked.handed_world
handed_holds = sealed_holds walked.made_world 1 made_holds (record { client = refl; idle = refl; some = λ e. absurd (cc); back = λ e. absurd (cc) })

kept_holds : IsCoherent walked.kept_world
kept_holds = digested_holds walked.handed_world 1 (walked.mkdir_a.change ∷ []) [] handed_holds (record { client = refl; some = λ e. absurd (cc); split = refl })

pub back_holds : IsCoherent walked.back
back_holds = taken_back_holds walked.kept_world 1 kept_holds (record { client = refl; away = refl; digested = refl })

can_give : CanGive walked.back 1 2
can_give = record { client = refl; idle = refl; clean = refl }

-- whoever else there is held nothing while client 1 held the directory's inode for writing
pub passed_holds : IsCoherent walked.passed_world
passed_holds = write_taken_holds (after_give walked.back 1 2) 2 2 (given_holds walked.back 1 2 back_holds can_give) refl
    (λ d is_d other. each walked.back.clients 1 ((after_give walked.back 1 2).clients 1) (λ d p. is_client d ≡ true → has_lease p 2 ≡ false) (λ is. refl) (λ d off is. back_holds.beside 1 d refl is off 2 refl) d is_d)

-- ---- the tree on the way

pub making_tree : world_state walked.make_world ≡ empty_state
making_tree =
    begun_tree walked.ready 1 walked.mkdir_a ready_holds can_begin
    ∙ fetched_tree walked.lease_world 1 1 holding_holds can_fetch
    ∙ write_taken_tree (write_taken walked.granted_world 1 1) 1 2 with_root refl
    ∙ write_taken_tree walked.granted_world 1 1 granted_holds refl
    ∙ number_granted_tree (units_granted walked.start 1 10) 1 2 with_units refl
    ∙ units_granted_tree walked.start 1 10 start_holds refl
    ∙ idle_tree (charge fresh + 10) fresh
    ∙ fresh_state

pub made_step : Step empty_state 1 walked.mkdir_a.call Done (world_state walked.made_world)
made_step = subst (λ s. Step s 1 walked.mkdir_a.call Done (world_state walked.made_world)) making_tree (replied_step walked.make_world 1 walked.mkdir_a making_holds is_begun)

pub passed_tree : world_state walked.passed_world ≡ world_state walked.made_world
passed_tree =
    write_taken_tree (after_give walked.back 1 2) 2 2 (given_holds walked.back 1 2 back_holds can_give) refl
    ∙ given_tree walked.back 1 2 back_holds can_give
    ∙ taken_back_tree walked.kept_world 1 kept_holds (record { client = refl; away = refl; digested = refl })
    ∙ digested_tree walked.handed_world 1 (walked.mkdir_a.change ∷ []) [] handed_holds (record { client = refl; some = λ e. absurd (cc); split = refl })
    ∙ sealed_tree walked.made_world 1 made_holds (record { client = refl; idle = refl; some = λ e. absurd (cc); back = λ e. absurd (cc) })

-- a stop while the call is begun leaves its record or not
pub stopped_without : Stores walked.make_world (log_of walked.make_world)
stopped_without = stop_stores walked.make_world (log_of walked.make_world) making_holds (λ c is_c. inl refl)

pub stopped_with : Stores walked.make_world (all_of walked.make_world)
stopped_with = stop_stores walked.make_world (all_of walked.make_world) making_holds (λ c is_c. inr refl)
