-- What goes wrong in small worlds whose regions or begun calls break one part of the invariant each.
use Rattle.std.proofs.Common.{◌≡◌, ◌≢◌, ℕ, [], ◌∷◌, false, refl, ap, sym}
use Rattle.std.specs.Prelude.{is_some}
use Rattle.std.proofs.lemmas.Bool.{false≢true}
use Rattle.posix_calls.specs.Tree.{State}
use Rattle.call_effects.specs.log_record.declared.format.Record.{Record}
use Rattle.world_invariant.specs.Logs.{after_clients}
use Rattle.world_invariant.specs.World.{Back, all_of, log_of, records_of, world_state}
use Rattle.world_invariant.specs.ClientParts.{StartsWiped, RestsOnceSettled, IsNumbered}
use Rattle.world_invariant.specs.ClientSteps.{IsBegun, after_reply}
use Rattle.world_invariant.specs.RegionSteps.{CanWipeOther, other_wiped, CanWipeCurrent, current_wiped}
use Rattle.world_invariant.specs.KernelSteps.{CanDigest, records_digested}
use Rattle.world_invariant.specs.Walk.{mkdir_a, made_world, handed_world}
use Rattle.world_invariant.specs.UnlinkWalk.{open_a}
use Rattle.world_invariant.specs.BrokenWorlds.{unwiped_world, left_behind, marked_before, begun_unwiped, settled_opening}
use Rattle.world_invariant.proofs.Moved.{each_client}

no_record : (r : Record) → r ∷ [] ≢ []
no_record r e = absurd (cc)

-- ---- a region that is not wiped and has a record

pub unwiped_same : (c : ℕ) → all_of unwiped_world c ≡ all_of made_world c
unwiped_same = each_client made_world 1 made_world.kernel.shared (made_world.kernel.accounts 1) (record (made_world.clients 1) { ready = false }) (λ d b q. records_of b q ≡ all_of made_world d) refl (λ d other. refl)

pub unwiped_can : CanWipeCurrent unwiped_world 1
unwiped_can = record { client = refl; stale = refl }

pub unwiped_lost : world_state (current_wiped unwiped_world 1) ≢ world_state unwiped_world
unfolding after_clients
unwiped_lost e = false≢true (ap (λ (s : State). is_some (s.tree 2)) e)

-- ---- a region that is back and has a record

pub behind_same : (c : ℕ) → all_of left_behind c ≡ all_of made_world c
behind_same = each_client made_world 1 made_world.kernel.shared (made_world.kernel.accounts 1) (record (made_world.clients 1) { sealed = mkdir_a.change ∷ []; current = []; other = Back }) (λ d b q. records_of b q ≡ all_of made_world d) refl (λ d other. refl)

pub behind_can : CanWipeOther left_behind 1
behind_can = record { client = refl; back = refl }

pub behind_lost : world_state (other_wiped left_behind 1) ≢ world_state left_behind
unfolding after_clients
behind_lost e = false≢true (ap (λ (s : State). is_some (s.tree 2)) e)

-- ---- a mark before the region that is away

pub before_same : (c : ℕ) → all_of marked_before c ≡ all_of handed_world c
before_same = each_client handed_world 1 handed_world.kernel.shared (handed_world.kernel.accounts 1) (record (handed_world.clients 1) { past = 1 }) (λ d b q. records_of b q ≡ all_of handed_world d) refl (λ d other. refl)

pub before_can : CanDigest marked_before 1 (mkdir_a.change ∷ []) []
before_can = record { client = refl; some = λ e. absurd (cc); split = refl }

pub before_lost : IsNumbered ((records_digested marked_before 1 (mkdir_a.change ∷ [])).kernel.accounts 1).numbers ((records_digested marked_before 1 (mkdir_a.change ∷ [])).clients 1).knows.granted (log_of (records_digested marked_before 1 (mkdir_a.change ∷ [])) 1) → ⊥
before_lost is = false≢true (is.made 2 refl)

-- ---- a call that is begun where the region is not wiped

pub begun_there : IsBegun begun_unwiped 1 mkdir_a
begun_there = record { client = refl; there = refl; known = λ e. absurd (cc) }

pub begun_written : StartsWiped ((after_reply begun_unwiped 1 mkdir_a).clients 1).ready ((after_reply begun_unwiped 1 mkdir_a).clients 1).current ((after_reply begun_unwiped 1 mkdir_a).clients 1).begun → ⊥
begun_written is = no_record mkdir_a.change (is.records refl)

-- ---- a call that is begun where its client is settled

pub settled_begun : IsBegun settled_opening 1 open_a
settled_begun = record { client = refl; there = refl; known = λ e. absurd (cc) }

pub settled_open : RestsOnceSettled ((after_reply settled_opening 1 open_a).clients 1).status ((after_reply settled_opening 1 open_a).clients 1).knows.own ((after_reply settled_opening 1 open_a).clients 1).begun → ⊥
settled_open is = false≢true (sym (ap is_some (is.closed refl 0)))
