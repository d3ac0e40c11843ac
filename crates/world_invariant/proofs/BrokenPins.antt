-- A file that is open, has no name and is not pinned: its reclaim is seen.
use Rattle.std.proofs.Common.{◌≡◌, ◌≢◌, inl, ◌-◌, [], ◌∷◌, true, false, refl, Some, None, ap, sym, ◌∙◌, lit≤}
use Rattle.std.specs.Prelude.{is_some, option_map}
use Rattle.std.proofs.lemmas.Bool.{false≢true}
use Rattle.posix_calls.specs.Tree.{State, refers_to, has_open, is_open}
use Rattle.posix_calls.proofs.Sums.{any_there}
use Rattle.call_effects.specs.file_graph.Graph.{FileBody}
use Rattle.call_effects.specs.Wholes.{keep, tree_node}
use Rattle.world_invariant.specs.Logs.{after_clients}
use Rattle.world_invariant.specs.World.{World, whole_graph, held_descriptors, world_state}
use Rattle.world_invariant.specs.ClientSteps.{CanBegin, IsBegun, after_reply}
use Rattle.world_invariant.specs.LeaseSteps.{CanFetch}
use Rattle.world_invariant.specs.RegionSteps.{CanSeal, region_sealed}
use Rattle.world_invariant.specs.KernelSteps.{CanDigest, CanReclaim, after_reclaim}
use Rattle.world_invariant.specs.UnlinkWalk.{open_a, unlink_a}
use Rattle.world_invariant.specs.BrokenWorlds.{unpinned_file, unpinned_client, unpinned_open, unpinned_known, unpinned_unlinked, unpinned_kept}
use Rattle.world_invariant.proofs.Idle.{none_some}
use Rattle.world_invariant.proofs.Owners.{is_low, is_high}
use Rattle.world_invariant.proofs.UnlinkWalks.{eight, can_unlink}

-- ---- what an open file without a name is to the tree

module _ (w : World) where
  opened : refers_to 2 (held_descriptors w 1 0) ≡ true → is_open (held_descriptors w) 2 ≡ true
  unfolding is_open
  opened there = any_there 8 1 (λ c. has_open (held_descriptors w c) 2) (lit≤ tt) (lit≤ tt) (any_there 32 1 (λ n. refers_to 2 (held_descriptors w 1 (n - 1))) (lit≤ tt) (lit≤ tt) there)

  reclaim_seen : refers_to 2 (held_descriptors w 1 0) ≡ true → whole_graph w 2 ≡ Some (record { names = 0; body = FileBody [] }) → whole_graph (after_reclaim w 2) 2 ≡ None → world_state (after_reclaim w 2) ≢ world_state w
  reclaim_seen there file gone e = false≢true (
      sym (ap (λ o. is_some (option_map tree_node (keep (is_open (held_descriptors w) 2) o))) gone)
      ∙ ap (λ (s : State). is_some (s.tree 2)) e
      ∙ ap (λ o. is_some (option_map tree_node (keep (is_open (held_descriptors w) 2) o))) file
      ∙ ap (λ b. is_some (option_map tree_node (keep b (Some (record { names = 0; body = FileBody [] }))))) (opened there)
      )

-- ---- a pin that is not in the book, and one that the client has not set

pub unpinned_can : CanReclaim unpinned_file.kernel 2
unpinned_can = record { file = record { bytes = []; is = refl }; unpinned = λ c is_c. eight (λ c. (unpinned_file.kernel.accounts c).pins 2 ≡ false) refl refl refl refl refl refl refl refl c (is_low c is_c) (is_high c is_c) }

pub unpinned_seen : world_state (after_reclaim unpinned_file 2) ≢ world_state unpinned_file
unfolding after_clients
unpinned_seen = reclaim_seen unpinned_file refl refl refl

pub loose_can : CanReclaim unpinned_client.kernel 2
loose_can = record { file = record { bytes = []; is = refl }; unpinned = λ c is_c. eight (λ c. (unpinned_client.kernel.accounts c).pins 2 ≡ false) refl refl refl refl refl refl refl refl c (is_low c is_c) (is_high c is_c) }

pub loose_seen : world_state (after_reclaim unpinned_client 2) ≢ world_state unpinned_client
unfolding after_clients
loose_seen = reclaim_seen unpinned_client refl refl refl

-- ---- a call that opens a file without a pin, and what follows

pub open_begun : IsBegun unpinned_open 1 open_a
open_begun = record { client = refl; there = refl; known = λ e. absurd (cc) }

pub open_fetch : CanFetch (after_reply unpinned_open 1 open_a) 1 2
open_fetch = record { client = refl; leased = refl; missing = inl refl; clear = λ none. absurd (false≢true (sym (ap is_some none))) }

pub open_unlinks : CanBegin unpinned_known 1 unlink_a
open_unlinks = record { client = refl; alive = refl; idle = refl; ready = refl; planned = can_unlink.planned; some = can_unlink.some; counted = can_unlink.counted; leased = can_unlink.leased; enough = can_unlink.enough; pinned = λ what e. none_some what e }

pub open_seals : CanSeal unpinned_unlinked 1
open_seals = record { client = refl; idle = refl; some = λ e. absurd (cc); back = λ e. absurd (cc) }

pub open_digests : CanDigest (region_sealed unpinned_unlinked 1) 1 (open_a.change ∷ unlink_a.change ∷ []) []
open_digests = record { client = refl; some = λ e. absurd (cc); split = refl }

pub open_reclaims : CanReclaim unpinned_kept.kernel 2
open_reclaims = record { file = record { bytes = []; is = refl }; unpinned = λ c is_c. eight (λ c. (unpinned_kept.kernel.accounts c).pins 2 ≡ false) refl refl refl refl refl refl refl refl c (is_low c is_c) (is_high c is_c) }

pub open_lost : world_state (after_reclaim unpinned_kept 2) ≢ world_state unpinned_kept
unfolding after_clients
open_lost = reclaim_seen unpinned_kept refl refl refl
