-- A client, as its callers see it.
use Rattle.std.specs.Prelude.{ℕ, ◌&&◌, ◌++◌, not, Bool, List, Option, is_some, option_map}
use Rattle.tier_device.specs.declared.media.Media.{Ghosts}
use Rattle.lease_manager.specs.log_record.declared.format.Record.{Record}
use Rattle.client_log.specs.update_log.Frames.{with_record}
use Rattle.lease_manager.specs.Passes.{PassView}
use Rattle.client_log.specs.View.{LogView, current_records}
use Rattle.client_view.specs.KnowledgeTables.{Held}
use Rattle.libfs.specs.declared.begun_record.Begun.{Begun}

pub record ClientView (M : Type 0) : Type 0 where
  -- its leases, and how many undigested records it counts on each inode
  pub pass : PassView
  pub log : LogView M
  -- its descriptors, its copies and blocks, and the numbers for new nodes that it has not used
  pub copies : Held
  -- the inodes that it has pinned, and the units that it has not used
  pub pins : List ℕ
  pub spare : ℕ
  -- the call whose record is begun, and whether that was answered already, by a fault
  pub begun : Option Begun
  pub answered : Bool
  -- the records of the region that is away
  pub sealed : List Record

-- what an answer leaves of the pass: all of it, since a pass counts no answers
abbrev pub pass_answered : PassView → PassView
pass_answered pass = pass

-- whether a call waits for its answer
abbrev pub is_pending : {M : Type 0} → ClientView M → Bool
is_pending v = is_some v.begun && not v.answered

-- the record that is begun, if there is one
abbrev pub begun_record : Option Begun → Option Record
begun_record begun = option_map (λ b. b.change.logged) begun

-- the client's records that are not digested, the begun one among them
abbrev pub own_records : {M : Type 0} → Ghosts M → ClientView M → List Record
own_records device v = with_record (v.sealed ++ current_records device v.log) (begun_record v.begun)
