-- What becomes of a client as its region is handed over and taken back.
use Rattle.std.specs.Prelude.{◌≡◌, ℕ, Bool, false, not, List, [], length, Some, None, if◌then◌else◌}
use Rattle.std.specs.List.{filter, list_any}
use Rattle.tier_device.specs.declared.media.Media.{Ghosts}
use Rattle.lease_manager.specs.log_record.declared.format.Record.{Record}
use Rattle.client_log.specs.update_log.RecordCounts.{next_generation}
use Rattle.client_log.specs.update_log.View.{RegionView, records_of}
use Rattle.client_log.specs.call_effects.Knowledge.{Knowledge}
use Rattle.client_log.specs.Steps.{sealed_view}
use Rattle.client_log.specs.Turns.{turn_of, CanSeal, sealed_turn}
use Rattle.client_log.specs.View.{current_records}
use Rattle.block_cache.specs.CacheList.{Block}
use Rattle.libfs.specs.SealedRegion.{SealedRegionView}
use Rattle.libfs.specs.View.{ClientView}
use Rattle.lease_manager.specs.RecordCounts.{HasCleaned, is_touched}
use Rattle.lease_manager.specs.Passes.{client_of}
use Rattle.libfs.specs.ClientHoldings.{known_to}

-- whether one of some records touches an inode
abbrev pub is_named : List Record → ℕ → Bool
is_named rs i = list_any (λ r. is_touched r.effects i) rs

-- no block of what these records touch
abbrev pub without_blocks_of : Knowledge → List Record → Knowledge
without_blocks_of k rs = record k { blocks = λ i b. if is_named rs i then None else k.blocks i b }

-- the blocks that stay in the cache then, in their order
abbrev pub without_named : List Block → List Record → List Block
without_named bs rs = filter (λ b. not (is_named rs b.inode)) bs

-- The current region was handed over, and the client goes on in the other one.
pub record HasSealed {M : Type 0} (device : Ghosts M) (old : ClientView M) (away : SealedRegionView M) (new : ClientView M) : Type 0 where
  pub region : away.region ≡ old.log.current
  pub generation : away.generation ≡ old.log.generation
  pub records : records_of device away.region ≡ current_records device old.log
  pub may : CanSeal (turn_of device old.log)
  pub turn : turn_of device new.log ≡ sealed_turn (turn_of device old.log)
  pub other : RegionView M
  pub was_here : old.log.other ≡ Some other
  pub log : new.log ≡ sealed_view old.log other
  pub sealed_is : new.sealed ≡ current_records device old.log
  pub rest : new ≡ record old { log = new.log; sealed = new.sealed }

-- A region is the one that a client sealed last, it is not back, and all its records are digested.
pub record MayTakeBack {M : Type 0} (device : Ghosts M) (v : ClientView M) (away : SealedRegionView M) : Type 0 where
  pub client : away.client ≡ client_of v.pass
  pub gone : v.log.other ≡ None
  pub before : next_generation away.generation ≡ v.log.generation
  pub digested : away.done ≡ length (records_of device away.region)

-- The region that was away is back, and no record of it is counted any more; the blocks of what its records do not touch stay in their order.
pub record HasTakenBack {M : Type 0} (device : Ghosts M) (old : ClientView M) (away : SealedRegionView M) (new : ClientView M) : Type 0 where
  pub log : new.log ≡ record old.log { other = Some away.region; clean = false }
  pub cleaned : HasCleaned old.pass old.sealed new.pass
  pub knows_then : known_to new ≡ without_blocks_of (known_to old) old.sealed
  pub numbers : new.copies.numbers ≡ old.copies.numbers
  pub order : new.copies.blocks ≡ without_named old.copies.blocks old.sealed
  pub none : new.sealed ≡ []
  pub rest : new ≡ record old { pass = new.pass; log = new.log; copies = new.copies; sealed = new.sealed }
