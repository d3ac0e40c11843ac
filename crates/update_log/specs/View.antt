-- A region, as its callers see it.
use Rattle.std.specs.Prelude.{◌≡◌, ◌⊎◌, ℕ, List, length, take, Option, None}
use Rattle.tier_device.specs.declared.media.Media.{Ghosts}
use Rattle.tier_device.specs.declared.media.Tier.{Tier}
use Rattle.tier_device.specs.declared.media.Tier.TheVariants.{Fast, Block, Slow}
use Rattle.log_record.specs.declared.format.Record.{Record}
use Rattle.log_record.specs.Grammar.{record_of}
use Rattle.update_log.specs.declared.format.TheConstants.{REGION_SIZE}
use Rattle.update_log.specs.declared.stage.Stage.{Stage}
use Rattle.update_log.specs.declared.stage.Stage.TheVariants as stages
use Rattle.update_log.specs.Frames.{before_gate, spelled_records, records, header, with_record}

pub record RegionView (M : Type 0) : Type 0 where
  pub media : M
  -- where the next record's gate stands
  pub end : ℕ
  pub stage : Stage
  -- the record that is begun and not appended, if there is one
  pub begun : Option Record

-- the bytes before the next gate
abbrev pub front_of : {M : Type 0} → Ghosts M → RegionView M → List ℕ
front_of device v = take v.end (device.seen v.media Fast)

-- the header
abbrev pub header_of : {M : Type 0} → Ghosts M → RegionView M → List ℕ
header_of device v = header (front_of device v)

-- the records that are appended
abbrev pub records_of : {M : Type 0} → Ghosts M → RegionView M → List Record
records_of device v = spelled_records (before_gate (front_of device v))

-- the record that a payload spells, at the stages where one is begun
abbrev pub begun_in : Stage → List ℕ → Option Record
begun_in stages.Resting payload = None
begun_in stages.Foreign payload = None
begun_in stages.Begun payload = record_of payload
begun_in stages.Written payload = record_of payload
begun_in stages.Kept payload = record_of payload
begun_in stages.Opened payload = record_of payload
begun_in stages.Failed payload = record_of payload
begun_in stages.Closing payload = None
begun_in stages.Closed payload = None
begun_in stages.Naming payload = None
begun_in stages.WipeFailed payload = None

-- the record that is begun and not appended, if there is one
abbrev pub begun_of : {M : Type 0} → RegionView M → Option Record
begun_of v = v.begun

-- A content with this header and these records, with the begun one after them or without it.
pub record WithOrWithout (head : List ℕ) (rs : List Record) (begun : Option Record) (content : List ℕ) : Type 0 where
  pub header_is : header content ≡ head
  pub records_are : (records content ≡ rs) ⊎ (records content ≡ with_record rs begun)

-- the tiers have the sizes of a region's
pub record HasSize (seen : Tier → List ℕ) : Type 0 where
  pub fast : length (seen Fast) ≡ REGION_SIZE
  pub block : length (seen Block) ≡ 0
  pub slow : length (seen Slow) ≡ 0
