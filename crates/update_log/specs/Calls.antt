-- What one device call of an append makes of a region.
use Rattle.std.specs.Prelude.{◌≡◌, ℕ, ◌+◌, List, [], ◌∷◌, ◌++◌, length, take, Option}
use Rattle.tier_device.specs.declared.media.Tier.{Tier}
use Rattle.tier_device.specs.declared.media.Tier.TheVariants.{Fast}
use Rattle.tier_device.specs.Media.{overwritten, Puts}
use Rattle.log_record.specs.declared.format.Record.{Record}
use Rattle.log_record.specs.Grammar.{record_of}
use Rattle.update_log.specs.declared.format.TheConstants.{OPEN}
use Rattle.update_log.specs.declared.stage.Stage.{Stage}
use Rattle.update_log.specs.declared.stage.Stage.TheVariants as stages
use Rattle.update_log.specs.Frames.{header, before_gate, behind_gate}
use Rattle.update_log.specs.Stage.{FitsItsStage, next, payload_in}

-- the place of the next gate after the call: the last one goes behind the record
abbrev pub end_after : Stage → ℕ → List ℕ → ℕ
end_after stages.Resting end body = end
end_after stages.Foreign end body = end
end_after stages.Begun end body = end
end_after stages.Written end body = end
end_after stages.Kept end body = end
end_after stages.Opened end body = end + length body
end_after stages.Failed end body = end
end_after stages.Closing end body = end
end_after stages.Closed end body = end
end_after stages.Naming end body = end
end_after stages.WipeFailed end body = end

-- the payloads after the call: the last one adds the record's
abbrev pub payloads_after : Stage → List (List ℕ) → List ℕ → List (List ℕ)
payloads_after stages.Resting ps payload = ps
payloads_after stages.Foreign ps payload = ps
payloads_after stages.Begun ps payload = ps
payloads_after stages.Written ps payload = ps
payloads_after stages.Kept ps payload = ps
payloads_after stages.Opened ps payload = ps ++ payload ∷ []
payloads_after stages.Failed ps payload = ps
payloads_after stages.Closing ps payload = ps
payloads_after stages.Closed ps payload = ps
payloads_after stages.Naming ps payload = ps
payloads_after stages.WipeFailed ps payload = ps

-- the call succeeded
pub record HasMoved (end : ℕ) (stage : Stage) (body seen seen' : List ℕ) (left' : List ℕ → Type 0) : Type 0 where
  pub sound : FitsItsStage (end_after stage end body) (next stage) body seen' left'
  pub same_header : header (take (end_after stage end body) seen') ≡ header (take end seen)
  pub payloads_are : before_gate (take (end_after stage end body) seen') ≡ payloads_after stage (before_gate (take end seen)) (payload_in body)

-- the call failed
pub record HasFailed (end : ℕ) (body seen seen' : List ℕ) (left' : List ℕ → Type 0) : Type 0 where
  pub sound : FitsItsStage end stages.Failed body seen' left'
  pub same_front : take end seen' ≡ take end seen

-- What a read gives after a device call that succeeds: the first writes the bytes behind the gate, the third opens the gate, and a fence leaves all as it was.
abbrev pub seen_after : Stage → ℕ → List ℕ → List ℕ → List ℕ
seen_after stages.Resting end behind seen = seen
seen_after stages.Foreign end behind seen = seen
seen_after stages.Begun end behind seen = overwritten seen (end + 1) behind
seen_after stages.Written end behind seen = seen
seen_after stages.Kept end behind seen = overwritten seen end (OPEN ∷ [])
seen_after stages.Opened end behind seen = seen
seen_after stages.Failed end behind seen = seen
seen_after stages.Closing end behind seen = seen
seen_after stages.Closed end behind seen = seen
seen_after stages.Naming end behind seen = seen
seen_after stages.WipeFailed end behind seen = seen

-- The tiers after a device call of an append: what is written are the begun record's length, a payload that spells it, and the next gate, closed.
pub record ShowsCall (stage : Stage) (end : ℕ) (begun : Option Record) (old new : Tier → List ℕ) : Type 0 where
  pub payload : List ℕ
  pub spells : record_of payload ≡ begun
  pub shows : Puts Fast (seen_after stage end (behind_gate payload) (old Fast)) old new
