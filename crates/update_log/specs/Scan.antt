-- A record in a content, at its gate.
use Rattle.std.specs.Prelude.{◌≡◌, ℕ, ◌+◌, ◌<◌, List, ◌∷◌, length, take, drop, true}
use Rattle.update_log.specs.Frames.{payloads_from, payload_length, payload_of, is_payload, is_whole}
use Rattle.update_log.specs.Stage.{IsFront}

-- behind a gate stands this payload, whole
pub record IsPayloadBehind (behind payload : List ℕ) : Type 0 where
  pub whole : is_whole behind ≡ true
  pub is : payload ≡ payload_of behind
  pub long : length payload ≡ payload_length behind
  pub room : 4 + length payload < length behind

-- the record of this payload stands there, and the others follow it
pub record IsRecordAt (content : List ℕ) (at : ℕ) (payload : List ℕ) : Type 0 where
  pub within : at + 5 + length payload < length content
  pub is_spelled : is_payload payload ≡ true
  pub follows : payloads_from 0 (drop at content) ≡ payload ∷ payloads_from 0 (drop (at + 5 + length payload) content)
  pub front_grows : IsFront (take at content) → IsFront (take (at + 5 + length payload) content)
