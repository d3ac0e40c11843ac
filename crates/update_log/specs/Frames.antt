-- What the bytes of a region stand for.
use Rattle.std.specs.Prelude.{ℕ, zero, suc, ◌+◌, List, [], ◌∷◌, ◌++◌, length, take, drop, Bool, ◌&&◌, ◌==◌, nat_lt, is_some, Option, Some, None, if◌then◌else◌}
use Rattle.std.specs.List.{filter_map}
use Rattle.byteorder.specs.Endian.{little_number, little_bytes}
use Rattle.log_record.specs.declared.format.Record.{Record}
use Rattle.log_record.specs.Grammar.{record_of, record_bytes}
use Rattle.update_log.specs.declared.format.TheConstants.{HEADER, OPEN, CLOSED}

-- the length that the four bytes behind a gate give
abbrev pub payload_length : List ℕ → ℕ
payload_length behind = little_number 4 behind

-- the payload behind a gate
abbrev pub payload_of : List ℕ → List ℕ
payload_of behind = take (payload_length behind) (drop 4 behind)

-- these bytes spell a record
abbrev pub is_payload : List ℕ → Bool
is_payload payload = is_some (record_of payload)

-- behind a gate stand a record's whole payload and a place for the next gate
abbrev pub is_whole : List ℕ → Bool
is_whole behind = nat_lt (4 + payload_length behind) (length behind) && is_payload (payload_of behind)

-- the payloads behind open gates, up to the first gate that is closed or has no whole record behind it; `skip` bytes are passed over first
abbrev pub payloads_from : ℕ → List ℕ → List (List ℕ)
payloads_from skip [] = []
payloads_from (suc skip) (byte ∷ rest) = payloads_from skip rest
payloads_from zero (gate ∷ behind) =
    if (gate == OPEN) && is_whole behind then payload_of behind ∷ payloads_from (4 + payload_length behind) behind else []

-- the payloads of a region
abbrev pub payloads : List ℕ → List (List ℕ)
payloads content = payloads_from HEADER content

-- the records that payloads spell
abbrev pub spelled_records : List (List ℕ) → List Record
spelled_records ps = filter_map record_of ps

-- the records of a region
abbrev pub records : List ℕ → List Record
records content = spelled_records (payloads content)

-- the bytes before the first gate
abbrev pub header : List ℕ → List ℕ
header content = take HEADER content

-- the length, the payload and the next gate, closed
abbrev pub behind_gate : List ℕ → List ℕ
behind_gate payload = little_bytes 4 (length payload) ++ payload ++ CLOSED ∷ []

-- the payloads before a closed gate
abbrev pub before_gate : List ℕ → List (List ℕ)
before_gate front = payloads (front ++ CLOSED ∷ [])

-- how many bytes payloads take, each behind its gate and its length
abbrev pub framed_length : List (List ℕ) → ℕ
framed_length [] = 0
framed_length (payload ∷ ps) = 5 + length payload + framed_length ps

-- how many bytes records take, each behind its gate and its length
abbrev pub taken_length : List Record → ℕ
taken_length [] = 0
taken_length (r ∷ rs) = 5 + length (record_bytes r) + taken_length rs

-- where the gate behind these records stands
abbrev pub end_behind : List Record → ℕ
end_behind rs = HEADER + taken_length rs

-- records, and one more where there is one
abbrev pub with_record : List Record → Option Record → List Record
with_record rs None = rs
with_record rs (Some r) = rs ++ r ∷ []
