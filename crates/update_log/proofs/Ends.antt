-- Where the records of a region end.
use Rattle.std.proofs.Common.{◌≡◌, ℕ, zero, suc, ◌+◌, ◌<◌, List, [], ◌∷◌, ◌++◌, length, true, refl, sym, subst, arith, inl, inr}
use Rattle.std.specs.Prelude.{◌&&◌, ◌==◌, Option, Some, None, is_some, nat_lt, take}
use Rattle.std.proofs.lemmas.Bool.{cases_Bool, and_parts, cond-true, cond-false}
use Rattle.std.proofs.lemmas.List.{length-take-le}
use Rattle.std.specs.List.{cons_option}
use Rattle.log_record.specs.declared.format.Record.{Record}
use Rattle.log_record.specs.Grammar.{record_of, record_bytes}
use Rattle.update_log.specs.declared.stage.Stage.{Stage}
use Rattle.update_log.specs.Frames.{payload_length, payload_of, is_payload, is_whole, payloads_from, payloads, records, before_gate, framed_length, taken_length, spelled_records, end_behind}
use Rattle.update_log.specs.Stage.{IsFront, FitsItsStage}
use Rattle.update_log.proofs.Moves.{stands_of}

abbrev pub AreAsLong : Type 0
AreAsLong = (bytes : List ℕ) (r : Record) → record_of bytes ≡ Some r → length bytes ≡ length (record_bytes r)

the_one : {X : Type 0} (o : Option X) → is_some o ≡ true → (x : X) × (o ≡ Some x)
the_one None e = cc
the_one (Some x) e = (x, refl)

-- a payload that is a record's takes as many bytes as the record
one_more : AreAsLong → (payload : List ℕ) (ps : List (List ℕ)) → is_payload payload ≡ true → framed_length ps ≡ taken_length (spelled_records ps) → framed_length (payload ∷ ps) ≡ taken_length (spelled_records (payload ∷ ps))
one_more as_long payload ps is same =
    let r = the_one (record_of payload) is in
    subst (λ (o : Option Record). framed_length (payload ∷ ps) ≡ taken_length (cons_option o (spelled_records ps))) (sym r.1) (omega (arith, same, as_long payload r.0 r.1))

pub framed_taken : AreAsLong → (skip : ℕ) (content : List ℕ) → framed_length (payloads_from skip content) ≡ taken_length (spelled_records (payloads_from skip content))
framed_taken as_long skip [] = refl
framed_taken as_long (suc skip) (byte ∷ rest) = framed_taken as_long skip rest
framed_taken as_long zero (gate ∷ behind) = elim (cases_Bool ((gate == 165) && is_whole behind)) [
  | inl is ↦
      let whole = (and_parts (gate == 165) (is_whole behind) is).1 in
      subst (λ ps. framed_length ps ≡ taken_length (spelled_records ps)) (sym (cond-true ((gate == 165) && is_whole behind) (payload_of behind ∷ payloads_from (4 + payload_length behind) behind) [] is))
      (one_more as_long (payload_of behind) (payloads_from (4 + payload_length behind) behind)
      (and_parts (nat_lt (4 + payload_length behind) (length behind)) (is_payload (payload_of behind)) whole).1
      (framed_taken as_long (4 + payload_length behind) behind))
  | inr none ↦
      subst (λ ps. framed_length ps ≡ taken_length (spelled_records ps)) (sym (cond-false ((gate == 165) && is_whole behind) (payload_of behind ∷ payloads_from (4 + payload_length behind) behind) [] none)) refl
]

-- the gate behind a front stands behind its records
pub front_ends : ((content : List ℕ) → framed_length (payloads content) ≡ taken_length (records content)) → (end : ℕ) (content : List ℕ) → end < length content → IsFront (take end content) → end ≡ end_behind (spelled_records (before_gate (take end content)))
front_ends law end content within stands = omega (arith, length-take-le end content (omega (arith, within)), stands.long, law (take end content ++ 0 ∷ []))

pub sound_ends : ((content : List ℕ) → framed_length (payloads content) ≡ taken_length (records content)) → (end : ℕ) (stage : Stage) (body seen : List ℕ) (left : List ℕ → Type 0) → FitsItsStage end stage body seen left → end ≡ end_behind (spelled_records (before_gate (take end seen)))
sound_ends law end stage body seen left sound = front_ends law end seen (omega (arith, sound.within, sound.size)) (stands_of end stage body seen left sound)
