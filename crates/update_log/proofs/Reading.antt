-- What fronts, closed gates and whole records stand for.
use Rattle.std.proofs.Common.{◌≡◌, ◌≢◌, inl, inr, ℕ, zero, suc, ◌+◌, ◌-◌, ◌<◌, ◌≤◌, ◌^◌, List, [], ◌∷◌, ◌++◌, length, take, drop, get_or, take-append-drop, true, false, ◌&&◌, refl, sym, ◌∙◌, ap, subst, arith, append_assoc, length-append}
use Rattle.std.specs.Prelude.{nat_lt, ◌==◌}
use Rattle.std.proofs.lemmas.List.{append-nil, take_at, drop_at, drop_more, drop-drop, drop-take, take-take, length-take-le, length-drop}
use Rattle.std.proofs.lemmas.Bool.{cases_eq, eq-eqb, lt-ltb, ltb-true, and_parts, and_from, ne_eqb, and_left, cond-true, cond-false}
use Rattle.byteorder.specs.Endian.{little_number, little_bytes}
use Rattle.byteorder.specs.Numbers.{little_number-reads_back, length-bytes_low_first, little_from-append}
use Rattle.update_log.specs.Frames.{payload_length, payload_of, is_payload, is_whole, payloads_from, payloads, before_gate, framed_length, behind_gate}
use Rattle.update_log.specs.Scan.{IsPayloadBehind, IsRecordAt}
use Rattle.update_log.specs.Stage.{IsFront, IsShut, BeforeOrAfter}

payloads_past : (xs ys : List ℕ) → payloads_from (length xs) (xs ++ ys) ≡ payloads_from 0 ys
payloads_past [] ys = refl
payloads_past (x ∷ xs) ys = payloads_past xs ys

payloads_shut : (gate : ℕ) (rest : List ℕ) → gate ≢ 165 → payloads_from 0 (gate ∷ rest) ≡ []
payloads_shut gate rest shut =
    cond-false ((gate == 165) && is_whole rest) (payload_of rest ∷ payloads_from (4 + payload_length rest) rest) [] (and_left (gate == 165) (is_whole rest) (ne_eqb gate 165 shut))

-- a whole record behind an open gate, and the next gate; `size` stands for the four bytes
module _ (size payload : List ℕ) (gate : ℕ) (rest : List ℕ) (four : length size ≡ 4) (tells : (x : List ℕ) → little_number 4 (size ++ x) ≡ length payload) (is_spelled : is_payload payload ≡ true) where
  abbrev after : List ℕ
  after = gate ∷ rest

  abbrev behind : List ℕ
  behind = size ++ (payload ++ after)

  of : payload_of behind ≡ payload
  of =
      ap (λ n. take n (drop 4 behind)) (tells (payload ++ after)) ∙ ap (take (length payload)) (drop_at size (payload ++ after) 4 four) ∙ take_at payload after (length payload) refl

  whole : is_whole behind ≡ true
  whole =
      and_from (nat_lt (4 + payload_length behind) (length behind)) (is_payload (payload_of behind))
      (lt-ltb _ _ (omega (arith, tells (payload ++ after), four, length-append size (payload ++ after), length-append payload after)))
      (ap is_payload of ∙ is_spelled)

  past : payloads_from (4 + payload_length behind) behind ≡ payloads_from 0 after
  past =
      let n : 4 + payload_length behind ≡ length (size ++ payload) = omega (arith, tells (payload ++ after), four, length-append size payload) in
      let l : behind ≡ (size ++ payload) ++ after = sym (append_assoc size payload after) in
      (λ i. payloads_from (n i) (l i)) ∙ payloads_past (size ++ payload) after

  payloads_whole : payloads_from 0 (165 ∷ behind) ≡ payload ∷ payloads_from 0 after
  payloads_whole =
      cond-true ((165 == 165) && is_whole behind) (payload_of behind ∷ payloads_from (4 + payload_length behind) behind) [] (and_from (165 == 165) (is_whole behind) refl whole)
      ∙ (λ i. of i ∷ past i)

-- the same with its own four bytes
payloads_record : (payload : List ℕ) (gate : ℕ) (rest : List ℕ) → length payload < 2 ^ 32 → is_payload payload ≡ true → payloads_from 0 (165 ∷ (little_bytes 4 (length payload) ++ (payload ++ gate ∷ rest))) ≡ payload ∷ payloads_from 0 (gate ∷ rest)
payloads_record payload gate rest small is_spelled =
    payloads_whole (little_bytes 4 (length payload)) payload gate rest (length-bytes_low_first 0 4 (length payload)) (λ x. little_number-reads_back 4 (length payload) x (omega (arith, small))) is_spelled

body_split : (payload rest : List ℕ) → behind_gate payload ++ rest ≡ little_bytes 4 (length payload) ++ (payload ++ (0 ∷ rest))
body_split payload rest =
    append_assoc (little_bytes 4 (length payload) ++ payload) (0 ∷ []) rest ∙ append_assoc (little_bytes 4 (length payload)) payload (0 ∷ rest)

-- a closed gate ends the records
pub payloads_closed : (front content : List ℕ) → IsFront front → IsShut front content → payloads content ≡ before_gate front
payloads_closed front content stands shut =
    ap payloads shut.is ∙ stands.ends shut.gate shut.rest ∙ ap (λ l. before_gate front ++ l) (payloads_shut shut.gate shut.rest shut.shut) ∙ append-nil (before_gate front)

-- an open one with a record's bytes behind it gives one record more
pub payloads_opened : (front payload rest content : List ℕ) → IsFront front → length payload < 2 ^ 32 → is_payload payload ≡ true → content ≡ front ++ 165 ∷ (behind_gate payload ++ rest) → payloads content ≡ before_gate front ++ payload ∷ []
payloads_opened front payload rest content stands small is_spelled is =
    ap payloads is ∙ stands.ends 165 (behind_gate payload ++ rest)
    ∙ ap (λ (l : List ℕ). before_gate front ++ payloads_from 0 (165 ∷ l)) (body_split payload rest)
    ∙ ap (λ l. before_gate front ++ l) (payloads_record payload 0 rest small is_spelled)
    ∙ ap (λ l. before_gate front ++ payload ∷ l) (payloads_shut 0 rest (omega arith))

fore : (front rest content : List ℕ) → content ≡ front ++ rest → take (length front) content ≡ front
fore front rest content is = ap (take (length front)) is ∙ take_at front rest (length front) refl

pub is_before : (front payload content : List ℕ) → IsFront front → IsShut front content → BeforeOrAfter front payload content
is_before front payload content stands shut = record { front_stands = fore front (shut.gate ∷ shut.rest) content shut.is; payloads_are = inl (payloads_closed front content stands shut) }

pub is_same : (front payload rest content : List ℕ) → content ≡ front ++ rest → payloads content ≡ before_gate front → BeforeOrAfter front payload content
is_same front payload rest content is same = record { front_stands = fore front rest content is; payloads_are = inl same }

pub is_either : (front payload rest : List ℕ) (gate : ℕ) (content : List ℕ) → IsFront front → length payload < 2 ^ 32 → is_payload payload ≡ true → content ≡ front ++ gate ∷ (behind_gate payload ++ rest) → BeforeOrAfter front payload content
is_either front payload rest gate content stands small is_spelled is = record {
  front_stands = fore front (gate ∷ (behind_gate payload ++ rest)) content is;
  payloads_are = elim (cases_eq gate 165) [
    | inl open_gate ↦
        inr (payloads_opened front payload rest content stands small is_spelled (is ∙ ap (λ g. front ++ g ∷ (behind_gate payload ++ rest)) open_gate))
    | inr shut ↦ inl (payloads_closed front content stands (record { gate = gate; rest = behind_gate payload ++ rest; shut = shut; is = is }))
  ];
}

framed_more : (ps : List (List ℕ)) (payload : List ℕ) → framed_length (ps ++ payload ∷ []) ≡ framed_length ps + 5 + length payload
framed_more [] payload = omega arith
framed_more (p ∷ ps) payload = omega (arith, framed_more ps payload)

-- the front with one record more; again `size` stands for its four bytes
pub record Grown (front payload front' : List ℕ) : Type 0 where
  pub stands : IsFront front'
  pub more : before_gate front' ≡ before_gate front ++ payload ∷ []

front_grows : (front size payload : List ℕ) → IsFront front → length size ≡ 4 → ((x : List ℕ) → little_number 4 (size ++ x) ≡ length payload) → is_payload payload ≡ true → Grown front payload (front ++ 165 ∷ (size ++ payload))
front_grows front size payload stands four tells is_spelled =
    let more = size ++ payload in
    let each : (gate : ℕ) (rest : List ℕ) → payloads ((front ++ 165 ∷ more) ++ gate ∷ rest) ≡ (before_gate front ++ payload ∷ []) ++ payloads_from 0 (gate ∷ rest) = λ gate rest.
    ap payloads (append_assoc front (165 ∷ more) (gate ∷ rest)) ∙ stands.ends 165 (more ++ gate ∷ rest)
    ∙ ap (λ (l : List ℕ). before_gate front ++ payloads_from 0 (165 ∷ l)) (append_assoc size payload (gate ∷ rest))
    ∙ ap (λ l. before_gate front ++ l) (payloads_whole size payload gate rest four tells is_spelled) ∙ sym (append_assoc (before_gate front) (payload ∷ []) (payloads_from 0 (gate ∷ rest))) in
    let alone : before_gate (front ++ 165 ∷ more) ≡ before_gate front ++ payload ∷ [] =
    each 0 [] ∙ ap (λ l. (before_gate front ++ payload ∷ []) ++ l) (payloads_shut 0 [] (omega arith)) ∙ append-nil (before_gate front ++ payload ∷ []) in
    record {
      stands = record {
        long = omega (arith, stands.long, length-append front (165 ∷ more), length-append size payload, four, ap framed_length alone, framed_more (before_gate front) payload);
        ends = λ gate rest. each gate rest ∙ ap (λ l. l ++ payloads_from 0 (gate ∷ rest)) (sym alone);
      };
      more = alone;
    }

pub front_push : (front payload : List ℕ) → IsFront front → length payload < 2 ^ 32 → is_payload payload ≡ true → Grown front payload (front ++ 165 ∷ (little_bytes 4 (length payload) ++ payload))
front_push front payload stands small is_spelled =
    front_grows front (little_bytes 4 (length payload)) payload stands (length-bytes_low_first 0 4 (length payload)) (λ x. little_number-reads_back 4 (length payload) x (omega (arith, small))) is_spelled

-- the header is a front, with no payload before its gate
behind_header : (content : List ℕ) → 16 ≤ length content → (gate : ℕ) (rest : List ℕ) → payloads (take 16 content ++ gate ∷ rest) ≡ payloads_from 0 (gate ∷ rest)
behind_header content le gate rest =
    subst (λ n. payloads_from n (take 16 content ++ gate ∷ rest) ≡ payloads_from 0 (gate ∷ rest)) (length-take-le 16 content le) (payloads_past (take 16 content) (gate ∷ rest))

pub none_in_header : (content : List ℕ) → 16 ≤ length content → before_gate (take 16 content) ≡ []
none_in_header content le = behind_header content le 0 [] ∙ payloads_shut 0 [] (omega arith)

pub front_none : (content : List ℕ) → 16 ≤ length content → IsFront (take 16 content)
front_none content le =
    let alone = none_in_header content le in
    record {
      long = omega (arith, length-take-le 16 content le, ap framed_length alone);
      ends = λ gate rest. behind_header content le gate rest ∙ ap (λ l. l ++ payloads_from 0 (gate ∷ rest)) (sym alone);
    }

-- the payloads before a gate stand behind the header
pub payloads_behind_header : (end : ℕ) (seen : List ℕ) → 16 ≤ end → 16 ≤ length seen → before_gate (take end seen) ≡ payloads_from 0 (take (end - 16) (drop 16 seen) ++ 0 ∷ [])
payloads_behind_header end seen le long =
    let rest = take (end - 16) (drop 16 seen) in
    ap (λ (l : List ℕ). payloads_from 16 (l ++ 0 ∷ [])) (sym (take-append-drop 16 (take end seen)) ∙ (λ k. take-take 16 end seen le k ++ dropped k))
    ∙ ap (payloads_from 16) (append_assoc (take 16 seen) rest (0 ∷ []))
    ∙ subst (λ n. payloads_from n (take 16 seen ++ (rest ++ 0 ∷ [])) ≡ payloads_from 0 (rest ++ 0 ∷ [])) (length-take-le 16 seen long) (payloads_past (take 16 seen) (rest ++ 0 ∷ []))
  where
    dropped : drop 16 (take end seen) ≡ take (end - 16) (drop 16 seen)
    dropped = ap (λ n. drop 16 (take n seen)) (let e : end ≡ 16 + (end - 16) = omega (arith, le) in e) ∙ drop-take 16 (end - 16) seen

-- a front of a content, and the whole record that stands behind it
pub front_more : (content : List ℕ) (end : ℕ) → end < length content → get_or content end 0 ≡ 165 → IsFront (take end content) → is_whole (drop (end + 1) content) ≡ true → Grown (take end content) (payload_of (drop (end + 1) content)) (take (end + 5 + payload_length (drop (end + 1) content)) content)
front_more content end within is_open stands whole =
    let behind = drop (end + 1) content in
    let size = take 4 behind in
    let payload = payload_of behind in
    let fits : 4 + payload_length behind < length behind = ltb-true (4 + payload_length behind) (length behind) (and_parts (nat_lt (4 + payload_length behind) (length behind)) (is_payload payload) whole).0 in
    let four : length size ≡ 4 = length-take-le 4 behind (omega (arith, fits)) in
    let long : length payload ≡ payload_length behind = length-take-le (payload_length behind) (drop 4 behind) (omega (arith, fits, length-drop 4 behind)) in
    let tells : (x : List ℕ) → little_number 4 (size ++ x) ≡ length payload = λ x.
    little_from-append 4 size x (omega (arith, four)) ∙ sym (little_from-append 4 size (drop 4 behind) (omega (arith, four))) ∙ ap (little_number 4) (take-append-drop 4 behind) ∙ sym long in
    let grown = front_grows (take end content) size payload stands four tells (and_parts (nat_lt (4 + payload_length behind) (length behind)) (is_payload payload) whole).1 in
    let split : content ≡ take end content ++ 165 ∷ behind = sym (take-append-drop end content) ∙ ap (λ (l : List ℕ). take end content ++ l) (drop_more content end 0 within ∙ ap (λ g. g ∷ behind) is_open) in
    let back : behind ≡ (size ++ payload) ++ drop (payload_length behind) (drop 4 behind) =
    sym (take-append-drop 4 behind) ∙ ap (λ (l : List ℕ). size ++ l) (sym (take-append-drop (payload_length behind) (drop 4 behind))) ∙ sym (append_assoc size payload (drop (payload_length behind) (drop 4 behind))) in
    let front' = take end content ++ 165 ∷ (size ++ payload) in
    let all : content ≡ front' ++ drop (payload_length behind) (drop 4 behind) =
    split ∙ ap (λ (l : List ℕ). take end content ++ 165 ∷ l) back ∙ sym (append_assoc (take end content) (165 ∷ (size ++ payload)) (drop (payload_length behind) (drop 4 behind))) in
    let long' : length front' ≡ end + 5 + payload_length behind =
    omega (arith, length-append (take end content) (165 ∷ (size ++ payload)), length-append size payload, four, long, length-take-le end content (omega (arith, within))) in
    let taken : take (end + 5 + payload_length behind) content ≡ front' =
    ap (take (end + 5 + payload_length behind)) all ∙ take_at front' (drop (payload_length behind) (drop 4 behind)) (end + 5 + payload_length behind) long' in
    subst (Grown (take end content) payload) (sym taken) grown

-- where no whole record stands behind an open gate, the records end
pub front_last : (content : List ℕ) (end : ℕ) → end < length content → IsFront (take end content) → payloads_from 0 (drop end content) ≡ [] → payloads content ≡ before_gate (take end content)
front_last content end within stands ends =
    let gate = get_or content end 0 in
    let rest = drop (end + 1) content in
    let split : drop end content ≡ gate ∷ rest = drop_more content end 0 within in
    ap payloads (sym (take-append-drop end content) ∙ ap (λ (l : List ℕ). take end content ++ l) split) ∙ stands.ends gate rest
    ∙ ap (λ l. before_gate (take end content) ++ l) (ap (payloads_from 0) (sym split) ∙ ends) ∙ append-nil (before_gate (take end content))

pub none_at : (content : List ℕ) (end : ℕ) → end < length content → ((get_or content end 0 == 165) && is_whole (drop (end + 1) content)) ≡ false → payloads_from 0 (drop end content) ≡ []
none_at content end within no_record =
    ap (payloads_from 0) (drop_more content end 0 within)
    ∙ cond-false ((get_or content end 0 == 165) && is_whole (drop (end + 1) content)) (payload_of (drop (end + 1) content) ∷ payloads_from (4 + payload_length (drop (end + 1) content)) (drop (end + 1) content)) [] no_record

pub payloads_skip : (n : ℕ) (xs : List ℕ) → payloads_from n xs ≡ payloads_from 0 (drop n xs)
payloads_skip zero xs = refl
payloads_skip (suc n) [] = refl
payloads_skip (suc n) (x ∷ xs) = payloads_skip n xs

-- an open gate before a whole record gives its payload first
pub payloads_next : (content : List ℕ) (at : ℕ) (payload : List ℕ) → at < length content → get_or content at 0 ≡ 165 → is_whole (drop (at + 1) content) ≡ true → payload ≡ payload_of (drop (at + 1) content) → length payload ≡ payload_length (drop (at + 1) content)
    → payloads_from 0 (drop at content) ≡ payload ∷ payloads_from 0 (drop (at + 5 + length payload) content)
payloads_next content at payload within is_open whole is long =
    let behind = drop (at + 1) content in
    let rest : drop (4 + payload_length behind) behind ≡ drop (at + 5 + length payload) content =
    drop-drop (4 + payload_length behind) (at + 1) content ∙ ap (λ n. drop n content) (omega (arith, long)) in
    ap (payloads_from 0) (drop_more content at 0 within)
    ∙ cond-true ((get_or content at 0 == 165) && is_whole behind) (payload_of behind ∷ payloads_from (4 + payload_length behind) behind) [] (and_from (get_or content at 0 == 165) (is_whole behind) (eq-eqb (get_or content at 0) 165 is_open) whole)
    ∙ (λ k. sym is k ∷ payloads_skip (4 + payload_length behind) behind k)
    ∙ ap (λ (l : List ℕ). payload ∷ payloads_from 0 l) rest

pub record_stands : (content : List ℕ) (at : ℕ) (payload : List ℕ) → at < length content → get_or content at 0 ≡ 165 → IsPayloadBehind (drop (at + 1) content) payload → IsRecordAt content at payload
record_stands content at payload within is_open behind = record {
  within = omega (arith, behind.room, length-drop (at + 1) content);
  is_spelled = ap is_payload behind.is ∙ (and_parts (nat_lt (4 + payload_length (drop (at + 1) content)) (length (drop (at + 1) content))) (is_payload (payload_of (drop (at + 1) content))) behind.whole).1;
  follows = payloads_next content at payload within is_open behind.whole behind.is behind.long;
  front_grows = λ stands. subst (λ n. IsFront (take (at + 5 + n) content)) (sym behind.long) (front_more content at within is_open stands behind.whole).stands;
}
