-- What a stop leaves within a wipe.
use Rattle.std.proofs.Common.{◌≡◌, ◌≢◌, ◌⊎◌, inl, inr, ℕ, ◌+◌, ◌≤◌, ◌<◌, List, [], ◌∷◌, ◌++◌, length, take, drop, get_or, refl, sym, ◌∙◌, ap, subst, arith, append_assoc, take-append-drop}
use Rattle.std.proofs.lemmas.Bool.{cases_eq}
use Rattle.std.proofs.lemmas.List.{take_at, drop_at, drop_more, drop-drop, drop-take, take-take, length-take-le}
use Rattle.tier_device.specs.Media.{overwritten, Torn}
use Rattle.update_log.specs.Frames.{spelled_records, records, header}
use Rattle.update_log.specs.Stage.{IsShut, IsGateWritten, IsGateKept, IsNameWritten, IsUnwiped}
use Rattle.update_log.specs.WipeStops.{records_behind_gate, LeftInClosing, LeftInNaming, LeftInWipe}
use Rattle.update_log.proofs.Reading.{payloads_closed, front_none, none_in_header}
use Rattle.update_log.proofs.Writes.{torn_gate}

-- two contents that are torn from one are torn from each other
pub torn_both : {at n : ℕ} {d a b : List ℕ} → Torn at n d a → Torn at n d b → Torn at n a b
torn_both p q = record { before = q.before ∙ sym p.before; after = q.after ∙ sym p.after; same_length = q.same_length ∙ sym p.same_length }

pub torn_not : {at n : ℕ} (d : List ℕ) → Torn at n d d
torn_not d = record { before = refl; after = refl; same_length = refl }

-- the header, the first gate and what stands behind it
pub split_gate : (content : List ℕ) → 16 < length content → content ≡ header content ++ get_or content 16 0 ∷ drop 17 content
split_gate content lt = sym (take-append-drop 16 content) ∙ ap (λ (l : List ℕ). take 16 content ++ l) (drop_more content 16 0 lt)

-- a first gate of 0x00 is closed
pub zero_shut : (content : List ℕ) → 16 < length content → get_or content 16 0 ≡ 0 → IsShut (header content) content
zero_shut content lt zero' = record { gate = get_or content 16 0; rest = drop 17 content; shut = λ e. omega (arith, e, zero'); is = split_gate content lt }

-- behind a first gate that is closed no record counts
pub none_counts : (content : List ℕ) → 16 ≤ length content → IsShut (header content) content → records content ≡ []
none_counts content le shut = ap spelled_records (payloads_closed (header content) content (front_none content le) shut ∙ none_in_header content le)

-- the same header, and any byte at the first gate
pub closing_left : (content c : List ℕ) → 16 < length content → Torn 16 1 content c → LeftInClosing (header content) (records_behind_gate content) c
closing_left content c lt torn =
    let g = torn_gate (header content) 16 (length-take-le 16 content (omega (arith, lt))) (get_or content 16 0) (drop 17 content) content c (split_gate content lt) torn in
    record {
      header_is = torn.before;
      records_are = elim (cases_eq g.0 165) [
        | inl is_open ↦ inr (ap records (g.1 ∙ ap (λ x. header content ++ x ∷ drop 17 content) is_open))
        | inr shut ↦ inl (none_counts c (omega (arith, lt, torn.same_length)) (record {
          gate = g.0;
          rest = drop 17 content;
          shut = shut;
          is = g.1 ∙ ap (λ (h : List ℕ). h ++ g.0 ∷ drop 17 content) (sym torn.before);
        }))
      ];
    }

-- the first gate stays closed where all from it on stays
shut_stays : (content c : List ℕ) → 16 ≤ length content → IsShut (header content) content → drop 16 c ≡ drop 16 content → IsShut (header c) c
shut_stays content c le shut same =
    let back : drop 16 content ≡ shut.gate ∷ shut.rest =
    ap (drop 16) shut.is ∙ drop_at (header content) (shut.gate ∷ shut.rest) 16 (length-take-le 16 content le) in
    record {
      gate = shut.gate;
      rest = shut.rest;
      shut = shut.shut;
      is = sym (take-append-drop 16 c) ∙ ap (λ (l : List ℕ). take 16 c ++ l) (same ∙ back);
    }

-- any bytes in place of the generation
pub torn_name_shut : (content c : List ℕ) → 16 ≤ length content → IsShut (header content) content → Torn 0 8 content c → IsShut (header c) c
torn_name_shut content c le shut torn =
    shut_stays content c le shut (sym (drop-drop 8 8 c) ∙ ap (drop 8) torn.after ∙ drop-drop 8 8 content)

pub naming_left : (content c : List ℕ) → 16 ≤ length content → IsShut (header content) content → Torn 0 8 content c → LeftInNaming (header content) c
naming_left content c le shut torn = record {
  none = none_counts c (omega (arith, le, torn.same_length)) (torn_name_shut content c le shut torn);
  rest_is = drop-take 8 8 c ∙ ap (take 8) torn.after ∙ sym (drop-take 8 8 content);
}

-- ---- what holds of a region after each call

-- the first gate is written closed
pub gate_written : (seen seen' : List ℕ) (left' : List ℕ → Type 0) → 16 < length seen → Torn 16 1 seen seen' → ((c : List ℕ) → left' c → Torn 16 1 seen c) → seen' ≡ overwritten seen 16 (0 ∷ []) → IsGateWritten (header seen') seen' left'
gate_written seen seen' left' lt here torn is = record {
  is_header = refl;
  shut = record {
    gate = 0;
    rest = drop 17 seen;
    shut = λ e. omega (arith, e);
    is = is ∙ append_assoc (take 16 seen) (0 ∷ []) (drop 17 seen) ∙ ap (λ (h : List ℕ). h ++ 0 ∷ drop 17 seen) (sym here.before);
  };
  torn = λ c l. torn_both here (torn c l);
}

-- it is kept so
pub gate_kept : (seen seen' : List ℕ) (left' : List ℕ → Type 0) → IsShut (header seen) seen → seen' ≡ seen → ((c : List ℕ) → left' c → c ≡ seen) → IsGateKept (header seen') seen' left'
gate_kept seen seen' left' shut same only = record {
  is_header = refl;
  shut = subst (λ (s : List ℕ). IsShut (header s) s) (sym same) shut;
  rest = λ c l. only c l ∙ sym same;
}

-- the generation is written
pub name_written : (seen seen' : List ℕ) (left' : List ℕ → Type 0) → 16 ≤ length seen → IsShut (header seen) seen → Torn 0 8 seen seen' → ((c : List ℕ) → left' c → Torn 0 8 seen c) → IsNameWritten (header seen') seen' left'
name_written seen seen' left' le shut here torn = record { is_header = refl; shut = torn_name_shut seen seen' le shut here; torn = λ c l. torn_both here (torn c l) }

-- a call that fails while the first gate is being closed
pub unwiped_gate : (seen seen' : List ℕ) (left' : List ℕ → Type 0) → 16 < length seen → Torn 16 1 seen seen' → ((c : List ℕ) → left' c → Torn 16 1 seen c) → IsUnwiped (header seen') seen' left'
unwiped_gate seen seen' left' lt here torn =
    record { is_header = refl; either = λ c l. inl (closing_left seen' c (omega (arith, lt, here.same_length)) (torn_both here (torn c l))) }

-- and one while the generation is being written
pub unwiped_name : (seen seen' : List ℕ) (left' : List ℕ → Type 0) → 16 ≤ length seen → IsShut (header seen) seen → Torn 0 8 seen seen' → ((c : List ℕ) → left' c → Torn 0 8 seen c) → IsUnwiped (header seen') seen' left'
unwiped_name seen seen' left' le shut here torn =
    record { is_header = refl; either = λ c l. inr (naming_left seen' c (omega (arith, le, here.same_length)) (torn_name_shut seen seen' le shut here) (torn_both here (torn c l))) }

-- the header with another generation
first_ones : (n m : ℕ) (xs ys : List ℕ) → length xs ≡ n → take (n + m) (xs ++ ys) ≡ xs ++ take m ys
first_ones n m xs ys long =
    sym (take-append-drop n (take (n + m) (xs ++ ys)))
    ∙ (λ k. before k ++ after k)
  where
    before : take n (take (n + m) (xs ++ ys)) ≡ xs
    before = take-take n (n + m) (xs ++ ys) (omega arith) ∙ take_at xs ys n long

    after : drop n (take (n + m) (xs ++ ys)) ≡ take m ys
    after = drop-take n m (xs ++ ys) ∙ ap (take m) (drop_at xs ys n long)

pub header_named : (name seen : List ℕ) → length name ≡ 8 → header (overwritten seen 0 name) ≡ name ++ drop 8 (header seen)
header_named name seen eight =
    ap (λ n. take 16 (name ++ drop n seen)) (let e : 0 + length name ≡ 8 = omega (arith, eight) in e) ∙ first_ones 8 8 name (drop 8 seen) eight ∙ ap (λ (l : List ℕ). name ++ l) (sym (drop-take 8 8 seen))

-- ---- what callers see

-- a region that is wiped, between two calls
pub wiping_now : (seen c : List ℕ) → 16 < length seen → (Torn 16 1 seen c) ⊎ (IsShut (header seen) seen × Torn 0 8 seen c) → LeftInWipe (header seen) (records_behind_gate seen) c
wiping_now seen c lt (inl torn) = inl (closing_left seen c lt torn)
wiping_now seen c lt (inr (shut, torn)) = inr (naming_left seen c (omega (arith, lt)) shut torn)

-- where a record counts the first gate is open, and all are behind it
pub behind_open : (seen : List ℕ) → 16 < length seen → records seen ≢ [] → records_behind_gate seen ≡ records seen
behind_open seen lt some = elim (cases_eq (get_or seen 16 0) 165) [
  | inl is_open ↦ ap records (sym (split_gate seen lt ∙ ap (λ g. header seen ++ g ∷ drop 17 seen) is_open))
  | inr shut ↦ absurd (some (none_counts seen (omega (arith, lt)) (record { gate = get_or seen 16 0; rest = drop 17 seen; shut = shut; is = split_gate seen lt })))
]
