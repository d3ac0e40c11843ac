-- What is shown is one of the contents that a stop may leave, and a tier keeps its length.
use Rattle.std.specs.Prelude.{◌≡◌, ℕ, ◌+◌, ◌≤◌, ◌++◌, List, [], ◌∷◌, length, take, drop, true, false, cond, nat_le, refl}
use Rattle.std.specs.Bool.{MatchBool}
use Rattle.std.proofs.Common.{sym, ◌∙◌, ap, subst, inl, inr, arith, length-append, append_assoc}
use Rattle.std.proofs.lemmas.List.{take_at, drop_at, length-take-le, length-drop}
use Rattle.std.proofs.lemmas.Bool.{cases_Bool, and_parts, leb-true, MatchBool-at_true, MatchBool-at_false}
use Rattle.tier_device.specs.declared.media.Tier.{Tier}
use Rattle.tier_device.specs.DeviceCall.{DeviceCall, Write, Fence}
use Rattle.tier_device.specs.Media.{overwritten, Torn}
use Rattle.tier_device.specs.Record.{same_tier, hits, call_content, Leaves, replay_content, LeftAfter}

pub length-overwritten : (s : List ℕ) (at : ℕ) (bytes : List ℕ) → at + length bytes ≤ length s → length (overwritten s at bytes) ≡ length s
length-overwritten s at bytes le =
    omega (arith, length-append (take at s ++ bytes) (drop (at + length bytes) s), length-append (take at s) bytes, length-take-le at s (omega arith), length-drop (at + length bytes) s)

-- a write that is done is one that is torn
pub torn_overwritten : (s : List ℕ) (at : ℕ) (bytes : List ℕ) → at + length bytes ≤ length s → Torn at (length bytes) s (overwritten s at bytes)
torn_overwritten s at bytes le =
    let long : length (take at s) ≡ at = length-take-le at s (omega arith) in
    record {
      before = ap (take at) (append_assoc (take at s) bytes (drop (at + length bytes) s)) ∙ take_at (take at s) (bytes ++ drop (at + length bytes) s) at long;
      after = drop_at (take at s ++ bytes) (drop (at + length bytes) s) (at + length bytes) (omega (arith, long, length-append (take at s) bytes));
      same_length = length-overwritten s at bytes le;
    }

pub hit_fits : (tier : Tier) (seen : List ℕ) (t : Tier) (at : ℕ) (bytes : List ℕ) → hits tier seen t at bytes ≡ true → at + length bytes ≤ length seen
hit_fits tier seen t at bytes e = leb-true (at + length bytes) (length seen) (and_parts (same_tier t tier) (nat_le (at + length bytes) (length seen)) e).1

pub length-shown : (tier : Tier) (seen : List ℕ) (x : DeviceCall) → length (call_content tier seen x) ≡ length seen
length-shown tier seen (Write t at bytes) = elim (cases_Bool (hits tier seen t at bytes)) [
  | inl is ↦ subst (λ b. length (cond b (overwritten seen at bytes) seen) ≡ length seen) (sym is) (length-overwritten seen at bytes (hit_fits tier seen t at bytes is))
  | inr is ↦ subst (λ b. length (cond b (overwritten seen at bytes) seen) ≡ length seen) (sym is) refl
]
length-shown tier seen (Fence t) = refl

shown_left : (tier : Tier) (seen : List ℕ) (Before : List ℕ → Type 0) (x : DeviceCall) → Before seen → Leaves tier seen Before x (call_content tier seen x)
shown_left tier seen Before (Write t at bytes) now = elim (cases_Bool (hits tier seen t at bytes)) [
  | inl is ↦ subst (λ b. MatchBool b ((d : List ℕ) × Before d × Torn at (length bytes) d (cond b (overwritten seen at bytes) seen)) (Before (cond b (overwritten seen at bytes) seen)))
      (sym is) (seen, now, torn_overwritten seen at bytes (hit_fits tier seen t at bytes is))
  | inr is ↦ subst (λ b. MatchBool b ((d : List ℕ) × Before d × Torn at (length bytes) d (cond b (overwritten seen at bytes) seen)) (Before (cond b (overwritten seen at bytes) seen)))
      (sym is) now
]
shown_left tier seen Before (Fence t) now = elim (same_tier t tier) as (λ b. MatchBool b (seen ≡ seen) (Before seen)) [ true ↦ refl | false ↦ now ]

pub replayed_left : (tier : Tier) (seen : List ℕ) (Before : List ℕ → Type 0) (xs : List DeviceCall) → Before seen → LeftAfter tier seen Before xs (replay_content tier seen xs)
replayed_left tier seen Before [] now = now
replayed_left tier seen Before (x ∷ xs) now = replayed_left tier (call_content tier seen x) (Leaves tier seen Before x) xs (shown_left tier seen Before x now)

pub length-replayed : (tier : Tier) (seen : List ℕ) (xs : List DeviceCall) → length (replay_content tier seen xs) ≡ length seen
length-replayed tier seen [] = refl
length-replayed tier seen (x ∷ xs) = length-replayed tier (call_content tier seen x) xs ∙ length-shown tier seen x

leaves_length : (tier : Tier) (seen : List ℕ) (Before : List ℕ → Type 0) (x : DeviceCall) → ((c : List ℕ) → Before c → length c ≡ length seen) → (c : List ℕ) → Leaves tier seen Before x c → length c ≡ length seen
leaves_length tier seen Before (Write t at bytes) long c left = elim (cases_Bool (hits tier seen t at bytes)) [
  | inl is ↦
      let torn = MatchBool-at_true ((d : List ℕ) × Before d × Torn at (length bytes) d c) (Before c) is left in
      torn.2.same_length ∙ long torn.0 torn.1
  | inr is ↦ long c (MatchBool-at_false ((d : List ℕ) × Before d × Torn at (length bytes) d c) (Before c) is left)
]
leaves_length tier seen Before (Fence t) long c left = elim (cases_Bool (same_tier t tier)) [
  | inl is ↦ ap length (MatchBool-at_true (c ≡ seen) (Before c) is left)
  | inr is ↦ long c (MatchBool-at_false (c ≡ seen) (Before c) is left)
]

pub left_length : (tier : Tier) (seen : List ℕ) (Before : List ℕ → Type 0) (xs : List DeviceCall) → ((c : List ℕ) → Before c → length c ≡ length seen) → (c : List ℕ) → LeftAfter tier seen Before xs c → length c ≡ length seen
left_length tier seen Before [] long c left = long c left
left_length tier seen Before (x ∷ xs) long c left =
    left_length tier (call_content tier seen x) (Leaves tier seen Before x) xs (λ d l. leaves_length tier seen Before x long d l ∙ sym (length-shown tier seen x)) c left ∙ length-shown tier seen x
