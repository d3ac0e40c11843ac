-- Which inodes effects and records touch, read one after the other.
use Rattle.std.proofs.Common.{◌≡◌, ℕ, suc, ◌-◌, ◌+◌, ◌≤◌, ◌<◌, Bool, true, false, cond, eqb, List, [], ◌∷◌, ◌++◌, length, Option, Some, None, refl, sym, ap, ◌∙◌, append_assoc, arith}
use Rattle.std.specs.Prelude.{option_map}
use Rattle.std.proofs.lemmas.List.{append-nil}
use Rattle.file_graph.specs.Graph.{subjects, touches}
use Rattle.file_graph.specs.declared.effect.Effect.{Effect}
use Rattle.log_record.specs.declared.format.Record.{Record}
use Rattle.log_record.specs.Grammar.{◌>>=◌, effect_at, effects_at, record_at, record_of}
use Rattle.log_record.specs.Touches.{Found, found_in_effect, found_in_effects, found_in_record, inodes_of}

-- those that were found before, and those that are still found
abbrev pub with_front : List ℕ → Found → Found
with_front front read = option_map (λ x. (front ++ x.0, x.1)) read

first_one : (front : List ℕ) (e : Effect) (read : Option (List Effect × List ℕ)) → with_front front (found_in_effects (read >>= λ x. Some (e ∷ x.0, x.1))) ≡ with_front (front ++ subjects e) (found_in_effects read)
first_one front e (Some x) = ap (λ (is : List ℕ). Some (is, x.1)) (sym (append_assoc front (subjects e) (touches x.0)))
first_one front e None = refl

one_found : (front : List ℕ) (n : ℕ) (first : Option (Effect × List ℕ)) (is after : List ℕ) → found_in_effect first ≡ Some (is, after)
    → with_front front (found_in_effects (first >>= λ x. effects_at n x.1 >>= λ y. Some (x.0 ∷ y.0, y.1))) ≡ with_front (front ++ is) (found_in_effects (effects_at n after))
one_found front n (Some x) is after e =
    let here : (subjects x.0, x.1) ≡ (is, after) = cc in
    first_one front x.0 (effects_at n x.1) ∙ ap (λ (p : List ℕ × List ℕ). with_front (front ++ p.0) (found_in_effects (effects_at n p.1))) here
one_found front n None is after e = absurd cc

none_found : (front : List ℕ) (n : ℕ) (first : Option (Effect × List ℕ)) → found_in_effect first ≡ None → with_front front (found_in_effects (first >>= λ x. effects_at n x.1 >>= λ y. Some (x.0 ∷ y.0, y.1))) ≡ None
none_found front n (Some x) e = absurd cc
none_found front n None e = refl

pub found_on : (front : List ℕ) (count i : ℕ) (bytes is after : List ℕ) (total : Found) → i < count → found_in_effect (effect_at bytes) ≡ Some (is, after)
    → with_front front (found_in_effects (effects_at (count - i) bytes)) ≡ total → with_front (front ++ is) (found_in_effects (effects_at (count - (i + 1)) after)) ≡ total
unfolding effects_at
found_on front count i bytes is after total lt h so_far =
    let k : count - i ≡ suc (count - (i + 1)) = omega arith in
    let one : with_front front (found_in_effects (effects_at (count - i) bytes)) ≡ with_front (front ++ is) (found_in_effects (effects_at (count - (i + 1)) after)) = rw k (one_found front (count - (i + 1)) (effect_at bytes) is after h) in
    sym one ∙ so_far

pub found_ends : (front : List ℕ) (count i : ℕ) (bytes : List ℕ) (total : Found) → i < count → found_in_effect (effect_at bytes) ≡ None → with_front front (found_in_effects (effects_at (count - i) bytes)) ≡ total → total ≡ None
unfolding effects_at
found_ends front count i bytes total lt h so_far =
    let k : count - i ≡ suc (count - (i + 1)) = omega arith in
    let one : with_front front (found_in_effects (effects_at (count - i) bytes)) ≡ None = rw k (none_found front (count - (i + 1)) (effect_at bytes) h) in
    sym so_far ∙ one

pub found_all : (front : List ℕ) (count i : ℕ) (bytes : List ℕ) (total : Found) → count ≤ i → with_front front (found_in_effects (effects_at (count - i) bytes)) ≡ total → total ≡ Some (front, bytes)
unfolding effects_at
found_all front count i bytes total le so_far =
    let k : count - i ≡ 0 = omega arith in
    let one : with_front front (found_in_effects (effects_at (count - i) bytes)) ≡ Some (front, bytes) = rw k (ap (λ (is : List ℕ). Some (is, bytes)) (append-nil front)) in
    sym so_far ∙ one

pub first_front : (read : Found) → with_front [] read ≡ read
first_front (Some x) = refl
first_front None = refl

-- ---- a whole record

whole_or_none : (read : Option (Record × List ℕ)) (is rest : List ℕ) → found_in_record read ≡ Some (is, rest)
    → option_map inodes_of (read >>= λ r. cond (eqb (length r.1) 0) (Some r.0) None) ≡ cond (eqb (length rest) 0) (Some is) None
whole_or_none (Some x) is rest e =
    let here : (inodes_of x.0, x.1) ≡ (is, rest) = cc in
    by_end (eqb (length x.1) 0) x.0 ∙ ap (λ (p : List ℕ × List ℕ). cond (eqb (length p.1) 0) (Some p.0) None) here
  where
    by_end : (b : Bool) (r : Record) → option_map inodes_of (cond b (Some r) None) ≡ cond b (Some (inodes_of r)) None
    by_end true r = refl
    by_end false r = refl
whole_or_none None is rest e = absurd cc

none_at_all : (read : Option (Record × List ℕ)) → found_in_record read ≡ None → option_map inodes_of (read >>= λ r. cond (eqb (length r.1) 0) (Some r.0) None) ≡ None
none_at_all (Some x) e = absurd cc
none_at_all None e = refl

pub whole_is : (bytes is rest : List ℕ) → found_in_record (record_at bytes) ≡ Some (is, rest) → eqb (length rest) 0 ≡ true → option_map inodes_of (record_of bytes) ≡ Some is
unfolding record_of
whole_is bytes is rest e nothing = whole_or_none (record_at bytes) is rest e ∙ ap (λ b. cond b (Some is) None) nothing

pub none_before_end : (bytes is rest : List ℕ) → found_in_record (record_at bytes) ≡ Some (is, rest) → eqb (length rest) 0 ≡ false → option_map inodes_of (record_of bytes) ≡ None
unfolding record_of
none_before_end bytes is rest e more = whole_or_none (record_at bytes) is rest e ∙ ap (λ b. cond b (Some is) None) more

pub none_at_front : (bytes : List ℕ) → found_in_record (record_at bytes) ≡ None → option_map inodes_of (record_of bytes) ≡ None
unfolding record_of
none_at_front bytes e = none_at_all (record_at bytes) e
