-- Reading and skipping effects one after the other, as a loop does.
use Rattle.std.proofs.Common.{◌≡◌, ℕ, suc, ◌-◌, ◌+◌, ◌≤◌, ◌<◌, List, [], ◌∷◌, ◌++◌, Option, Some, None, refl, sym, ap, ◌∙◌, append_assoc, arith}
use Rattle.std.specs.Prelude.{option_map}
use Rattle.std.proofs.lemmas.List.{append-nil}
use Rattle.file_graph.specs.declared.effect.Effect.{Effect}
use Rattle.log_record.specs.declared.format.RecordError.{RecordError}
use Rattle.log_record.specs.declared.format.RecordError.TheVariants as errors
use Rattle.log_record.specs.Grammar.{◌>>=◌, effect_at, effects_at}
use Rattle.log_record.specs.Outcome.{Fails}

abbrev pub Read : Type 0
Read = Option (List Effect × List ℕ)

-- what was read before, and what is still read
abbrev pub with_front : List Effect → Read → Read
with_front front read = read >>= λ x. Some (front ++ x.0, x.1)

regroup : (front : List Effect) (e : Effect) (read : Read) → with_front front (read >>= λ x. Some (e ∷ x.0, x.1)) ≡ with_front (front ++ e ∷ []) read
regroup front e (Some x) = ap (λ (es : List Effect). Some (es, x.1)) (simp append_assoc)
regroup front e None = refl

pub goes_on : (front : List Effect) (count i : ℕ) (bytes : List ℕ) (e : Effect) (after : List ℕ) (total : Read) → i < count → effect_at bytes ≡ Some (e, after)
    → with_front front (effects_at (count - i) bytes) ≡ total → with_front (front ++ e ∷ []) (effects_at (count - (i + 1)) after) ≡ total
unfolding effects_at
goes_on front count i bytes e after total lt h so_far =
    let k : count - i ≡ suc (count - (i + 1)) = omega arith in
    let one : with_front front (effects_at (count - i) bytes) ≡ with_front (front ++ e ∷ []) (effects_at (count - (i + 1)) after) = rw (k, h) (regroup front e (effects_at (count - (i + 1)) after)) in
    sym one ∙ so_far

pub ends : (f : RecordError) (front : List Effect) (count i : ℕ) (bytes : List ℕ) (total : Read) → i < count → Fails f (effect_at bytes)
    → with_front front (effects_at (count - i) bytes) ≡ total → Fails f total
unfolding effects_at
ends errors.Memory front count i bytes total lt h so_far = tt
ends errors.NoRecord front count i bytes total lt h so_far =
    let k : count - i ≡ suc (count - (i + 1)) = omega arith in
    let one : with_front front (effects_at (count - i) bytes) ≡ None = rw (k, h) refl in
    sym so_far ∙ one

pub is_done : (front : List Effect) (count i : ℕ) (bytes : List ℕ) (total : Read) → count ≤ i → with_front front (effects_at (count - i) bytes) ≡ total → total ≡ Some (front, bytes)
unfolding effects_at
is_done front count i bytes total le so_far =
    let k : count - i ≡ 0 = omega arith in
    let one : with_front front (effects_at (count - i) bytes) ≡ Some (front, bytes) = rw k (ap (λ (es : List Effect). Some (es, bytes)) (append-nil front)) in
    sym so_far ∙ one

-- ---- where only what is behind counts

abbrev pub behind : {A : Type 0} → Option (A × List ℕ) → Option (List ℕ)
behind read = option_map (λ x. x.1) read

behind_first : (e : Effect) (read : Read) → behind (read >>= λ x. Some (e ∷ x.0, x.1)) ≡ behind read
behind_first e (Some x) = refl
behind_first e None = refl

one_behind : (n : ℕ) (first : Option (Effect × List ℕ)) (after : List ℕ) → behind first ≡ Some after → behind (first >>= λ x. effects_at n x.1 >>= λ y. Some (x.0 ∷ y.0, y.1)) ≡ behind (effects_at n after)
one_behind n (Some x) after e = behind_first x.0 (effects_at n x.1) ∙ ap (λ (t : List ℕ). behind (effects_at n t)) cc
one_behind n None after e = absurd cc

none_behind : (n : ℕ) (first : Option (Effect × List ℕ)) → behind first ≡ None → behind (first >>= λ x. effects_at n x.1 >>= λ y. Some (x.0 ∷ y.0, y.1)) ≡ None
none_behind n (Some x) e = absurd cc
none_behind n None e = refl

pub skips_on : (count i : ℕ) (bytes after : List ℕ) (total : Option (List ℕ)) → i < count → behind (effect_at bytes) ≡ Some after → behind (effects_at (count - i) bytes) ≡ total → behind (effects_at (count - (i + 1)) after) ≡ total
unfolding effects_at
skips_on count i bytes after total lt h so_far =
    let k : count - i ≡ suc (count - (i + 1)) = omega arith in
    let one : behind (effects_at (count - i) bytes) ≡ behind (effects_at (count - (i + 1)) after) = rw k (one_behind (count - (i + 1)) (effect_at bytes) after h) in
    sym one ∙ so_far

pub skip_ends : (count i : ℕ) (bytes : List ℕ) (total : Option (List ℕ)) → i < count → behind (effect_at bytes) ≡ None → behind (effects_at (count - i) bytes) ≡ total → total ≡ None
unfolding effects_at
skip_ends count i bytes total lt h so_far =
    let k : count - i ≡ suc (count - (i + 1)) = omega arith in
    let one : behind (effects_at (count - i) bytes) ≡ None = rw k (none_behind (count - (i + 1)) (effect_at bytes) h) in
    sym so_far ∙ one

pub skip_done : (count i : ℕ) (bytes : List ℕ) (total : Option (List ℕ)) → count ≤ i → behind (effects_at (count - i) bytes) ≡ total → total ≡ Some bytes
unfolding effects_at
skip_done count i bytes total le so_far =
    let k : count - i ≡ 0 = omega arith in
    let one : behind (effects_at (count - i) bytes) ≡ Some bytes = rw k refl in
    sym so_far ∙ one
