-- Bytes that are read as a record have the length of its spelling, whatever numbers they are.
use Rattle.std.proofs.Common.{◌≡◌, ℕ, zero, suc, ◌+◌, ◌≤◌, leb, eqb, cond, ◌&&◌, List, [], ◌∷◌, ◌++◌, length, take, drop, Option, Some, None, ap, subst, arith, inl, inr, length-append, length-drop}
use Rattle.std.specs.List.{flat_map}
use Rattle.std.proofs.lemmas.Bool.{leb-true, eqb-true}
use Rattle.std.proofs.lemmas.List.{length-take-le}
use Rattle.std.proofs.lemmas.List.Concat.{flat_map-cons}
use Rattle.byteorder.specs.Endian.{little_number}
use Rattle.file_graph.specs.declared.effect.Kind.{Kind}
use Rattle.file_graph.specs.declared.effect.Kind.TheVariants as kind
use Rattle.file_graph.specs.declared.effect.Effect.{Effect}
use Rattle.file_graph.specs.declared.effect.Effect.TheVariants as effect
use Rattle.log_record.specs.declared.format.Record.{Record}
use Rattle.log_record.specs.declared.format.TheConstants.{MAKE, ENTER, LEAVE, NAMES, SIZE, BYTES, DROP, SWAP}
use Rattle.log_record.specs.Grammar.{◌>>=◌, fits, u32, u64, effect_bytes, record_bytes, byte_at, run_at, name_at, number_at, make_at, enter_at, leave_at, names_at, size_at, bytes_at, dropped_at, swap_at, fields_at, effect_at, effects_at, header_at, record_at, record_of}
use Rattle.file_graph.specs.Kinds.{kind_byte, kind_field}
use Rattle.log_record.proofs.Fields.{bind_some, chosen, test_some, some_is}
use Rattle.log_record.proofs.Lengths.{length-u32, length-u64}

-- ---- fields

number_long : (n : ℕ) (bytes : List ℕ) (x : ℕ × List ℕ) → number_at n bytes ≡ Some x → length bytes ≡ n + length x.1
number_long n bytes x e =
    let g = test_some (leb n (length bytes)) (little_number n (take n bytes), drop n bytes) x e in
    let within : n ≤ length bytes = leb-true _ _ g.0 in
    omega (arith, length-drop n bytes, ap (λ (y : ℕ × List ℕ). length y.1) g.1)

byte_long : (bytes : List ℕ) (x : ℕ × List ℕ) → byte_at bytes ≡ Some x → length bytes ≡ 1 + length x.1
byte_long [] x e = absurd cc
byte_long (b ∷ rest) x e = omega (arith, ap (λ (y : ℕ × List ℕ). length y.1) (some_is (b, rest) x e))

kind_long : (bytes : List ℕ) (x : Kind × List ℕ) → kind_field bytes ≡ Some x → length bytes ≡ 1 + length x.1
kind_long [] x e = absurd cc
kind_long (b ∷ rest) x e =
    let second : Option (Kind × List ℕ) = cond (eqb b 2) (Some (kind.Directory, rest)) None in
    elim (chosen (eqb b 1) (Some (kind.File, rest)) second (Some x) e) [
      | inl w ↦ omega (arith, ap (λ (y : Kind × List ℕ). length y.1) (some_is (kind.File, rest) x w.1))
      | inr w ↦ omega (arith, ap (λ (y : Kind × List ℕ). length y.1) (test_some (eqb b 2) (kind.Directory, rest) x w.1).1)
    ]

run_long : (n : ℕ) (bytes : List ℕ) (x : List ℕ × List ℕ) → run_at n bytes ≡ Some x → (length bytes ≡ n + length x.1) × (length x.0 ≡ n)
run_long n bytes x e =
    let g = test_some (leb n (length bytes)) (take n bytes, drop n bytes) x e in
    let within : n ≤ length bytes = leb-true _ _ g.0 in
    subst (λ (y : List ℕ × List ℕ). (length bytes ≡ n + length y.1) × (length y.0 ≡ n)) g.1 (omega (arith, length-drop n bytes), length-take-le n bytes within)

name_long : (bytes : List ℕ) (x : List ℕ × List ℕ) → name_at bytes ≡ Some x → length bytes ≡ 1 + length x.0 + length x.1
name_long bytes x e =
    let a = bind_some (byte_at bytes) (λ n. run_at n.0 n.1) x e in
    let run = run_long a.0.0 a.0.1 x a.2 in
    omega (arith, byte_long bytes a.0 a.1, run.0, run.1)

-- ---- effects: the tag is one byte, and the fields are the others

abbrev Long : (List ℕ) → Effect × List ℕ → Type 0
Long bytes x = 1 + length bytes ≡ length (effect_bytes x.0) + length x.1

make_long : (bytes : List ℕ) (x : Effect × List ℕ) → make_at bytes ≡ Some x → Long bytes x
unfolding make_at
make_long bytes x e =
    let a = bind_some (number_at 4 bytes) (λ i. kind_field i.1 >>= λ k. Some (effect.Make i.0 k.0, k.1)) x e in
    let b = bind_some (kind_field a.0.1) (λ k. Some (effect.Make a.0.0 k.0, k.1)) x a.2 in
    let made : Effect × List ℕ = (effect.Make a.0.0 b.0.0, b.0.1) in
    subst (Long bytes) (some_is made x b.2)
    (omega (arith, number_long 4 bytes a.0 a.1, kind_long a.0.1 b.0 b.1, length-append (u32 a.0.0) (kind_byte b.0.0 ∷ []), length-u32 a.0.0))

enter_long : (bytes : List ℕ) (x : Effect × List ℕ) → enter_at bytes ≡ Some x → Long bytes x
unfolding enter_at
enter_long bytes x e =
    let a = bind_some (number_at 4 bytes) (λ d. number_at 4 d.1 >>= λ i. kind_field i.1 >>= λ k. byte_at k.1 >>= λ n. run_at n.0 n.1 >>= λ name. Some (effect.Enter d.0 i.0 k.0 name.0, name.1)) x e in
    let b = bind_some (number_at 4 a.0.1) (λ i. kind_field i.1 >>= λ k. byte_at k.1 >>= λ n. run_at n.0 n.1 >>= λ name. Some (effect.Enter a.0.0 i.0 k.0 name.0, name.1)) x a.2 in
    let c = bind_some (kind_field b.0.1) (λ k. byte_at k.1 >>= λ n. run_at n.0 n.1 >>= λ name. Some (effect.Enter a.0.0 b.0.0 k.0 name.0, name.1)) x b.2 in
    let d = bind_some (byte_at c.0.1) (λ n. run_at n.0 n.1 >>= λ name. Some (effect.Enter a.0.0 b.0.0 c.0.0 name.0, name.1)) x c.2 in
    let f = bind_some (run_at d.0.0 d.0.1) (λ name. Some (effect.Enter a.0.0 b.0.0 c.0.0 name.0, name.1)) x d.2 in
    let name = f.0.0 in
    let tail : List ℕ = kind_byte c.0.0 ∷ length name ∷ name in
    let run = run_long d.0.0 d.0.1 f.0 f.1 in
    let made : Effect × List ℕ = (effect.Enter a.0.0 b.0.0 c.0.0 name, f.0.1) in
    subst (Long bytes) (some_is made x f.2)
    (omega (arith, number_long 4 bytes a.0 a.1, number_long 4 a.0.1 b.0 b.1, kind_long b.0.1 c.0 c.1, byte_long c.0.1 d.0 d.1, run.0, run.1, length-append (u32 a.0.0) (u32 b.0.0 ++ tail), length-append (u32 b.0.0) tail, length-u32 a.0.0, length-u32 b.0.0))

leave_long : (bytes : List ℕ) (x : Effect × List ℕ) → leave_at bytes ≡ Some x → Long bytes x
unfolding leave_at
leave_long bytes x e =
    let a = bind_some (number_at 4 bytes) (λ d. byte_at d.1 >>= λ n. run_at n.0 n.1 >>= λ name. Some (effect.Leave d.0 name.0, name.1)) x e in
    let b = bind_some (byte_at a.0.1) (λ n. run_at n.0 n.1 >>= λ name. Some (effect.Leave a.0.0 name.0, name.1)) x a.2 in
    let c = bind_some (run_at b.0.0 b.0.1) (λ name. Some (effect.Leave a.0.0 name.0, name.1)) x b.2 in
    let name = c.0.0 in
    let run = run_long b.0.0 b.0.1 c.0 c.1 in
    let made : Effect × List ℕ = (effect.Leave a.0.0 name, c.0.1) in
    subst (Long bytes) (some_is made x c.2)
    (omega (arith, number_long 4 bytes a.0 a.1, byte_long a.0.1 b.0 b.1, run.0, run.1, length-append (u32 a.0.0) (length name ∷ name), length-u32 a.0.0))

names_long : (bytes : List ℕ) (x : Effect × List ℕ) → names_at bytes ≡ Some x → Long bytes x
unfolding names_at
names_long bytes x e =
    let a = bind_some (number_at 4 bytes) (λ i. number_at 4 i.1 >>= λ n. Some (effect.Names i.0 n.0, n.1)) x e in
    let b = bind_some (number_at 4 a.0.1) (λ n. Some (effect.Names a.0.0 n.0, n.1)) x a.2 in
    let made : Effect × List ℕ = (effect.Names a.0.0 b.0.0, b.0.1) in
    subst (Long bytes) (some_is made x b.2)
    (omega (arith, number_long 4 bytes a.0 a.1, number_long 4 a.0.1 b.0 b.1, length-append (u32 a.0.0) (u32 b.0.0), length-u32 a.0.0, length-u32 b.0.0))

size_long : (bytes : List ℕ) (x : Effect × List ℕ) → size_at bytes ≡ Some x → Long bytes x
unfolding size_at
size_long bytes x e =
    let a = bind_some (number_at 4 bytes) (λ i. number_at 8 i.1 >>= λ size. Some (effect.Size i.0 size.0, size.1)) x e in
    let b = bind_some (number_at 8 a.0.1) (λ size. Some (effect.Size a.0.0 size.0, size.1)) x a.2 in
    let made : Effect × List ℕ = (effect.Size a.0.0 b.0.0, b.0.1) in
    subst (Long bytes) (some_is made x b.2)
    (omega (arith, number_long 4 bytes a.0 a.1, number_long 8 a.0.1 b.0 b.1, length-append (u32 a.0.0) (u64 b.0.0), length-u32 a.0.0, length-u64 b.0.0))

bytes_long : (bytes : List ℕ) (x : Effect × List ℕ) → bytes_at bytes ≡ Some x → Long bytes x
unfolding bytes_at
bytes_long bytes x e =
    let a = bind_some (number_at 4 bytes) (λ i. number_at 8 i.1 >>= λ at. number_at 4 at.1 >>= λ n. run_at n.0 n.1 >>= λ new. Some (effect.Bytes i.0 at.0 new.0, new.1)) x e in
    let b = bind_some (number_at 8 a.0.1) (λ at. number_at 4 at.1 >>= λ n. run_at n.0 n.1 >>= λ new. Some (effect.Bytes a.0.0 at.0 new.0, new.1)) x a.2 in
    let c = bind_some (number_at 4 b.0.1) (λ n. run_at n.0 n.1 >>= λ new. Some (effect.Bytes a.0.0 b.0.0 new.0, new.1)) x b.2 in
    let d = bind_some (run_at c.0.0 c.0.1) (λ new. Some (effect.Bytes a.0.0 b.0.0 new.0, new.1)) x c.2 in
    let new = d.0.0 in
    let run = run_long c.0.0 c.0.1 d.0 d.1 in
    let made : Effect × List ℕ = (effect.Bytes a.0.0 b.0.0 new, d.0.1) in
    subst (Long bytes) (some_is made x d.2)
    (omega (arith, number_long 4 bytes a.0 a.1, number_long 8 a.0.1 b.0 b.1, number_long 4 b.0.1 c.0 c.1, run.0, run.1, length-append (u32 a.0.0) (u64 b.0.0 ++ (u32 (length new) ++ new)), length-append (u64 b.0.0) (u32 (length new) ++ new), length-append (u32 (length new)) new, length-u32 a.0.0, length-u64 b.0.0, length-u32 (length new)))

dropped_long : (bytes : List ℕ) (x : Effect × List ℕ) → dropped_at bytes ≡ Some x → Long bytes x
unfolding dropped_at
dropped_long bytes x e =
    let a = bind_some (number_at 4 bytes) (λ i. Some (effect.Drop i.0, i.1)) x e in
    let made : Effect × List ℕ = (effect.Drop a.0.0, a.0.1) in
    subst (Long bytes) (some_is made x a.2) (omega (arith, number_long 4 bytes a.0 a.1, length-u32 a.0.0))

swap_long : (bytes : List ℕ) (x : Effect × List ℕ) → swap_at bytes ≡ Some x → Long bytes x
unfolding swap_at
swap_long bytes x e =
    let a = bind_some (number_at 4 bytes) (λ d. name_at d.1 >>= λ name. number_at 4 name.1 >>= λ other. name_at other.1 >>= λ behind. Some (effect.Swap d.0 name.0 other.0 behind.0, behind.1)) x e in
    let b = bind_some (name_at a.0.1) (λ name. number_at 4 name.1 >>= λ other. name_at other.1 >>= λ behind. Some (effect.Swap a.0.0 name.0 other.0 behind.0, behind.1)) x a.2 in
    let c = bind_some (number_at 4 b.0.1) (λ other. name_at other.1 >>= λ behind. Some (effect.Swap a.0.0 b.0.0 other.0 behind.0, behind.1)) x b.2 in
    let d = bind_some (name_at c.0.1) (λ behind. Some (effect.Swap a.0.0 b.0.0 c.0.0 behind.0, behind.1)) x c.2 in
    let last : List ℕ = length d.0.0 ∷ d.0.0 in
    let made : Effect × List ℕ = (effect.Swap a.0.0 b.0.0 c.0.0 d.0.0, d.0.1) in
    subst (Long bytes) (some_is made x d.2)
    (omega (arith, number_long 4 bytes a.0 a.1, name_long a.0.1 b.0 b.1, number_long 4 b.0.1 c.0 c.1, name_long c.0.1 d.0 d.1, length-append (u32 a.0.0) (length b.0.0 ∷ (b.0.0 ++ (u32 c.0.0 ++ last))), length-append b.0.0 (u32 c.0.0 ++ last), length-append (u32 c.0.0) last, length-u32 a.0.0, length-u32 c.0.0))

-- the tags from SIZE on
later_fields_long : (tag : ℕ) (bytes : List ℕ) (x : Effect × List ℕ) → cond (eqb tag SIZE) (size_at bytes) (cond (eqb tag BYTES) (bytes_at bytes) (cond (eqb tag DROP) (dropped_at bytes) (cond (eqb tag SWAP) (swap_at bytes) None))) ≡ Some x → Long bytes x
later_fields_long tag bytes x e = elim (chosen (eqb tag SIZE) (size_at bytes) _ (Some x) e) [
  | inl w ↦ size_long bytes x w.1
  | inr v ↦ elim (chosen (eqb tag BYTES) (bytes_at bytes) _ (Some x) v.1) [
    | inl w ↦ bytes_long bytes x w.1
    | inr u ↦ elim (chosen (eqb tag DROP) (dropped_at bytes) _ (Some x) u.1) [
      | inl w ↦ dropped_long bytes x w.1
      | inr t ↦ elim (chosen (eqb tag SWAP) (swap_at bytes) None (Some x) t.1) [
        | inl w ↦ swap_long bytes x w.1
        | inr s ↦ absurd (cc s.1)
      ]
    ]
  ]
]

tagged_long : (tag : ℕ) (bytes : List ℕ) (x : Effect × List ℕ) → fields_at (tag ∷ bytes) ≡ Some x → Long bytes x
unfolding fields_at
tagged_long tag bytes x e = elim (chosen (eqb tag MAKE) (make_at bytes) _ (Some x) e) [
  | inl w ↦ make_long bytes x w.1
  | inr v ↦ elim (chosen (eqb tag ENTER) (enter_at bytes) _ (Some x) v.1) [
    | inl w ↦ enter_long bytes x w.1
    | inr u ↦ elim (chosen (eqb tag LEAVE) (leave_at bytes) _ (Some x) u.1) [
      | inl w ↦ leave_long bytes x w.1
      | inr t ↦ elim (chosen (eqb tag NAMES) (names_at bytes) _ (Some x) t.1) [
        | inl w ↦ names_long bytes x w.1
        | inr s ↦ later_fields_long tag bytes x s.1
      ]
    ]
  ]
]

fields_long : (bytes : List ℕ) (x : Effect × List ℕ) → fields_at bytes ≡ Some x → length bytes ≡ length (effect_bytes x.0) + length x.1
unfolding fields_at
fields_long [] x e = absurd cc
fields_long (tag ∷ bytes) x e = omega (arith, tagged_long tag bytes x e)

effect_long : (bytes : List ℕ) (x : Effect × List ℕ) → effect_at bytes ≡ Some x → length bytes ≡ length (effect_bytes x.0) + length x.1
unfolding effect_at
effect_long bytes x e =
    let a = bind_some (fields_at bytes) (λ f. cond (fits f.0) (Some f) None) x e in
    let g = test_some (fits a.0.0) a.0 x a.2 in
    subst (λ (y : Effect × List ℕ). length bytes ≡ length (effect_bytes y.0) + length y.1) g.1 (fields_long bytes a.0 a.1)

effects_long : (n : ℕ) (bytes : List ℕ) (x : List Effect × List ℕ) → effects_at n bytes ≡ Some x → length bytes ≡ length (flat_map effect_bytes x.0) + length x.1
unfolding effects_at
effects_long zero bytes x e = omega (arith, ap (λ (y : List Effect × List ℕ). length y.1) (some_is ([], bytes) x e), ap (λ (y : List Effect × List ℕ). length (flat_map effect_bytes y.0)) (some_is ([], bytes) x e))
effects_long (suc n) bytes x e =
    let a = bind_some (effect_at bytes) (λ first. effects_at n first.1 >>= λ others. Some (first.0 ∷ others.0, others.1)) x e in
    let b = bind_some (effects_at n a.0.1) (λ others. Some (a.0.0 ∷ others.0, others.1)) x a.2 in
    let made : List Effect × List ℕ = (a.0.0 ∷ b.0.0, b.0.1) in
    subst (λ (y : List Effect × List ℕ). length bytes ≡ length (flat_map effect_bytes y.0) + length y.1) (some_is made x b.2)
    (omega (arith, effect_long bytes a.0 a.1, effects_long n a.0.1 b.0 b.1, ap length (flat_map-cons effect_bytes a.0.0 b.0.0), length-append (effect_bytes a.0.0) (flat_map effect_bytes b.0.0)))

-- ---- records

header_long : (bytes : List ℕ) (x : (ℕ × ℕ) × List ℕ) → header_at bytes ≡ Some x → length bytes ≡ 5 + length x.1
unfolding header_at
header_long bytes x e =
    let a = bind_some (number_at 4 bytes) (λ units. byte_at units.1 >>= λ count. cond (leb 1 count.0 && leb count.0 8) (Some ((units.0, count.0), count.1)) None) x e in
    let b = bind_some (byte_at a.0.1) (λ count. cond (leb 1 count.0 && leb count.0 8) (Some ((a.0.0, count.0), count.1)) None) x a.2 in
    let made : (ℕ × ℕ) × List ℕ = ((a.0.0, b.0.0), b.0.1) in
    let g = test_some (leb 1 b.0.0 && leb b.0.0 8) made x b.2 in
    omega (arith, number_long 4 bytes a.0 a.1, byte_long a.0.1 b.0 b.1, ap (λ (y : (ℕ × ℕ) × List ℕ). length y.1) g.1)

record_long : (bytes : List ℕ) (x : Record × List ℕ) → record_at bytes ≡ Some x → length bytes ≡ length (record_bytes x.0) + length x.1
unfolding record_at
record_long bytes x e =
    let a = bind_some (header_at bytes) (λ h. effects_at h.0.1 h.1 >>= λ es. Some (record { units = h.0.0; effects = es.0 }, es.1)) x e in
    let b = bind_some (effects_at a.0.0.1 a.0.1) (λ es. Some (record { units = a.0.0.0; effects = es.0 }, es.1)) x a.2 in
    let made : Record × List ℕ = (record { units = a.0.0.0; effects = b.0.0 }, b.0.1) in
    subst (λ (y : Record × List ℕ). length bytes ≡ length (record_bytes y.0) + length y.1) (some_is made x b.2)
    (omega (arith, header_long bytes a.0 a.1, effects_long a.0.0.1 a.0.1 b.0 b.1, length-append (u32 a.0.0.0) (length b.0.0 ∷ flat_map effect_bytes b.0.0), length-u32 a.0.0.0))

pub record_of_long : (bytes : List ℕ) (r : Record) → record_of bytes ≡ Some r → length bytes ≡ length (record_bytes r)
unfolding record_of
record_of_long bytes r e =
    let a = bind_some (record_at bytes) (λ x. cond (eqb (length x.1) 0) (Some x.0) None) r e in
    let g = test_some (eqb (length a.0.1) 0) a.0.0 r a.2 in
    let none_behind : length a.0.1 ≡ 0 = eqb-true (length a.0.1) 0 g.0 in
    omega (arith, record_long bytes a.0 a.1, ap (λ (s : Record). length (record_bytes s)) g.1)
