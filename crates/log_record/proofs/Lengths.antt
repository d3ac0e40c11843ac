-- How long the spelling of an effect is.
use Rattle.std.proofs.Common.{◌≡◌, ℕ, ◌+◌, List, [], ◌∷◌, ◌++◌, length, length-append, arith, refl}
use Rattle.byteorder.specs.Numbers.{length-bytes_low_first}
use Rattle.file_graph.specs.declared.effect.Effect.{Effect}
use Rattle.file_graph.specs.declared.effect.Effect.TheVariants as effect
use Rattle.log_record.specs.Grammar.{u32, u64, effect_bytes}
use Rattle.file_graph.specs.Kinds.{kind_byte}

pub length-u32 : (n : ℕ) → length (u32 n) ≡ 4
unfolding u32
length-u32 n = length-bytes_low_first 0 4 n

pub length-u64 : (n : ℕ) → length (u64 n) ≡ 8
unfolding u64
length-u64 n = length-bytes_low_first 0 8 n

pub ruleset lengths = (length-u32, length-u64, length-append)

abbrev pub effect_size : Effect → ℕ
effect_size (effect.Make i k) = 6
effect_size (effect.Enter d i k name) = 11 + length name
effect_size (effect.Leave d name) = 6 + length name
effect_size (effect.Names i n) = 9
effect_size (effect.Size i size) = 13
effect_size (effect.Bytes i at new) = 17 + length new
effect_size (effect.Drop i) = 5
effect_size (effect.Swap d a e b) = 11 + length a + length b

pub length-effect_bytes : (e : Effect) → length (effect_bytes e) ≡ effect_size e
length-effect_bytes (effect.Make i k) = omega (arith, length-append (u32 i) (kind_byte k ∷ []), length-u32 i)
length-effect_bytes (effect.Enter d i k name) =
    omega (arith, length-append (u32 d) (u32 i ++ kind_byte k ∷ length name ∷ name), length-append (u32 i) (kind_byte k ∷ length name ∷ name), length-u32 d, length-u32 i)
length-effect_bytes (effect.Leave d name) = omega (arith, length-append (u32 d) (length name ∷ name), length-u32 d)
length-effect_bytes (effect.Names i n) = omega (arith, length-append (u32 i) (u32 n), length-u32 i, length-u32 n)
length-effect_bytes (effect.Size i size) = omega (arith, length-append (u32 i) (u64 size), length-u32 i, length-u64 size)
length-effect_bytes (effect.Bytes i at new) =
    omega (arith, length-append (u32 i) (u64 at ++ (u32 (length new) ++ new)), length-append (u64 at) (u32 (length new) ++ new), length-append (u32 (length new)) new, length-u32 i, length-u64 at, length-u32 (length new))
length-effect_bytes (effect.Drop i) = omega (arith, length-u32 i)
length-effect_bytes (effect.Swap d a e b) =
    omega (arith, length-append (u32 d) (length a ∷ (a ++ (u32 e ++ length b ∷ b))), length-append a (u32 e ++ length b ∷ b), length-append (u32 e) (length b ∷ b), length-u32 d, length-u32 e)
