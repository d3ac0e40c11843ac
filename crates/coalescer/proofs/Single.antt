-- One record of the format's limits fits, and so does the longest run of such records.
use Rattle.std.proofs.Common.{◌≡◌, ℕ, zero, suc, ◌+◌, ◌*◌, ◌-◌, ◌/◌, ◌%◌, ◌≤◌, ◌==◌, cond, Bool, true, false, List, [], ◌∷◌, length, take, refl, ap, ◌∙◌, arith}
use Rattle.std.specs.Prelude.{◌&&◌, nat_eq, nat_le, max}
use Rattle.std.specs.List.{flat_map, range_with_len, sum_by, AllByRecursion}
use Rattle.std.proofs.Math.Seq.{take-nil}
use Rattle.std.proofs.lemmas.Bool.Decides.{nat_tests}
use Rattle.std.proofs.lemmas.List.{append-nil, length-append, length-map}
use Rattle.std.proofs.lemmas.List.FromFn.{length-range_with_len}
use Rattle.std.proofs.lemmas.List.Concat.{flat_map-cons}
use Rattle.std.proofs.lemmas.List.Sums.{sum_by-cons}
use Rattle.std.proofs.lemmas.Map.Made.{distinct_count-le}
use Rattle.posix_calls.specs.declared.limits.TheConstants.{UNIT_BYTES}
use Rattle.graph_change.specs.file_graph.declared.effect.Effect.{Effect}
use Rattle.graph_change.specs.file_graph.declared.effect.Effect.TheVariants as effect
use Rattle.graph_change.specs.file_graph.Graph.{subjects, touches}
use Rattle.graph_change.specs.Change.{span}
use Rattle.log_record.specs.declared.format.Record.{Record}
use Rattle.log_record.specs.declared.format.TheConstants.{MAX_EFFECTS}
use Rattle.log_record.specs.Grammar.{FitsLimits, IsRecord}
use Rattle.coalescer.specs.declared.weight.TheConstants.{CHUNK_IMAGES, CHUNK_BLOCKS, DATA_WEIGHT}
use Rattle.coalescer.specs.Records.{effects_in}
use Rattle.coalescer.specs.Weight.{entry_weight, file_blocks, same_block, images, blocks, fits_chunk, IsLongestRun}

-- ---- images

-- what one effect weighs at most: a Swap, with two inodes, or an effect on bytes
abbrev heaviest : ℕ
heaviest = max 10 (4 + DATA_WEIGHT)

one_weight : (e : Effect) → 4 * length (subjects e) + entry_weight e ≤ heaviest
one_weight (effect.Make i kind) = omega arith
one_weight (effect.Enter d i kind name) = omega arith
one_weight (effect.Leave d name) = omega arith
one_weight (effect.Names i n) = omega arith
one_weight (effect.Size i size) = omega arith
one_weight (effect.Bytes i at bytes) = omega arith
one_weight (effect.Drop i) = omega arith
one_weight (effect.Swap d a e b) = omega arith

all_weights : (es : List Effect) → 4 * length (touches es) + sum_by entry_weight es ≤ heaviest * length es
all_weights [] = omega arith
all_weights (e ∷ es) =
    let joined = ap length (flat_map-cons subjects e es) ∙ length-append (subjects e) (touches es) in
    let one = one_weight e in
    let others = all_weights es in
    let sum = sum_by-cons entry_weight e es in
    omega (arith, joined, one, others, sum)

pub few_images : (es : List Effect) → images es ≤ heaviest * length es + 1
few_images es =
    let inodes = distinct_count-le nat_eq (touches es) in
    let all = all_weights es in
    omega (arith, inodes, all)

pub record_images : (r : Record) → IsRecord r → images r.effects ≤ heaviest * MAX_EFFECTS + 1
record_images r is = let all = few_images r.effects in omega (arith, all, is.few)

-- ---- blocks

either_way : {A : Type 0} (b : Bool) (xs : List A) (n : ℕ) → length xs ≤ n → length (cond b [] xs) ≤ n
either_way true xs n short = omega arith
either_way false xs n short = short

short_span : (at count : ℕ) → count ≤ 65536 → length (span at count) ≤ 17
short_span at count few =
    let len = length-range_with_len (at / UNIT_BYTES) ((at + count - 1) / UNIT_BYTES + 1 - at / UNIT_BYTES) in
    either_way (count == 0) (range_with_len (at / UNIT_BYTES) ((at + count - 1) / UNIT_BYTES + 1 - at / UNIT_BYTES)) 17 (omega (arith, len, few))

effect_blocks : (e : Effect) → FitsLimits e → length (file_blocks e) ≤ 17
effect_blocks (effect.Make i kind) fit = omega arith
effect_blocks (effect.Enter d i kind name) fit = omega arith
effect_blocks (effect.Leave d name) fit = omega arith
effect_blocks (effect.Names i n) fit = omega arith
effect_blocks (effect.Size i size) fit = either_way (size % UNIT_BYTES == 0) ((i, size / UNIT_BYTES) ∷ []) 17 (omega arith)
effect_blocks (effect.Bytes i at bytes) fit =
    let each = length-map {B = ℕ × ℕ} (span at (length bytes)) (λ b. (i, b)) in
    let short = short_span at (length bytes) fit.2 in
    omega (arith, each, short)
effect_blocks (effect.Drop i) fit = omega arith
effect_blocks (effect.Swap d a e b) fit = omega arith

few_blocks : (es : List Effect) → AllByRecursion FitsLimits es → length (flat_map file_blocks es) ≤ 17 * length es
few_blocks [] fit = omega arith
few_blocks (e ∷ es) fit =
    let sum = length-append (file_blocks e) (flat_map file_blocks es) in
    let one = effect_blocks e fit.0 in
    let others = few_blocks es fit.1 in
    omega (arith, sum, one, others)

pub record_blocks : (r : Record) → IsRecord r → blocks r.effects ≤ 136
record_blocks r is =
    let all = few_blocks r.effects is.fit in
    let once = distinct_count-le same_block (flat_map file_blocks r.effects) in
    omega (arith, all, once, is.few)

-- ---- both

both_few : (a b m n : ℕ) → a ≤ m → b ≤ n → (nat_le a m && nat_le b n) ≡ true
both_few a b m n h k = grind (arith, nat_tests)

pub single : (r : Record) → IsRecord r → fits_chunk r.effects ≡ true
unfolding fits_chunk
single r is =
    let most = record_images r is in
    let many = record_blocks r is in
    both_few (images r.effects) (blocks r.effects) CHUNK_IMAGES CHUNK_BLOCKS (omega (arith, most)) (omega (arith, many))

nothing : fits_chunk [] ≡ true
unfolding fits_chunk
nothing = refl

-- the first records of a run, however few
pub run : (rs : List Record) (n : ℕ) → AllByRecursion IsRecord rs → IsLongestRun rs n → fits_chunk (effects_in (take n rs)) ≡ true
run [] n all is = ap (λ rs. fits_chunk (effects_in rs)) (take-nil n) ∙ nothing
run (r ∷ rs) zero all is = nothing
run (r ∷ rs) (suc zero) all is = ap fits_chunk (append-nil r.effects) ∙ single r all.0
run (r ∷ rs) (suc (suc n)) all is = is.fitting (omega arith)
