-- Blocks put one behind the other are a file's bytes, and an effect on a file is one on each of its blocks.
use Rattle.std.proofs.Common.{◌≡◌, ℕ, zero, suc, ◌+◌, ◌-◌, ◌*◌, ◌≤◌, List, [], ◌∷◌, ◌++◌, length, take, drop, refl, Some, None, Option, ap, sym, ◌∙◌, arith}
use Rattle.std.specs.Prelude.{◌/◌, min, replicate, option_map}
use Rattle.std.proofs.Math.Seq.{drop-nil}
use Rattle.std.proofs.lemmas.List.{take-take, drop-drop, drop-take}
use Rattle.posix_calls.specs.Content.{with_length, with_bytes, range}
use Rattle.posix_calls.specs.Part.{blocks_touched}
use Rattle.call_effects.specs.Blocks.{block_of, joined_bytes, blocks_joined, range_by, block_resized, block_written}

-- ---- bytes cut and grown, and bytes put over others, element by element

take_nil : (n : ℕ) → ◌≡◌ {A = List ℕ} (take n []) []
take_nil zero = refl
take_nil (suc n) = refl

abbrev grown : ℕ → List ℕ → List ℕ
grown zero xs = []
grown (suc n) [] = 0 ∷ grown n []
grown (suc n) (x ∷ xs) = x ∷ grown n xs

none_left : (n : ℕ) → 0 - n ≡ 0
none_left n = omega arith

one_less : (m n : ℕ) → suc m - suc n ≡ m - n
one_less m n = omega arith

all_left : (n : ℕ) → n - 0 ≡ n
all_left n = omega arith

is_grown : (n : ℕ) (xs : List ℕ) → with_length n xs ≡ grown n xs
is_grown zero xs = ap (λ m. replicate m 0) (none_left (length xs))
is_grown (suc n) [] = ap (λ m. replicate m 0) (all_left (suc n)) ∙ ap (λ ys. 0 ∷ ys) (sym (ap (λ ys. ys ++ replicate (n - 0) 0) (take_nil n) ∙ ap (λ m. replicate m 0) (all_left n)) ∙ is_grown n [])
is_grown (suc n) (x ∷ xs) = ap (λ m. x ∷ (take n xs ++ replicate m 0)) (one_less n (length xs)) ∙ ap (λ ys. x ∷ ys) (is_grown n xs)

abbrev over : List ℕ → List ℕ → List ℕ
over [] old = old
over (y ∷ new) [] = y ∷ over new []
over (y ∷ new) (x ∷ old) = y ∷ over new old

abbrev put_at : ℕ → List ℕ → List ℕ → List ℕ
put_at zero new old = over new old
put_at (suc at) new [] = 0 ∷ put_at at new []
put_at (suc at) new (x ∷ old) = x ∷ put_at at new old

is_over : (new old : List ℕ) → new ++ drop (length new) old ≡ over new old
is_over [] old = refl
is_over (y ∷ new) [] = ap (λ ys. y ∷ ys) (ap (λ ys. new ++ ys) (sym (drop-nil (length new))) ∙ is_over new [])
is_over (y ∷ new) (x ∷ old) = ap (λ ys. y ∷ ys) (is_over new old)

none_more : (n : ℕ) → 0 + n ≡ n
none_more n = omega arith

past : (at n : ℕ) → suc at + n ≡ suc (at + n)
past at n = omega arith

is_put_by : (at : ℕ) (new old : List ℕ) → grown at old ++ new ++ drop (at + length new) old ≡ put_at at new old
is_put_by zero new old = ap (λ n. new ++ drop n old) (none_more (length new)) ∙ is_over new old
is_put_by (suc at) new [] = ap (λ ys. 0 ∷ (grown at [] ++ new ++ ys)) (drop-nil (suc at + length new) ∙ sym (drop-nil (at + length new))) ∙ ap (λ ys. 0 ∷ ys) (is_put_by at new [])
is_put_by (suc at) new (x ∷ old) = ap (λ n. x ∷ (grown at old ++ new ++ drop n (x ∷ old))) (past at (length new)) ∙ ap (λ ys. x ∷ ys) (is_put_by at new old)

is_put : (at : ℕ) (new old : List ℕ) → with_bytes at new old ≡ put_at at new old
is_put at new old = ap (λ ys. ys ++ new ++ drop (at + length new) old) (is_grown at old) ∙ is_put_by at new old

-- ---- a part of them

drop_grown : (m n : ℕ) (xs : List ℕ) → drop m (grown n xs) ≡ grown (n - m) (drop m xs)
drop_grown zero n xs = ap (λ k. grown k xs) (sym (all_left n))
drop_grown (suc m) zero xs = ap (λ k. grown k (drop (suc m) xs)) (sym (none_left (suc m)))
drop_grown (suc m) (suc n) [] = drop_grown m n [] ∙ ap (grown (n - m)) (drop-nil m) ∙ ap (λ k. grown k []) (sym (one_less n m))
drop_grown (suc m) (suc n) (x ∷ xs) = drop_grown m n xs ∙ ap (λ k. grown k (drop m xs)) (sym (one_less n m))

least_suc : (m n : ℕ) → min (suc m) (suc n) ≡ suc (min m n)
least_suc m n = omega arith

least_none : (m : ℕ) → min m 0 ≡ 0
least_none m = omega arith

none_least : (m : ℕ) → min 0 m ≡ 0
none_least m = omega arith

take_grown : (m n : ℕ) (xs : List ℕ) → take m (grown n xs) ≡ grown (min m n) (take m xs)
take_grown zero n xs = ap (λ k. grown k []) (sym (none_least n))
take_grown (suc m) zero xs = ap (λ k. grown k (take (suc m) xs)) (sym (least_none (suc m)))
take_grown (suc m) (suc n) [] = ap (λ ys. 0 ∷ ys) (take_grown m n [] ∙ ap (grown (min m n)) (take_nil m)) ∙ ap (λ k. grown k []) (sym (least_suc m n))
take_grown (suc m) (suc n) (x ∷ xs) = ap (λ ys. x ∷ ys) (take_grown m n xs) ∙ ap (λ k. grown k (x ∷ take m xs)) (sym (least_suc m n))

drop_over : (m : ℕ) (new old : List ℕ) → drop m (over new old) ≡ over (drop m new) (drop m old)
drop_over zero new old = refl
drop_over (suc m) [] old = refl
drop_over (suc m) (y ∷ new) [] = drop_over m new [] ∙ ap (over (drop m new)) (drop-nil m)
drop_over (suc m) (y ∷ new) (x ∷ old) = drop_over m new old

drop_put : (m at : ℕ) (new old : List ℕ) → drop m (put_at at new old) ≡ put_at (at - m) (drop (m - at) new) (drop m old)
drop_put m zero new old = drop_over m new old ∙ ap (λ k. over (drop k new) (drop m old)) (sym (all_left m)) ∙ ap (λ k. put_at k (drop (m - 0) new) (drop m old)) (sym (none_left m))
drop_put zero (suc at) new old = ap (λ k. put_at (suc at) (drop k new) old) (sym (none_left (suc at))) ∙ ap (λ k. put_at k (drop (0 - suc at) new) old) (sym (all_left (suc at)))
drop_put (suc m) (suc at) new [] = drop_put m at new [] ∙ ap (put_at (at - m) (drop (m - at) new)) (drop-nil m) ∙ ap (λ k. put_at (at - m) (drop k new) []) (sym (one_less m at)) ∙ ap (λ k. put_at k (drop (suc m - suc at) new) []) (sym (one_less at m))
drop_put (suc m) (suc at) new (x ∷ old) = drop_put m at new old ∙ ap (λ k. put_at (at - m) (drop k new) (drop m old)) (sym (one_less m at)) ∙ ap (λ k. put_at k (drop (suc m - suc at) new) (drop m old)) (sym (one_less at m))

take_over : (m : ℕ) (new old : List ℕ) → take m (over new old) ≡ take m (over new (take m old))
take_over zero new old = refl
take_over (suc m) [] [] = refl
take_over (suc m) [] (x ∷ old) = ap (λ ys. x ∷ ys) (take_over m [] old)
take_over (suc m) (y ∷ new) [] = refl
take_over (suc m) (y ∷ new) (x ∷ old) = ap (λ ys. y ∷ ys) (take_over m new old)

take_put : (m at : ℕ) (new old : List ℕ) → take m (put_at at new old) ≡ take m (put_at at new (take m old))
take_put m zero new old = take_over m new old
take_put zero (suc at) new old = refl
take_put (suc m) (suc at) new [] = refl
take_put (suc m) (suc at) new (x ∷ old) = ap (λ ys. x ∷ ys) (take_put m at new old)

-- a part of a file, once that is cut or grown
part_resized : (from many size : ℕ) (xs : List ℕ) → take many (drop from (with_length size xs)) ≡ with_length (min many (size - from)) (take many (drop from xs))
part_resized from many size xs =
    ap (λ ys. take many (drop from ys)) (is_grown size xs)
    ∙ ap (take many) (drop_grown from size xs)
    ∙ take_grown many (size - from) (drop from xs)
    ∙ sym (is_grown (min many (size - from)) (take many (drop from xs)))

-- and once bytes are put into it
part_written : (from many at : ℕ) (new xs : List ℕ) → take many (drop from (with_bytes at new xs)) ≡ take many (with_bytes (at - from) (drop (from - at) new) (take many (drop from xs)))
part_written from many at new xs =
    ap (λ ys. take many (drop from ys)) (is_put at new xs)
    ∙ ap (take many) (drop_put from at new xs)
    ∙ take_put many (at - from) (drop (from - at) new) (drop from xs)
    ∙ ap (take many) (sym (is_put (at - from) (drop (from - at) new) (take many (drop from xs))))

-- ---- effects on blocks

pub resized_block : (b size : ℕ) (bytes : List ℕ) → block_of b (with_length size bytes) ≡ block_resized size b (block_of b bytes)
resized_block b size bytes = part_resized (4096 * b) 4096 size bytes

pub written_block : (b at : ℕ) (new bytes : List ℕ) → block_of b (with_bytes at new bytes) ≡ block_written at new b (block_of b bytes)
written_block b at new bytes = part_written (4096 * b) 4096 at new bytes

-- ---- blocks put one behind the other

-- what is known of the blocks of a file is so
abbrev pub AreBlocksOf : (ℕ → Option (List ℕ)) → List ℕ → Type 0
AreBlocksOf blocks bytes = (b : ℕ) (block : List ℕ) → blocks b ≡ Some block → block_of b bytes ≡ block

take_more : (m n : ℕ) (xs : List ℕ) → take m xs ++ take n (drop m xs) ≡ take (m + n) xs
take_more zero n xs = ap (λ k. take k xs) (sym (none_more n))
take_more (suc m) n [] = take_nil n ∙ sym (ap (λ k. take k []) (past m n))
take_more (suc m) n (x ∷ xs) = ap (λ ys. x ∷ ys) (take_more m n xs) ∙ sym (ap (λ k. take k (x ∷ xs)) (past m n))

-- the two parts of bytes that are known with those that follow
pub record IsFollowed (first rest : Option (List ℕ)) (all : List ℕ) : Type 0 where
  pub bytes : List ℕ
  pub more : List ℕ
  pub first_is : first ≡ Some bytes
  pub rest_is : rest ≡ Some more
  pub all_is : bytes ++ more ≡ all

pub both_known : (first rest : Option (List ℕ)) (all : List ℕ) → joined_bytes first rest ≡ Some all → IsFollowed first rest all
both_known None rest all e = absurd (cc)
both_known (Some bytes) None all e = absurd (cc)
both_known (Some bytes) (Some more) all e = record { bytes = bytes; more = more; first_is = refl; rest_is = refl; all_is = cc }

next_block : (b : ℕ) → 4096 * b + 4096 ≡ 4096 * (b + 1)
next_block b = omega arith

joined_is : (blocks : ℕ → Option (List ℕ)) (bytes : List ℕ) → AreBlocksOf blocks bytes → (first count : ℕ) (all : List ℕ) → blocks_joined blocks first count ≡ Some all → all ≡ take (4096 * count) (drop (4096 * first) bytes)
joined_is blocks bytes known first zero all e = let same : [] ≡ all = cc in sym same
joined_is blocks bytes known first (suc count) all e =
    let f = both_known (blocks first) (blocks_joined blocks (first + 1) count) all e in
    let here : f.bytes ≡ take 4096 (drop (4096 * first) bytes) = sym (known first f.bytes f.first_is) in
    let there : f.more ≡ take (4096 * count) (drop 4096 (drop (4096 * first) bytes)) =
    joined_is blocks bytes known (first + 1) count f.more f.rest_is
    ∙ ap (λ k. take (4096 * count) (drop k bytes)) (sym (next_block first))
    ∙ ap (take (4096 * count)) (sym (drop-drop 4096 (4096 * first) bytes)) in
    sym f.all_is
    ∙ ap (λ ys. ys ++ f.more) here
    ∙ ap (λ ys. take 4096 (drop (4096 * first) bytes) ++ ys) there
    ∙ take_more 4096 (4096 * count) (drop (4096 * first) bytes)
    ∙ ap (λ k. take k (drop (4096 * first) bytes)) (blocks_more count)
  where
    blocks_more : (n : ℕ) → 4096 + 4096 * n ≡ 4096 * suc n
    blocks_more n = omega arith

-- a range is within the blocks that it touches
record IsTouched (at count : ℕ) : Type 0 where
  rest : ℕ
  blocks : 4096 * blocks_touched at count ≡ (at - 4096 * (at / 4096)) + (count + rest)
  start : 4096 * (at / 4096) + (at - 4096 * (at / 4096)) ≡ at

touched : (at count : ℕ) → IsTouched at (suc count)
touched at count = record {
  rest = 4096 * (1 + (at + count) / 4096 - at / 4096) - ((at - 4096 * (at / 4096)) + suc count);
  blocks = omega arith;
  start = omega arith;
}

pub mapped : {X Y : Type 0} (f : X → Y) (o : Option X) (y : Y) → option_map f o ≡ Some y → (x : X) × (o ≡ Some x) × (f x ≡ y)
mapped f None y e = absurd (cc)
mapped f (Some x) y e = (x, refl, (let same : f x ≡ y = cc in same))

no_more : (a b c d : ℕ) → a ≡ b + (c + d) → c ≤ c + d
no_more a b c d e = omega arith

pub range_is : (blocks : ℕ → Option (List ℕ)) (bytes : List ℕ) → AreBlocksOf blocks bytes → (at count : ℕ) (found : List ℕ) → range_by blocks at count ≡ Some found → range at count bytes ≡ found
range_is blocks bytes known at zero found e = cc
range_is blocks bytes known at (suc count) found e =
    let first = at / 4096 in
    let skipped = at - 4096 * first in
    let within = touched at count in
    let all = mapped (range skipped (suc count)) (blocks_joined blocks first (blocks_touched at (suc count))) found e in
    let from = drop (4096 * first) bytes in
    let is : all.0 ≡ take (skipped + (suc count + within.rest)) from = joined_is blocks bytes known first (blocks_touched at (suc count)) all.0 all.1 ∙ ap (λ k. take k from) within.blocks in
    sym (sym all.2
    ∙ ap (range skipped (suc count)) is
    ∙ ap (take (suc count)) (drop-take skipped (suc count + within.rest) from)
    ∙ take-take (suc count) (suc count + within.rest) (drop skipped from) (no_more _ skipped (suc count) within.rest within.blocks)
    ∙ ap (take (suc count)) (drop-drop skipped (4096 * first) bytes)
    ∙ ap (λ k. take (suc count) (drop k bytes)) within.start)
