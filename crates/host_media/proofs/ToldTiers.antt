-- Tiers one behind the other, and what is known of them.
use Rattle.std.proofs.Common.{◌≡◌, ◌≤◌, ◌+◌, ◌-◌, ◌∙◌, ℕ, List, [], ◌∷◌, ◌++◌, length, drop, not, true, false, refl, sym, ap, arith}
use Rattle.std.specs.Prelude.{◌&&◌, if◌then◌else◌, Option, Some, None, Result, Ok, Err, OnOk, is_ok, replicate}
use Rattle.std.specs.Cmp.{nat_eq_equiv}
use Rattle.std.proofs.lemmas.List.{append_assoc, append-nil, drop_all, drop-replicate, length-append, length-drop, length-take-le, length-map, map-append, length-replicate, replicate-append-replicate}
use Rattle.tier_device.specs.declared.media.Tier.{Tier}
use Rattle.tier_device.specs.declared.media.Tier.TheVariants.{Fast, Block, Slow}
use Rattle.tier_device.specs.Media.{overwritten, Puts}
use Rattle.tier_device.specs.Rows.{Rows, row}
use Rattle.host_media.specs.declared.sizes.Sizes.{Sizes}
use Rattle.host_media.specs.FileBytes.{Told, changes_after, known, part_told, told_is, unknown, with_told}
use Rattle.host_media.specs.Images.{content_bytes}
use Rattle.host_media.specs.Place.{begin_of, total}
use Rattle.host_media.specs.Sizes.{byte_count}
use Rattle.host_media.proofs.ToldBytes.{map-put, map-replicate, length-put, part-put, part-replicate, put, put-behind, put-between, put-equal}

-- as many bytes are known as there are
pub length-known : (bytes : List ℕ) → length (known bytes) ≡ length bytes
length-known bytes = length-map bytes Some

pub length-content : (rows : Rows) → length (content_bytes (row rows)) ≡ total rows
length-content rows =
    let front = length-append rows.fast rows.block in
    let all = length-append (rows.fast ++ rows.block) rows.slow in
    omega (arith, front, all)

pub length-content-known : (rows : Rows) → length (known (content_bytes (row rows))) ≡ total rows
length-content-known rows = length-known (content_bytes (row rows)) ∙ length-content rows

-- a range of a tier lies within all of them
pub place_within : (rows : Rows) (tier : Tier) (at n : ℕ) → at + n ≤ length (row rows tier) → begin_of rows tier + at + n ≤ total rows
place_within rows Fast at n fits = omega (arith, fits)
place_within rows Block at n fits = omega (arith, fits)
place_within rows Slow at n fits = omega (arith, fits)

block-fast : Block ≡ Fast → ⊥
block-fast e = cc

slow-fast : Slow ≡ Fast → ⊥
slow-fast e = cc

fast-block : Fast ≡ Block → ⊥
fast-block e = cc

slow-block : Slow ≡ Block → ⊥
slow-block e = cc

fast-slow : Fast ≡ Slow → ⊥
fast-slow e = cc

block-slow : Block ≡ Slow → ⊥
block-slow e = cc

-- a write to a tier is one to its place in the row of all
pub content-put : (old new : Rows) (tier : Tier) (at : ℕ) (v : List ℕ) → at + length v ≤ length (row old tier) → Puts tier (overwritten (row old tier) at v) (row old) (row new)
    → content_bytes (row new) ≡ overwritten (content_bytes (row old)) (begin_of old tier + at) v
content-put old new Fast at v fits puts =
    ap (λ xs. xs ++ new.block ++ new.slow) puts.here
    ∙ ap (λ xs. overwritten old.fast at v ++ xs ++ new.slow) (puts.others Block block-fast)
    ∙ ap (λ xs. overwritten old.fast at v ++ old.block ++ xs) (puts.others Slow slow-fast)
    ∙ append_assoc (overwritten old.fast at v) old.block old.slow
    ∙ sym (put-between [] old.fast (old.block ++ old.slow) at v fits)
    ∙ ap (λ xs. overwritten xs (0 + at) v) (sym (append_assoc old.fast old.block old.slow))
content-put old new Block at v fits puts =
    ap (λ xs. xs ++ new.block ++ new.slow) (puts.others Fast fast-block)
    ∙ ap (λ xs. old.fast ++ xs ++ new.slow) puts.here
    ∙ ap (λ xs. old.fast ++ overwritten old.block at v ++ xs) (puts.others Slow slow-block)
    ∙ sym (put-between old.fast old.block old.slow at v fits)
content-put old new Slow at v fits puts =
    ap (λ xs. xs ++ new.block ++ new.slow) (puts.others Fast fast-slow)
    ∙ ap (λ xs. old.fast ++ xs ++ new.slow) (puts.others Block block-slow)
    ∙ ap (λ xs. old.fast ++ old.block ++ xs) puts.here
    ∙ sym (append-nil (old.fast ++ old.block ++ overwritten old.slow at v))
    ∙ sym (put-between (old.fast ++ old.block) old.slow [] at v fits)
    ∙ ap (λ xs. overwritten xs (length (old.fast ++ old.block) + at) v) (append-nil (old.fast ++ old.block ++ old.slow))
    ∙ ap (λ n. overwritten (old.fast ++ old.block ++ old.slow) (n + at) v) (length-append old.fast old.block)

-- bytes of a row written over are known as they are then
pub known-put : (bytes : List ℕ) (at : ℕ) (v : List ℕ) → with_told (known bytes) at (known v) ≡ known (overwritten bytes at v)
known-put bytes at v = sym (map-put Some bytes at v)

-- each tier still stands in its place once one is written
pub stands-put : (old new : Rows) (tier : Tier) (at : ℕ) (v : List ℕ) → at + length v ≤ length (row old tier) → Puts tier (overwritten (row old tier) at v) (row old) (row new)
    → (before : Told) (place : ℕ) → before ≡ known (content_bytes (row old)) → place ≡ begin_of old tier + at → with_told before place (known v) ≡ known (content_bytes (row new))
stands-put old new tier at v fits puts before place was is =
    ap (λ (told : Told). with_told told place (known v)) was
    ∙ ap (λ n. with_told (known (content_bytes (row old))) n (known v)) is
    ∙ known-put (content_bytes (row old)) (begin_of old tier + at) v
    ∙ ap known (sym (content-put old new tier at v fits puts))

-- a call that did not fail succeeded
pub works_if_ok : {T E : Type 0} (r : Result T E) (P : Type 0) → not (is_ok r) ≡ false → OnOk r P → P
works_if_ok (Ok x) P works is = is
works_if_ok (Err e) P works is = absurd (not_both works)
  where
    not_both : true ≡ false → ⊥
    not_both e = cc

-- what was put somewhere is there
part-of-put : (all : Told) (at n : ℕ) (bytes : List ℕ) → at ≤ length all → length bytes ≡ n → part_told (with_told all at (known bytes)) at n ≡ known bytes
part-of-put all at n bytes fits long =
    ap (part_told (with_told all at (known bytes)) at) (sym (length-known bytes ∙ long)) ∙ part-put all at (known bytes) fits

-- the front of a range of zeros is zeros, and so is what lies behind
pub front-of-zeros : (told : Told) (n : ℕ) → told ≡ known (replicate (length told) 0) → n ≤ length told → part_told told 0 n ≡ known (replicate (length (part_told told 0 n)) 0)
front-of-zeros told n zeros fits =
    let long : length (part_told told 0 n) ≡ n = length-take-le n told fits in
    ap (λ (t : Told). part_told t 0 n) (zeros ∙ map-replicate Some (length told) 0)
    ∙ part-replicate (length told) 0 n (Some 0) (omega (arith, fits))
    ∙ sym (map-replicate Some n 0)
    ∙ ap (λ k. known (replicate k 0)) (sym long)

pub rest-of-zeros : (told : Told) (n : ℕ) → told ≡ known (replicate (length told) 0) → drop n told ≡ known (replicate (length (drop n told)) 0)
rest-of-zeros told n zeros =
    ap (drop n) (zeros ∙ map-replicate Some (length told) 0)
    ∙ drop-replicate n (length told) (Some 0)
    ∙ sym (map-replicate Some (length told - n) 0)
    ∙ ap (λ k. known (replicate k 0)) (sym (length-drop n told))

pub zero-content : (rows : Rows) (sizes : Sizes) → rows.fast ≡ replicate sizes.fast 0 → rows.block ≡ replicate sizes.block 0 → rows.slow ≡ replicate sizes.slow 0
    → content_bytes (row rows) ≡ replicate (byte_count sizes) 0
zero-content rows sizes fast block slow =
    ap (λ xs. xs ++ rows.block ++ rows.slow) fast
    ∙ ap (λ xs. replicate sizes.fast 0 ++ xs ++ rows.slow) block
    ∙ ap (λ xs. replicate sizes.fast 0 ++ replicate sizes.block 0 ++ xs) slow
    ∙ ap (λ xs. xs ++ replicate sizes.slow 0) (replicate-append-replicate sizes.fast sizes.block 0)
    ∙ replicate-append-replicate (sizes.fast + sizes.block) sizes.slow 0

-- more zeros, behind those that were written
pub zeros-more : (told : Told) (at len n : ℕ) (zeros : List ℕ) → told ≡ replicate at (Some 0) ++ unknown (len - at) → zeros ≡ replicate n 0 → n ≤ len - at
    → with_told told at (known zeros) ≡ replicate (at + n) (Some 0) ++ unknown (len - (at + n))
zeros-more told at len n zeros was are fits =
    let fewer : len - at - n ≡ len - (at + n) = omega arith in
    ap (λ (t : Told). with_told t at (known zeros)) was
    ∙ ap (λ (z : Told). with_told (replicate at (Some 0) ++ unknown (len - at)) at z) (ap known are ∙ map-replicate Some n 0)
    ∙ put-equal at n (len - at) (Some 0) None fits
    ∙ ap (λ k. replicate (at + n) (Some 0) ++ unknown k) fewer

-- all are written
pub zeros-all : (len n : ℕ) → n ≡ len → replicate n (Some 0) ++ unknown (len - n) ≡ known (replicate len 0)
zeros-all len n is =
    let none : len - len ≡ 0 = omega arith in
    ap (λ k. replicate k (Some 0) ++ unknown (len - k)) is
    ∙ ap (λ k. replicate len (Some 0) ++ unknown k) none
    ∙ append-nil (replicate len (Some 0))
    ∙ sym (map-replicate Some len 0)

-- bytes that are told behind others
told-behind : (t0 t1 t2 : Told) (at : ℕ) (a b : List ℕ) (place : ℕ) → at ≤ length t0 → t1 ≡ with_told t0 at (known a) → t2 ≡ with_told t1 place (known b) → place ≡ at + length a → t2 ≡ with_told t0 at (known (a ++ b))
told-behind t0 t1 t2 at a b place fits first second is =
    second
    ∙ ap (λ (t : Told). with_told t place (known b)) first
    ∙ ap (λ n. with_told (with_told t0 at (known a)) n (known b)) (is ∙ ap (λ n. at + n) (sym (length-known a)))
    ∙ put-behind t0 at (known a) (known b) fits
    ∙ ap (with_told t0 at) (sym (map-append Some a b))

-- three tiers, each told behind the one before
pub tiers-told : (t0 t1 t2 t3 : Told) (at : ℕ) (f b s : List ℕ) (block_at slow_at : ℕ) → at ≤ length t0 → t1 ≡ with_told t0 at (known f) → t2 ≡ with_told t1 block_at (known b) → t3 ≡ with_told t2 slow_at (known s)
    → block_at ≡ at + length f → slow_at ≡ at + length f + length b → t3 ≡ with_told t0 at (known (f ++ b ++ s))
tiers-told t0 t1 t2 t3 at f b s block_at slow_at fits first second third block slow =
    let both = length-append f b in
    let behind : slow_at ≡ at + length (f ++ b) = omega (arith, slow, both) in
    told-behind t0 t2 t3 at (f ++ b) s slow_at fits (told-behind t0 t1 t2 at f b block_at fits first second block) third behind

pub content-of : (rows : Rows) (f b s : List ℕ) → f ≡ rows.fast → b ≡ rows.block → s ≡ rows.slow → f ++ b ++ s ≡ content_bytes (row rows)
content-of rows f b s fast block slow =
    ap (λ xs. xs ++ b ++ s) fast ∙ ap (λ xs. rows.fast ++ xs ++ s) block ∙ ap (λ xs. rows.fast ++ rows.block ++ xs) slow

-- a call that tells more of some places leaves as many
pub told-length : (t0 t1 : Told) (at : ℕ) (bytes : List ℕ) → at + length bytes ≤ length t0 → t1 ≡ with_told t0 at (known bytes) → length t1 ≡ length t0
told-length t0 t1 at bytes fits is = let long = length-known bytes in ap length is ∙ length-put t0 at (known bytes) (omega (arith, fits, long))

pub torn-length : (t0 t1 : Told) (at n : ℕ) → at + n ≤ length t0 → t1 ≡ with_told t0 at (unknown n) → length t1 ≡ length t0
torn-length t0 t1 at n fits is = let none : Option ℕ = None in let long = length-replicate n none in ap length is ∙ length-put t0 at (unknown n) (omega (arith, fits, long))

-- bytes that are told of a whole range
pub told-whole : (old : Told) (bytes : List ℕ) → length old ≡ length bytes → with_told old 0 (known bytes) ≡ known bytes
told-whole old bytes same =
    let long = length-known bytes in
    ap (λ (xs : Told). known bytes ++ xs) (drop_all (0 + length (known bytes)) old (omega (arith, long, same))) ∙ append-nil (known bytes)

told-is-known : (bytes : List ℕ) → told_is (known bytes) bytes ≡ true
told-is-known [] = refl
told-is-known (x ∷ bytes) = ap (λ b. b && told_is (known bytes) bytes) (nat_eq_equiv.refl x) ∙ told-is-known bytes

-- Bytes that are written where they stand.
module _ (told : Told) (x y z : List ℕ) (at : ℕ) (stand : told ≡ known (x ++ y ++ z)) (is : at ≡ length x) where
  -- they are known as before
  pub rewritten : with_told told at (known y) ≡ told
  rewritten =
      let place : at ≡ length x + 0 = omega (arith, is) in
      let all : put y 0 y ≡ y = ap (λ xs. y ++ xs) (drop_all (0 + length y) y (omega arith)) ∙ append-nil y in
      ap (λ (t : Told). with_told t at (known y)) stand
      ∙ known-put (x ++ y ++ z) at y
      ∙ ap (λ n. known (overwritten (x ++ y ++ z) n y)) place
      ∙ ap known (put-between x y z 0 y (omega arith) ∙ ap (λ xs. x ++ xs ++ z) all)
      ∙ sym stand

  -- so nothing is changed
  pub unchanged : (n : ℕ) → changes_after (part_told told at (length y)) y n ≡ n
  unchanged n =
      let all = ap length stand ∙ length-known (x ++ y ++ z) in
      let front = length-append (x ++ y) z in
      let first = length-append x y in
      let there : part_told told at (length y) ≡ known y =
      ap (λ (t : Told). part_told t at (length y)) (sym rewritten) ∙ part-of-put told at (length y) y (omega (arith, is, all, front, first)) refl in
      ap (λ (t : Told). changes_after t y n) there ∙ ap (λ b. if b then n else n + 1) (told-is-known y)
