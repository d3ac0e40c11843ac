-- What is found among the first blocks of a cache, as blocks are put one after the other.
use Rattle.std.proofs.Common.{◌≡◌, ℕ, zero, suc, ◌<◌, ◌≤◌, Bool, true, false, cond, List, [], ◌∷◌, take, Some, refl, ap, sym, ◌∙◌, subst, arith}
use Rattle.std.specs.Prelude.{◌==◌, ◌&&◌, not}
use Rattle.std.specs.List.{filter}
use Rattle.std.proofs.lemmas.Bool.{and_parts, and_from, eqb-true, eq-eqb, cond-true, cond-false}
use Rattle.block_cache.specs.CacheList.{Block, bytes_at, in_front, is_at, put_block, without}

-- ---- more of the first ones

-- what is found among the first is found among all
pub found_in_all : (bs : List Block) (n j m : ℕ) (w : List ℕ) → bytes_at j m (take n bs) ≡ Some w → bytes_at j m bs ≡ Some w
found_in_all [] zero j m w is = is
found_in_all [] (suc n) j m w is = is
found_in_all (x ∷ bs) zero j m w is = absurd (cc)
found_in_all (x ∷ bs) (suc n) j m w is = elim (is_at j m x) as (λ t. cond t (Some x.bytes) (bytes_at j m (take n bs)) ≡ Some w → cond t (Some x.bytes) (bytes_at j m bs) ≡ Some w) [
  | true ↦ λ e. e
  | false ↦ λ e. found_in_all bs n j m w e
] is

taken_twice : (bs : List Block) (n m : ℕ) → n ≤ m → take n (take m bs) ≡ take n bs
taken_twice bs zero m le = refl
taken_twice [] (suc n) zero le = refl
taken_twice [] (suc n) (suc m) le = refl
taken_twice (x ∷ bs) (suc n) zero le = absurd (omega (arith, le))
taken_twice (x ∷ bs) (suc n) (suc m) le = ap (λ xs. x ∷ xs) (taken_twice bs n m (omega (arith, le)))

-- and among more of them
pub found_in_more : (bs : List Block) (n k j m : ℕ) (w : List ℕ) → n ≤ k → bytes_at j m (take n bs) ≡ Some w → bytes_at j m (take k bs) ≡ Some w
found_in_more bs n k j m w le is = found_in_all (take k bs) n j m w (ap (bytes_at j m) (taken_twice bs n k le) ∙ is)

-- and among those that pass a test, if it passes
passed : (p : Block → Bool) (bs : List Block) (n j m : ℕ) (w : List ℕ) → ((x : Block) → is_at j m x ≡ true → p x ≡ true) → bytes_at j m (take n bs) ≡ Some w → bytes_at j m (take n (filter p bs)) ≡ Some w
passed p [] n j m w pass is = is
passed p (x ∷ bs) zero j m w pass is = absurd (cc)
passed p (x ∷ bs) (suc n) j m w pass is =
    elim (is_at j m x) as (λ t. is_at j m x ≡ t → cond t (Some x.bytes) (bytes_at j m (take n bs)) ≡ Some w → bytes_at j m (take (suc n) (cond (p x) (x ∷ filter p bs) (filter p bs))) ≡ Some w) [
      | true ↦ λ at e.
          subst (λ t. bytes_at j m (take (suc n) (cond t (x ∷ filter p bs) (filter p bs))) ≡ Some w) (sym (pass x at))
          (cond-true (is_at j m x) (Some x.bytes) (bytes_at j m (take n (filter p bs))) at ∙ e)
      | false ↦ λ off e.
          elim (p x) as (λ t. bytes_at j m (take (suc n) (cond t (x ∷ filter p bs) (filter p bs))) ≡ Some w) [
            | true ↦ cond-false (is_at j m x) (Some x.bytes) (bytes_at j m (take n (filter p bs))) off ∙ passed p bs n j m w pass e
            | false ↦ found_in_more (filter p bs) n (suc n) j m w (omega arith) (passed p bs n j m w pass e)
          ]
    ] refl is

-- ---- a block is put

first_of : (bs : List Block) (i b k : ℕ) (bytes : List ℕ) → 0 < k → bytes_at i b (take k (in_front i b bytes bs)) ≡ Some bytes
first_of bs i b zero bytes some = absurd (omega (arith, some))
first_of bs i b (suc k) bytes some = cond-true ((i == i) && (b == b)) (Some bytes) (bytes_at i b (take k (without i b bs))) (and_from (i == i) (b == b) (eq-eqb i i refl) (eq-eqb b b refl))

past_first : (bs : List Block) (i b j m n k : ℕ) (bytes w : List ℕ) → ((j == i) && (m == b)) ≡ false → n < k → bytes_at j m (take n bs) ≡ Some w → bytes_at j m (take k (in_front i b bytes bs)) ≡ Some w
past_first bs i b j m n zero bytes w off few is = absurd (omega (arith, few))
past_first bs i b j m n (suc k) bytes w off few is =
    cond-false ((j == i) && (m == b)) (Some bytes) (bytes_at j m (take k (without i b bs))) off
    ∙ found_in_more (without i b bs) n k j m w (omega (arith, few)) (passed (λ x. not (is_at i b x)) bs n j m w apart is)
  where
    others : (s : Bool) → (s ≡ true → (j == i) && (m == b) ≡ true) → not s ≡ true
    others true same = absurd (let no' : true ≡ false = sym (same refl) ∙ off in cc no')
    others false same = refl

    apart : (x : Block) → is_at j m x ≡ true → not (is_at i b x) ≡ true
    apart x at = others (is_at i b x) (λ here.
        let there = and_parts (j == x.inode) (m == x.block) at in
        let put' = and_parts (i == x.inode) (b == x.block) here in
        and_from (j == i) (m == b)
        (eq-eqb j i (eqb-true j x.inode there.0 ∙ sym (eqb-true i x.inode put'.0)))
        (eq-eqb m b (eqb-true m x.block there.1 ∙ sym (eqb-true b x.block put'.1))))

-- it is the first
pub put_is_first : (bs : List Block) (i b k : ℕ) (bytes : List ℕ) → 0 < k → k ≤ 256 → bytes_at i b (take k (put_block i b bytes bs)) ≡ Some bytes
put_is_first bs i b k bytes some few = ap (bytes_at i b) (taken_twice (in_front i b bytes bs) k 256 few) ∙ first_of bs i b k bytes some

-- and each other one is at most one place further on
pub put_before : (bs : List Block) (i b j m n k : ℕ) (bytes w : List ℕ) → ((j == i) && (m == b)) ≡ false → n < k → k ≤ 256 → bytes_at j m (take n bs) ≡ Some w → bytes_at j m (take k (put_block i b bytes bs)) ≡ Some w
put_before bs i b j m n k bytes w off later few is = ap (bytes_at j m) (taken_twice (in_front i b bytes bs) k 256 few) ∙ past_first bs i b j m n k bytes w off later is
