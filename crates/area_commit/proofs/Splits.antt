-- What is taken stands before what is left.
use Rattle.std.proofs.Common.{◌≡◌, ◌<◌, ℕ, ◌+◌, List, [], ◌∷◌, ◌++◌, length, take, drop, sym, ap, ◌∙◌, refl, arith, subst, append_assoc, length-append}
use Rattle.std.specs.Prelude.{Result, Ok, Err, IfOk, OnOk}
use Rattle.std.proofs.lemmas.List.{take_at, drop_at, append-nil, map-append, length-map}
use Rattle.tier_device.specs.declared.media.Tier.{Tier}
use Rattle.tier_device.specs.declared.media.Tier.TheVariants.{Fast, Block, Slow}
use Rattle.block_alloc.specs.Runs.{blocks_of}
use Rattle.area_commit.specs.Value.{PoolsView, on_tier, free_data}
use Rattle.area_commit.specs.Allocations.{taken_data, WereTaken}
use Rattle.area_commit.specs.declared.allocation.Allocation.{Allocation}

-- ---- results

pub ok_at : {T E : Type 0} (r : Result T E) (P : T → Type 0) (x : T) → r ≡ Ok x → IfOk r P → P x
ok_at r P x is p = subst (λ q. IfOk q P) is p

pub with_ok : {T E : Type 0} (r : Result T E) (Q : T → Type 0) → ((x : T) → r ≡ Ok x → Q x) → IfOk r Q
with_ok (Ok x) Q each = each x refl
with_ok (Err e) Q each = tt

pub on_ok_each : {T E : Type 0} (r : Result T E) (Q : Type 0) → ((x : T) → r ≡ Ok x → Q) → OnOk r Q
on_ok_each (Ok x) Q each = each x refl
on_ok_each (Err e) Q each = tt

-- ---- three lists, each in two parts

module _ {A : Type 0} where
  abbrev Parted : List A → List A → List A → List A → List A → List A → Type 0
  Parted a x b y c z = (a ++ x) ++ ((b ++ y) ++ (c ++ z)) ≡ (a ++ (b ++ c)) ++ (x ++ (y ++ z))

  early : (a x y z : List A) → Parted a x [] y [] z
  early a x y z = simp (append_assoc, append-nil)

  middle : (a b y z : List A) → Parted a [] b y [] z
  middle a b y z = simp (append_assoc, append-nil)

  late : (a b c z : List A) → Parted a [] b [] c z
  late a b c z = simp (append_assoc, append-nil)

  parted : (a x b y c z : List A) → (0 < length b + length c → x ≡ []) → (0 < length c → y ≡ []) → Parted a x b y c z
  parted a x [] y [] z one two = early a x y z
  parted a x (b ∷ bs) y [] z one two = subst (λ w. Parted a w (b ∷ bs) y [] z) (sym (one (omega arith))) (middle a (b ∷ bs) y z)
  parted a x b y (c ∷ cs) z one two = subst (λ w. Parted a w b y (c ∷ cs) z) (sym (one (omega arith))) (subst (λ w. Parted a [] b w (c ∷ cs) z) (sym (two (omega arith))) (late a b (c ∷ cs) z))

  empty : (xs : List A) → length xs ≡ 0 → xs ≡ []
  empty [] none = refl
  empty (x ∷ xs) none = absurd (omega (arith, none))

-- ---- the free data blocks

on-append : (t : Tier) (old front rest : List ℕ) → front ++ rest ≡ old → on_tier t old ≡ on_tier t front ++ on_tier t rest
on-append t old front rest is = ap (on_tier t) (sym is) ∙ map-append (λ k. (t, k)) front rest

on-empty : (t : Tier) (ks : List ℕ) → length ks ≡ 0 → on_tier t ks ≡ []
on-empty t ks none = ap (on_tier t) (empty ks none)

on-length : (t : Tier) (ks : List ℕ) → length (on_tier t ks) ≡ length ks
on-length t ks = length-map ks (λ k. (t, k))

pub free-length : (p : PoolsView) → length (free_data p) ≡ length p.fast.free + length p.block.free + length p.slow.free
free-length p =
    let rest = on_tier Block p.block.free ++ on_tier Slow p.slow.free in
    omega (arith, length-append (on_tier Fast p.fast.free) rest, length-append (on_tier Block p.block.free) (on_tier Slow p.slow.free), on-length Fast p.fast.free, on-length Block p.block.free, on-length Slow p.slow.free)

pub taken-length : (taken : Allocation) → length (taken_data taken) ≡ length (blocks_of taken.fast.items) + length (blocks_of taken.block.items) + length (blocks_of taken.slow.items)
taken-length taken =
    let f = blocks_of taken.fast.items in
    let b = blocks_of taken.block.items in
    let s = blocks_of taken.slow.items in
    omega (arith, length-append (on_tier Fast f) (on_tier Block b ++ on_tier Slow s), length-append (on_tier Block b) (on_tier Slow s), on-length Fast f, on-length Block b, on-length Slow s)

-- A pool is emptied before anything is taken of a slower one.
pub record FastestFirst (new : PoolsView) (taken : Allocation) : Type 0 where
  pub fast : 0 < length (blocks_of taken.block.items) + length (blocks_of taken.slow.items) → length new.fast.free ≡ 0
  pub block : 0 < length (blocks_of taken.slow.items) → length new.block.free ≡ 0

pub free_split : (old new : PoolsView) (taken : Allocation) → WereTaken old new taken → FastestFirst new taken → free_data old ≡ taken_data taken ++ free_data new
free_split old new taken were first =
    let f = blocks_of taken.fast.items in
    let b = blocks_of taken.block.items in
    let s = blocks_of taken.slow.items in
    let fast = on-append Fast old.fast.free f new.fast.free (were.per_tier Fast).front in
    let block = on-append Block old.block.free b new.block.free (were.per_tier Block).front in
    let slow = on-append Slow old.slow.free s new.slow.free (were.per_tier Slow).front in
    ap (λ x. x ++ (on_tier Block old.block.free ++ on_tier Slow old.slow.free)) fast
    ∙ ap (λ x. (on_tier Fast f ++ on_tier Fast new.fast.free) ++ (x ++ on_tier Slow old.slow.free)) block
    ∙ ap (λ x. (on_tier Fast f ++ on_tier Fast new.fast.free) ++ ((on_tier Block b ++ on_tier Block new.block.free) ++ x)) slow
    ∙ parted (on_tier Fast f) (on_tier Fast new.fast.free) (on_tier Block b) (on_tier Block new.block.free) (on_tier Slow s) (on_tier Slow new.slow.free)
    (λ some. on-empty Fast new.fast.free (first.fast (omega (arith, some, on-length Block b, on-length Slow s))))
    (λ some. on-empty Block new.block.free (first.block (omega (arith, some, on-length Slow s))))

module _ (old new : PoolsView) (taken : Allocation) (n : ℕ) (were : WereTaken old new taken) (first : FastestFirst new taken) (count : length (taken_data taken) ≡ n) where
  pub data_taken : taken_data taken ≡ take n (free_data old)
  data_taken = sym (ap (take n) (free_split old new taken were first) ∙ take_at (taken_data taken) (free_data new) n count)

  pub data_left : free_data new ≡ drop n (free_data old)
  data_left = sym (ap (drop n) (free_split old new taken were first) ∙ drop_at (taken_data taken) (free_data new) n count)
