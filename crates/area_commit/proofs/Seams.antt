-- Runs that are put behind others, and what is taken of a pool twice.
use Rattle.std.proofs.Common.{◌≡◌, ◌≤◌, ◌<◌, inl, inr, ℕ, suc, ◌+◌, ◌-◌, List, [], ◌∷◌, ◌++◌, length, take, drop, get_or, set, sym, ap, ◌∙◌, refl, arith, subst, append_assoc, length-append, length-drop}
use Rattle.std.specs.Prelude.{Result, Ok, Err, OnOk}
use Rattle.std.specs.List.{range_with_len}
use Rattle.std.proofs.lemmas.Bool.{cases_lt}
use Rattle.std.proofs.lemmas.List.{take_all, take_more, set_at, append-nil, length-take-le, take-append-drop}
use Rattle.std.proofs.lemmas.List.Concat.{flat_map-append}
use Rattle.tier_device.specs.declared.media.Tier.{Tier}
use Rattle.block_alloc.specs.declared.runs.Run.{Run}
use Rattle.block_alloc.specs.Runs.{run_blocks, blocks_of, AreNormalRuns, Rising}
use Rattle.block_alloc.specs.Value.{FreeBlocks, SamePool}
use Rattle.block_alloc.proofs.Blocks.{range-split, blocks-push}
use Rattle.block_alloc.proofs.Joins.{normal-two, last-replaced, last-within, normal-wider, length-run}
use Rattle.area_commit.specs.Value.{PoolsView, data_pool}
use Rattle.area_commit.specs.declared.allocation.Allocation.{Allocation}
use Rattle.area_commit.specs.Allocations.{CanGive, CanRelease, SameBlocks, WasTaken, TakesMore, runs_of}
use Rattle.area_commit.proofs.Fronts.{behind, rising-right}

-- ---- rising lists

rising-left : (low end : ℕ) (xs ys : List ℕ) → Rising low end (xs ++ ys) → Rising low end xs
rising-left low end [] ys is = tt
rising-left low end (x ∷ xs) ys is = (is.0, is.1, rising-left (x + 1) end xs ys is.2)

rising-wider : (low end low' end' : ℕ) (xs : List ℕ) → low' ≤ low → end ≤ end' → Rising low end xs → Rising low' end' xs
rising-wider low end low' end' [] below above is = tt
rising-wider low end low' end' (x ∷ xs) below above is = (omega (arith, below, is.0), omega (arith, above, is.1), rising-wider (x + 1) end (x + 1) end' xs (omega arith) above is.2)

pub length-runs : (low end : ℕ) (runs : List Run) → AreNormalRuns low end runs → length runs ≤ length (blocks_of runs)
length-runs low end [] is = omega arith
length-runs low end (r ∷ rs) is = omega (arith, length-append (run_blocks r) (blocks_of rs), length-run r, is.1, length-runs (r.first + r.count + 1) end rs is.3)

-- ---- the last of some runs, and the first of others

-- a run in one with another that begins where it ends
abbrev pub joined : Run → Run → Run
joined r t = record { first = r.first; count = r.count + t.count }

joined_run : (r t : Run) → r.first + r.count ≡ t.first → run_blocks (joined r t) ≡ run_blocks r ++ run_blocks t
joined_run r t touch = range-split r.first r.count t.count ∙ ap (λ a. run_blocks r ++ range_with_len a t.count) touch

module _ (front : List Run) (r t : Run) (rest : List Run) where
  seam_blocks : r.first + r.count ≡ t.first → blocks_of ((front ++ joined r t ∷ []) ++ rest) ≡ blocks_of (front ++ r ∷ []) ++ blocks_of (t ∷ rest)
  seam_blocks touch =
      flat_map-append run_blocks (front ++ joined r t ∷ []) rest
      ∙ ap (λ xs. xs ++ blocks_of rest) (blocks-push front (joined r t) ∙ ap (λ xs. blocks_of front ++ xs) (joined_run r t touch) ∙ sym (append_assoc (blocks_of front) (run_blocks r) (run_blocks t)) ∙ ap (λ xs. xs ++ run_blocks t) (sym (blocks-push front r)))
      ∙ append_assoc (blocks_of (front ++ r ∷ [])) (run_blocks t) (blocks_of rest)

  seam_normal : (low end : ℕ) → r.first + r.count ≡ t.first → AreNormalRuns low end (front ++ r ∷ []) → AreNormalRuns low end (t ∷ rest) → AreNormalRuns low end ((front ++ joined r t ∷ []) ++ rest)
  seam_normal low end touch is more =
      let last = last-within low end front r is in
      let ends : t.first + t.count + 1 ≡ r.first + (r.count + t.count) + 1 = omega (arith, touch) in
      let before = last-replaced low end front r (joined r t) is refl (omega (arith, last.0)) (omega (arith, more.2, touch)) in
      subst (AreNormalRuns low end) (sym (append_assoc front (joined r t ∷ []) rest)) (normal-two low end front (joined r t) rest before (subst (λ n. AreNormalRuns n end rest) ends more.3))

  later : (low end : ℕ) → 0 < r.count → 0 < t.count → Rising low end (blocks_of (front ++ r ∷ []) ++ blocks_of (t ∷ rest)) → r.first + r.count ≤ t.first
  later low end some more is =
      let n = t.count - 1 in
      let same : t.count ≡ suc n = omega (arith, more) in
      let parts : blocks_of (front ++ r ∷ []) ++ blocks_of (t ∷ rest) ≡ blocks_of front ++ (run_blocks r ++ blocks_of (t ∷ rest)) = ap (λ xs. xs ++ blocks_of (t ∷ rest)) (blocks-push front r) ∙ append_assoc (blocks_of front) (run_blocks r) (blocks_of (t ∷ rest)) in
      let behind_r : Rising (r.first + r.count) end (range_with_len t.first t.count ++ blocks_of rest) = behind low end r (blocks_of (t ∷ rest)) some (rising-right low end (blocks_of front) (run_blocks r ++ blocks_of (t ∷ rest)) (subst (Rising low end) parts is)) in
      (subst (λ c. Rising (r.first + r.count) end (range_with_len t.first c ++ blocks_of rest)) same behind_r).0

  gap_normal : (low end low' end' : ℕ) → (r.first + r.count ≡ t.first → ⊥) → AreNormalRuns low end (front ++ r ∷ []) → AreNormalRuns low end (t ∷ rest) → Rising low' end' (blocks_of (front ++ r ∷ []) ++ blocks_of (t ∷ rest)) → AreNormalRuns low end ((front ++ r ∷ []) ++ t ∷ rest)
  gap_normal low end low' end' apart is more rising =
      let last = last-within low end front r is in
      let after = later low' end' last.0 more.1 rising in
      let gap : r.first + r.count + 1 ≤ t.first = elim (cases_lt (r.first + r.count) t.first) [ inl below ↦ omega (arith, below) | inr past ↦ absurd (apart (omega (arith, past, after))) ] in
      subst (AreNormalRuns low end) (sym (append_assoc front (r ∷ []) (t ∷ rest))) (normal-two low end front r (t ∷ rest) is (gap, more.1, more.2, more.3))

-- ---- one list behind another

abbrev last_of : List Run → Run → Run
last_of runs d = get_or runs (length runs - 1) d

last_split : (runs : List Run) (d : Run) → 0 < length runs → runs ≡ take (length runs - 1) runs ++ last_of runs d ∷ []
last_split runs d some =
    let n : ℕ = length runs - 1 in
    let whole : n + 1 ≡ length runs = omega (arith, some) in
    sym (take_all (length runs) runs (omega arith)) ∙ ap (λ k. take k runs) (sym whole) ∙ take_more runs n d (omega (arith, some))

last_set : (runs : List Run) (d j : Run) → 0 < length runs → set runs (length runs - 1) j ≡ take (length runs - 1) runs ++ j ∷ []
last_set runs d j some =
    let n : ℕ = length runs - 1 in
    ap (λ l. set l n j) (last_split runs d some) ∙ set_at (take n runs) (last_of runs d) [] j n (length-take-le n runs (omega arith))

first_same : (runs : List Run) (d e : Run) → 0 < length runs → get_or runs 0 d ≡ get_or runs 0 e
first_same [] d e some = absurd (omega (arith, some))
first_same (r ∷ rs) d e some = refl

first_split : (runs : List Run) (d : Run) → 0 < length runs → runs ≡ get_or runs 0 d ∷ drop 1 runs
first_split [] d some = absurd (omega (arith, some))
first_split (r ∷ rs) d some = refl

module _ (runs more : List Run) (d : Run) (some : 0 < length runs) (others : 0 < length more) where
  abbrev r : Run
  r = last_of runs d

  abbrev t : Run
  t = get_or more 0 d

  abbrev front : List Run
  front = take (length runs - 1) runs

  list_is : set runs (length runs - 1) (joined r t) ++ drop 1 more ≡ (front ++ joined r t ∷ []) ++ drop 1 more
  list_is = ap (λ l. l ++ drop 1 more) (last_set runs d (joined r t) some)

  pub joined_blocks : r.first + r.count ≡ t.first → blocks_of (set runs (length runs - 1) (joined r t) ++ drop 1 more) ≡ blocks_of runs ++ blocks_of more
  joined_blocks touch =
      ap blocks_of list_is ∙ seam_blocks front r t (drop 1 more) touch
      ∙ ap (λ l. blocks_of l ++ blocks_of (t ∷ drop 1 more)) (sym (last_split runs d some))
      ∙ ap (λ l. blocks_of runs ++ blocks_of l) (sym (first_split more d others))

  pub joined_normal : (low end : ℕ) → r.first + r.count ≡ t.first → AreNormalRuns low end runs → AreNormalRuns low end more → AreNormalRuns low end (set runs (length runs - 1) (joined r t) ++ drop 1 more)
  joined_normal low end touch is more_is =
      subst (AreNormalRuns low end) (sym list_is) (seam_normal front r t (drop 1 more) low end touch (subst (AreNormalRuns low end) (last_split runs d some) is) (subst (AreNormalRuns low end) (first_split more d others) more_is))

  apart_both : (low end low' end' : ℕ) → (r.first + r.count ≡ t.first → ⊥) → AreNormalRuns low end runs → AreNormalRuns low end more → Rising low' end' (blocks_of runs ++ blocks_of more) → AreNormalRuns low end (runs ++ more)
  apart_both low end low' end' apart is more_is rising =
      let one : runs ≡ front ++ r ∷ [] = last_split runs d some in
      let two : more ≡ t ∷ drop 1 more = first_split more d others in
      subst (λ l. AreNormalRuns low end (l ++ more)) (sym one) (subst (λ l. AreNormalRuns low end ((front ++ r ∷ []) ++ l)) (sym two)
      (gap_normal front r t (drop 1 more) low end low' end' apart (subst (AreNormalRuns low end) one is) (subst (AreNormalRuns low end) two more_is)
      (subst (λ l. Rising low' end' (blocks_of (front ++ r ∷ []) ++ blocks_of l)) two (subst (λ l. Rising low' end' (blocks_of l ++ blocks_of more)) one rising))))

-- what is written where the last run is lengthened by the first of the others, and the rest of those is put behind
pub joined_items : (runs more new : List Run) (r d : Run) (k : ℕ) → 0 < length more → k ≡ length runs → r ≡ get_or runs (k - 1) r → new ≡ set runs (k - 1) (joined r (get_or more 0 d)) ++ take (length more - 1) (drop 1 more)
    → new ≡ set runs (length runs - 1) (joined (last_of runs r) (get_or more 0 r)) ++ drop 1 more
joined_items runs more new r d k others k_is r_is is =
    let last : r ≡ last_of runs r = r_is ∙ ap (λ j. get_or runs (j - 1) r) k_is in
    let rest : take (length more - 1) (drop 1 more) ≡ drop 1 more = take_all (length more - 1) (drop 1 more) (omega (arith, length-drop 1 more)) in
    is
    ∙ ap (λ l. set runs (k - 1) (joined r (get_or more 0 d)) ++ l) rest
    ∙ ap (λ j. set runs (j - 1) (joined r (get_or more 0 d)) ++ drop 1 more) k_is
    ∙ ap (λ (x : Run). set runs (length runs - 1) (joined x (get_or more 0 d)) ++ drop 1 more) last
    ∙ ap (λ (y : Run). set runs (length runs - 1) (joined (last_of runs r) y) ++ drop 1 more) (first_same more d r others)

pub apart_normal : (runs more : List Run) (d : Run) (low end low' end' : ℕ) → (0 < length runs → 0 < length more → (last_of runs d).first + (last_of runs d).count ≡ (get_or more 0 d).first → ⊥) → AreNormalRuns low end runs → AreNormalRuns low end more → Rising low' end' (blocks_of runs ++ blocks_of more) → AreNormalRuns low end (runs ++ more)
apart_normal [] more d low end low' end' apart is more_is rising = more_is
apart_normal (x ∷ xs) [] d low end low' end' apart is more_is rising = subst (AreNormalRuns low end) (sym (append-nil (x ∷ xs))) is
apart_normal (x ∷ xs) (y ∷ ys) d low end low' end' apart is more_is rising = apart_both (x ∷ xs) (y ∷ ys) d (omega arith) (omega arith) low end low' end' (apart (omega arith) (omega arith)) is more_is rising

-- ---- more of a pool

module _ (p m n : FreeBlocks) (old more : List Run) (count : ℕ) (can : CanGive p old) (same : SameBlocks p m) (apart : AreNormalRuns m.first m.end more) (blocks : blocks_of more ≡ take count m.free) where
  more_is : AreNormalRuns p.first p.end more
  more_is = subst (λ low. AreNormalRuns low p.end more) same.pool.first (subst (λ end. AreNormalRuns m.first end more) same.pool.end apart)

  two : (blocks_of old ++ blocks_of more) ++ drop count m.free ≡ blocks_of old ++ p.free
  two = ap (λ b. (blocks_of old ++ b) ++ drop count m.free) blocks ∙ append_assoc (blocks_of old) (take count m.free) (drop count m.free) ∙ ap (λ b. blocks_of old ++ b) (take-append-drop count m.free ∙ same.free)

  pub old_wide : p.end < 4294967296 → AreNormalRuns 0 4294967295 old
  old_wide fits = normal-wider p.first p.end 0 4294967295 old (omega arith) (omega (arith, fits)) can.apart

  pub more_wide : p.end < 4294967296 → AreNormalRuns 0 4294967295 more
  more_wide fits = normal-wider p.first p.end 0 4294967295 more (omega arith) (omega (arith, fits)) more_is

  pub both_rise : p.end < 4294967296 → Rising 0 4294967295 (blocks_of old ++ blocks_of more)
  both_rise fits = rising-wider p.first p.end 0 4294967295 (blocks_of old ++ blocks_of more) (omega arith) (omega (arith, fits)) (rising-left p.first p.end (blocks_of old ++ blocks_of more) (drop count m.free) (subst (Rising p.first p.end) (sym two) can.before))

  pub can_give_all : (all : List Run) → SamePool m n → length old + 1 ≤ m.room → m.room + length more ≤ n.room + 1 → n.free ≡ drop count m.free → blocks_of all ≡ blocks_of old ++ blocks_of more
      → ((low end : ℕ) → AreNormalRuns low end old → AreNormalRuns low end more → AreNormalRuns low end all) → length all ≤ length old + length more → CanGive n all
  can_give_all all pool room after left is normal few =
      let first : n.first ≡ p.first = pool.first ∙ same.pool.first in
      let end : n.end ≡ p.end = pool.end ∙ same.pool.end in
      let front : blocks_of all ++ n.free ≡ blocks_of old ++ p.free = ap (λ b. b ++ n.free) is ∙ ap (λ b. (blocks_of old ++ blocks_of more) ++ b) left ∙ two in
      record {
        apart = subst (λ low. AreNormalRuns low n.end all) (sym first) (subst (λ e. AreNormalRuns p.first e all) (sym end) (normal p.first p.end can.apart more_is));
        before = subst (λ low. Rising low n.end (blocks_of all ++ n.free)) (sym first) (subst (λ e. Rising p.first e (blocks_of all ++ n.free)) (sym end) (subst (Rising p.first p.end) (sym front) can.before));
        room = omega (arith, room, after, few);
      }

-- The blocks of a pool that were taken twice, and those that are left, are those that were taken once, and those that were left.
pub both_fronts : (old new : List Run) (free left : List ℕ) (count : ℕ) → blocks_of new ≡ blocks_of old ++ take count free → left ≡ drop count free → blocks_of new ++ left ≡ blocks_of old ++ free
both_fronts old new free left count is rest =
    ap (λ b. b ++ left) is ∙ ap (λ b. (blocks_of old ++ take count free) ++ b) rest ∙ append_assoc (blocks_of old) (take count free) (drop count free) ∙ ap (λ b. blocks_of old ++ b) (take-append-drop count free)

-- what follows from two facts of a call that succeeds
pub ok_both : {T E : Type 0} (r : Result T E) (P Q R : Type 0) → (P → Q → R) → OnOk r P → OnOk r Q → OnOk r R
ok_both (Ok x) P Q R then p q = then p q
ok_both (Err e) P Q R then p q = tt

-- ---- more of the node pool

-- What was taken of a pool is another list of runs now, of the same pool.
module _ (old new : FreeBlocks) (runs all : List Run) (can : CanGive new all) (pool : SamePool old new) (front : blocks_of all ++ new.free ≡ blocks_of runs ++ old.free) (kept : old.room ≤ new.room) where
  pub was_taken : (before : FreeBlocks) → WasTaken before old runs → WasTaken before new all
  was_taken before was =
      let first : new.first ≡ before.first = pool.first ∙ was.pool.first in
      let end : new.end ≡ before.end = pool.end ∙ was.pool.end in
      record {
        apart = subst (λ low. AreNormalRuns low before.end all) first (subst (λ e. AreNormalRuns new.first e all) end can.apart);
        front = front ∙ was.front;
        room = λ some. can.room;
        kept = omega (arith, was.kept, kept);
        pool = record { first = first; end = end };
      }

module _ (p q : PoolsView) (old new : Allocation) (others : (t : Tier) → data_pool q t ≡ data_pool p t) (runs_same : (t : Tier) → runs_of new t ≡ runs_of old t) where
  tier_still : (P : FreeBlocks → List Run → Type 0) (t : Tier) → P (data_pool p t) (runs_of old t) → P (data_pool q t) (runs_of new t)
  tier_still P t is = subst (λ v. P v (runs_of new t)) (sym (others t)) (subst (λ runs. P (data_pool p t) runs) (sym (runs_same t)) is)

  pub can_undo : CanRelease p old → CanGive q.nodes new.nodes.items → CanRelease q new
  can_undo can nodes = record { nodes = nodes; per_tier = λ t. tier_still CanGive t (can.per_tier t) }

  pub takes_more : CanRelease p old → CanGive q.nodes new.nodes.items → SamePool p.nodes q.nodes → blocks_of new.nodes.items ++ q.nodes.free ≡ blocks_of old.nodes.items ++ p.nodes.free → p.nodes.room ≤ q.nodes.room → TakesMore p old q new
  takes_more can nodes pool front kept = record {
    took = λ before order were. record {
      nodes = was_taken p.nodes q.nodes old.nodes.items new.nodes.items nodes pool front kept before.nodes were.nodes;
      per_tier = λ t. tier_still (λ v runs. WasTaken (data_pool before t) v runs) t (were.per_tier t);
    };
    undo = can_undo can nodes;
  }
