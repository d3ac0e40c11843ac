-- Runs of blocks to which one is added.
use Rattle.std.proofs.Common.{◌≡◌, ◌≤◌, ◌<◌, ℕ, zero, suc, ◌+◌, ◌-◌, List, [], ◌∷◌, ◌++◌, length, get_or, set, Some, None, refl, sym, ap, ◌∙◌, arith}
use Rattle.std.specs.List.{range_with_len, AllByRecursion}
use Rattle.std.proofs.lemmas.List.{append_assoc, append-nil}
use Rattle.block_alloc.specs.declared.runs.Run.{Run}
use Rattle.block_alloc.specs.Runs.{run_blocks, blocks_of}
use Rattle.layout.specs.declared.extents.Extent.{Extent}
use Rattle.extent_tree.specs.Places.{place_of}
use Rattle.extent_tree.specs.Map.{run_end, place_list, places_of, HasBlock}

range_more : (a n : ℕ) → range_with_len a (n + 1) ≡ range_with_len a n ++ (a + n) ∷ []
range_more a zero = let e : a ≡ a + 0 = omega arith in ap (λ x. x ∷ []) e
range_more a (suc n) =
    let more : suc n + 1 ≡ suc (n + 1) = omega arith in
    let last : a + 1 + n ≡ a + suc n = omega arith in
    ap (range_with_len a) more ∙ ap (λ xs. a ∷ xs) (range_more (a + 1) n) ∙ ap (λ x. a ∷ (range_with_len (a + 1) n ++ x ∷ [])) last

-- a run with one block more
abbrev longer : Run → Run
longer r = record { first = r.first; count = r.count + 1 }

-- the last of some runs with one block more
pub lengthened : (rs : List Run) (k : ℕ) (d : Run) → k + 1 ≡ length rs → blocks_of (set rs k (longer (get_or rs k d))) ≡ blocks_of rs ++ run_end (get_or rs k d) ∷ []
lengthened [] k d is = absurd (omega (arith, is))
lengthened (r ∷ []) zero d is =
    append-nil (run_blocks (longer r)) ∙ range_more r.first r.count ∙ ap (λ xs. xs ++ run_end r ∷ []) (sym (append-nil (run_blocks r)))
lengthened (r ∷ s ∷ rs) zero d is = absurd (omega (arith, is))
lengthened (r ∷ rs) (suc k) d is =
    ap (λ xs. run_blocks r ++ xs) (lengthened rs k d (omega (arith, is)))
    ∙ sym (append_assoc (run_blocks r) (blocks_of rs) (run_end (get_or rs k d) ∷ []))

-- no run is empty, with one more of one block ..
pub pushed_some : (rs : List Run) (block : ℕ) → AllByRecursion HasBlock rs → AllByRecursion HasBlock (rs ++ record { first = block; count = 1 } ∷ [])
pushed_some [] block all = (omega arith, tt)
pushed_some (r ∷ rs) block all = (all.0, pushed_some rs block all.1)

-- .. or with one that is longer
pub longer_some : (rs : List Run) (k : ℕ) (d : Run) → AllByRecursion HasBlock rs → AllByRecursion HasBlock (set rs k (longer (get_or rs k d)))
longer_some [] k d all = tt
longer_some (r ∷ rs) zero d all = (omega arith, all.1)
longer_some (r ∷ rs) (suc k) d all = (all.0, longer_some rs k d all.1)

-- the places of some blocks: that of the first, and those of the rest
places_from : (es : List Extent) (b stop : ℕ) → b < stop → places_of es b (stop - b) ≡ place_list (place_of es b) ++ places_of es (b + 1) (stop - (b + 1))
places_from es b stop lt = let one : stop - b ≡ suc (stop - (b + 1)) = omega (arith, lt) in ap (places_of es b) one

-- what has come, and the places of what is left, are all that they were when one has come that is mapped ..
pub step_some : (es : List Extent) (b stop p : ℕ) (xs ys all : List ℕ) → b < stop → place_of es b ≡ Some p → ys ≡ xs ++ p ∷ [] → xs ++ places_of es b (stop - b) ≡ all → ys ++ places_of es (b + 1) (stop - (b + 1)) ≡ all
step_some es b stop p xs ys all lt is now before =
    let rest = places_of es (b + 1) (stop - (b + 1)) in
    ap (λ v. v ++ rest) now ∙ append_assoc xs (p ∷ []) rest ∙ ap (λ v. xs ++ v) (sym (places_from es b stop lt ∙ ap (λ o. place_list o ++ rest) is)) ∙ before

-- .. or one that is not
pub step_none : (es : List Extent) (b stop : ℕ) (xs all : List ℕ) → b < stop → place_of es b ≡ None → xs ++ places_of es b (stop - b) ≡ all → xs ++ places_of es (b + 1) (stop - (b + 1)) ≡ all
step_none es b stop xs all lt is before =
    let rest = places_of es (b + 1) (stop - (b + 1)) in
    ap (λ v. xs ++ v) (sym (places_from es b stop lt ∙ ap (λ o. place_list o ++ rest) is)) ∙ before

pub none_left : (es : List Extent) (b stop : ℕ) → stop ≤ b → places_of es b (stop - b) ≡ []
none_left es b stop le = let zero_left : stop - b ≡ 0 = omega (arith, le) in ap (places_of es b) zero_left

-- where none is mapped there are no places
pub none_mapped : (es : List Extent) (b stop : ℕ) (xs all : List ℕ) → ((k : ℕ) → b ≤ k → k < stop → place_of es k ≡ None) → xs ++ places_of es b (stop - b) ≡ all → xs ≡ all
none_mapped es b stop xs all none before = sym (append-nil xs) ∙ ap (λ (ps : List ℕ). xs ++ ps) (sym (nothing (stop - b) b (λ k le lt. none k le (omega (arith, lt, le))))) ∙ before
  where
    nothing : (n a : ℕ) → ((k : ℕ) → a ≤ k → k < a + n → place_of es k ≡ None) → places_of es a n ≡ []
    nothing zero a none = refl
    nothing (suc n) a none =
        let first : place_list (place_of es a) ≡ [] = ap place_list (none a (omega arith) (omega arith)) in
        ap (λ (ps : List ℕ). ps ++ places_of es (a + 1) n) first ∙ nothing n (a + 1) (λ k le lt. none k (omega (arith, le)) (omega (arith, lt)))
