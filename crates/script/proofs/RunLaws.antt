-- How runs come off from the left, and their bytes up to a limit.
use Rattle.std.proofs.Common.{zero, suc, append-nil, ◌≡◌, ◌∙◌, ap, List, ℕ, ◌+◌, ◌-◌, ◌≤◌, true, Option, None, Some, [], ◌∷◌, ◌++◌, refl, arith, length, take, is_some, option_map, min, append_assoc}
use Rattle.std.proofs.Math.ListN.{replicate}
use Rattle.std.proofs.Math.Seq.{take-append-add}
use Rattle.std.proofs.lemmas.Grind.{common_steps}
use Rattle.std.specs.List.{flat_map}
use Rattle.script.specs.Script.{all_runs, with_first, run_bytes, run, parts}
use Rattle.script.specs.LineValues.{or_empty}
use Rattle.script.specs.declared.runs.TheConstants.{MAX_DATA}

-- how much text is left
abbrev pub rest_length : Option (List ℕ) → ℕ
rest_length None = 0
rest_length (Some text) = 1 + length text

-- the first bytes of some and of runs behind them
unfoldable pub cut_behind : List ℕ → Option (List (ℕ × ℕ)) → Option (List ℕ)
cut_behind bytes None = None
cut_behind bytes (Some rs) = Some (take MAX_DATA (bytes ++ flat_map run_bytes rs))

-- a run in front makes no runs of what are none
pub is_some-with_first : (r : ℕ × ℕ) (rest : Option (List ℕ)) → is_some (with_first (Some (r, rest))) ≡ is_some (all_runs rest)
is_some-with_first r rest = map_keeps (all_runs rest)
  where
    map_keeps : (o : Option (List (ℕ × ℕ))) → is_some (option_map (λ rs. r ∷ rs) o) ≡ is_some o
    map_keeps None = refl
    map_keeps (Some rs) = refl

-- what is cut once may be cut before
pub take-take_append : (m : ℕ) (xs ys : List ℕ) → take m (take m xs ++ ys) ≡ take m (xs ++ ys)
take-take_append m [] ys = grind (arith, common_steps)
take-take_append zero (x ∷ xs) ys = refl
take-take_append (suc m) (x ∷ xs) ys = grind (arith, common_steps, take-take_append m xs ys)

-- the first of a run's bytes
pub take-run_bytes : (k n b : ℕ) → take k (replicate n b) ≡ replicate (min n k) b
take-run_bytes zero n b = grind (arith, common_steps)
take-run_bytes (suc k) zero b = grind (arith, common_steps)
take-run_bytes (suc k) (suc n) b = grind (arith, common_steps, take-run_bytes k n b)

-- a run as far as there is room for it
pub take-run : (m n b : ℕ) (xs : List ℕ) → length xs ≤ m → take m (xs ++ replicate n b) ≡ xs ++ replicate (min n (m - length xs)) b
take-run m n b xs room =
    let e : length xs + (m - length xs) ≡ m = omega (arith, room) in
    let f = take-append-add xs (replicate n b) (m - length xs) in
    grind (arith, e, f, take-run_bytes (m - length xs) n b)

-- a run that is added goes over to the front, as far as there is room
pub cut_behind-with_first : (bytes : List ℕ) (r : ℕ × ℕ) (rest : Option (List ℕ)) → cut_behind bytes (with_first (Some (r, rest))) ≡ cut_behind (take MAX_DATA (bytes ++ run_bytes r)) (all_runs rest)
unfolding cut_behind
cut_behind-with_first bytes r rest = over (all_runs rest)
  where
    over : (o : Option (List (ℕ × ℕ))) → cut_behind bytes (option_map (λ rs. r ∷ rs) o) ≡ cut_behind (take MAX_DATA (bytes ++ run_bytes r)) o
    over None = refl
    over (Some rs) = grind (arith, common_steps, take-take_append MAX_DATA (bytes ++ run_bytes r) (flat_map run_bytes rs), append_assoc {A = ℕ})

-- no more runs
pub all_runs-none : all_runs None ≡ Some []
unfolding all_runs
all_runs-none = refl

-- a run and those behind the `+` after it
pub all_runs-step : (text part rest : List ℕ) (r : ℕ × ℕ) → parts 43 text ≡ part ∷ parts 43 rest → run part ≡ Some r → all_runs (Some text) ≡ with_first (Some (r, Some rest))
unfolding all_runs
all_runs-step text part rest r is found = rw (is, found) refl

-- what is no run, in front of a `+`
pub all_runs-bad_step : (text part rest : List ℕ) → parts 43 text ≡ part ∷ parts 43 rest → run part ≡ None → all_runs (Some text) ≡ with_first None
unfolding all_runs
all_runs-bad_step text part rest is none = rw (is, none) refl

-- the last run
pub all_runs-last : (text : List ℕ) (r : ℕ × ℕ) → parts 43 text ≡ text ∷ [] → run text ≡ Some r → all_runs (Some text) ≡ with_first (Some (r, None))
unfolding all_runs
all_runs-last text r is found = rw (is, found) refl

-- what is no run, at the end
pub all_runs-bad_last : (text : List ℕ) → parts 43 text ≡ text ∷ [] → run text ≡ None → all_runs (Some text) ≡ with_first None
unfolding all_runs
all_runs-bad_last text is none = rw (is, none) refl

-- what filling up adds is a run, as far as there is room for it
pub filled : (m len count n b : ℕ) (xs new : List ℕ) → length xs ≡ len → len ≤ m → count ≡ min n (m - len) → new ≡ take (len + count) xs ++ replicate (len + count - len) b → new ≡ take m (xs ++ replicate n b)
filled m len count n b xs new is room least made =
    let e : len + count - len ≡ min n (m - length xs) = grind (arith, is, least) in
    let h : take (len + count) xs ≡ xs = take_all (len + count) xs (omega (arith, is)) in
    let t = take-run m n b xs (omega (arith, is, room)) in
    grind (arith, made, e, h, t)
  where
    take_all : (i : ℕ) (xs : List ℕ) → length xs ≤ i → take i xs ≡ xs
    take_all i xs past = grind (arith, common_steps, past)

-- with no more runs the bytes are all there
pub cut_behind-end : (bytes : List ℕ) → length bytes ≤ MAX_DATA → cut_behind bytes (all_runs None) ≡ Some bytes
unfolding cut_behind all_runs
cut_behind-end bytes room = ap Some (rw (append-nil bytes) (take_whole MAX_DATA bytes room))
  where
    take_whole : (i : ℕ) (xs : List ℕ) → length xs ≤ i → take i xs ≡ xs
    take_whole i xs past = grind (arith, common_steps, past)

-- what is no run has no bytes
pub cut_behind-none : (bytes : List ℕ) → cut_behind bytes (with_first None) ≡ None
unfolding cut_behind
cut_behind-none bytes = refl

-- the bytes of runs that can be read, up to the limit
pub cut_behind-whole : (o : Option (List (ℕ × ℕ))) (bytes : List ℕ) → is_some (option_map (flat_map run_bytes) o) ≡ true → cut_behind [] o ≡ Some bytes → bytes ≡ take MAX_DATA (or_empty (option_map (flat_map run_bytes) o))
unfolding cut_behind
cut_behind-whole None bytes readable is = grind (arith, common_steps, readable)
cut_behind-whole (Some rs) bytes readable is = grind (arith, common_steps, is)

-- which have some
pub cut_behind-some : (o : Option (List (ℕ × ℕ))) (xs ys : List ℕ) → is_some (option_map (flat_map run_bytes) o) ≡ true → cut_behind [] o ≡ None → xs ≡ ys
unfolding cut_behind
cut_behind-some None xs ys readable is = grind (arith, common_steps, readable)
cut_behind-some (Some rs) xs ys readable is = grind (arith, common_steps, is)

-- no more bytes than the limit are made of what is no run, since none is read
pub cut_behind-never : (o : Option (List (ℕ × ℕ))) (bytes : List ℕ) → is_some (option_map (flat_map run_bytes) o) ≡ true → cut_behind [] o ≡ cut_behind bytes (with_first None) → bytes ≡ take MAX_DATA (or_empty (option_map (flat_map run_bytes) o))
cut_behind-never o bytes readable is = cut_behind-some o bytes _ readable (is ∙ cut_behind-none bytes)
