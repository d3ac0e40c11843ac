-- Marks of blocks that are written, and the numbers of those that are set.
use Rattle.std.proofs.Common.{◌≡◌, ◌≢◌, inl, inr, ℕ, zero, suc, ◌+◌, ◌≤◌, ◌<◌, Bool, true, false, cond, List, [], ◌∷◌, ◌++◌, length, get_or, set, take, refl, sym, ◌∙◌, ap, subst, arith}
use Rattle.std.specs.List.{AllByRecursion, Contains}
use Rattle.std.specs.List.Sorted.{IsStrictlySortedBy}
use Rattle.std.specs.Ordering.{nat_cmp}
use Rattle.std.specs.Cmp.{nat_cmp_is}
use Rattle.std.specs.declared.cmp.Ordering.TheVariants.{Less}
use Rattle.std.proofs.lemmas.Bool.{cases_lt, cases_Bool, true≢false}
use Rattle.std.proofs.lemmas.List.{get_or-set_same, get_or-set_other, get_or_past, get_or-take, length-set, length-take, length-replicate}
use Rattle.std.proofs.lemmas.List.Sums.{sum_by-cons}
use Rattle.std.proofs.lemmas.List.Elements.{Contains-append_right, All-from_recursion}
use Rattle.std.specs.Prelude.{replicate}
use Rattle.std.specs.FinMap as fin
use Rattle.posix_calls.specs.Content.{Entries}
use Rattle.posix_calls.specs.declared.limits.TheConstants.{MAX_ENTRIES}
use Rattle.layout.proofs.DirChanges.{listed_now}
use Rattle.graph_change.specs.Net.{Child}
use Rattle.tree_blocks.specs.Inode.{entry_at, named_entries}
use Rattle.tree_blocks.specs.Directory.{numbered_blocks, AreHeld}
use Rattle.tree_blocks.specs.BlockMarks.{numbers_from, count_set, WereMarked, ListsWritten}
use Rattle.tree_blocks.proofs.Directories.{len_named}

count_cons : (b : Bool) (marks : List Bool) → count_set (b ∷ marks) ≡ cond b 1 0 + count_set marks
count_cons b marks = sum_by-cons (λ x. cond x 1 0) b marks

-- ---- one mark more

count_one : (marks : List Bool) (k : ℕ) → count_set (set marks k true) ≤ count_set marks + 1
count_one [] k = omega arith
count_one (b ∷ marks) zero = omega (arith, count_cons b marks, count_cons true marks)
count_one (b ∷ marks) (suc k) = omega (arith, count_cons b marks, count_cons b (set marks k true), count_one marks k)

-- one that is not set is another, and was not set before
apart : (marks : List Bool) (a k : ℕ) → k < length marks → get_or (set marks a true) k false ≡ false → k ≢ a
apart marks a k lt unset at =
    true≢false (sym (get_or-set_same marks a true false (subst (λ j. j < length marks) at lt)) ∙ ap (λ j. get_or (set marks a true) j false) (sym at) ∙ unset)

before : (marks : List Bool) (a k : ℕ) → get_or (set marks a true) k false ≡ false → get_or marks k false ≡ false
before marks a k unset = elim (cases_lt k (length marks)) [
  | inl lt ↦ sym (get_or-set_other marks a k true false (apart marks a k lt unset)) ∙ unset
  | inr ge ↦ get_or_past marks k false ge
]

pub mark_none : (marks : List Bool) (bs : List (List ℕ)) → WereMarked 0 marks marks bs bs
mark_none marks bs = record { long = refl; few = omega arith; stay = λ k unset. unset; others = λ k lt unset. refl }

pub mark_one : (marks : List Bool) (a : ℕ) (old new : List (List ℕ)) → ((k : ℕ) → k ≢ a → numbered_blocks new k ≡ numbered_blocks old k) → WereMarked 1 marks (set marks a true) old new
mark_one marks a old new others = record {
  long = length-set marks a true;
  few = count_one marks a;
  stay = λ k unset. before marks a k unset;
  others = λ k lt unset. others k (apart marks a k (subst (λ n. k < n) (length-set marks a true) lt) unset);
}

pub mark_two : (marks : List Bool) (a b : ℕ) (old new : List (List ℕ)) → ((k : ℕ) → k ≢ a → k ≢ b → numbered_blocks new k ≡ numbered_blocks old k) → WereMarked 2 marks (set (set marks a true) b true) old new
mark_two marks a b old new others =
    let one = set marks a true in
    let long = length-set marks a true in
    let longer = length-set one b true in
    record {
      long = longer ∙ long;
      few = omega (arith, count_one marks a, count_one one b);
      stay = λ k unset. before marks a k (before one b k unset);
      others = λ k lt unset. others k (apart marks a k (omega (arith, lt, long, longer)) (before one b k unset)) (apart one b k (omega (arith, lt, longer)) unset);
    }

pub marks_more : (m n most : ℕ) (a b c : List Bool) (x y z : List (List ℕ)) → m + n ≤ most → WereMarked m a b x y → WereMarked n b c y z → WereMarked most a c x z
marks_more m n most a b c x y z le one two = record {
  long = two.long ∙ one.long;
  few = omega (arith, one.few, two.few, le);
  stay = λ k unset. one.stay k (two.stay k unset);
  others = λ k lt unset. two.others k lt unset ∙ one.others k (subst (λ n. k < n) two.long lt) (two.stay k unset);
}

-- ---- the numbers of marks

pub numbers_few : (n : ℕ) (marks : List Bool) → length (numbers_from n marks) ≤ count_set marks
numbers_few n [] = omega arith
numbers_few n (true ∷ marks) = omega (arith, count_cons true marks, numbers_few (n + 1) marks)
numbers_few n (false ∷ marks) = omega (arith, count_cons false marks, numbers_few (n + 1) marks)

less_is : (m n : ℕ) → m < n → nat_cmp m n ≡ Less
less_is m n lt = sym (nat_cmp_is m n Less lt)

above : (m n : ℕ) (marks : List Bool) → m < n → AllByRecursion (λ k. nat_cmp m k ≡ Less) (numbers_from n marks)
above m n [] lt = tt
above m n (true ∷ marks) lt = (less_is m n lt, above m (n + 1) marks (omega (arith, lt)))
above m n (false ∷ marks) lt = above m (n + 1) marks (omega (arith, lt))

pub numbers_rise : (n : ℕ) (marks : List Bool) → IsStrictlySortedBy nat_cmp (numbers_from n marks)
unfolding IsStrictlySortedBy
numbers_rise n [] = tt
numbers_rise n (true ∷ marks) = (above n (n + 1) marks (omega arith), numbers_rise (n + 1) marks)
numbers_rise n (false ∷ marks) = numbers_rise (n + 1) marks

below : (n end : ℕ) (marks : List Bool) → n + length marks ≤ end → AllByRecursion (λ k. k < end) (numbers_from n marks)
below n end [] le = tt
below n end (true ∷ marks) le = (omega (arith, le), below (n + 1) end marks (omega (arith, le)))
below n end (false ∷ marks) le = below (n + 1) end marks (omega (arith, le))

has : (n : ℕ) (marks : List Bool) (k : ℕ) → get_or marks k false ≡ true → Contains (numbers_from n marks) (n + k)
has n [] k is = absurd (true≢false (sym is))
has n (true ∷ marks) zero is = (0, omega arith, omega arith)
has n (false ∷ marks) zero is = absurd (true≢false (sym is))
has n (true ∷ marks) (suc k) is = Contains-append_right (n ∷ []) (numbers_from (n + 1) marks) (n + suc k) (subst (Contains (numbers_from (n + 1) marks)) (omega arith) (has (n + 1) marks k is))
has n (false ∷ marks) (suc k) is = subst (Contains (numbers_from (n + 1) marks)) (omega arith) (has (n + 1) marks k is)

shifted : (n k : ℕ) (b : Bool) (ns : List ℕ) → ns ++ cond b ((n + 1 + k) ∷ []) [] ≡ ns ++ cond b ((n + suc k) ∷ []) []
shifted n k b ns = let same : n + 1 + k ≡ n + suc k = omega arith in ap (λ m. ns ++ cond b (m ∷ []) []) same

-- one mark more is looked at
pub numbers_next : (n : ℕ) (marks : List Bool) (k : ℕ) → k < length marks → numbers_from n (take (suc k) marks) ≡ numbers_from n (take k marks) ++ cond (get_or marks k false) ((n + k) ∷ []) []
numbers_next n [] k lt = absurd (omega (arith, lt))
numbers_next n (true ∷ marks) zero lt = ap (λ m. m ∷ []) (omega arith)
numbers_next n (false ∷ marks) zero lt = refl
numbers_next n (true ∷ marks) (suc k) lt = ap (λ (ns : List ℕ). n ∷ ns) (numbers_next (n + 1) marks k (omega (arith, lt)) ∙ shifted n k (get_or marks k false) (numbers_from (n + 1) (take k marks)))
numbers_next n (false ∷ marks) (suc k) lt = numbers_next (n + 1) marks k (omega (arith, lt)) ∙ shifted n k (get_or marks k false) (numbers_from (n + 1) (take k marks))

-- ---- the blocks of a directory, of which those that were written are marked

count_none : (n : ℕ) → count_set (replicate n false) ≡ 0
count_none zero = refl
count_none (suc n) = count_cons false (replicate n false) ∙ (let none = count_none n in omega (arith, none))

count_front : (n : ℕ) (marks : List Bool) → count_set (take n marks) ≤ count_set marks
count_front zero marks = omega arith
count_front (suc n) [] = omega arith
count_front (suc n) (b ∷ marks) = omega (arith, count_cons b (take n marks), count_cons b marks, count_front n marks)

pub written_few : (n end most : ℕ) (marks : List Bool) (old new : List (List ℕ)) → WereMarked most (replicate n false) marks old new → length (numbers_from 0 (take end marks)) ≤ most
written_few n end most marks old new are = omega (arith, numbers_few 0 (take end marks), count_front end marks, are.few, count_none n)

-- a block that was not there before is marked, since it has bytes
module _ (most n : ℕ) (marks : List Bool) (old new : List (List ℕ)) (are : WereMarked most (replicate n false) marks old new) (room : length new ≤ n) (some : (k : ℕ) → k < length new → 0 < length (numbered_blocks new k)) where
  long : length marks ≡ n
  long = are.long ∙ length-replicate n false

  numbered_in : (k : ℕ) → k < length new → get_or marks k false ≡ true → Contains (numbers_from 0 (take (length new) marks)) k
  numbered_in k lt on = subst (Contains (numbers_from 0 (take (length new) marks))) (omega arith) (has 0 (take (length new) marks) k (get_or-take (length new) marks k false lt ∙ on))

  pub written_are : ListsWritten old new (numbers_from 0 (take (length new) marks))
  written_are = record {
    rising = numbers_rise 0 (take (length new) marks);
    inside = All-from_recursion (λ k. k < length new) (numbers_from 0 (take (length new) marks)) (below 0 (length new) (take (length new) marks) (omega (arith, length-take (length new) marks)));
    added = λ k past lt. elim (cases_Bool (get_or marks k false)) [
      | inl on ↦ numbered_in k lt on
      | inr unset ↦ (let same : length (numbered_blocks new k) ≡ 0 = ap length (are.others k (omega (arith, long, room, lt)) unset ∙ get_or_past old k [] past) in absurd (omega (arith, same, some k lt)))
    ];
    others = λ k lt. elim (cases_Bool (get_or marks k false)) [
      | inl on ↦ inl (numbered_in k lt on)
      | inr unset ↦ inr (are.others k (omega (arith, long, room, lt)) unset)
    ];
  }

-- ---- a directory after a change of names

module _ (owner n : ℕ) (bs : List (List ℕ)) (held : AreHeld owner n bs) where
  pub block_has : (k : ℕ) → k < length bs → 0 < length (numbered_blocks bs k)
  block_has k lt = let size = (listed_now (numbered_blocks bs k) (held.directory.parts k (subst (λ m. k < m) held.long lt)).entries).long in omega (arith, size)

  pub few_left : (m : Entries Child) → named_entries (entry_at (numbered_blocks bs)) n ≡ m → (MAX_ENTRIES < fin.len m → ⊥) → n ≤ MAX_ENTRIES
  few_left m is none = elim (cases_lt MAX_ENTRIES (fin.len m)) [
    | inl over ↦ absurd (none over)
    | inr le ↦ let same = sym (len_named (entry_at (numbered_blocks bs)) n held.directory.distinct) ∙ ap (λ (x : Entries Child). fin.len x) is in omega (arith, same, le)
  ]
