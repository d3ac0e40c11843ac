-- Runs of blocks that a client fetches: read, laid over by its own records, and kept one after the other.
use Rattle.std.proofs.Common.{◌≡◌, ◌≢◌, inl, inr, ◌<◌, ℕ, zero, suc, ◌+◌, ◌*◌, List, [], ◌∷◌, ◌++◌, length, min, take, drop, get_or, Option, Some, None, refl, ap, sym, ◌∙◌, subst, arith}
use Rattle.std.specs.Prelude.{Result, Ok, Err, OnOk, OnErr, IfNone, IfSome}
use Rattle.std.proofs.lemmas.Bool.Decides.{eqb_tells}
use Rattle.std.proofs.lemmas.Bool.{cases_lt}
use Rattle.std.proofs.lemmas.List.{get_or_past, length-take, take-append-le, take_all}
use Rattle.tier_device.specs.declared.media.Media.{Ghosts}
use Rattle.lease_manager.specs.log_record.declared.format.Record.{Record}
use Rattle.lease_manager.specs.Passes.{client_of}
use Rattle.kernel_fs.specs.layout.declared.marks.Mark.{Mark}
use Rattle.kernel_fs.specs.layout.Places.{Sizes}
use Rattle.kernel_fs.specs.area_reader.Store.{disk, graph}
use Rattle.kernel_fs.specs.KernelView.{KernelView}
use Rattle.kernel_fs.specs.MachineState.{IsMarkIn}
use Rattle.client_log.specs.call_effects.Blocks.{block_of}
use Rattle.client_view.specs.After.{block_laid, bytes_at, run_after, run_laid}
use Rattle.client_view.specs.RecordReach.{AreShort, block_length}
use Rattle.client_view.proofs.Runs.{laid_at, laid_length, same_read}
use Rattle.client_view.proofs.Untouched.{untouched_block}
use Rattle.libfs.specs.declared.denial.Denied.{Denied}
use Rattle.libfs.specs.View.{ClientView}
use Rattle.libfs.specs.NeedService.{HasFetchedBlocks, HasPutLaid, HasThem, IsRunBehind, IsRunOf, block_behind, records_behind, shared_by}
use Rattle.libfs.proofs.FetchedNodes.{has_more, has_one, more_came, none_came, none_told, one_mark, put_or_not}
use Rattle.libfs.proofs.OwnRecords.{TouchNone}

-- a list that was lent whole and is back
pub lent_back : {X : Type 0} (len : ℕ) (out items : List X) → len ≡ length out → take len (out ++ drop (length out) items) ≡ out
lent_back len out items all = take-append-le len out (drop (length out) items) (omega (arith, all)) ∙ take_all len out (omega (arith, all))

-- ---- a run as it is read

pub none_read : (bytes : List ℕ) (first : ℕ) → IsRunOf bytes first 0 []
none_read bytes first = record { long = refl; told = λ n low. absurd (omega (arith, low)) }

before_last : (run : List (Option (List ℕ))) (x : Option (List ℕ)) (n : ℕ) → n < length run → get_or (run ++ x ∷ []) n None ≡ get_or run n None
before_last [] x n inside = absurd (omega (arith, inside))
before_last (y ∷ run) x zero inside = refl
before_last (y ∷ run) x (suc n) inside = before_last run x n (omega (arith, inside))

the_last : (run : List (Option (List ℕ))) (x : Option (List ℕ)) → get_or (run ++ x ∷ []) (length run) None ≡ x
the_last [] x = refl
the_last (y ∷ run) x = the_last run x

one_longer : (run : List (Option (List ℕ))) (x : Option (List ℕ)) → length (run ++ x ∷ []) ≡ length run + 1
one_longer [] x = refl
one_longer (y ∷ run) x = let rest = one_longer run x in omega (arith, rest)

pub read_more : (bytes : List ℕ) (first n : ℕ) (run new : List (Option (List ℕ))) (x : Option (List ℕ)) → IsRunOf bytes first n run → new ≡ run ++ x ∷ [] → x ≡ Some (block_of (first + n) bytes) → IsRunOf bytes first (n + 1) new
read_more bytes first n run new x is pushed read = subst (IsRunOf bytes first (n + 1)) (sym pushed) (record {
  long = one_longer run x ∙ ap (λ m. m + 1) is.long;
  told = λ m low. elim (eqb_tells m n) [
    | inl same ↦
        ap (λ k. get_or (run ++ x ∷ []) k None) (same.1 ∙ sym is.long) ∙ the_last run x ∙ read ∙ ap (λ k. Some (block_of (first + k) bytes)) (sym same.1)
    | inr other ↦ before_last run x m (omega (arith, below m n low other.1, is.long)) ∙ is.told m (below m n low other.1)
  ];
})
  where
    below : (m n : ℕ) → m < n + 1 → m ≢ n → m < n
    below m n low off = grind arith

pub read_is_short : (bytes : List ℕ) (first count : ℕ) (run : List (Option (List ℕ))) → IsRunOf bytes first count run → AreShort run
read_is_short bytes first count run is k = elim (cases_lt k (length run)) [
  | inl inside ↦
      let taken : length (block_of (first + k) bytes) ≡ min 4096 (length (drop (4096 * (first + k)) bytes)) = length-take 4096 (drop (4096 * (first + k)) bytes) in
      let long : block_length (get_or run k None) ≡ length (block_of (first + k) bytes) = ap block_length (is.told k (omega (arith, inside, is.long))) in
      omega (arith, long, taken)
  | inr past ↦ let long : block_length (get_or run k None) ≡ 4096 = ap block_length (get_or_past run k None past) in omega (arith, long)
]

-- ---- over which own records are laid

stays_after : (r : Record) (i first : ℕ) (run : List (Option (List ℕ))) (rs : List Record) → TouchNone i (r ∷ rs) → run_after r.effects i first run ≡ run
stays_after r i first [] rs none = refl
stays_after r i first (x ∷ run) rs none = ap (λ y. y ∷ run_after r.effects i (first + 1) run) (untouched_block r.effects i first x none.0) ∙ ap (λ xs. x ∷ xs) (stays_after r i (first + 1) run rs none)

pub run_stays : (rs : List Record) (i first : ℕ) (run : List (Option (List ℕ))) → TouchNone i rs → run_laid rs i first run ≡ run
run_stays [] i first run none = refl
run_stays (r ∷ rs) i first run none = ap (run_laid rs i first) (stays_after r i first run rs none) ∙ run_stays rs i first run none.1

module _ {M S : Type 0} (device : Ghosts M) (shared : Ghosts S) (k : KernelView S) where
  pub shared_same : (then' : KernelView S) → disk shared then'.area ≡ disk shared k.area → then'.area.geometry ≡ k.area.geometry → shared_by shared then' ≡ shared_by shared k
  shared_same then' stores geometry = ap (λ (g : Sizes). graph g (disk shared then'.area)) geometry ∙ ap (graph k.area.geometry) stores

  pub run_behind : (v : ClientView M) (i first count : ℕ) (found : Option Mark) (run new : List (Option (List ℕ))) → IsRunOf (bytes_at (shared_by shared k) i) first count run
      → (0 < count → (mark : Mark) × (found ≡ Some mark) × IsMarkIn (disk shared k.area) (client_of v.pass) mark)
      → IfSome found (λ m. new ≡ run_laid (records_behind device v m) i first run) → IfNone found (new ≡ run) → IsRunBehind device shared k v i first count new
  run_behind v i first count (Some m) run new is marks laid none = record {
    long = ap (λ (xs : List (Option (List ℕ))). length xs) laid ∙ laid_length (records_behind device v m) i first run ∙ is.long;
    told = λ asked asks n low.
        let its = marks (omega (arith, low)) in
        let same : m ≡ its.0 = one_of its.1 in
        ap (λ (xs : List (Option (List ℕ))). get_or xs n None) laid
        ∙ laid_at (records_behind device v m) i first run n (omega (arith, low, is.long))
        ∙ ap (block_laid (records_behind device v m) i (first + n)) (is.told n low)
        ∙ ap (λ (a : Mark). block_laid (records_behind device v a) i (first + n) (Some (block_of (first + n) (bytes_at (shared_by shared k) i)))) (same ∙ one_mark (disk shared k.area) (client_of v.pass) its.0 asked its.2 asks);
  }
    where
      one_of : {x y : Mark} → ◌≡◌ {A = Option Mark} (Some x) (Some y) → x ≡ y
      one_of both = cc
  run_behind v i first count None run new is marks laid none = record {
    long = ap (λ (xs : List (Option (List ℕ))). length xs) none ∙ is.long;
    told = λ asked asks n low. let its = marks (omega (arith, low)) in absurd (no_mark its.1);
  }
    where
      no_mark : {y : Mark} → ◌≡◌ {A = Option Mark} None (Some y) → ⊥
      no_mark clash = cc

  -- ---- kept one after the other

  came : (mid : ClientView M) (i b : ℕ) (block : Option (List ℕ)) → b < 4294967296 → ((mark : Mark) → IsMarkIn (disk shared k.area) (client_of mid.pass) mark → block ≡ block_behind device shared k mid mark i b)
      → (r : Result (Unit {0}) Denied) (new : ClientView M) → OnOk r (HasPutLaid mid i b block new) → OnErr r (new ≡ mid) → HasFetchedBlocks device shared k mid i b 1 new
  came mid i b (Some bytes) low laid r new put same = put_or_not device shared k mid i b bytes low laid r new put same
  came mid i b None low laid (Ok x) new put same = none_came device shared k mid i new b 1 put
  came mid i b None low laid (Err e) new put same = none_came device shared k mid i new b 1 same

  there : (mid : ClientView M) (i b : ℕ) (block : Option (List ℕ)) → b < 4294967296 → ((mark : Mark) → IsMarkIn (disk shared k.area) (client_of mid.pass) mark → block ≡ block_behind device shared k mid mark i b)
      → (new : ClientView M) → HasPutLaid mid i b block new → HasThem device shared k mid i b 1 new
  there mid i b (Some bytes) low laid new put = has_one device shared k mid i b bytes low laid new put
  there mid i b None low laid new put = none_told device shared k mid i new b laid

  module _ (old mid new : ClientView M) (i first count n : ℕ) (run : List (Option (List ℕ))) (x : Option (List ℕ)) (at : x ≡ get_or run n x) (r : Result (Unit {0}) Denied) (inside : n < count) (bound : first + count < 4294967296) (is : IsRunBehind device shared k old i first count run)
      (a : HasFetchedBlocks device shared k old i first n mid) (put : OnOk r (HasPutLaid mid i (first + n) x new)) (same : OnErr r (new ≡ mid)) where
    laid_then : (mark : Mark) → IsMarkIn (disk shared k.area) (client_of mid.pass) mark → x ≡ block_behind device shared k mid mark i (first + n)
    laid_then mark its =
        at ∙ same_read run n x None (omega (arith, inside, is.long))
        ∙ is.told mark (subst (λ (c : ℕ). IsMarkIn (disk shared k.area) c mark) (ap (λ (v : ClientView M). client_of v.pass) a.rest) its) n inside
        ∙ sym (ap (λ (v : ClientView M). block_laid (records_behind device v mark) i (first + n) (Some (block_of (first + n) (bytes_at (shared_by shared k) i)))) a.rest)

    one : HasFetchedBlocks device shared k mid i (first + n) 1 new
    one = came mid i (first + n) x (omega (arith, inside, bound)) laid_then r new put same

    pub put_more : HasFetchedBlocks device shared k old i first (n + 1) new
    put_more = more_came device shared k old i first n 1 k mid new a one refl refl

    pub has_put : HasThem device shared k old i first n mid → HasPutLaid mid i (first + n) x new → HasThem device shared k old i first (n + 1) new
    has_put had is_put = has_more device shared k old i first n 1 k mid new a one refl refl (omega (arith, inside, bound)) had (there mid i (first + n) x (omega (arith, inside, bound)) laid_then new is_put)
