-- Blocks of a directory in a list, of which one is written or put behind the others.
use Rattle.std.proofs.Common.{◌≡◌, ◌≢◌, ◌⊎◌, inl, inr, ℕ, ◌+◌, ◌*◌, ◌/◌, ◌%◌, ◌≤◌, ◌<◌, List, [], ◌∷◌, ◌++◌, length, get_or, set, take, drop, refl, sym, ◌∙◌, ap, subst, arith, Option, Some, None}
use Rattle.std.specs.Prelude.{IfSome, IfNone, slice_get, is_some}
use Rattle.std.specs.List.{position}
use Rattle.std.specs.FinMap as fin
use Rattle.std.proofs.lemmas.Bool.{cases_lt}
use Rattle.std.proofs.lemmas.List.{get_or-set_same, get_or-set_other, length-set, length-append, get_or_append_left, get_or_push, get_or_past, get_or_default}
use Rattle.std.proofs.Math.Seq.{take-append_seam}
use Rattle.std.proofs.lemmas.Option.{slice_get-get_or}
use Rattle.graph_change.specs.file_graph.declared.effect.Kind.{Kind}
use Rattle.layout.specs.declared.directory.DirEntry.{DirEntry}
use Rattle.layout.specs.Directory.{EntryList, AreEntries, block_entries, no_entry, entry_of, with_target, with_last}
use Rattle.tree_blocks.specs.Inode.{LogicalBlocks, plain, entry_at, named_entries, blocks_for, IsAbsent, AreDirectoryBlocks}
use Rattle.tree_blocks.specs.After.{IsEntered}
use Rattle.tree_blocks.specs.Directory.{numbered_blocks, AreHeld, HaveOneMore}
use Rattle.tree_blocks.proofs.Directories.{get_there, get_missing}
use Rattle.tree_blocks.proofs.Entering.{distinct_entered}
use Rattle.tree_blocks.proofs.Finding.{has, none_found}
use Rattle.tree_blocks.proofs.Held.{entry_is, within_part, is_set, parts_set, parts_more, is_more}

pub some_weaker : {A : Type 0} (P Q : A → Type 0) (o : Option A) → ((x : A) → P x → Q x) → IfSome o P → IfSome o Q
some_weaker P Q None f h = h
some_weaker P Q (Some x) f h = f x h

pub none_weaker : {A : Type 0} (P Q : Type 0) (o : Option A) → (P → Q) → IfNone o P → IfNone o Q
none_weaker P Q None f h = f h
none_weaker P Q (Some x) f h = h

-- the entry of a name was found among blocks, or is in none
abbrev pub Found : List ℕ → Option ℕ → List (List ℕ) → Type 0
Found name o bs = IfSome o (λ e. (e / 56 < length bs) × (e % 56 < length (block_entries (numbered_blocks bs (e / 56))).entries) × ((entry_of (block_entries (numbered_blocks bs (e / 56))) (e % 56)).name ≡ name))

abbrev pub Missing : List ℕ → Option ℕ → List (List ℕ) → Type 0
Missing name o bs = IfNone o ((k i : ℕ) → k < length bs → i < length (block_entries (numbered_blocks bs k)).entries → (entry_of (block_entries (numbered_blocks bs k)) i).name ≢ name)

-- at a number
abbrev pub FoundAt : List ℕ → ℕ → List (List ℕ) → Type 0
FoundAt name e bs = (e / 56 < length bs) × (e % 56 < length (block_entries (numbered_blocks bs (e / 56))).entries) × ((entry_of (block_entries (numbered_blocks bs (e / 56))) (e % 56)).name ≡ name)

-- in no block
abbrev pub InNone : List ℕ → List (List ℕ) → Type 0
InNone name bs = (k i : ℕ) → k < length bs → i < length (block_entries (numbered_blocks bs k)).entries → (entry_of (block_entries (numbered_blocks bs k)) i).name ≢ name

pub read_there : (bs : List (List ℕ)) (k : ℕ) (w : List ℕ) → k < length bs → w ≡ get_or bs k w → w ≡ numbered_blocks bs k
read_there bs k w lt is = is ∙ get_or_default bs k w [] lt

some_is : {A : Type 0} (x y : A) → Some x ≡ Some y → x ≡ y
some_is x y e = cc

pub got : (es : List DirEntry) (i : ℕ) (x : DirEntry) → i < length es → slice_get es i ≡ Some x → x ≡ get_or es i no_entry
got es i x lt is = some_is x (get_or es i no_entry) (sym is ∙ slice_get-get_or es i no_entry lt)

-- a part that was lent whole is there again
pub written_back : (n : ℕ) (new old : List (List ℕ)) → length new ≡ n → take n (new ++ drop (length new) old) ≡ new
written_back n new old long = ap (λ k. take k (new ++ drop (length new) old)) (sym long) ∙ take-append_seam new (drop (length new) old)

-- where a name is absent, each block has none of it
pub absent_in : (owner n : ℕ) (b : LogicalBlocks) → AreDirectoryBlocks owner n b → (name : List ℕ) → IsAbsent name (entry_at b) n → n % 56 ≢ 0 → position (has name) (block_entries (b (n / 56))).entries ≡ None
absent_in owner n b is name absent room =
    let long : length (block_entries (b (n / 56))).entries ≡ n % 56 = let c = (is.parts (n / 56) (omega (arith, room))).count_is in omega (arith, c, room) in
    none_found name (block_entries (b (n / 56))).entries (λ i lt same.
    let e : ℕ = 56 * (n / 56) + i in
    let small : i < n % 56 = omega (arith, lt, long) in
    let block : e / 56 ≡ n / 56 = omega (arith, small) in
    let index : e % 56 ≡ i = omega (arith, small) in
    absent e (omega (arith, small))
    (ap (λ x. x.0) (entry_is b e (block_entries (b (n / 56))) (ap (λ k. block_entries (b k)) block)) ∙ ap (λ j. (entry_of (block_entries (b (n / 56))) j).name) index ∙ same))

module _ (owner n : ℕ) (bs : List (List ℕ)) (is : AreDirectoryBlocks owner n (numbered_blocks bs)) (w : List ℕ) (entries : AreEntries w) where
  -- ---- an entry leads elsewhere

  module _ (place : ℕ) (lt : place < n) (room : place / 56 < length bs) (inode : ℕ) (kind : Kind) (now : block_entries w ≡ with_target (block_entries (numbered_blocks bs (place / 56))) (place % 56) inode kind) where
    abbrev pub c : LogicalBlocks
    c = numbered_blocks (set bs (place / 56) w)

    here : c (place / 56) ≡ w
    here = get_or-set_same bs (place / 56) w [] room

    others : (k : ℕ) → k ≢ place / 56 → c k ≡ numbered_blocks bs k
    others k off = get_or-set_other bs (place / 56) k w [] off

    abbrev x : DirEntry
    x = record { inode = inode; kind = kind; name = (entry_of (block_entries (numbered_blocks bs (place / 56))) (place % 56)).name }

    old : (entry_at (numbered_blocks bs) place).0 ≡ x.name
    old = ap (λ e. e.0) (entry_is (numbered_blocks bs) place (block_entries (numbered_blocks bs (place / 56))) refl)

    listed_so : block_entries (c (place / 56)) ≡ with_target (block_entries (numbered_blocks bs (place / 56))) (place % 56) inode kind
    listed_so = ap block_entries here ∙ now

    pub set_entered : IsEntered place ((entry_at (numbered_blocks bs) place).0, (inode, kind)) n (entry_at (numbered_blocks bs)) n (entry_at c)
    set_entered = is_set owner n (numbered_blocks bs) is c place lt x others (subst AreEntries (sym here) entries) listed_so (entry_at (numbered_blocks bs) place).0 refl (sym old)

    pub set_directory : AreDirectoryBlocks owner n c
    set_directory = record {
      parts = parts_set owner n (numbered_blocks bs) is c place lt x others (subst AreEntries (sym here) entries) listed_so;
      distinct = distinct_entered place (entry_at (numbered_blocks bs)) n is.distinct ((entry_at (numbered_blocks bs) place).0, (inode, kind)) n (entry_at c) set_entered;
    }

  -- ---- one entry more

  module _ (long : length bs ≡ blocks_for n) (x : DirEntry) (absent : IsAbsent x.name (entry_at (numbered_blocks bs)) n) where
    -- from any list of the last block to the directory
    more : (new : List (List ℕ)) (v : EntryList) → ((k : ℕ) → k ≢ n / 56 → numbered_blocks new k ≡ numbered_blocks bs k) → numbered_blocks new (n / 56) ≡ w → block_entries w ≡ with_last v x → length v.entries ≡ n % 56 → v.owner ≡ owner
        → ((i : ℕ) → i < n % 56 → entry_of v i ≡ entry_of (block_entries (numbered_blocks bs (n / 56))) i) → length new ≡ blocks_for (n + 1) → HaveOneMore owner n (plain x) bs new
    more new v others here now count by before size =
        let kept : AreEntries (numbered_blocks new (n / 56)) = subst AreEntries (sym here) entries in
        let shown : block_entries (numbered_blocks new (n / 56)) ≡ with_last v x = ap block_entries here ∙ now in
        let entered = is_more owner n (numbered_blocks bs) is (numbered_blocks new) v x others kept shown count by before absent in
        record {
          long = size;
          directory = record { parts = parts_more owner n (numbered_blocks bs) is (numbered_blocks new) v x others kept shown count by; distinct = distinct_entered n (entry_at (numbered_blocks bs)) n is.distinct (plain x) (n + 1) (entry_at (numbered_blocks new)) entered };
          entered = entered;
          others = others;
        }

    pub more_filled : n % 56 ≢ 0 → block_entries w ≡ with_last (block_entries (numbered_blocks bs (n / 56))) x → HaveOneMore owner n (plain x) bs (set bs (n / 56) w)
    more_filled room now =
        let part = is.parts (n / 56) (omega (arith, room)) in
        let count = part.count_is in
        more (set bs (n / 56) w) (block_entries (numbered_blocks bs (n / 56))) (λ k off. get_or-set_other bs (n / 56) k w [] off) (get_or-set_same bs (n / 56) w [] (omega (arith, long, room))) now
        (omega (arith, count, room)) part.owner_is (λ i lt. refl) (omega (arith, length-set bs (n / 56) w, long, room))

    pub more_opened : n % 56 ≡ 0 → block_entries w ≡ record { owner = owner; entries = x ∷ [] } → HaveOneMore owner n (plain x) bs (bs ++ w ∷ [])
    more_opened full now =
        let end : length bs ≡ n / 56 = omega (arith, long, full) in
        more (bs ++ w ∷ []) (record { owner = owner; entries = [] }) (λ k off. beside k off (cases_lt k (n / 56))) (get_or_push bs w [] (n / 56) end) now (sym full) refl (λ i lt. absurd (omega (arith, lt, full)))
        (omega (arith, length-append bs (w ∷ []), long, full)) where
          beside : (k : ℕ) → k ≢ n / 56 → (k < n / 56) ⊎ (n / 56 ≤ k) → numbered_blocks (bs ++ w ∷ []) k ≡ numbered_blocks bs k
          beside k off (inl lt) = get_or_append_left bs (w ∷ []) [] k (omega (arith, lt, long, full))
          beside k off (inr ge) = get_or_past (bs ++ w ∷ []) k [] (omega (arith, length-append bs (w ∷ []), ge, off, long, full)) ∙ sym (get_or_past bs k [] (omega (arith, ge, long, full)))

-- ---- what was found

module _ (owner n : ℕ) (bs : List (List ℕ)) (held : AreHeld owner n bs) where
  pub found_inside : (name : List ℕ) (e : ℕ) → FoundAt name e bs → (e < n) × ((entry_at (numbered_blocks bs) e).0 ≡ name)
  found_inside name e f =
      let low : e / 56 < blocks_for n = omega (arith, f.0, held.long) in
      let count = (held.directory.parts (e / 56) low).count_is in
      (omega (arith, f.1, count), ap (λ x. x.0) (entry_is (numbered_blocks bs) e (block_entries (numbered_blocks bs (e / 56))) refl) ∙ f.2)

  pub found_nowhere : (name : List ℕ) → InNone name bs → IsAbsent name (entry_at (numbered_blocks bs)) n
  found_nowhere name off e lt same =
      off (e / 56) (e % 56) (omega (arith, held.long, lt)) (within_part owner n (numbered_blocks bs) held.directory e lt) (sym (ap (λ x. x.0) (entry_is (numbered_blocks bs) e (block_entries (numbered_blocks bs (e / 56))) refl)) ∙ same)

  pub stands_is : (name : List ℕ) (o : Option ℕ) → Found name o bs → Missing name o bs → fin.contains_key (named_entries (entry_at (numbered_blocks bs)) n) name ≡ is_some o
  stands_is name (Some e) f off = let at = found_inside name e f in ap is_some (get_there (entry_at (numbered_blocks bs)) n e name held.directory.distinct at.0 at.1)
  stands_is name None f off = ap is_some (get_missing (entry_at (numbered_blocks bs)) n name (found_nowhere name off))
