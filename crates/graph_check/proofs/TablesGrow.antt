-- The tables as nodes are read into them.
use Rattle.std.proofs.Common.{◌≡◌, ◌≢◌, inl, inr, ℕ, zero, suc, ◌+◌, ◌-◌, ◌*◌, ◌^◌, ◌<◌, ◌≤◌, ◌==◌, List, [], ◌∷◌, refl, Some, None, Option, cond, ap, sym, ◌∙◌, subst, true, false, Bool, arith, if◌then◌else◌, length, take, get_or, set, replicate}
use Rattle.std.specs.Prelude.{◌&&◌, nat_le, nat_lt, option_map, count_by}
use Rattle.std.proofs.lemmas.List.{get_or-replicate, length-replicate, length-take, get_or-set_same, get_or-set_other}
use Rattle.std.proofs.Math.ListN.{length-set}
use Rattle.std.proofs.lemmas.List.Sums.{count_by-le-length, count_by_more_yes, count_by_more_no}
use Rattle.std.proofs.lemmas.Bool.Decides.{eqb_tells}
use Rattle.std.specs.FinMap as fin
use Rattle.posix_calls.specs.Tree.{sum_up_to}
use Rattle.record_validation.specs.file_graph.Graph.{Graph}
use Rattle.record_validation.specs.file_graph.NameOrder.{pairs}
use Rattle.record_validation.specs.file_graph.declared.effect.Kind.{Kind}
use Rattle.record_validation.specs.file_graph.declared.effect.Kind.TheVariants.{File, Directory}
use Rattle.record_validation.specs.file_graph.declared.name_map.NamedEntry.{NamedEntry}
use Rattle.record_validation.specs.call_effects.NodeView.{NodeView, FileView, DirView, view_at}
use Rattle.record_validation.specs.Counts.{counts_of, entry_count}
use Rattle.std.specs.Ordering.{nat_cmp}
use Rattle.std.specs.Cmp.Lexicographic.{slice_cmp}
use Rattle.record_validation.specs.NodeAnswers.{entries_of}
use Rattle.graph_check.specs.declared.tables.NodeHead.{NodeHead}
use Rattle.graph_check.specs.declared.tables.NameCount.{NameCount}
use Rattle.graph_check.specs.declared.tables.Tables.{Tables}
use Rattle.graph_check.specs.Tables.{same_kind, place_of, names_place, named_by, named_in, last_up_to, name_count, more_named, head_of, head_at, IsTable, IsRead}
use Rattle.graph_check.proofs.Entries.{count-cons, one_where}

-- ---- more entries of one directory

abbrev Entry : Type 0
Entry = NamedEntry (ℕ × Kind)

abbrev names_so : Kind → ℕ → Entry → Bool
names_so k i e = names_place k i e.value

lt_more : (a b d last : ℕ) → (if nat_lt 0 b then d else if nat_lt 0 a then d else last) ≡ (if nat_lt 0 (a + b) then d else last)
lt_more a b d last = grind (arith)

add_twice : (n a b : ℕ) → n + a + b ≡ n + (a + b)
add_twice n a b = omega arith

pub more_twice : (d a b : ℕ) (old : NameCount) → more_named d b (more_named d a old) ≡ more_named d (a + b) old
more_twice d a b old = λ i. record { count = add_twice old.count a b i; last = lt_more a b d old.last i }

add_nothing : (n : ℕ) → n + 0 ≡ n
add_nothing n = omega arith

pub more_none : (d : ℕ) (old : NameCount) → more_named d 0 old ≡ old
more_none d old = λ i. record { count = add_nothing old.count i; last = old.last }

-- one more entry, of the kind
pub counted_more : (d : ℕ) (k : Kind) (i n : ℕ) (es : List Entry) (e : Entry) (old : NameCount) → n < length es → e ≡ get_or es n e → same_kind e.value.1 k ≡ true
    → more_named d (if place_of e.value.0 == i then 1 else 0) (more_named d (named_in k i (take n es)) old) ≡ more_named d (named_in k i (take (n + 1) es)) old
counted_more d k i n es e old inside is same =
    let so : (b : Bool) → (place_of e.value.0 == i) ≡ b → one_where (place_of e.value.0 == i) ≡ one_where b = λ b t. ap one_where t in
    elim (place_of e.value.0 == i) as (λ b. (place_of e.value.0 == i) ≡ b → more_named d (if place_of e.value.0 == i then 1 else 0) (more_named d (named_in k i (take n es)) old) ≡ more_named d (named_in k i (take (n + 1) es)) old) [
      | true ↦ λ t.
          let passes : names_so k i (get_or es n e) ≡ true = ap (λ x. names_so k i x) (sym is) ∙ ap (λ x. x && same_kind e.value.1 k) t ∙ same in
          let one = count_by_more_yes (names_so k i) es n e inside passes in
          ap (λ m. more_named d m (more_named d (named_in k i (take n es)) old)) (so true t) ∙ more_twice d (named_in k i (take n es)) 1 old ∙ ap (λ m. more_named d m old) (sym one)
      | false ↦ λ t.
          let passes : names_so k i (get_or es n e) ≡ false = ap (λ x. names_so k i x) (sym is) ∙ ap (λ x. x && same_kind e.value.1 k) t in
          let none = count_by_more_no (names_so k i) es n e inside passes in
          ap (λ m. more_named d m (more_named d (named_in k i (take n es)) old)) (so false t) ∙ more_none d (more_named d (named_in k i (take n es)) old) ∙ ap (λ m. more_named d m old) (sym none)
    ] refl

and_false : (b : Bool) → (b && false) ≡ false
and_false true = refl
and_false false = refl

-- one more entry, of another kind
pub counted_same : (d : ℕ) (k : Kind) (i n : ℕ) (es : List Entry) (e : Entry) (old : NameCount) → n < length es → e ≡ get_or es n e → same_kind e.value.1 k ≡ false
    → more_named d (named_in k i (take n es)) old ≡ more_named d (named_in k i (take (n + 1) es)) old
counted_same d k i n es e old inside is other =
    let passes : names_so k i (get_or es n e) ≡ false = ap (λ x. names_so k i x) (sym is) ∙ ap (λ x. (place_of e.value.0 == i) && x) other ∙ and_false (place_of e.value.0 == i) in
    ap (λ m. more_named d m old) (sym (count_by_more_no (names_so k i) es n e inside passes))

-- no more are counted than there are
pub counted_few : (k : Kind) (i n : ℕ) (es : List Entry) → n ≤ length es → named_in k i (take n es) ≤ n
counted_few k i n es high = let few = count_by-le-length (names_so k i) (take n es) in let long = length-take n es in omega (arith, few, long)

-- ---- entries in memory and in a view

paired : (k : Kind) (i : ℕ) (es : List Entry) → count_by (λ e. names_place k i e.1) (pairs es) ≡ named_in k i es
paired k i [] = refl
paired k i (e ∷ es) = count-cons (λ x. names_place k i x.1) (e.name, e.value) (pairs es) ∙ ap (λ n. cond (names_place k i e.value) 1 0 + n) (paired k i es) ∙ sym (count-cons (names_so k i) e es)

length_pairs : (es : List Entry) → length (pairs es) ≡ length es
length_pairs [] = refl
length_pairs (e ∷ es) = ap (λ n. suc n) (length_pairs es)

pub named_entries : (k : Kind) (i : ℕ) (v : NodeView) (es : List Entry) → pairs es ≡ fin.entries (entries_of v) → named_in k i es ≡ named_by k i (Some v)
named_entries k i v es are = sym (paired k i es) ∙ ap (count_by (λ e. names_place k i e.1)) are

pub entries_length : (v : NodeView) (es : List Entry) → pairs es ≡ fin.entries (entries_of v) → length es ≡ fin.len (entries_of v)
entries_length v es are = sym (length_pairs es) ∙ ap length are ∙ sym (fin.len-entries (entries_of v))

-- ---- one more node

pub named_next : (g : Graph) (n : ℕ) (k : Kind) (i : ℕ) → name_count g (suc n) k i ≡ more_named (suc n) (named_by k i (view_at g (suc n))) (name_count g n k i)
unfolding sum_up_to last_up_to
named_next g n k i =
    let f : ℕ → ℕ = λ d. named_by k i (view_at g d) in
    let swap : f (suc n) + sum_up_to n f ≡ sum_up_to n f + f (suc n) = omega arith in
    λ x. record { count = swap x; last = if nat_lt 0 (f (suc n)) then suc n else last_up_to n (λ d. nat_lt 0 (f d)) }

next_range : (i n : ℕ) → i ≢ suc n → (nat_le 1 i && nat_le i (suc n)) ≡ (nat_le 1 i && nat_le i n)
next_range i n off = grind arith

pub head_other : (g : Graph) (n i : ℕ) → i ≢ suc n → head_at g (suc n) i ≡ head_at g n i
head_other g n i off = ap (λ b. if b then option_map head_of (view_at g i) else None) (next_range i n off)

last_range : (n : ℕ) → (nat_le 1 (suc n) && nat_le (suc n) (suc n)) ≡ true
last_range n = grind arith

pub head_here : (g : Graph) (n : ℕ) → head_at g (suc n) (suc n) ≡ option_map head_of (view_at g (suc n))
head_here g n = ap (λ b. if b then option_map head_of (view_at g (suc n)) else None) (last_range n)

after_range : (n : ℕ) → (nat_le 1 (suc n) && nat_le (suc n) n) ≡ false
after_range n = grind arith

head_before : (g : Graph) (n : ℕ) → head_at g n (suc n) ≡ None
head_before g n = ap (λ b. if b then option_map head_of (view_at g (suc n)) else None) (after_range n)

-- where there is no node nothing changes
same_named : (g : Graph) (n : ℕ) (k : Kind) (i : ℕ) → view_at g (suc n) ≡ None → name_count g n k i ≡ name_count g (suc n) k i
same_named g n k i none = sym (named_next g n k i ∙ ap (λ m. more_named (suc n) (named_by k i m) (name_count g n k i)) none ∙ more_none (suc n) (name_count g n k i))

same_head : (g : Graph) (n i : ℕ) → view_at g (suc n) ≡ None → head_at g n i ≡ head_at g (suc n) i
same_head g n i none = elim (eqb_tells i (suc n)) [
  | inl same ↦ subst (λ j. head_at g n j ≡ head_at g (suc n) j) (sym same.1) (head_before g n ∙ sym (head_here g n ∙ ap (option_map head_of) none))
  | inr off ↦ sym (head_other g n i off.1)
]

pub read_none : (g : Graph) (n : ℕ) (t : Tables) → view_at g (suc n) ≡ None → IsRead g n t → IsRead g (suc n) t
read_none g n t none read = record {
  heads = record { places = read.heads.places; rows = λ i x high. read.heads.rows i x high ∙ same_head g n i none };
  files = record { places = read.files.places; rows = λ i x high. read.files.rows i x high ∙ same_named g n File i none };
  directories = record { places = read.directories.places; rows = λ i x high. read.directories.rows i x high ∙ same_named g n Directory i none };
  few = λ k i. let few = read.few k i in let same : (name_count g n k i).count ≡ (name_count g (suc n) k i).count = ap (λ (x : NameCount). x.count) (same_named g n k i none) in omega (arith, few, same);
}

-- a table of names after the entries of a node
pub named_table : (g : Graph) (n : ℕ) (k : Kind) (v : NodeView) (es : List Entry) (old new : List NameCount) → view_at g (suc n) ≡ Some v → pairs es ≡ fin.entries (entries_of v) → IsTable old (name_count g n k) → length new ≡ 1025
    → ((i : ℕ) (x : NameCount) → i ≤ 1024 → get_or new i x ≡ more_named (suc n) (named_in k i es) (get_or old i x)) → IsTable new (name_count g (suc n) k)
named_table g n k v es old new at are table long more = record {
  places = long;
  rows = λ i x high. more i x high ∙ ap (λ o. more_named (suc n) (named_in k i es) o) (table.rows i x high) ∙ ap (λ m. more_named (suc n) m (name_count g n k i)) (named_entries k i v es are ∙ ap (named_by k i) (sym at)) ∙ sym (named_next g n k i);
}

pub head_table : (g : Graph) (n : ℕ) (v : NodeView) (old : List (Option NodeHead)) → view_at g (suc n) ≡ Some v → suc n ≤ 1024 → IsTable old (head_at g n) → IsTable (set old (suc n) (Some (head_of v))) (head_at g (suc n))
head_table g n v old at high table = record {
  places = simp length-set table.places;
  rows = λ i x within. elim (eqb_tells i (suc n)) [
    | inl same ↦ subst (λ j. get_or (set old (suc n) (Some (head_of v))) j x ≡ head_at g (suc n) j) (sym same.1)
        ((let long = table.places in let inside : suc n < length old = omega (arith, long) in get_or-set_same old (suc n) (Some (head_of v)) x inside) ∙ sym (head_here g n ∙ ap (option_map head_of) at))
    | inr off ↦ get_or-set_other old (suc n) i (Some (head_of v)) x off.1 ∙ table.rows i x within ∙ sym (head_other g n i off.1)
  ];
}

-- no node has more entries than 32 bits count
pub few_next : (g : Graph) (n : ℕ) (v : NodeView) (es : List Entry) → view_at g (suc n) ≡ Some v → pairs es ≡ fin.entries (entries_of v) → length es ≤ 2 ^ 32 → ((k : Kind) (i : ℕ) → (name_count g n k i).count ≤ n * 2 ^ 32) → (k : Kind) (i : ℕ) → (name_count g (suc n) k i).count ≤ suc n * 2 ^ 32
few_next g n v es at are small few k i =
    let next : (name_count g (suc n) k i).count ≡ (name_count g n k i).count + named_by k i (view_at g (suc n)) = ap (λ (x : NameCount). x.count) (named_next g n k i) in
    let here : named_by k i (view_at g (suc n)) ≡ named_in k i es = ap (named_by k i) at ∙ sym (named_entries k i v es are) in
    let some = count_by-le-length (names_so k i) es in
    let before = few k i in
    omega (arith, next, here, some, before)

-- ---- tables before the first node

pub none_named : (g : Graph) (k : Kind) (i : ℕ) → name_count g 0 k i ≡ record { count = 0; last = 0 }
unfolding sum_up_to last_up_to
none_named g k i = refl

no_range : (i : ℕ) → (nat_le 1 i && nat_le i 0) ≡ false
no_range i = grind arith

pub none_head : (g : Graph) (i : ℕ) → head_at g 0 i ≡ None
none_head g i = ap (λ b. if b then option_map head_of (view_at g i) else None) (no_range i)

one_down : (n : ℕ) → suc n - 1 ≡ n
one_down n = omega arith

filled : {X : Type 0} (n : ℕ) (xs : List X) (a : X) (f : ℕ → X) → n ≡ 1025 → xs ≡ replicate n a → ((i : ℕ) → f i ≡ a) → IsTable xs f
filled n xs a f long are is = record {
  places = ap length are ∙ length-replicate n a ∙ long;
  rows = λ i x high. ap (λ ys. get_or ys i x) are ∙ get_or-replicate n i a x (omega arith) ∙ sym (is i);
}

-- where nothing stands at the next inode
pub read_nothing : (g : Graph) (i : ℕ) (t : Tables) → 1 ≤ i → view_at g i ≡ None → IsRead g (i - 1) t → IsRead g i t
read_nothing g zero t low none read = absurd (omega arith)
read_nothing g (suc n) t low none read = read_none g n t none (subst (λ m. IsRead g m t) (one_down n) read)

-- where a node does
few_entries : (v : NodeView) (es : List Entry) → pairs es ≡ fin.entries (entries_of v) → entry_count (Some (counts_of v)) < 2 ^ 32 → length es ≤ 2 ^ 32
few_entries (FileView names size) es are few = let long = entries_length (FileView names size) es are in let none : fin.len (fin.empty {X = ℕ × Kind} {R = slice_cmp nat_cmp}) ≡ 0 = fin.len-empty (slice_cmp nat_cmp) (ℕ × Kind) in omega (arith, long, none)
few_entries (DirView names m) es are few = let long = entries_length (DirView names m) es are in omega (arith, long, few)

pub record NodeTaken (i : ℕ) (v : NodeView) (t u : Tables) : Type 0 where
  pub es : List Entry
  pub fs : List Entry
  pub es_are : pairs es ≡ fin.entries (entries_of v)
  pub fs_are : pairs fs ≡ fin.entries (entries_of v)
  pub few : entry_count (Some (counts_of v)) < 2 ^ 32
  pub heads : u.heads.items ≡ set t.heads.items i (Some (head_of v))
  pub file_places : length u.files.items ≡ 1025
  pub files : (j : ℕ) (x : NameCount) → j ≤ 1024 → get_or u.files.items j x ≡ more_named i (named_in File j es) (get_or t.files.items j x)
  pub directory_places : length u.directories.items ≡ 1025
  pub directories : (j : ℕ) (x : NameCount) → j ≤ 1024 → get_or u.directories.items j x ≡ more_named i (named_in Directory j fs) (get_or t.directories.items j x)

taken : (g : Graph) (n : ℕ) (v : NodeView) (t u : Tables) → suc n ≤ 1024 → view_at g (suc n) ≡ Some v → NodeTaken (suc n) v t u → IsRead g n t → IsRead g (suc n) u
taken g n v t u high at node read = record {
  heads = subst (λ xs. IsTable xs (head_at g (suc n))) (sym node.heads) (head_table g n v t.heads.items at high read.heads);
  files = named_table g n File v node.es t.files.items u.files.items at node.es_are read.files node.file_places node.files;
  directories = named_table g n Directory v node.fs t.directories.items u.directories.items at node.fs_are read.directories node.directory_places node.directories;
  few = few_next g n v node.es at node.es_are (few_entries v node.es node.es_are node.few) read.few;
}

pub node_taken : (g : Graph) (i : ℕ) (v : NodeView) (t u : Tables) → 1 ≤ i → i ≤ 1024 → view_at g i ≡ Some v → NodeTaken i v t u → IsRead g (i - 1) t → IsRead g i u
node_taken g zero v t u low high at is read = absurd (omega arith)
node_taken g (suc n) v t u low high at is read = taken g n v t u high at is (subst (λ m. IsRead g m t) (one_down n) read)

-- tables before the first node
pub tables_fresh : (g : Graph) (t : Tables) (n : ℕ) → n ≡ 1025 → t.heads.items ≡ replicate n None → t.files.items ≡ replicate n (record { count = 0; last = 0 }) → t.directories.items ≡ replicate n (record { count = 0; last = 0 }) → IsRead g 0 t
tables_fresh g t n long ss fs ds = record {
  heads = filled n t.heads.items None (head_at g 0) long ss (none_head g);
  files = filled n t.files.items (record { count = 0; last = 0 }) (name_count g 0 File) long fs (none_named g File);
  directories = filled n t.directories.items (record { count = 0; last = 0 }) (name_count g 0 Directory) long ds (none_named g Directory);
  few = λ k i. let none : (name_count g 0 k i).count ≡ 0 = ap (λ (x : NameCount). x.count) (none_named g k i) in omega (arith, none);
}
