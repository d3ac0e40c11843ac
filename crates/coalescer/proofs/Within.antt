-- A change has no more inodes, entries and blocks than its effects name.
use Rattle.std.proofs.Common.{◌≡◌, ◌⊎◌, inl, inr, ℕ, ◌≤◌, ◌==◌, ◌/◌, ◌%◌, cond, Bool, true, false, List, [], ◌∷◌, length, Option, Some, None, refl, ap, sym, ◌∙◌, subst, arith}
use Rattle.std.specs.Prelude.{◌||◌, ◌&&◌, not, nat_eq, T, map, is_some, count_by}
use Rattle.std.specs.declared.cmp.Ordering.{Ordering}
use Rattle.std.specs.declared.cmp.Ordering.TheVariants.{Less, Equal, Greater}
use Rattle.std.specs.Ordering.{nat_cmp, eq_by_cmp, is_eq, is_lt}
use Rattle.std.specs.FinMap.Entries.{below_all, is_sorted}
use Rattle.std.proofs.lemmas.Map.Keys.{IsDistinct-cons}
use Rattle.std.proofs.lemmas.List.{length-map}
use Rattle.std.proofs.lemmas.Cmp.{nat_list_cmp_total}
use Rattle.std.specs.Cmp.{IsEquivalence, nat_eq_equiv, eq_by_cmp_equiv, unsigned_tied}
use Rattle.std.specs.Cmp.Lexicographic.{slice_cmp}
use Rattle.std.specs.List.{list_any, flat_map, sum_by, IsDistinct, AllByRecursion}
use Rattle.std.specs.Set.{distinct_count, unique_keys, is_member}
use Rattle.std.specs.FinMap as fin
use Rattle.std.proofs.lemmas.Bool.{false≢true}
use Rattle.std.proofs.lemmas.Bool.Decides.{eqb_tells}
use Rattle.std.proofs.lemmas.Map.Made.{length-le_from_is_member, length-from_keys, distinct_count-le}
use Rattle.std.proofs.lemmas.Map.Views.{exact_unsigned_eq, tells_apart}
use Rattle.std.proofs.lemmas.List.Folds.{list_any-append}
use Rattle.std.proofs.lemmas.List.Concat.{length-flat_map}
use Rattle.posix_calls.specs.declared.limits.TheConstants.{UNIT_BYTES}
use Rattle.graph_change.specs.file_graph.declared.effect.Effect.{Effect}
use Rattle.graph_change.specs.file_graph.declared.effect.Effect.TheVariants as effect
use Rattle.graph_change.specs.Net.{Base, Kept, Made, Gone, Child, EntryChanges}
use Rattle.graph_change.specs.Change.{Change, Changes, subject, span, new_change, change_after, change_at, with_effect, with_effects, coalesced_changes, writes_block, touches_block, changes_inode, changes_block}
use Rattle.graph_change.proofs.Law.{change_put, empty_at}
use Rattle.graph_change.proofs.Touched.{coalesces}
use Rattle.coalescer.specs.Weight.{is_entry, file_blocks, blocks_at, same_block, blocks}
use Rattle.coalescer.specs.Within.{entry_named, same_entry, AreEntriesIn, AreBlocksIn}
use Rattle.coalescer.proofs.Counts.{member_unique, block_laws, and_true, same_any, empty_distinct}

-- ---- of truth values

pub or_left : (a b : Bool) → a ≡ true → (a || b) ≡ true
or_left a b h = ap (λ x. x || b) h

pub or_right : (a b : Bool) → b ≡ true → (a || b) ≡ true
or_right true b h = refl
or_right false b h = h

pub or_cases : (a b : Bool) → (a || b) ≡ true → (a ≡ true) ⊎ (b ≡ true)
or_cases true b h = inl refl
or_cases false b h = inr h

pub and_nothing : (a : Bool) → (a && false) ≡ false
and_nothing true = refl
and_nothing false = refl

or_nothing : (a : Bool) → a ≡ (a || false)
or_nothing true = refl
or_nothing false = refl

-- ---- what is bounded

each_member : {K : Type 0} (eq : K → K → Bool) → ((a b : K) → eq a b ≡ true → a ≡ b) → (P : K → Type 0) (xs : List K) → AllByRecursion P xs → (q : K) → is_member eq xs q ≡ true → P q
each_member eq exact P [] all q h = absurd (false≢true h)
each_member eq exact P (x ∷ xs) all q h =
    elim (or_cases (eq q x) (is_member eq xs q) h) [
      | inl here ↦ subst P (sym (exact q x here)) all.0
      | inr later ↦ each_member eq exact P xs all.1 q later
    ]

bounded : {K : Type 0} (eq : K → K → Bool) → IsEquivalence eq → ((a b : K) → eq a b ≡ true → a ≡ b) → (P : K → Type 0) (xs ys : List K) → IsDistinct eq xs → AllByRecursion P xs → ((q : K) → P q → is_member eq ys q ≡ true) → length xs ≤ distinct_count eq ys
bounded eq laws exact P xs ys distinct all h =
    length-le_from_is_member laws xs (unique_keys eq ys) distinct (λ q t. member_unique laws ys q ∙ h q (each_member eq exact P xs all q t))

-- ---- blocks

same_blocks : (a b : ℕ × ℕ) → same_block a b ≡ true → a ≡ b
same_blocks a b h =
    let both = and_true (a.0 == b.0) (a.1 == b.1) h in
    λ i. (exact_unsigned_eq a.0 b.0 both.0 i, exact_unsigned_eq a.1 b.1 both.1 i)

of_row : (i s b : ℕ) (bs : List ℕ) → (i == s && list_any (nat_eq b) bs) ≡ is_member same_block (blocks_at s bs) (i, b)
of_row i s b [] = and_nothing (i == s)
of_row i s b (x ∷ bs) = over (i == s) (b == x) (list_any (nat_eq b) bs) ∙ ap (λ t. (i == s && b == x) || t) (of_row i s b bs)
  where
    over : (t u v : Bool) → (t && (u || v)) ≡ ((t && u) || (t && v))
    over true u v = refl
    over false u v = refl

turned : (x y : ℕ) → (x == y) ≡ (y == x)
turned x y = nat_eq_equiv.symm x y

of_last : (i s b last : ℕ) (whole : Bool) → (i == s && (not whole && last == b)) ≡ is_member same_block (cond whole [] ((s, last) ∷ [])) (i, b)
of_last i s b last true = and_nothing (i == s)
of_last i s b last false = ap (λ t. i == s && t) (turned last b) ∙ or_nothing (i == s && b == last)

named_block : (e : Effect) (i b : ℕ) → (i == subject e && touches_block e b) ≡ is_member same_block (file_blocks e) (i, b)
named_block (effect.Make s k) i b = and_nothing (i == s)
named_block (effect.Enter s j k name) i b = and_nothing (i == s)
named_block (effect.Leave s name) i b = and_nothing (i == s)
named_block (effect.Names s n) i b = and_nothing (i == s)
named_block (effect.Size s size) i b = of_last i s b (size / UNIT_BYTES) (size % UNIT_BYTES == 0)
named_block (effect.Bytes s at bytes) i b = of_row i s b (span at (length bytes))
named_block (effect.Drop s) i b = and_nothing (i == s)
named_block (effect.Swap s a e c) i b = and_nothing (i == s)

named_blocks : (es : List Effect) (i b : ℕ) → changes_block es i b ≡ is_member same_block (flat_map file_blocks es) (i, b)
named_blocks [] i b = refl
named_blocks (e ∷ es) i b =
    ap (λ t. t || changes_block es i b) (named_block e i b)
    ∙ ap (λ t. is_member same_block (file_blocks e) (i, b) || t) (named_blocks es i b)
    ∙ sym (list_any-append (same_block (i, b)) (file_blocks e) (flat_map file_blocks es))

-- a change that writes no other blocks than that of the effects
pub blocks_within_by : (es : List Effect) (cs : Changes) → ((i b : ℕ) → writes_block (change_at cs i) b ≡ true → writes_block (change_at (coalesced_changes es) i) b ≡ true) → (bs : List (ℕ × ℕ)) → AreBlocksIn cs bs → length bs ≤ blocks es
blocks_within_by es cs no_others bs are =
    bounded same_block block_laws same_blocks (λ b. writes_block (change_at cs b.0) b.1 ≡ true) bs (flat_map file_blocks es) are.0 are.1
    (λ q written. sym (named_blocks es q.0 q.1) ∙ (coalesces es).blocks q.0 q.1 (no_others q.0 q.1 written))

pub blocks_within : (es : List Effect) (bs : List (ℕ × ℕ)) → AreBlocksIn (coalesced_changes es) bs → length bs ≤ blocks es
blocks_within es bs are = blocks_within_by es (coalesced_changes es) (λ i b written. written) bs are

-- ---- entries

names_equiv : IsEquivalence (eq_by_cmp (slice_cmp nat_cmp))
names_equiv = eq_by_cmp_equiv nat_list_cmp_total

entry_laws : IsEquivalence same_entry
entry_laws = record {
  refl = λ a. ap (λ b. b && eq_by_cmp (slice_cmp nat_cmp) a.1 a.1) (nat_eq_equiv.refl a.0) ∙ names_equiv.refl a.1;
  symm = λ a b. ap (λ t. t && eq_by_cmp (slice_cmp nat_cmp) a.1 b.1) (nat_eq_equiv.symm a.0 b.0) ∙ ap (λ t. (b.0 == a.0) && t) (names_equiv.symm a.1 b.1);
  congr = λ a b c h.
      let both = and_true (a.0 == b.0) (eq_by_cmp (slice_cmp nat_cmp) a.1 b.1) h in
      ap (λ t. t && eq_by_cmp (slice_cmp nat_cmp) a.1 c.1) (nat_eq_equiv.congr a.0 b.0 c.0 both.0) ∙ ap (λ t. (b.0 == c.0) && t) (names_equiv.congr a.1 b.1 c.1 both.1);
}

same_entries : (a b : ℕ × List ℕ) → same_entry a b ≡ true → a ≡ b
same_entries a b h =
    let both = and_true (a.0 == b.0) (eq_by_cmp (slice_cmp nat_cmp) a.1 b.1) h in
    λ i. (exact_unsigned_eq a.0 b.0 both.0 i, tells_apart (fin.slice_cmp-IsAntisymmetric fin.nat_cmp-IsAntisymmetric) a.1 b.1 both.1 i)

entry_put : (m : EntryChanges) (name : List ℕ) (child : Option Child) (q : List ℕ) → fin.contains_key (fin.insert m name child) q ≡ (eq_by_cmp (slice_cmp nat_cmp) q name || fin.contains_key m q)
entry_put m name child q = ap is_some (fin.get-insert nat_list_cmp_total m name child q) ∙ some_either (eq_by_cmp (slice_cmp nat_cmp) q name) child (fin.get m q)
  where
    some_either : {A : Type 0} (t : Bool) (a : A) (o : Option A) → is_some (cond t (Some a) o) ≡ (t || is_some o)
    some_either true a o = refl
    some_either false a o = refl

-- the names of its directory that an effect changes
abbrev names_of : Effect → List ℕ → Bool
names_of e q = is_member same_entry (entry_named e) (subject e, q)

no_entry : (base : Base) (q : List ℕ) → fin.contains_key (new_change base).entries q ≡ false
no_entry base q = ap is_some (fin.get-empty (slice_cmp nat_cmp) q)

put_one : (d : ℕ) (name : List ℕ) (child : Option Child) (m : EntryChanges) (q : List ℕ) → fin.contains_key (fin.insert m name child) q ≡ true → (fin.contains_key m q ≡ true) ⊎ (is_member same_entry ((d, name) ∷ []) (d, q) ≡ true)
put_one d name child m q h =
    elim (or_cases (eq_by_cmp (slice_cmp nat_cmp) q name) (fin.contains_key m q) (sym (entry_put m name child q) ∙ h)) [
      | inl here ↦ inr (or_left (d == d && eq_by_cmp (slice_cmp nat_cmp) q name) false (ap (λ t. t && eq_by_cmp (slice_cmp nat_cmp) q name) (nat_eq_equiv.refl d) ∙ here))
      | inr old ↦ inl old
    ]

one_more : (e : Effect) (c : Change) (q : List ℕ) → fin.contains_key (change_after e c).entries q ≡ true → (fin.contains_key c.entries q ≡ true) ⊎ (names_of e q ≡ true)
one_more (effect.Make i k) c q h = absurd (false≢true (sym (no_entry (Made k) q) ∙ h))
one_more (effect.Enter d i k name) c q h = put_one d name (Some (i, k)) c.entries q h
one_more (effect.Leave d name) c q h = put_one d name None c.entries q h
one_more (effect.Names i n) c q h = inl h
one_more (effect.Size i size) c q h = inl h
one_more (effect.Bytes i at bytes) c q h = inl h
one_more (effect.Drop i) c q h = absurd (false≢true (sym (no_entry Gone q) ∙ h))
one_more (effect.Swap d a e b) c q h = inl h

there : (e : Effect) (cs : Changes) (i : ℕ) (q : List ℕ) → fin.contains_key (change_at (with_effect e cs) i).entries q ≡ true → (fin.contains_key (change_at cs i).entries q ≡ true) ⊎ (is_member same_entry (entry_named e) (i, q) ≡ true)
there e cs i q h =
    let s = subject e in
    let c = change_after e (change_at cs s) in
    elim (eqb_tells i s) [
      | inl here ↦
          elim (one_more e (change_at cs s) q (sym (ap (λ x. fin.contains_key x.entries q) (change_put e cs i ∙ ap (λ t. cond t c (change_at cs i)) here.0)) ∙ h)) [
            | inl old ↦ inl (ap (λ k. fin.contains_key (change_at cs k).entries q) here.1 ∙ old)
            | inr new ↦ inr (ap (λ k. is_member same_entry (entry_named e) (k, q)) here.1 ∙ new)
          ]
      | inr off ↦ inl (sym (ap (λ x. fin.contains_key x.entries q) (change_put e cs i ∙ ap (λ t. cond t c (change_at cs i)) off.0)) ∙ h)
    ]

named_entries : (es : List Effect) (cs : Changes) (i : ℕ) (q : List ℕ) → fin.contains_key (change_at (with_effects cs es) i).entries q ≡ true → (fin.contains_key (change_at cs i).entries q || is_member same_entry (flat_map entry_named es) (i, q)) ≡ true
named_entries [] cs i q h = or_left (fin.contains_key (change_at cs i).entries q) false h
named_entries (e ∷ es) cs i q h =
    let old = fin.contains_key (change_at cs i).entries q in
    let now = is_member same_entry (entry_named e) (i, q) in
    let later = is_member same_entry (flat_map entry_named es) (i, q) in
    let all : is_member same_entry (flat_map entry_named (e ∷ es)) (i, q) ≡ (now || later) = list_any-append (same_entry (i, q)) (entry_named e) (flat_map entry_named es) in
    ap (λ t. old || t) all ∙ elim (or_cases (fin.contains_key (change_at (with_effect e cs) i).entries q) later (named_entries es (with_effect e cs) i q h)) [
      | inl one ↦ elim (there e cs i q one) [
        | inl before ↦ or_left old (now || later) before
        | inr new ↦ or_right old (now || later) (or_left now later new)
      ]
      | inr rest ↦ or_right old (now || later) (or_right now later rest)
    ]

one_named : (e : Effect) → length (entry_named e) ≡ cond (is_entry e) 1 0
one_named (effect.Make i k) = refl
one_named (effect.Enter d i k name) = refl
one_named (effect.Leave d name) = refl
one_named (effect.Names i n) = refl
one_named (effect.Size i size) = refl
one_named (effect.Bytes i at bytes) = refl
one_named (effect.Drop i) = refl
one_named (effect.Swap d a e b) = refl

all_named : (es : List Effect) → length (flat_map entry_named es) ≡ count_by is_entry es
all_named es = length-flat_map entry_named es ∙ ap (λ (f : Effect → ℕ). sum_by f es) (λ t e. one_named e t)

pub entries_within : (es : List Effect) (ns : List (ℕ × List ℕ)) → AreEntriesIn (coalesced_changes es) ns → length ns ≤ count_by is_entry es
entries_within es ns are =
    let few = bounded same_entry entry_laws same_entries (λ n. fin.contains_key (change_at (coalesced_changes es) n.0).entries n.1 ≡ true) ns (flat_map entry_named es) are.0 are.1
    (λ q in_it. sym (ap (λ t. t || is_member same_entry (flat_map entry_named es) q) (ap (λ c. fin.contains_key c.entries q.1) (empty_at q.0) ∙ no_entry Kept q.1)) ∙ named_entries es fin.empty q.0 q.1 in_it) in
    let some = distinct_count-le same_entry (flat_map entry_named es) in
    let is = all_named es in
    omega (arith, few, some, is)

-- ---- inodes

any_subject : (es : List Effect) (q : ℕ) → changes_inode es q ≡ is_member nat_eq (map subject es) q
any_subject [] q = refl
any_subject (e ∷ es) q = ap (λ t. (q == subject e) || t) (any_subject es q)

pub less_is_apart : (r : Ordering) → is_lt r ≡ true → is_eq r ≡ false
less_is_apart Less h = refl
less_is_apart Equal h = absurd (false≢true h)
less_is_apart Greater h = absurd (false≢true h)

below_apart : {A : Type 0} (x : ℕ) (es : List (ℕ × A)) → below_all nat_cmp x es ≡ true → AllByRecursion (λ y. (x == y) ≡ false) (map (λ e. e.0) es)
below_apart x [] h = tt
below_apart x (e ∷ es) h =
    let both = and_true (is_lt (nat_cmp x e.0)) (below_all nat_cmp x es) h in
    (sym (unsigned_tied x e.0) ∙ less_is_apart (nat_cmp x e.0) both.0, below_apart x es both.1)

pub keys_apart : {A : Type 0} (es : List (ℕ × A)) → is_sorted nat_cmp es ≡ true → IsDistinct nat_eq (map (λ e. e.0) es)
keys_apart [] h = empty_distinct nat_eq
keys_apart (e ∷ es) h =
    let both = and_true (below_all nat_cmp e.0 es) (is_sorted nat_cmp es) h in
    IsDistinct-cons nat_eq e.0 (map (λ x. x.0) es) (below_apart e.0 es both.0) (keys_apart es both.1)

pub holds : (b : Bool) → T b → b ≡ true
holds true h = refl
holds false h = absurd h

pub inodes_within : (es : List Effect) → fin.len (coalesced_changes es) ≡ distinct_count nat_eq (map subject es)
inodes_within es =
    let cs = coalesced_changes es in
    fin.len-entries cs
    ∙ sym (length-map (fin.entries cs) (λ e. e.0))
    ∙ length-from_keys nat_eq_equiv (fin.keys cs) (map subject es) (keys_apart (fin.entries cs) (holds (is_sorted nat_cmp (fin.entries cs)) (fin.entries_sorted cs)))
    (λ q. sym (same_any (eq_by_cmp nat_cmp q) (λ k. q == k) (λ k. unsigned_tied q k) (fin.keys cs)) ∙ sym (fin.contains_key-keys cs q) ∙ (coalesces es).inodes q ∙ any_subject es q)
