-- What an answer tells of the questions before it.
use Rattle.std.proofs.Common.{◌≡◌, ◌≢◌, ℕ, zero, suc, ◌+◌, ◌<◌, ◌≤◌, List, [], ◌∷◌, refl, Some, None, Option, Ok, Result, cond, ap, sym, ◌∙◌, subst, true, false, Bool, arith, ◌==◌}
use Rattle.std.specs.Prelude.{option_map, ◌||◌, nat_lt, is_some}
use Rattle.std.specs.List.{list_any}
use Rattle.std.proofs.lemmas.Bool.{ltb-false, eq-eqb}
use Rattle.std.specs.FinMap as fin
use Rattle.posix_calls.specs.Content.{Entries}
use Rattle.posix_calls.specs.declared.errno.Errno.{Errno}
use Rattle.posix_calls.specs.declared.errno.Errno.TheVariants as errno
use Rattle.posix_calls.specs.Tree.{Tree, Node, File, Dir, Own, names_of, entries_of}
use Rattle.posix_calls.specs.declared.descriptor.Descriptor.{Descriptor}
use Rattle.posix_calls.specs.Query.{Seen, Query, Gives, Refuses, IsDir, Look, Range, ◌>>=◌, View, run, view_of, seen_node, dir_test}
use Rattle.posix_calls.specs.Walk.{Place, refuse, is_true, kind_at, entries_seen, entries_at, directory, directory_if, walk, is_there, there}
use Rattle.posix_calls.specs.Decide.{open_inode, lowest_free, number_or}
use Rattle.posix_calls.specs.WellFormed.{IsDirectory}
use Rattle.posix_calls.proofs.Changes.{IsBare, entry}
use Rattle.posix_calls.proofs.Reached.{Avoids, Chain, Edge}

-- what came of questions one after another came of each
pub bind_ok : {A B : Type 0} (v : View) (q : Query A) (f : A → Query B) (b : B) → run v (q >>= f) ≡ Ok b → (a : A) × (run v q ≡ Ok a) × (run v (f a) ≡ Ok b)
unfolding run ◌>>=◌
bind_ok v (Gives x) f b e = (x, refl, e)
bind_ok v (Refuses x) f b e = absurd (cc)
bind_ok v (IsDir i next) f b e = bind_ok v (next (v.is_dir i)) f b e
bind_ok v (Look i next) f b e = bind_ok v (next (v.node i)) f b e
bind_ok v (Range i at count next) f b e = bind_ok v (next (v.bytes i at count)) f b e

-- what was not refused did not pass
pub not_refused : (v : View) (x : Errno) (test : Bool) (u : Unit {0}) → run v (refuse x test) ≡ Ok u → test ≡ false
unfolding run
not_refused v x true u e = absurd (cc)
not_refused v x false u e = refl

-- what is given is what comes
pub given : {A : Type 0} (v : View) {x y : A} → run v (Gives x) ≡ Ok y → x ≡ y
unfolding run
given v e = cc

-- what was looked at is what the view has
pub looked : {A : Type 0} (v : View) (i : ℕ) (f : Option Seen → A) (y : A) → run v (Look i (λ s. Gives (f s))) ≡ Ok y → f (v.node i) ≡ y
unfolding run
looked v i f y e = cc

-- ---- nodes

seen_entries : (n : ℕ) (o : Option Node) → entries_seen (option_map (seen_node n) o) ≡ entries_of o
seen_entries n None = refl
seen_entries n (Some (File bytes)) = refl
seen_entries n (Some (Dir es)) = refl

-- entries are those of the node
pub entries_are : (t : Tree) (i : ℕ) (es : Entries ℕ) → run (view_of t) (entries_at i) ≡ Ok es → entries_of (t i) ≡ es
entries_are t i es e = sym (seen_entries (names_of t i) (t i)) ∙ looked (view_of t) i entries_seen es e

none_of_test : (n : ℕ) → nat_lt 0 n ≡ false → n ≡ 0
none_of_test n e = let h : n ≤ 0 = ltb-false 0 n e in omega (arith, h)

-- a directory in which no entry was seen has none
pub bare_seen : (t : Tree) (i : ℕ) (es : Entries ℕ) → run (view_of t) (entries_at i) ≡ Ok es → nat_lt 0 (fin.len es) ≡ false → IsBare (t i)
bare_seen t i es e none = entries_are t i es e ∙ fin.empty_of_len es (none_of_test (fin.len es) none)

-- a node that is there, by the answer to what it is
pub kind_seen : (t : Tree) (i : ℕ) (b : Bool) → is_some (t i) ≡ true → run (view_of t) (kind_at (Some i)) ≡ Ok b → option_map dir_test (t i) ≡ Some b
unfolding run
kind_seen t i b some e = of_kind (t i) b some e where
  of_kind : (o : Option Node) (b : Bool) → is_some o ≡ true → ◌≡◌ {A = Result Bool Errno} (Ok (is_true (option_map dir_test o))) (Ok b) → option_map dir_test o ≡ Some b
  of_kind None b some e = absurd (cc)
  of_kind (Some x) b some e = let same : dir_test x ≡ b = cc in ap (λ y. Some y) same

pub there_is : (v : View) (o : Option ℕ) (i : ℕ) → run v (there o) ≡ Ok i → o ≡ Some i
unfolding run
there_is v None i e = absurd (cc)
there_is v (Some j) i e = cc

pub nothing_there : (o : Option ℕ) → is_there o ≡ false → o ≡ None
nothing_there None e = refl
nothing_there (Some i) e = absurd (cc)

-- ---- the walk

pub no_bit : (a b : Bool) → (a || b) ≡ false → (a ≡ false) × (b ≡ false)
no_bit true b e = absurd (cc)
no_bit false b e = (refl, e)

not_equal : (c i : ℕ) → (c == i) ≡ false → c ≢ i
not_equal c i e same = let yes : (c == i) ≡ true = eq-eqb c i same in let clash : true ≡ false = sym yes ∙ e in absurd (cc)

-- the directory that a component led to is one, and has that inode
pub directory_is : (t : Tree) (o : Option ℕ) (c : ℕ) → run (view_of t) (directory o) ≡ Ok c → (o ≡ Some c) × IsDirectory (t c)
unfolding run
directory_is t None c e = absurd (cc)
directory_is t (Some i) c e = by_kind (t i) refl e where
  by_kind : (x : Option Node) → t i ≡ x → run (view_of t) (directory_if i (option_map dir_test x)) ≡ Ok c → (Some i ≡ Some c) × IsDirectory (t c)
  by_kind None is e = absurd (cc)
  by_kind (Some (File bytes)) is e = absurd (cc)
  by_kind (Some (Dir es)) is e =
      let same : i ≡ c = cc in
      (ap (λ k. Some k) same, ap (λ k. option_map dir_test (t k)) (sym same) ∙ ap (option_map dir_test) is)

-- where a walk of one name or more ends
pub record IsPlace (t : Tree) (place : Place) : Type 0 where
  pub directory : IsDirectory (t place.location.parent)
  pub inode : place.inode ≡ entry t place.location

pub place_is : (t : Tree) (from : ℕ) (way : List ℕ) (name : List ℕ) (names : List (List ℕ)) (place : Place) → IsDirectory (t from) → run (view_of t) (walk from way (name ∷ names)) ≡ Ok place → IsPlace t place
unfolding walk
place_is t from way name [] place is e =
    let v = view_of t in
    let s = bind_ok v _ _ _ e in
    subst (IsPlace t) (given v s.2) (record { directory = is; inode = ap (λ m. fin.get m name) (sym (entries_are t from s.0 s.1)) })
place_is t from way name (next ∷ names) place is e =
    let v = view_of t in
    let s = bind_ok v _ _ _ e in
    let c = bind_ok v _ _ _ s.2 in
    let d = directory_is t (fin.get s.0 name) c.0 c.1 in
    place_is t c.0 (from ∷ way) next names place d.1 c.2

-- the way that was walked, which comes by no inode that is not among the walked ones
pub record IsWalk (t : Tree) (i from : ℕ) (way : List ℕ) (place : Place) : Type 0 where
  pub steps : List ℕ
  pub clear : Avoids i steps
  pub chain : Chain t from steps place.location.parent
  pub before : list_any (λ d. d == i) (from ∷ way) ≡ false

pub walk_is : (t : Tree) (i from : ℕ) (way : List ℕ) (name : List ℕ) (names : List (List ℕ)) (place : Place) → run (view_of t) (walk from way (name ∷ names)) ≡ Ok place → list_any (λ d. d == i) place.walked ≡ false → IsWalk t i from way place
unfolding walk
walk_is t i from way name [] place e apart =
    let v = view_of t in
    let s = bind_ok v _ _ _ e in
    let made = given v s.2 in
    record { steps = []; clear = tt; chain = ap (λ p. p.location.parent) made; before = ap (λ p. list_any (λ d. d == i) p.walked) made ∙ apart }
walk_is t i from way name (next ∷ names) place e apart =
    let v = view_of t in
    let s = bind_ok v _ _ _ e in
    let c = bind_ok v _ _ _ s.2 in
    let at : fin.get s.0 name ≡ Some c.0 = (directory_is t (fin.get s.0 name) c.0 c.1).0 in
    let edge : Edge t from c.0 = (name, ap (λ m. fin.get m name) (entries_are t from s.0 s.1) ∙ at) in
    let rest = walk_is t i c.0 (from ∷ way) next names place c.2 apart in
    let bits = no_bit (c.0 == i) (list_any (λ d. d == i) (from ∷ way)) rest.before in
    record { steps = c.0 ∷ rest.steps; clear = (not_equal c.0 i bits.0, rest.clear); chain = (edge, rest.chain); before = bits.1 }

-- ---- descriptors

pub opened_is : (v : View) (test : Descriptor → Bool) (o : Option Descriptor) (i : ℕ) → run v (open_inode test o) ≡ Ok i → (x : Descriptor) × (o ≡ Some x) × (x.inode ≡ i)
unfolding run
opened_is v test None i e = absurd (cc)
opened_is v test (Some x) i e = (x, refl, elim (test x) as (λ b. run v (cond b (Gives x.inode) (Refuses errno.BadDescriptor)) ≡ Ok i → x.inode ≡ i) [ true ↦ λ s. cc | false ↦ λ s. absurd (cc) ] e)

lowest : (own : Own) (n k m : ℕ) → lowest_free own n k ≡ Some m → (own m ≡ None) × (m + 1 ≤ n + k)
lowest own n zero m e = absurd (cc)
lowest own n (suc k) m e = elim (own n) as (λ o. own n ≡ o → elim o [ None ↦ Some n | Some x ↦ lowest_free own (n + 1) k ] ≡ Some m → (own m ≡ None) × (m + 1 ≤ n + suc k)) [
  | None ↦ λ is here. let same : n ≡ m = cc in (ap own (sym same) ∙ is, omega (arith, same))
  | Some x ↦ λ is later. let r = lowest own (n + 1) k m later in let l = r.1 in (r.0, omega (arith, l))
] refl e

pub number_is : (v : View) (o : Option ℕ) (number : ℕ) → run v (number_or o) ≡ Ok number → o ≡ Some number
unfolding run
number_is v None number e = absurd (cc)
number_is v (Some n) number e = cc

pub lowest_is : (own : Own) (number : ℕ) → lowest_free own 0 32 ≡ Some number → (number < 32) × (own number ≡ None)
lowest_is own number e = let r = lowest own 0 32 number e in let l = r.1 in (omega (arith, l), r.0)
