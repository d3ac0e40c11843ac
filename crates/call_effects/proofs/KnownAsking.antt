-- What a call asks of: the root, what an entry of a directory that was looked at names, and what its client has open.
use Rattle.std.proofs.Common.{◌≡◌, ℕ, zero, suc, ◌+◌, ◌-◌, ◌≤◌, arith, List, [], ◌∷◌, refl, Some, None, Option, Ok, Err, Result, cond, ap, ◌∙◌, subst, true, false, Bool, ◌==◌}
use Rattle.std.specs.Prelude.{min, nat_lt}
use Rattle.std.proofs.lemmas.Bool.{ltb-false}
use Rattle.std.specs.FinMap as fin
use Rattle.posix_calls.specs.Content.{Entries}
use Rattle.posix_calls.specs.Path.{path_names}
use Rattle.posix_calls.specs.Tree.{Own}
use Rattle.posix_calls.specs.declared.descriptor.Descriptor.{Descriptor}
use Rattle.posix_calls.specs.declared.errno.Errno.{Errno}
use Rattle.posix_calls.specs.declared.errno.Errno.TheVariants as errno
use Rattle.posix_calls.specs.declared.call.Flags.{Flags}
use Rattle.posix_calls.specs.declared.call.Call.{Call}
use Rattle.posix_calls.specs.declared.call.Call.TheVariants as call
use Rattle.posix_calls.specs.declared.call.Reply.TheVariants as reply
use Rattle.posix_calls.specs.declared.operation.Operation.{Operation}
use Rattle.posix_calls.specs.declared.operation.Operation.TheVariants.{Tell, CloseFile}
use Rattle.posix_calls.specs.declared.operation.Replaced.TheVariants.{OldFile}
use Rattle.posix_calls.specs.declared.operation.Missing.TheVariants as missing
use Rattle.posix_calls.specs.Query.{Seen, File, Dir, Query, Gives, Refuses, IsDir, Look, Range, ◌>>=◌}
use Rattle.posix_calls.specs.Part.{Part, Found, Known, Unknown, blocks_missing, run_part}
use Rattle.posix_calls.specs.Walk.{Place, root_place, refuse, read_or_error, entries_at, size_at, kind_at, directory, directory_if, walk, prefix, leads_to, there}
use Rattle.posix_calls.specs.Decide.{open_inode, number_or, empties, open_there, bytes_from, write_at, replaced_at, replacing_dir, rename_to, node_description, open_path, close, pread, pwrite, truncate, mkdir, rmdir, link, unlink, rename, exchange_apart, exchange, list_path, stat, decide}

-- each inode that is asked of, for its kind, to be looked at, or for a range of bytes, passes, as the part answers what comes before
unfoldable pub QueryAll : {A : Type 0} → Part → (ℕ → Type 0) → (ℕ → Type 0) → (ℕ → ℕ → ℕ → Type 0) → Query A → Type 0
QueryAll p OnDir OnNode OnRange (Gives x) = Unit {0}
QueryAll p OnDir OnNode OnRange (Refuses e) = Unit {0}
QueryAll p OnDir OnNode OnRange (IsDir i next) = OnDir i × ((o : Option Bool) → p.is_dir i ≡ Some o → QueryAll p OnDir OnNode OnRange (next o))
QueryAll p OnDir OnNode OnRange (Look i next) = OnNode i × ((o : Option Seen) → p.node i ≡ Some o → QueryAll p OnDir OnNode OnRange (next o))
QueryAll p OnDir OnNode OnRange (Range i at count next) = OnRange i at count × ((bytes : List ℕ) → p.bytes i at count ≡ Some bytes → QueryAll p OnDir OnNode OnRange (next bytes))

-- ---- how questions run by a part

-- what a part answered leads on
pub dir_answered : {A : Type 0} (p : Part) (i : ℕ) (next : Option Bool → Query A) (o : Option Bool) → p.is_dir i ≡ Some o → run_part p (IsDir i next) ≡ run_part p (next o)
unfolding run_part
dir_answered {A = A} p i next o is = ap (λ x. elim x as (λ _. Found A) [ None ↦ Unknown (missing.Node i) | Some a ↦ run_part p (next a) ]) is

pub node_answered : {A : Type 0} (p : Part) (i : ℕ) (next : Option Seen → Query A) (o : Option Seen) → p.node i ≡ Some o → run_part p (Look i next) ≡ run_part p (next o)
unfolding run_part
node_answered {A = A} p i next o is = ap (λ x. elim x as (λ _. Found A) [ None ↦ Unknown (missing.Node i) | Some a ↦ run_part p (next a) ]) is

pub bytes_answered : {A : Type 0} (p : Part) (i at count : ℕ) (next : List ℕ → Query A) (bytes : List ℕ) → p.bytes i at count ≡ Some bytes → run_part p (Range i at count next) ≡ run_part p (next bytes)
unfolding run_part
bytes_answered {A = A} p i at count next bytes is = ap (λ x. elim x as (λ _. Found A) [ None ↦ Unknown (blocks_missing i at count) | Some a ↦ run_part p (next a) ]) is

given_known : {A : Type 0} (p : Part) (x : A) → run_part p (Gives x) ≡ Known (Ok x)
unfolding run_part
given_known p x = refl

pub bind_known : {A B : Type 0} (p : Part) (q : Query A) (f : A → Query B) (b : B) → run_part p (q >>= f) ≡ Known (Ok b) → (a : A) × (run_part p q ≡ Known (Ok a)) × (run_part p (f a) ≡ Known (Ok b))
unfolding run_part ◌>>=◌
bind_known p (Gives x) f b e = (x, refl, e)
bind_known p (Refuses x) f b e = absurd (cc)
bind_known {A = A} {B = B} p (IsDir i next) f b e =
    elim (p.is_dir i) as (λ o. ◌≡◌ {A = Found B} (elim o [ None ↦ Unknown (missing.Node i) | Some a ↦ run_part p (next a >>= f) ]) (Known (Ok b)) → (a : A) × (◌≡◌ {A = Found A} (elim o [ None ↦ Unknown (missing.Node i) | Some a ↦ run_part p (next a) ]) (Known (Ok a))) × (run_part p (f a) ≡ Known (Ok b))) [
      | None ↦ λ missing. absurd (cc)
      | Some a ↦ λ known. bind_known p (next a) f b known
    ] e
bind_known {A = A} {B = B} p (Look i next) f b e =
    elim (p.node i) as (λ o. ◌≡◌ {A = Found B} (elim o [ None ↦ Unknown (missing.Node i) | Some a ↦ run_part p (next a >>= f) ]) (Known (Ok b)) → (a : A) × (◌≡◌ {A = Found A} (elim o [ None ↦ Unknown (missing.Node i) | Some a ↦ run_part p (next a) ]) (Known (Ok a))) × (run_part p (f a) ≡ Known (Ok b))) [
      | None ↦ λ missing. absurd (cc)
      | Some a ↦ λ known. bind_known p (next a) f b known
    ] e
bind_known {A = A} {B = B} p (Range i at count next) f b e =
    elim (p.bytes i at count) as (λ o. ◌≡◌ {A = Found B} (elim o [ None ↦ Unknown (blocks_missing i at count) | Some a ↦ run_part p (next a >>= f) ]) (Known (Ok b)) → (a : A) × (◌≡◌ {A = Found A} (elim o [ None ↦ Unknown (blocks_missing i at count) | Some a ↦ run_part p (next a) ]) (Known (Ok a))) × (run_part p (f a) ≡ Known (Ok b))) [
      | None ↦ λ missing. absurd (cc)
      | Some a ↦ λ known. bind_known p (next a) f b known
    ] e

-- what is read of a node
pub read_known : {A : Type 0} (p : Part) (i : ℕ) (f : Option Seen → A) (x : A) → run_part p (Look i (λ s. Gives (f s))) ≡ Known (Ok x) → (o : Option Seen) × (p.node i ≡ Some o) × (f o ≡ x)
unfolding run_part
read_known {A = A} p i f x e =
    elim (p.node i) as (λ o. p.node i ≡ o → ◌≡◌ {A = Found A} (elim o [ None ↦ Unknown (missing.Node i) | Some a ↦ Known (Ok (f a)) ]) (Known (Ok x)) → (s : Option Seen) × (p.node i ≡ Some s) × (f s ≡ x)) [
      | None ↦ λ is missing. absurd (cc)
      | Some a ↦ λ is known. (a, is, (let same : f a ≡ x = cc in same))
    ] refl e

pub result_is : {A : Type 0} (p : Part) (x y : A) → run_part p (Gives x) ≡ Known (Ok y) → x ≡ y
unfolding run_part
result_is p x y e = cc

-- bytes that a file has, cut to its size
there_are : (count size at few : ℕ) → min count (size - at) ≡ suc few → at + suc few ≤ size
there_are count size at few e = omega (arith, e)

-- no more of them than are asked for
are_few : (count size at few : ℕ) → nat_lt 65536 count ≡ false → min count (size - at) ≡ suc few → suc few ≤ 65536
are_few count size at few small e = let most = ltb-false 65536 count small in omega (arith, e, most)

module _ (p : Part) (OnDir OnNode : ℕ → Type 0) (OnRange : ℕ → ℕ → ℕ → Type 0) where
  abbrev QueryIn : {A : Type 0} → Query A → Type 0
  QueryIn q = QueryAll p OnDir OnNode OnRange q

  pub query_then : {A B : Type 0} (q : Query A) (f : A → Query B) → QueryIn q → ((x : A) → run_part p q ≡ Known (Ok x) → QueryIn (f x)) → QueryIn (q >>= f)
  unfolding QueryAll ◌>>=◌
  query_then (Gives x) f first rest = rest x (given_known p x)
  query_then (Refuses e) f first rest = tt
  query_then (IsDir i next) f (met, first) rest = (met, λ o is. query_then (next o) f (first o is) (λ x e. rest x (dir_answered p i next o is ∙ e)))
  query_then (Look i next) f (met, first) rest = (met, λ o is. query_then (next o) f (first o is) (λ x e. rest x (node_answered p i next o is ∙ e)))
  query_then (Range i at count next) f (met, first) rest = (met, λ bytes is. query_then (next bytes) f (first bytes is) (λ x e. rest x (bytes_answered p i at count next bytes is ∙ e)))

  pub query_gives : {A : Type 0} (x : A) → QueryIn (Gives x)
  unfolding QueryAll
  query_gives x = tt

  query_refuse : (e : Errno) (b : Bool) → QueryIn (refuse e b)
  unfolding QueryAll
  query_refuse e true = tt
  query_refuse e false = tt

  query_said : {A : Type 0} (r : Result A Errno) → QueryIn (read_or_error r)
  unfolding QueryAll
  query_said (Ok x) = tt
  query_said (Err e) = tt

  query_there : (o : Option ℕ) → QueryIn (there o)
  unfolding QueryAll
  query_there None = tt
  query_there (Some i) = tt

  query_number : (o : Option ℕ) → QueryIn (number_or o)
  unfolding QueryAll
  query_number None = tt
  query_number (Some n) = tt

  query_opened : (test : Descriptor → Bool) (o : Option Descriptor) (f : ℕ → Query Operation) → ((x : Descriptor) → o ≡ Some x → QueryIn (f x.inode)) → QueryIn (open_inode test o >>= f)
  unfolding QueryAll ◌>>=◌
  query_opened test None f rest = tt
  query_opened test (Some x) f rest = elim (test x) as (λ b. QueryIn (cond b (Gives x.inode) (Refuses errno.BadDescriptor) >>= f)) [ true ↦ rest x refl | false ↦ tt ]

  pub query_look : {A : Type 0} (i : ℕ) (f : Option Seen → Query A) → OnNode i → ((s : Option Seen) → QueryIn (f s)) → QueryIn (Look i f)
  unfolding QueryAll
  query_look i f met rest = (met, λ o is. rest o)

  pub query_range : {A : Type 0} (i at count : ℕ) (f : List ℕ → Query A) → OnRange i at count → ((bytes : List ℕ) → QueryIn (f bytes)) → QueryIn (Range i at count f)
  unfolding QueryAll
  query_range i at count f met rest = (met, λ bytes is. rest bytes)

  pub query_entries : (i : ℕ) → OnNode i → QueryIn (entries_at i)
  query_entries i met = query_look i _ met (λ s. query_gives _)

  query_kind : (o : Option ℕ) → ((i : ℕ) → o ≡ Some i → OnDir i) → QueryIn (kind_at o)
  unfolding QueryAll
  query_kind None met = tt
  query_kind (Some i) met = (met i refl, λ o is. tt)

  query_directory : (o : Option ℕ) → ((i : ℕ) → o ≡ Some i → OnDir i) → QueryIn (directory o)
  unfolding QueryAll
  query_directory None met = tt
  query_directory (Some i) met = (met i refl, λ o is. if_asks o) where
    if_asks : (o : Option Bool) → QueryIn (directory_if i o)
    if_asks None = tt
    if_asks (Some true) = tt
    if_asks (Some false) = tt

  query_described : (s : Option Seen) → QueryIn (node_description s)
  unfolding QueryAll
  query_described None = tt
  query_described (Some (File names size)) = tt
  query_described (Some (Dir entries)) = tt

  query_past : (e : Errno) (test : Bool) (f : Unit {0} → Query Operation) → QueryIn (f tt) → QueryIn (refuse e test >>= f)
  query_past e test f rest = query_then _ _ (query_refuse e test) (λ u r. rest)

  query_where : (e : Errno) (test : Bool) (f : Unit {0} → Query Operation) → (test ≡ false → QueryIn (f tt)) → QueryIn (refuse e test >>= f)
  unfolding QueryAll ◌>>=◌
  query_where e true f rest = tt
  query_where e false f rest = rest refl

  query_path : (path : List ℕ) (f : List (List ℕ) → Query Operation) → ((names : List (List ℕ)) → QueryIn (f names)) → QueryIn (read_or_error (path_names path) >>= f)
  query_path path f rest = query_then _ _ (query_said (path_names path)) (λ names e. rest names)

  there_known : (o : Option ℕ) (i : ℕ) → run_part p (there o) ≡ Known (Ok i) → o ≡ Some i
  unfolding run_part
  there_known None i e = absurd (cc)
  there_known (Some j) i e = let same : j ≡ i = cc in ap (λ x. Some x) same

  directory_by : (i child : ℕ) (o : Option Bool) → run_part p (directory_if i o) ≡ Known (Ok child) → i ≡ child
  unfolding run_part
  directory_by i child None e = absurd (cc)
  directory_by i child (Some false) e = absurd (cc)
  directory_by i child (Some true) e = cc

  directory_known : (o : Option ℕ) (child : ℕ) → run_part p (directory o) ≡ Known (Ok child) → o ≡ Some child
  unfolding run_part
  directory_known None child e = absurd (cc)
  directory_known (Some i) child e = elim (p.is_dir i) as (λ o. ◌≡◌ {A = Found ℕ} (elim o [ None ↦ Unknown (missing.Node i) | Some a ↦ run_part p (directory_if i a) ]) (Known (Ok child)) → Some i ≡ Some child) [
    | None ↦ λ missing. absurd (cc)
    | Some a ↦ λ known. ap (λ x. Some x) (directory_by i child a known)
  ] e

  query_bytes : (i at count : ℕ) → ((few : ℕ) → count ≡ suc few → OnRange i at (suc few)) → QueryIn (bytes_from i at count)
  query_bytes i at zero met = query_gives []
  query_bytes i at (suc count) met = query_range i at (suc count) _ (met count refl) (λ bytes. query_gives bytes)

  -- where the root passes, what an entry names, what is open, and the bytes of that which there are, so does all that a call asks of
  module _ (own : Own) (root : OnDir 1 × OnNode 1) (named : (at i : ℕ) (name : List ℕ) (entries : Entries ℕ) → run_part p (entries_at at) ≡ Known (Ok entries) → fin.get entries name ≡ Some i → OnDir i × OnNode i) (opens : (number : ℕ) (x : Descriptor) → own number ≡ Some x → OnNode x.inode) (reads : (number : ℕ) (x : Descriptor) (size at count : ℕ) → own number ≡ Some x → run_part p (size_at x.inode) ≡ Known (Ok size) → at + suc count ≤ size → suc count ≤ 65536 → OnRange x.inode at (suc count)) where
    query_walk : (from : ℕ) (way : List ℕ) (names : List (List ℕ)) → OnNode from → QueryIn (walk from way names)
    unfolding walk
    query_walk from way [] met = query_gives root_place
    query_walk from way (name ∷ []) met = query_then _ _ (query_entries from met) (λ entries e. query_gives _)
    query_walk from way (name ∷ next ∷ names) met =
        query_then _ _ (query_entries from met) (λ entries e.
        query_then _ _ (query_directory (fin.get entries name) (λ i at. (named from i name entries e at).0)) (λ child c.
        query_walk child (from ∷ way) (next ∷ names) (named from child name entries e (directory_known (fin.get entries name) child c)).1))

    query_prefix : (names : List (List ℕ)) → QueryIn (prefix names)
    query_prefix names = query_walk 1 [] names root.1

    walk_met : (from : ℕ) (way : List ℕ) (names : List (List ℕ)) (place : Place) (i : ℕ) → run_part p (walk from way names) ≡ Known (Ok place) → place.inode ≡ Some i → OnDir i × OnNode i
    unfolding walk
    walk_met from way [] place i e is =
        let one : Some 1 ≡ Some i = ap (λ (x : Place). x.inode) (result_is p root_place place e) ∙ is in
        let same : 1 ≡ i = cc in
        subst (λ j. OnDir j × OnNode j) same root
    walk_met from way (name ∷ []) place i e is =
        let entries = bind_known p _ _ _ e in
        named from i name entries.0 entries.1 (ap (λ (x : Place). x.inode) (result_is p _ place entries.2) ∙ is)
    walk_met from way (name ∷ next ∷ names) place i e is =
        let entries = bind_known p _ _ _ e in
        let child = bind_known p _ _ _ entries.2 in
        walk_met child.0 (from ∷ way) (next ∷ names) place i child.2 is

    place_met : (names : List (List ℕ)) (place : Place) (i : ℕ) → run_part p (prefix names) ≡ Known (Ok place) → place.inode ≡ Some i → OnDir i × OnNode i
    place_met names place i e is = walk_met 1 [] names place i e is

    query_mkdir : (path : List ℕ) → QueryIn (mkdir path)
    unfolding mkdir
    query_mkdir path =
        query_path path _ (λ names.
        query_then _ _ (query_prefix names) (λ place q.
        query_past _ _ _ (
        query_past _ _ _ (query_gives _))))

    query_rmdir : (path : List ℕ) → QueryIn (rmdir path)
    unfolding rmdir
    query_rmdir path =
        query_path path _ (λ names.
        query_past _ _ _ (
        query_then _ _ (query_prefix names) (λ place q.
        query_then _ _ (query_there place.inode) (λ i t.
        query_then _ _ (query_kind place.inode (λ j is. (place_met names place j q is).0)) (λ is_dir s.
        query_past _ _ _ (
        query_then _ _ (query_entries i (place_met names place i q (there_known place.inode i t)).1) (λ entries r.
        query_past _ _ _ (query_gives _))))))))

    query_unlink : (path : List ℕ) → QueryIn (unlink path)
    unfolding unlink
    query_unlink path =
        query_path path _ (λ names.
        query_past _ _ _ (
        query_then _ _ (query_prefix names) (λ place q.
        query_then _ _ (query_there place.inode) (λ i t.
        query_then _ _ (query_kind place.inode (λ j is. (place_met names place j q is).0)) (λ is_dir s.
        query_past _ _ _ (query_gives _))))))

    query_link : (old new : List ℕ) → QueryIn (link old new)
    unfolding link
    query_link old new =
        query_path old _ (λ old_names.
        query_path new _ (λ new_names.
        query_then _ _ (query_prefix old_names) (λ from q.
        query_then _ _ (query_there from.inode) (λ i t.
        query_then _ _ (query_kind from.inode (λ j is. (place_met old_names from j q is).0)) (λ is_dir s.
        query_past _ _ _ (
        query_then _ _ (query_prefix new_names) (λ to r.
        query_past _ _ _ (
        query_then _ _ (query_look i _ (place_met old_names from i q (there_known from.inode i t)).1 (λ n. query_gives _)) (λ names u.
        query_past _ _ _ (
        query_past _ _ _ (query_gives _)))))))))))

    query_truncate : (path : List ℕ) (len : ℕ) → QueryIn (truncate path len)
    unfolding truncate
    query_truncate path len =
        query_path path _ (λ names.
        query_then _ _ (query_prefix names) (λ place q.
        query_then _ _ (query_there place.inode) (λ i t.
        query_then _ _ (query_kind place.inode (λ j is. (place_met names place j q is).0)) (λ is_dir s.
        query_past _ _ _ (
        query_past _ _ _ (
        query_then _ _ (query_look i _ (place_met names place i q (there_known place.inode i t)).1 (λ b. query_gives _)) (λ bytes u. query_gives _)))))))

    query_list : (path : List ℕ) → QueryIn (list_path path)
    unfolding list_path
    query_list path =
        query_path path _ (λ names.
        query_then _ _ (query_prefix names) (λ place q.
        query_then _ _ (query_there place.inode) (λ i t.
        query_then _ _ (query_kind place.inode (λ j is. (place_met names place j q is).0)) (λ is_dir s.
        query_past _ _ _ (
        query_then _ _ (query_entries i (place_met names place i q (there_known place.inode i t)).1) (λ entries r. query_gives _))))))

    query_stat : (path : List ℕ) → QueryIn (stat path)
    unfolding stat
    query_stat path =
        query_path path _ (λ names.
        query_then _ _ (query_prefix names) (λ place q.
        query_then _ _ (query_there place.inode) (λ i t.
        query_look i _ (place_met names place i q (there_known place.inode i t)).1 (λ s. query_described s))))

    query_open_there : (place : Place) (number : ℕ) (f : Flags) (o : Option ℕ) → ((i : ℕ) → o ≡ Some i → OnNode i) → QueryIn (open_there place number f o)
    query_open_there place number f None met = query_past _ _ _ (query_past _ _ _ (query_gives _))
    query_open_there place number f (Some i) met = query_then _ _ (emptied f.truncate) (λ empty e. query_gives _) where
      emptied : (b : Bool) → QueryIn (empties b i)
      emptied true = query_look i _ (met i refl) (λ s. query_gives _)
      emptied false = query_gives _

    query_open : (path : List ℕ) (f : Flags) → QueryIn (open_path own path f)
    unfolding open_path
    query_open path f =
        query_path path _ (λ names.
        query_past _ _ _ (
        query_then _ _ (query_number _) (λ number n.
        query_then _ _ (query_prefix names) (λ place q.
        query_past _ _ _ (
        query_then _ _ (query_kind place.inode (λ j is. (place_met names place j q is).0)) (λ is_dir s.
        query_past _ _ _ (
        query_open_there place number f place.inode (λ j is. (place_met names place j q is).1))))))))

    query_replacing : (from to : Place) (old_dir : Bool) (o : Option ℕ) → ((i : ℕ) → o ≡ Some i → OnDir i × OnNode i) → QueryIn (replaced_at from to old_dir o)
    query_replacing from to old_dir None met = query_then _ _ (query_refuse _ _) (λ u r. query_gives _)
    query_replacing from to old_dir (Some j) met =
        query_then _ _ (query_kind (Some j) (λ i is. (met i is).0)) (λ new_dir s.
        query_then _ _ (query_refuse _ _) (λ u r.
        query_then _ _ (query_refuse _ _) (λ w t.
        by_test new_dir)))
      where
        by_test : (b : Bool) → QueryIn (cond b (replacing_dir j) (Gives (OldFile j)))
        by_test true = query_then _ _ (query_entries j (met j refl).1) (λ entries e. query_then _ _ (query_refuse _ _) (λ u r. query_gives _))
        by_test false = query_gives _

    query_rename : (old new : List ℕ) → QueryIn (rename old new)
    unfolding rename
    query_rename old new =
        query_path old _ (λ old_names.
        query_path new _ (λ new_names.
        query_past _ _ _ (
        query_then _ _ (query_prefix old_names) (λ from q.
        query_then _ _ (query_there from.inode) (λ i t.
        query_then _ _ (query_prefix new_names) (λ to r.
        query_past _ _ _ (by_node (leads_to i to.inode) old_names new_names from to i q r)))))))
      where
        by_node : (b : Bool) (old_names new_names : List (List ℕ)) (from to : Place) (i : ℕ) → run_part p (prefix old_names) ≡ Known (Ok from) → run_part p (prefix new_names) ≡ Known (Ok to) → QueryIn (cond b (Gives (Tell reply.Done)) (rename_to from to i))
        by_node true old_names new_names from to i q r = query_gives _
        by_node false old_names new_names from to i q r =
            query_then _ _ (query_kind from.inode (λ j is. (place_met old_names from j q is).0)) (λ old_dir s.
            query_then _ _ (query_replacing from to old_dir to.inode (λ j is. place_met new_names to j r is)) (λ replaced u.
            query_gives _))

    query_exchange : (first second : List ℕ) → QueryIn (exchange first second)
    unfolding exchange
    query_exchange first second =
        query_path first _ (λ first_names.
        query_path second _ (λ second_names.
        query_past _ _ _ (
        query_then _ _ (query_prefix first_names) (λ one q.
        query_then _ _ (query_there one.inode) (λ i t.
        query_then _ _ (query_prefix second_names) (λ two r.
        query_then _ _ (query_there two.inode) (λ j u. by_nodes (i == j) one two i j)))))))
      where
        by_nodes : (b : Bool) (one two : Place) (i j : ℕ) → QueryIn (cond b (Gives (Tell reply.Done)) (exchange_apart one two i j))
        by_nodes true one two i j = query_gives _
        by_nodes false one two i j = query_past _ _ _ (query_gives _)

    query_close : (number : ℕ) → QueryIn (close own number)
    unfolding close
    query_close number = query_opened (λ o. true) (own number) (λ i. Gives (CloseFile i number)) (λ x is. query_gives (CloseFile x.inode number))

    query_pread : (number at count : ℕ) → QueryIn (pread own number at count)
    unfolding pread
    query_pread number at count =
        query_opened _ (own number) _ (λ x is.
        query_where _ _ _ (λ small.
        query_then _ _ (query_look x.inode _ (opens number x is) (λ s. query_gives _)) (λ size s.
        query_then _ _ (query_bytes x.inode at (min count (size - at)) (λ few e. reads number x size at few is s (there_are count size at few e) (are_few count size at few small e))) (λ bytes r. query_gives _))))

    query_write_at : (i at : ℕ) (bytes : List ℕ) → QueryIn (write_at i at bytes)
    query_write_at i at [] = query_gives _
    query_write_at i at (b ∷ bytes) = query_past _ _ _ (query_gives _)

    query_pwrite : (number at : ℕ) (bytes : List ℕ) → QueryIn (pwrite own number at bytes)
    unfolding pwrite
    query_pwrite number at bytes =
        query_opened _ (own number) _ (λ x is.
        query_past _ _ _ (query_write_at x.inode at bytes))

    pub query_call : (c : Call) → QueryIn (decide own c)
    query_call (call.Open path flags) = query_open path flags
    query_call (call.Close number) = query_close number
    query_call (call.Pread number at count) = query_pread number at count
    query_call (call.Pwrite number at bytes) = query_pwrite number at bytes
    query_call (call.Truncate path len) = query_truncate path len
    query_call (call.Mkdir path) = query_mkdir path
    query_call (call.Rmdir path) = query_rmdir path
    query_call (call.Link old new) = query_link old new
    query_call (call.Unlink path) = query_unlink path
    query_call (call.Rename old new) = query_rename old new
    query_call (call.Exchange first second) = query_exchange first second
    query_call (call.List path) = query_list path
    query_call (call.Stat path) = query_stat path
