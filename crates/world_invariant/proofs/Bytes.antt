-- Only a call that reads bytes of a file asks for any, and it has no record.
use Rattle.std.proofs.Common.{◌≡◌, ◌≢◌, ℕ, ◌==◌, cond, Bool, true, false, List, [], ◌∷◌, length, nat_lt, refl, Some, None, Option, Ok, Err, Result, ap, ◌∙◌}
use Rattle.std.specs.FinMap as fin
use Rattle.posix_calls.specs.Tree.{Own}
use Rattle.posix_calls.specs.Query.{Seen, File, Dir, Query, Gives, Refuses, IsDir, Look, Range, ◌>>=◌}
use Rattle.posix_calls.specs.Part.{Part, Found, Known, Unknown, run_part}
use Rattle.posix_calls.specs.Walk.{Place, refuse, read_or_error, entries_at, size_at, names_at, kind_at, directory, directory_if, walk, leads_to, there, root_place}
use Rattle.posix_calls.specs.Decide.{open_inode, number_or, empties, open_there, write_at, replaced_at, replacing_dir, rename_to, node_description, open_path, close, pread, pwrite, truncate, mkdir, rmdir, link, unlink, rename, exchange_apart, exchange, list_path, stat, decide}
use Rattle.posix_calls.specs.declared.call.Call.{Call}
use Rattle.posix_calls.specs.declared.call.Call.TheVariants as call
use Rattle.posix_calls.specs.declared.call.Flags.{Flags}
use Rattle.posix_calls.specs.declared.call.Reply.TheVariants as replies
use Rattle.posix_calls.specs.declared.descriptor.Descriptor.{Descriptor}
use Rattle.posix_calls.specs.declared.errno.Errno.{Errno}
use Rattle.posix_calls.specs.declared.errno.Errno.TheVariants as errno
use Rattle.posix_calls.specs.declared.operation.Missing.TheVariants as missing
use Rattle.posix_calls.specs.declared.operation.Operation.{Operation}
use Rattle.posix_calls.specs.declared.operation.Operation.TheVariants.{Tell, CloseFile}
use Rattle.posix_calls.specs.declared.operation.Replaced.TheVariants.{OldFile}
use Rattle.call_effects.specs.file_graph.declared.effect.Effect.{Effect}
use Rattle.call_effects.specs.Effects.{recounted_file}
use Rattle.call_effects.specs.Records.{effects_asked, names_if}
use Rattle.call_effects.proofs.KnownAsking.{bind_known}

-- no question is for bytes
unfoldable AsksNone : {A : Type 0} → Query A → Type 0
AsksNone (Gives x) = Unit {0}
AsksNone (Refuses e) = Unit {0}
AsksNone (IsDir i next) = (o : Option Bool) → AsksNone (next o)
AsksNone (Look i next) = (o : Option Seen) → AsksNone (next o)
AsksNone (Range i at count next) = ⊥

-- such questions come to the same, whichever bytes are known
same_found : {A : Type 0} (p : Part) (bytes : ℕ → ℕ → ℕ → Option (List ℕ)) (q : Query A) → AsksNone q → run_part (record p { bytes = bytes }) q ≡ run_part p q
unfolding run_part AsksNone
same_found p bytes (Gives x) none = refl
same_found p bytes (Refuses e) none = refl
same_found {A = A} p bytes (IsDir i next) none = elim (p.is_dir i) as (λ o. ◌≡◌ {A = Found A} (elim o [ None ↦ Unknown (missing.Node i) | Some a ↦ run_part (record p { bytes = bytes }) (next a) ]) (elim o [ None ↦ Unknown (missing.Node i) | Some a ↦ run_part p (next a) ])) [
  | None ↦ refl
  | Some a ↦ same_found p bytes (next a) (none a)
]
same_found {A = A} p bytes (Look i next) none = elim (p.node i) as (λ o. ◌≡◌ {A = Found A} (elim o [ None ↦ Unknown (missing.Node i) | Some a ↦ run_part (record p { bytes = bytes }) (next a) ]) (elim o [ None ↦ Unknown (missing.Node i) | Some a ↦ run_part p (next a) ])) [
  | None ↦ refl
  | Some a ↦ same_found p bytes (next a) (none a)
]
same_found p bytes (Range i at count next) none = absurd none

-- ---- what a call asks

on : {A B : Type 0} (q : Query A) (f : A → Query B) → AsksNone q → ((x : A) → AsksNone (f x)) → AsksNone (q >>= f)
unfolding AsksNone ◌>>=◌
on (Gives x) f first rest = rest x
on (Refuses e) f first rest = tt
on (IsDir i next) f first rest = λ o. on (next o) f (first o) rest
on (Look i next) f first rest = λ o. on (next o) f (first o) rest
on (Range i at count next) f first rest = absurd first

gives : {A : Type 0} (x : A) → AsksNone (Gives x)
unfolding AsksNone
gives x = tt

refuses : (A : Type 0) (e : Errno) → AsksNone {A = A} (Refuses e)
unfolding AsksNone
refuses A e = tt

looks : {A : Type 0} (i : ℕ) (f : Option Seen → Query A) → ((o : Option Seen) → AsksNone (f o)) → AsksNone (Look i f)
unfolding AsksNone
looks i f rest = rest

kinds : {A : Type 0} (i : ℕ) (f : Option Bool → Query A) → ((o : Option Bool) → AsksNone (f o)) → AsksNone (IsDir i f)
unfolding AsksNone
kinds i f rest = rest

on_said : {A : Type 0} (r : Result A Errno) → AsksNone (read_or_error r)
on_said (Ok x) = gives x
on_said (Err e) = refuses _ e

on_refuse : (e : Errno) (b : Bool) → AsksNone (refuse e b)
on_refuse e true = refuses _ e
on_refuse e false = gives _

on_there : (o : Option ℕ) → AsksNone (there o)
on_there None = refuses _ _
on_there (Some i) = gives i

on_kind : (o : Option ℕ) → AsksNone (kind_at o)
on_kind None = gives false
on_kind (Some i) = kinds i _ (λ o. gives _)

on_entries : (i : ℕ) → AsksNone (entries_at i)
on_entries i = looks i _ (λ s. gives _)

on_size : (i : ℕ) → AsksNone (size_at i)
on_size i = looks i _ (λ s. gives _)

on_names : (i : ℕ) → AsksNone (names_at i)
on_names i = looks i _ (λ s. gives _)

on_directory : (o : Option ℕ) → AsksNone (directory o)
on_directory None = refuses _ _
on_directory (Some i) = kinds i _ (λ o. by_kind o)
  where
    by_kind : (o : Option Bool) → AsksNone (directory_if i o)
    by_kind None = refuses _ _
    by_kind (Some false) = refuses _ _
    by_kind (Some true) = gives i

on_walk : (from : ℕ) (way : List ℕ) (names : List (List ℕ)) → AsksNone (walk from way names)
unfolding walk
on_walk from way [] = gives root_place
on_walk from way (name ∷ []) = on _ _ (on_entries from) (λ entries. gives _)
on_walk from way (name ∷ next ∷ names) = on _ _ (on_entries from) (λ entries. on _ _ (on_directory (fin.get entries name)) (λ child. on_walk child (from ∷ way) (next ∷ names)))

on_number : (o : Option ℕ) → AsksNone (number_or o)
on_number None = refuses _ _
on_number (Some n) = gives n

on_opened : (test : Descriptor → Bool) (o : Option Descriptor) → AsksNone (open_inode test o)
on_opened test None = refuses _ _
on_opened test (Some d) = elim (test d) as (λ b. AsksNone (cond b (Gives d.inode) (Refuses errno.BadDescriptor))) [ true ↦ gives _ | false ↦ refuses _ _ ]

on_open_there : (place : Place) (number : ℕ) (f : Flags) (o : Option ℕ) → AsksNone (open_there place number f o)
on_open_there place number f None = on _ _ (on_refuse _ _) (λ u. on _ _ (on_refuse _ _) (λ v. gives _))
on_open_there place number f (Some i) = on _ _ (emptied f.truncate) (λ empty. gives _) where
  emptied : (b : Bool) → AsksNone (empties b i)
  emptied true = looks i _ (λ s. gives _)
  emptied false = gives _

on_open : (own : Own) (path : List ℕ) (f : Flags) → AsksNone (open_path own path f)
unfolding open_path
on_open own path f = on _ _ (on_said _) (λ names. on _ _ (on_refuse _ _) (λ u. on _ _ (on_number _) (λ number. on _ _ (on_walk 1 [] names) (λ place. on _ _ (on_refuse _ _) (λ v. on _ _ (on_kind place.inode) (λ is_dir. on _ _ (on_refuse _ _) (λ t. on_open_there place number f place.inode)))))))

on_close : (own : Own) (number : ℕ) → AsksNone (close own number)
unfolding close
on_close own number = on _ (λ i. Gives (CloseFile i number)) (on_opened (λ d. true) (own number)) (λ i. gives (CloseFile i number))

on_write : (i at : ℕ) (bytes : List ℕ) → AsksNone (write_at i at bytes)
on_write i at [] = gives _
on_write i at (b ∷ bytes) = on _ _ (on_refuse _ _) (λ u. gives _)

on_pwrite : (own : Own) (number at : ℕ) (bytes : List ℕ) → AsksNone (pwrite own number at bytes)
unfolding pwrite
on_pwrite own number at bytes = on _ _ (on_opened (λ d. d.writes) (own number)) (λ i. on _ _ (on_refuse errno.Invalid (nat_lt 65536 (length bytes))) (λ u. on_write i at bytes))

on_truncate : (path : List ℕ) (len : ℕ) → AsksNone (truncate path len)
unfolding truncate
on_truncate path len = on _ _ (on_said _) (λ names. on _ _ (on_walk 1 [] names) (λ place. on _ _ (on_there _) (λ i. on _ _ (on_kind _) (λ is_dir. on _ _ (on_refuse _ _) (λ u. on _ _ (on_refuse _ _) (λ v. on _ _ (on_size i) (λ size. gives _)))))))

on_mkdir : (path : List ℕ) → AsksNone (mkdir path)
unfolding mkdir
on_mkdir path = on _ _ (on_said _) (λ names. on _ _ (on_walk 1 [] names) (λ place. on _ _ (on_refuse _ _) (λ u. on _ _ (on_refuse _ _) (λ v. gives _))))

on_rmdir : (path : List ℕ) → AsksNone (rmdir path)
unfolding rmdir
on_rmdir path = on _ _ (on_said _) (λ names. on _ _ (on_refuse _ _) (λ u. on _ _ (on_walk 1 [] names) (λ place. on _ _ (on_there _) (λ i. on _ _ (on_kind _) (λ is_dir. on _ _ (on_refuse _ _) (λ v. on _ _ (on_entries i) (λ entries. on _ _ (on_refuse _ _) (λ t. gives _))))))))

on_unlink : (path : List ℕ) → AsksNone (unlink path)
unfolding unlink
on_unlink path = on _ _ (on_said _) (λ names. on _ _ (on_refuse _ _) (λ u. on _ _ (on_walk 1 [] names) (λ place. on _ _ (on_there _) (λ i. on _ _ (on_kind _) (λ is_dir. on _ _ (on_refuse _ _) (λ v. gives _))))))

on_link : (old new : List ℕ) → AsksNone (link old new)
unfolding link
on_link old new = on _ _ (on_said _) (λ old_names. on _ _ (on_said _) (λ new_names. on _ _ (on_walk 1 [] old_names) (λ from. on _ _ (on_there _) (λ i. on _ _ (on_kind _) (λ is_dir. on _ _ (on_refuse _ _) (λ u. on _ _ (on_walk 1 [] new_names) (λ to. on _ _ (on_refuse _ _) (λ v. on _ _ (on_names i) (λ names. on _ _ (on_refuse _ _) (λ t. on _ _ (on_refuse _ _) (λ s. gives _)))))))))))

on_replacing : (from to : Place) (old_dir : Bool) (o : Option ℕ) → AsksNone (replaced_at from to old_dir o)
on_replacing from to old_dir None = on _ _ (on_refuse _ _) (λ u. gives _)
on_replacing from to old_dir (Some j) = on _ _ (on_kind (Some j)) (λ new_dir. on _ _ (on_refuse _ _) (λ u. on _ _ (on_refuse _ _) (λ v. by_test new_dir)))
  where
    by_test : (b : Bool) → AsksNone (cond b (replacing_dir j) (Gives (OldFile j)))
    by_test true = on _ _ (on_entries j) (λ entries. on _ _ (on_refuse _ _) (λ u. gives _))
    by_test false = gives _

on_rename : (old new : List ℕ) → AsksNone (rename old new)
unfolding rename
on_rename old new = on _ _ (on_said _) (λ old_names. on _ _ (on_said _) (λ new_names. on _ _ (on_refuse _ _) (λ u. on _ _ (on_walk 1 [] old_names) (λ from. on _ _ (on_there _) (λ i. on _ _ (on_walk 1 [] new_names) (λ to. on _ _ (on_refuse _ _) (λ v. moves from to i (leads_to i to.inode))))))))
  where
    moves : (from to : Place) (i : ℕ) (same : Bool) → AsksNone (cond same (Gives (Tell replies.Done)) (rename_to from to i))
    moves from to i true = gives _
    moves from to i false = on _ _ (on_kind _) (λ old_dir. on _ _ (on_replacing from to old_dir to.inode) (λ replaced. gives _))

on_exchange : (first second : List ℕ) → AsksNone (exchange first second)
unfolding exchange
on_exchange first second = on _ _ (on_said _) (λ first_names. on _ _ (on_said _) (λ second_names. on _ _ (on_refuse _ _) (λ u. on _ _ (on_walk 1 [] first_names) (λ one. on _ _ (on_there _) (λ i. on _ _ (on_walk 1 [] second_names) (λ two. on _ _ (on_there _) (λ j. swaps one two i j (i == j))))))))
  where
    swaps : (one two : Place) (i j : ℕ) (same : Bool) → AsksNone (cond same (Gives (Tell replies.Done)) (exchange_apart one two i j))
    swaps one two i j true = gives _
    swaps one two i j false = on _ _ (on_refuse _ _) (λ u. gives _)

on_list : (path : List ℕ) → AsksNone (list_path path)
unfolding list_path
on_list path = on _ _ (on_said _) (λ names. on _ _ (on_walk 1 [] names) (λ place. on _ _ (on_there _) (λ i. on _ _ (on_kind _) (λ is_dir. on _ _ (on_refuse _ _) (λ u. on _ _ (on_entries i) (λ entries. gives _))))))

on_described : (s : Option Seen) → AsksNone (node_description s)
on_described None = refuses _ _
on_described (Some (File names size)) = gives _
on_described (Some (Dir entries)) = gives _

on_stat : (path : List ℕ) → AsksNone (stat path)
unfolding stat
on_stat path = on _ _ (on_said _) (λ names. on _ _ (on_walk 1 [] names) (λ place. on _ _ (on_there _) (λ i. looks i _ on_described)))

-- ---- a call that has a record

on_effects : (new : ℕ) (operation : Operation) → AsksNone (effects_asked new operation)
on_effects new operation = on _ _ (on_count (recounted_file operation)) (λ names. gives _)
  where
    on_count : (o : Option ℕ) → AsksNone (names_if o)
    on_count None = gives _
    on_count (Some i) = on_names i

told_none : (p : Part) (new : ℕ) (operation : Operation) (es : List Effect) (bytes : List ℕ) → Tell (replies.Read bytes) ≡ operation → run_part p (effects_asked new operation) ≡ Known (Ok es) → es ≡ []
unfolding run_part ◌>>=◌
told_none p new operation es bytes is e =
    let asked : run_part p (effects_asked new (Tell (replies.Read bytes))) ≡ Known (Ok es) = ap (λ x. run_part p (effects_asked new x)) is ∙ e in
    let none : Known (Ok []) ≡ Known (Ok es) = asked in
    cc

given : {A : Type 0} (p : Part) (x y : A) → run_part p (Gives x) ≡ Known (Ok y) → x ≡ y
unfolding run_part
given p x y e = let same : Known (Ok x) ≡ Known (Ok y) = e in cc

read_none : (p : Part) (own : Own) (number at count new : ℕ) (operation : Operation) (es : List Effect) → run_part p (pread own number at count) ≡ Known (Ok operation) → run_part p (effects_asked new operation) ≡ Known (Ok es) → es ≡ []
unfolding pread
read_none p own number at count new operation es e effects =
    let inode = bind_known p _ _ operation e in
    let refused = bind_known p _ _ operation inode.2 in
    let size = bind_known p _ _ operation refused.2 in
    let read = bind_known p _ _ operation size.2 in
    told_none p new operation es read.0 (given p (Tell (replies.Read read.0)) operation read.2) effects

-- what a call comes to that has a record, it comes to whichever bytes are known
pub same_call : (p : Part) (bytes : ℕ → ℕ → ℕ → Option (List ℕ)) (own : Own) (c : Call) (new : ℕ) (operation : Operation) (es : List Effect) → run_part p (decide own c) ≡ Known (Ok operation) → run_part p (effects_asked new operation) ≡ Known (Ok es) → es ≢ [] → run_part (record p { bytes = bytes }) (decide own c) ≡ Known (Ok operation)
same_call p bytes own (call.Pread number at count) new operation es comes effects some = absurd (some (read_none p own number at count new operation es comes effects))
same_call p bytes own (call.Open path flags) new operation es comes effects some = same_found p bytes _ (on_open own path flags) ∙ comes
same_call p bytes own (call.Close number) new operation es comes effects some = same_found p bytes _ (on_close own number) ∙ comes
same_call p bytes own (call.Pwrite number at wrote) new operation es comes effects some = same_found p bytes _ (on_pwrite own number at wrote) ∙ comes
same_call p bytes own (call.Truncate path len) new operation es comes effects some = same_found p bytes _ (on_truncate path len) ∙ comes
same_call p bytes own (call.Mkdir path) new operation es comes effects some = same_found p bytes _ (on_mkdir path) ∙ comes
same_call p bytes own (call.Rmdir path) new operation es comes effects some = same_found p bytes _ (on_rmdir path) ∙ comes
same_call p bytes own (call.Link old to) new operation es comes effects some = same_found p bytes _ (on_link old to) ∙ comes
same_call p bytes own (call.Unlink path) new operation es comes effects some = same_found p bytes _ (on_unlink path) ∙ comes
same_call p bytes own (call.Rename old to) new operation es comes effects some = same_found p bytes _ (on_rename old to) ∙ comes
same_call p bytes own (call.Exchange first second) new operation es comes effects some = same_found p bytes _ (on_exchange first second) ∙ comes
same_call p bytes own (call.List path) new operation es comes effects some = same_found p bytes _ (on_list path) ∙ comes
same_call p bytes own (call.Stat path) new operation es comes effects some = same_found p bytes _ (on_stat path) ∙ comes

pub same_effects : (p : Part) (bytes : ℕ → ℕ → ℕ → Option (List ℕ)) (new : ℕ) (operation : Operation) (es : List Effect) → run_part p (effects_asked new operation) ≡ Known (Ok es) → run_part (record p { bytes = bytes }) (effects_asked new operation) ≡ Known (Ok es)
same_effects p bytes new operation es e = same_found p bytes _ (on_effects new operation) ∙ e
