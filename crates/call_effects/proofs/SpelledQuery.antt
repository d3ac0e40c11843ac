-- What holds of every result that questions may come to, whoever answers them.
use Rattle.std.proofs.Common.{◌≡◌, ℕ, ◌+◌, ◌-◌, ◌≤◌, List, [], ◌∷◌, length, Bool, true, false, Option, Some, None, Ok, refl, subst, arith, ◌==◌, cond}
use Rattle.std.specs.Prelude.{◌/◌, max, min, nat_lt}
use Rattle.std.proofs.lemmas.Bool.Decides.{nat_tests}
use Rattle.std.specs.FinMap as fin
use Rattle.posix_calls.specs.Units.{file_units, directory_units}
use Rattle.posix_calls.specs.Path.{path_names}
use Rattle.posix_calls.specs.Tree.{Own}
use Rattle.posix_calls.specs.Query.{Seen, File, Dir, Query, Gives, Refuses, IsDir, Look, Range, ◌>>=◌, View, run}
use Rattle.posix_calls.specs.Part.{Part, Found, Known, Unknown, blocks_missing, run_part}
use Rattle.posix_calls.specs.Walk.{Place, leads_to, refuse, read_or_error, entries_at, size_at, names_at, kind_at, prefix, there, entries_seen, size_seen}
use Rattle.posix_calls.specs.Decide.{open_inode, lowest_free, number_or, empties, open_there, open_path, close, bytes_from, pread, write_at, pwrite, truncate, mkdir, rmdir, link, unlink, replaced_at, rename_to, rename, exchange_apart, exchange, list_path, node_description, stat, decide}
use Rattle.posix_calls.specs.declared.errno.Errno.TheVariants as errno
use Rattle.posix_calls.specs.declared.limits.TheConstants.{MAX_FILE, MAX_TRANSFER, UNIT_BYTES}
use Rattle.posix_calls.specs.declared.call.Flags.{Flags}
use Rattle.posix_calls.specs.declared.call.Call.{Call}
use Rattle.posix_calls.specs.declared.call.Call.TheVariants as call
use Rattle.posix_calls.specs.declared.call.Reply.{Reply}
use Rattle.posix_calls.specs.declared.operation.Missing.TheVariants as missing
use Rattle.posix_calls.specs.declared.operation.Operation.{Operation}
use Rattle.posix_calls.specs.declared.operation.Operation.TheVariants.{Tell, NewDir, NewFile, OpenFile, CloseFile, Write, Resize, RemoveDir, AddName, DropName, Move, Exchange}
use Rattle.posix_calls.specs.declared.operation.Replaced.TheVariants.{Nothing, OldFile, OldDir}
use Rattle.call_effects.specs.Records.{entry_rise, file_rise, growth_asked}

-- this holds of each result
abbrev pub Always : {A : Type 0} → (A → Type 0) → Query A → Type 0
Always P (Gives x) = P x
Always P (Refuses e) = Unit {0}
Always P (IsDir i next) = (o : Option Bool) → Always P (next o)
Always P (Look i next) = (o : Option Seen) → Always P (next o)
Always P (Range i at count next) = (bytes : List ℕ) → Always P (next bytes)

pub of_run : {A : Type 0} (P : A → Type 0) (v : View) (q : Query A) (x : A) → Always P q → run v q ≡ Ok x → P x
unfolding run
of_run P v (Gives y) x all e = let same : y ≡ x = cc in subst P same all
of_run P v (Refuses n) x all e = absurd cc
of_run P v (IsDir i next) x all e = of_run P v (next (v.is_dir i)) x (all (v.is_dir i)) e
of_run P v (Look i next) x all e = of_run P v (next (v.node i)) x (all (v.node i)) e
of_run P v (Range i at count next) x all e = of_run P v (next (v.bytes i at count)) x (all (v.bytes i at count)) e

-- and of a result that a part of the tree comes to
pub of_part : {A : Type 0} (P : A → Type 0) (p : Part) (q : Query A) (x : A) → Always P q → run_part p q ≡ Known (Ok x) → P x
unfolding run_part
of_part P p (Gives y) x all e = let same : y ≡ x = cc in subst P same all
of_part P p (Refuses n) x all e = absurd cc
of_part {A = A} P p (IsDir i next) x all e = elim (p.is_dir i) as (λ o. ◌≡◌ {A = Found A} (elim o [ None ↦ Unknown (missing.Node i) | Some a ↦ run_part p (next a) ]) (Known (Ok x)) → P x) [ None ↦ λ no. absurd cc | Some a ↦ λ is. of_part P p (next a) x (all a) is ] e
of_part {A = A} P p (Look i next) x all e = elim (p.node i) as (λ o. ◌≡◌ {A = Found A} (elim o [ None ↦ Unknown (missing.Node i) | Some a ↦ run_part p (next a) ]) (Known (Ok x)) → P x) [ None ↦ λ no. absurd cc | Some a ↦ λ is. of_part P p (next a) x (all a) is ] e
of_part {A = A} P p (Range i at count next) x all e = elim (p.bytes i at count) as (λ o. ◌≡◌ {A = Found A} (elim o [ None ↦ Unknown (blocks_missing i at count) | Some a ↦ run_part p (next a) ]) (Known (Ok x)) → P x) [ None ↦ λ no. absurd cc | Some a ↦ λ is. of_part P p (next a) x (all a) is ] e

-- where the first results are such, what they lead to
pub then_always : {A B : Type 0} (P : A → Type 0) (Q : B → Type 0) (q : Query A) (f : A → Query B) → Always P q → ((x : A) → P x → Always Q (f x)) → Always Q (q >>= f)
unfolding ◌>>=◌
then_always P Q (Gives x) f all rest = rest x all
then_always P Q (Refuses e) f all rest = tt
then_always P Q (IsDir i next) f all rest = λ o. then_always P Q (next o) f (all o) rest
then_always P Q (Look i next) f all rest = λ o. then_always P Q (next o) f (all o) rest
then_always P Q (Range i at count next) f all rest = λ bytes. then_always P Q (next bytes) f (all bytes) rest

-- whatever the first results are
pub after_any : {A B : Type 0} (Q : B → Type 0) (q : Query A) (f : A → Query B) → ((x : A) → Always Q (f x)) → Always Q (q >>= f)
unfolding ◌>>=◌
after_any Q (Gives x) f rest = rest x
after_any Q (Refuses e) f rest = tt
after_any Q (IsDir i next) f rest = λ o. after_any Q (next o) f rest
after_any Q (Look i next) f rest = λ o. after_any Q (next o) f rest
after_any Q (Range i at count next) f rest = λ bytes. after_any Q (next bytes) f rest

-- what is such is such as well
weaker : {A : Type 0} (P Q : A → Type 0) → ((x : A) → P x → Q x) → (q : Query A) → Always P q → Always Q q
weaker P Q so (Gives x) all = so x all
weaker P Q so (Refuses e) all = tt
weaker P Q so (IsDir i next) all = λ o. weaker P Q so (next o) (all o)
weaker P Q so (Look i next) all = λ o. weaker P Q so (next o) (all o)
weaker P Q so (Range i at count next) all = λ bytes. weaker P Q so (next bytes) (all bytes)

-- ---- a write that a call comes to has bytes, and no more than one call may write

abbrev pub HasBytes : Operation → Type 0
HasBytes (Write i at bytes) = (1 ≤ length bytes) × (length bytes ≤ MAX_TRANSFER)
HasBytes _ = Unit {0}

-- and no call but one to exchange names comes to an exchange
abbrev pub IsSingle : Operation → Type 0
IsSingle (Exchange first second i j) = ⊥
IsSingle (Write i at bytes) = HasBytes (Write i at bytes)
IsSingle _ = Unit {0}

single_has : (operation : Operation) → IsSingle operation → HasBytes operation
single_has (Exchange first second i j) single = tt
single_has (Write i at bytes) single = single
single_has _ single = tt

abbrev Fine : Query Operation → Type 0
Fine q = Always IsSingle q

open_there_fine : (place : Place) (number : ℕ) (f : Flags) (o : Option ℕ) → Fine (open_there place number f o)
open_there_fine place number f (Some i) = after_any IsSingle (empties f.truncate i) _ (λ empty. tt)
open_there_fine place number f None = after_any IsSingle _ _ (λ a. after_any IsSingle _ _ (λ b. tt))

open_fine : (own : Own) (path : List ℕ) (f : Flags) → Fine (open_path own path f)
unfolding open_path
open_fine own path f =
    after_any IsSingle (read_or_error (path_names path)) _ (λ names. after_any IsSingle _ _ (λ a. after_any IsSingle (number_or (lowest_free own 0 32)) _ (λ number. after_any IsSingle (prefix names) _ (λ place.
    after_any IsSingle _ _ (λ b. after_any IsSingle (kind_at place.inode) _ (λ is_dir. after_any IsSingle _ _ (λ c. open_there_fine place number f place.inode)))))))

close_fine : (own : Own) (number : ℕ) → Fine (close own number)
unfolding close
close_fine own number = after_any IsSingle (open_inode (λ d. true) (own number)) _ (λ i. tt)

pread_fine : (own : Own) (number at count : ℕ) → Fine (pread own number at count)
unfolding pread
pread_fine own number at count = after_any IsSingle (open_inode (λ d. d.reads) (own number)) _ (λ i. after_any IsSingle _ _ (λ a. after_any IsSingle (size_at i) _ (λ size. after_any IsSingle (bytes_from i at (min count (size - at))) _ (λ bytes. tt))))

write_fine : (i at : ℕ) (bytes : List ℕ) → length bytes ≤ MAX_TRANSFER → Fine (write_at i at bytes)
write_fine i at [] few = tt
write_fine i at (b ∷ bytes) few = after_any IsSingle _ _ (λ a. (omega arith, few))

-- what follows where the test does not hold
where_not : (test : Bool) (q : Query Operation) → (test ≡ false → Fine q) → Fine (refuse errno.Invalid test >>= (λ _. q))
unfolding ◌>>=◌
where_not true q fine = tt
where_not false q fine = fine refl

not_below : (n m : ℕ) → nat_lt n m ≡ false → m ≤ n
not_below n m e = grind (arith, nat_tests)

pwrite_fine : (own : Own) (number at : ℕ) (bytes : List ℕ) → Fine (pwrite own number at bytes)
unfolding pwrite
pwrite_fine own number at bytes =
    after_any IsSingle (open_inode (λ d. d.writes) (own number)) _ (λ i. where_not (nat_lt MAX_TRANSFER (length bytes)) (write_at i at bytes) (λ few. write_fine i at bytes (not_below MAX_TRANSFER (length bytes) few)))

told_or_resized : (test : Bool) (r : Reply) (i len : ℕ) → IsSingle (cond test (Tell r) (Resize i len))
told_or_resized true r i len = tt
told_or_resized false r i len = tt

truncate_fine : (path : List ℕ) (len : ℕ) → Fine (truncate path len)
unfolding truncate
truncate_fine path len =
    after_any IsSingle (read_or_error (path_names path)) _ (λ names. after_any IsSingle (prefix names) _ (λ place. after_any IsSingle (there place.inode) _ (λ i. after_any IsSingle (kind_at place.inode) _ (λ is_dir.
    after_any IsSingle _ _ (λ a. after_any IsSingle _ _ (λ b. after_any IsSingle (size_at i) _ (λ size. told_or_resized (size == len) _ i len)))))))

mkdir_fine : (path : List ℕ) → Fine (mkdir path)
unfolding mkdir
mkdir_fine path = after_any IsSingle (read_or_error (path_names path)) _ (λ names. after_any IsSingle (prefix names) _ (λ place. after_any IsSingle _ _ (λ a. after_any IsSingle _ _ (λ b. tt))))

rmdir_fine : (path : List ℕ) → Fine (rmdir path)
unfolding rmdir
rmdir_fine path =
    after_any IsSingle (read_or_error (path_names path)) _ (λ names. after_any IsSingle _ _ (λ a. after_any IsSingle (prefix names) _ (λ place. after_any IsSingle (there place.inode) _ (λ i. after_any IsSingle (kind_at place.inode) _ (λ is_dir.
    after_any IsSingle _ _ (λ b. after_any IsSingle (entries_at i) _ (λ entries. after_any IsSingle _ _ (λ c. tt))))))))

link_fine : (old new : List ℕ) → Fine (link old new)
unfolding link
link_fine old new =
    after_any IsSingle (read_or_error (path_names old)) _ (λ old_names. after_any IsSingle (read_or_error (path_names new)) _ (λ new_names. after_any IsSingle (prefix old_names) _ (λ from. after_any IsSingle (there from.inode) _ (λ i.
    after_any IsSingle (kind_at from.inode) _ (λ is_dir. after_any IsSingle _ _ (λ a. after_any IsSingle (prefix new_names) _ (λ to. after_any IsSingle _ _ (λ b. after_any IsSingle (names_at i) _ (λ names.
    after_any IsSingle _ _ (λ c. after_any IsSingle _ _ (λ d. tt)))))))))))

unlink_fine : (path : List ℕ) → Fine (unlink path)
unfolding unlink
unlink_fine path =
    after_any IsSingle (read_or_error (path_names path)) _ (λ names. after_any IsSingle _ _ (λ a. after_any IsSingle (prefix names) _ (λ place. after_any IsSingle (there place.inode) _ (λ i. after_any IsSingle (kind_at place.inode) _ (λ is_dir.
    after_any IsSingle _ _ (λ b. tt))))))

renamed_fine : (test : Bool) (r : Reply) (from to : Place) (i : ℕ) → Fine (cond test (Gives (Tell r)) (rename_to from to i))
renamed_fine true r from to i = tt
renamed_fine false r from to i = after_any IsSingle (kind_at from.inode) _ (λ old_dir. after_any IsSingle (replaced_at from to old_dir to.inode) _ (λ replaced. tt))

rename_fine : (old new : List ℕ) → Fine (rename old new)
unfolding rename
rename_fine old new =
    after_any IsSingle (read_or_error (path_names old)) _ (λ old_names. after_any IsSingle (read_or_error (path_names new)) _ (λ new_names. after_any IsSingle _ _ (λ a. after_any IsSingle (prefix old_names) _ (λ from. after_any IsSingle (there from.inode) _ (λ i.
    after_any IsSingle (prefix new_names) _ (λ to. after_any IsSingle _ _ (λ b. renamed_fine (leads_to i to.inode) _ from to i)))))))

list_fine : (path : List ℕ) → Fine (list_path path)
unfolding list_path
list_fine path =
    after_any IsSingle (read_or_error (path_names path)) _ (λ names. after_any IsSingle (prefix names) _ (λ place. after_any IsSingle (there place.inode) _ (λ i. after_any IsSingle (kind_at place.inode) _ (λ is_dir.
    after_any IsSingle _ _ (λ a. after_any IsSingle (entries_at i) _ (λ entries. tt))))))

described_fine : (o : Option Seen) → Fine (node_description o)
described_fine None = tt
described_fine (Some (File names bytes)) = tt
described_fine (Some (Dir entries)) = tt

stat_fine : (path : List ℕ) → Fine (stat path)
unfolding stat
stat_fine path = after_any IsSingle (read_or_error (path_names path)) _ (λ names. after_any IsSingle (prefix names) _ (λ place. after_any IsSingle (there place.inode) _ (λ i. described_fine)))

-- a call that is no exchange of names
abbrev pub IsNoExchange : Call → Type 0
IsNoExchange (call.Exchange first second) = ⊥
IsNoExchange _ = Unit {0}

pub decide_single : (own : Own) (c : Call) → IsNoExchange c → Fine (decide own c)
decide_single own (call.Open path flags) single = open_fine own path flags
decide_single own (call.Close number) single = close_fine own number
decide_single own (call.Pread number at count) single = pread_fine own number at count
decide_single own (call.Pwrite number at bytes) single = pwrite_fine own number at bytes
decide_single own (call.Truncate path len) single = truncate_fine path len
decide_single own (call.Mkdir path) single = mkdir_fine path
decide_single own (call.Rmdir path) single = rmdir_fine path
decide_single own (call.Link old new) single = link_fine old new
decide_single own (call.Unlink path) single = unlink_fine path
decide_single own (call.Rename old new) single = rename_fine old new
decide_single own (call.List path) single = list_fine path
decide_single own (call.Stat path) single = stat_fine path
decide_single own (call.Exchange first second) single = absurd single

-- an exchange has no bytes
exchanged_fine : (test : Bool) (r : Reply) (one two : Place) (i j : ℕ) → Always HasBytes (cond test (Gives (Tell r)) (exchange_apart one two i j))
exchanged_fine true r one two i j = tt
exchanged_fine false r one two i j = after_any HasBytes _ _ (λ a. tt)

exchange_fine : (first second : List ℕ) → Always HasBytes (exchange first second)
unfolding exchange
exchange_fine first second =
    after_any HasBytes (read_or_error (path_names first)) _ (λ first_names. after_any HasBytes (read_or_error (path_names second)) _ (λ second_names. after_any HasBytes _ _ (λ a. after_any HasBytes (prefix first_names) _ (λ one. after_any HasBytes (there one.inode) _ (λ i.
    after_any HasBytes (prefix second_names) _ (λ two. after_any HasBytes (there two.inode) _ (λ j. exchanged_fine (i == j) _ one two i j)))))))

pub decide_fine : (own : Own) (c : Call) → Always HasBytes (decide own c)
decide_fine own (call.Exchange first second) = exchange_fine first second
decide_fine own c = weaker IsSingle HasBytes single_has (decide own c) (decide_single own c tt)

-- ---- a growth that is asked is small

-- an operation writes and resizes within the greatest file
abbrev pub IsInFile : Operation → Type 0
IsInFile (Write i at bytes) = at + length bytes ≤ MAX_FILE
IsInFile (Resize i len) = len ≤ MAX_FILE
IsInFile _ = Unit {0}

-- as many units as the greatest file has blocks
abbrev IsFew : ℕ → Type 0
IsFew n = n ≤ MAX_FILE / UNIT_BYTES

abbrev IsOne : ℕ → Type 0
IsOne n = n ≤ 1

entry_few : (dir : ℕ) → Always IsOne (entry_rise dir)
unfolding ◌>>=◌
entry_few dir = λ o. one_more (fin.len (entries_seen o)) where
  one_more : (n : ℕ) → directory_units (n + 1) - directory_units n ≤ 1
  one_more n = omega arith

file_few : (old new : ℕ) → new ≤ MAX_FILE → file_rise old new ≤ MAX_FILE / UNIT_BYTES
file_few old new small = omega (arith, small)

greater_few : (old new : ℕ) → new ≤ MAX_FILE → file_rise old (max old new) ≤ MAX_FILE / UNIT_BYTES
greater_few old new small = omega (arith, small)

one_few : (n : ℕ) → IsOne n → IsFew n
one_few n one = omega (arith, one)

with_one : (n : ℕ) (dir : ℕ) → n ≤ 1 → Always IsFew (entry_rise dir >>= (λ rise. Gives (n + rise)))
with_one n dir small = then_always IsOne IsFew (entry_rise dir) (λ rise. Gives (n + rise)) (entry_few dir) (λ rise one. omega (arith, one, small))

move_few : (b : Bool) (dir : ℕ) → Always IsFew (cond b (Gives 0) (entry_rise dir))
move_few true dir = omega arith
move_few false dir = weaker IsOne IsFew one_few (entry_rise dir) (entry_few dir)

pub growth_few : (operation : Operation) → IsInFile operation → Always (λ n. n ≤ MAX_FILE / UNIT_BYTES) (growth_asked operation)
unfolding ◌>>=◌
growth_few (Tell answer) small = omega arith
growth_few (NewDir at) small = with_one (directory_units 0) at.parent (omega arith)
growth_few (NewFile at number reads writes) small = with_one (file_units 0) at.parent (omega arith)
growth_few (OpenFile i empties number reads writes) small = omega arith
growth_few (CloseFile i number) small = omega arith
growth_few (Write i at bytes) small = λ o. greater_few (size_seen o) (at + length bytes) small
growth_few (Resize i len) small = λ o. file_few (size_seen o) len small
growth_few (RemoveDir at i) small = omega arith
growth_few (AddName at i) small = weaker IsOne IsFew one_few (entry_rise at.parent) (entry_few at.parent)
growth_few (DropName at i) small = omega arith
growth_few (Move from to i b Nothing) small = move_few (from.parent == to.parent) to.parent
growth_few (Move from to i b (OldFile j)) small = omega arith
growth_few (Move from to i b (OldDir j)) small = omega arith
growth_few (Exchange first second i j) small = omega arith
