-- No call but `pread` asks for bytes.
use Rattle.std.proofs.Common.{◌≡◌, ℕ, List, [], ◌∷◌, Bool, true, false, refl, Option, Some, None, Result, Ok, Err, cond, ◌==◌}
use Rattle.posix_calls.specs.Tree.{Own}
use Rattle.posix_calls.specs.Query.{Seen, File, Dir, Query, Gives, Refuses, IsDir, Look, Range, ◌>>=◌}
use Rattle.posix_calls.specs.Part.{AsksNoBytes, Part, Found, Unknown, run_part}
use Rattle.posix_calls.specs.Walk.{Place, refuse, read_or_error, there, kind_at, directory, directory_if, walk, leads_to}
use Rattle.posix_calls.specs.Decide.{open_inode, number_or, empties, open_there, open_path, close, write_at, pwrite, truncate, mkdir, rmdir, link, unlink, replaced_at, replacing_dir, rename_to, rename, exchange_apart, exchange, list_path, node_description, stat, decide}
use Rattle.posix_calls.specs.Kinds.{is_pread}
use Rattle.posix_calls.specs.declared.call.Call.{Call}
use Rattle.posix_calls.specs.declared.call.Call.TheVariants as call
use Rattle.posix_calls.specs.declared.call.Flags.{Flags}
use Rattle.posix_calls.specs.declared.call.Reply.TheVariants as reply
use Rattle.posix_calls.specs.declared.descriptor.Descriptor.{Descriptor}
use Rattle.posix_calls.specs.declared.errno.Errno.{Errno}
use Rattle.posix_calls.specs.declared.errno.Errno.TheVariants as errno
use Rattle.posix_calls.specs.declared.operation.Missing.TheVariants as missing
use Rattle.posix_calls.specs.declared.operation.Operation.TheVariants.{Tell}
use Rattle.posix_calls.specs.declared.operation.Replaced.TheVariants.{OldFile}

-- two parts of a call ask for no bytes where neither does
silent_bind : {A B : Type 0} (q : Query A) (f : A → Query B) → AsksNoBytes q → ((x : A) → AsksNoBytes (f x)) → AsksNoBytes (q >>= f)
unfolding ◌>>=◌
silent_bind (Gives x) f first rest = rest x
silent_bind (Refuses e) f first rest = tt
silent_bind (IsDir i next) f first rest = λ o. silent_bind (next o) f (first o) rest
silent_bind (Look i next) f first rest = λ o. silent_bind (next o) f (first o) rest
silent_bind (Range i at count next) f first rest = absurd first

-- so nothing is missing of its blocks
pub no_blocks : {A : Type 0} (p : Part) (q : Query A) (i first many : ℕ) → AsksNoBytes q → run_part p q ≡ Unknown (missing.Blocks i first many) → ⊥
unfolding run_part
no_blocks p (Gives x) i first many silent e = absurd (cc)
no_blocks p (Refuses x) i first many silent e = absurd (cc)
no_blocks {A = A} p (IsDir j next) i first many silent e =
    elim (p.is_dir j) as (λ o. ◌≡◌ {A = Found A} (elim o [ None ↦ Unknown (missing.Node j) | Some a ↦ run_part p (next a) ]) (Unknown (missing.Blocks i first many)) → ⊥) [
      | None ↦ λ h. absurd (cc)
      | Some a ↦ λ h. no_blocks p (next a) i first many (silent a) h
    ] e
no_blocks {A = A} p (Look j next) i first many silent e =
    elim (p.node j) as (λ o. ◌≡◌ {A = Found A} (elim o [ None ↦ Unknown (missing.Node j) | Some a ↦ run_part p (next a) ]) (Unknown (missing.Blocks i first many)) → ⊥) [
      | None ↦ λ h. absurd (cc)
      | Some a ↦ λ h. no_blocks p (next a) i first many (silent a) h
    ] e
no_blocks p (Range j at count next) i first many silent e = silent

-- ---- the words of which the calls are made

refuse_silent : (e : Errno) (b : Bool) → AsksNoBytes (refuse e b)
refuse_silent e true = tt
refuse_silent e false = tt

said_silent : {A : Type 0} (r : Result A Errno) → AsksNoBytes (read_or_error r)
said_silent (Ok x) = tt
said_silent (Err e) = tt

there_silent : (o : Option ℕ) → AsksNoBytes (there o)
there_silent None = tt
there_silent (Some i) = tt

kind_silent : (o : Option ℕ) → AsksNoBytes (kind_at o)
kind_silent None = tt
kind_silent (Some i) = λ o. tt

directory_silent : (o : Option ℕ) → AsksNoBytes (directory o)
directory_silent None = tt
directory_silent (Some i) = one where
  one : (o : Option Bool) → AsksNoBytes (directory_if i o)
  one None = tt
  one (Some true) = tt
  one (Some false) = tt

walk_silent : (dir : ℕ) (way : List ℕ) (names : List (List ℕ)) → AsksNoBytes (walk dir way names)
unfolding walk
walk_silent dir way [] = tt
walk_silent dir way (name ∷ []) = silent_bind _ _ (λ s. tt) (λ entries. tt)
walk_silent dir way (name ∷ next ∷ names) = silent_bind _ _ (λ s. tt) (λ entries. silent_bind _ _ (directory_silent _) (λ child. walk_silent child (dir ∷ way) (next ∷ names)))

opened_silent : (test : Descriptor → Bool) (o : Option Descriptor) → AsksNoBytes (open_inode test o)
opened_silent test None = tt
opened_silent test (Some d) = elim (test d) as (λ b. AsksNoBytes (cond b (Gives d.inode) (Refuses errno.BadDescriptor))) [ true ↦ tt | false ↦ tt ]

number_silent : (o : Option ℕ) → AsksNoBytes (number_or o)
number_silent None = tt
number_silent (Some n) = tt

-- ---- the calls

empties_silent : (b : Bool) (i : ℕ) → AsksNoBytes (empties b i)
empties_silent true i = λ s. tt
empties_silent false i = tt

open_there_silent : (place : Place) (number : ℕ) (f : Flags) (o : Option ℕ) → AsksNoBytes (open_there place number f o)
open_there_silent place number f (Some i) = silent_bind _ _ (empties_silent _ i) (λ empty. tt)
open_there_silent place number f None = silent_bind _ _ (refuse_silent _ _) (λ _. silent_bind _ _ (refuse_silent _ _) (λ _. tt))

open_silent : (own : Own) (path : List ℕ) (f : Flags) → AsksNoBytes (open_path own path f)
unfolding open_path
open_silent own path f =
    silent_bind _ _ (said_silent _) (λ names. silent_bind _ _ (refuse_silent _ _) (λ _. silent_bind _ _ (number_silent _) (λ number. silent_bind _ _ (walk_silent _ _ names) (λ place. silent_bind _ _ (refuse_silent _ _) (λ _. silent_bind _ _ (kind_silent _) (λ is_dir. silent_bind _ _ (refuse_silent _ _) (λ _. open_there_silent place number f place.inode)))))))

close_silent : (own : Own) (number : ℕ) → AsksNoBytes (close own number)
unfolding close
close_silent own number = silent_bind _ _ (opened_silent (λ d. true) (own number)) (λ i. tt)

write_silent : (i at : ℕ) (bytes : List ℕ) → AsksNoBytes (write_at i at bytes)
write_silent i at [] = tt
write_silent i at (b ∷ bytes) = silent_bind _ _ (refuse_silent _ _) (λ _. tt)

pwrite_silent : (own : Own) (number at : ℕ) (bytes : List ℕ) → AsksNoBytes (pwrite own number at bytes)
unfolding pwrite
pwrite_silent own number at bytes = silent_bind _ _ (opened_silent (λ d. d.writes) (own number)) (λ i. silent_bind _ _ (refuse_silent _ _) (λ _. write_silent i at bytes))

truncate_silent : (path : List ℕ) (len : ℕ) → AsksNoBytes (truncate path len)
unfolding truncate
truncate_silent path len =
    silent_bind _ _ (said_silent _) (λ names. silent_bind _ _ (walk_silent _ _ names) (λ place. silent_bind _ _ (there_silent _) (λ i. silent_bind _ _ (kind_silent _) (λ is_dir. silent_bind _ _ (refuse_silent _ _) (λ _. silent_bind _ _ (refuse_silent _ _) (λ _. silent_bind _ _ (λ s. tt) (λ size. tt)))))))

mkdir_silent : (path : List ℕ) → AsksNoBytes (mkdir path)
unfolding mkdir
mkdir_silent path = silent_bind _ _ (said_silent _) (λ names. silent_bind _ _ (walk_silent _ _ names) (λ place. silent_bind _ _ (refuse_silent _ _) (λ _. silent_bind _ _ (refuse_silent _ _) (λ _. tt))))

rmdir_silent : (path : List ℕ) → AsksNoBytes (rmdir path)
unfolding rmdir
rmdir_silent path =
    silent_bind _ _ (said_silent _) (λ names. silent_bind _ _ (refuse_silent _ _) (λ _. silent_bind _ _ (walk_silent _ _ names) (λ place. silent_bind _ _ (there_silent _) (λ i. silent_bind _ _ (kind_silent _) (λ is_dir. silent_bind _ _ (refuse_silent _ _) (λ _. silent_bind _ _ (λ s. tt) (λ entries. silent_bind _ _ (refuse_silent _ _) (λ _. tt))))))))

link_silent : (old new : List ℕ) → AsksNoBytes (link old new)
unfolding link
link_silent old new =
    silent_bind _ _ (said_silent _) (λ old_names. silent_bind _ _ (said_silent _) (λ new_names. silent_bind _ _ (walk_silent _ _ old_names) (λ from. silent_bind _ _ (there_silent _) (λ i. silent_bind _ _ (kind_silent _) (λ is_dir. silent_bind _ _ (refuse_silent _ _) (λ _. silent_bind _ _ (walk_silent _ _ new_names) (λ to. silent_bind _ _ (refuse_silent _ _) (λ _. silent_bind _ _ (λ s. tt) (λ names. silent_bind _ _ (refuse_silent _ _) (λ _. silent_bind _ _ (refuse_silent _ _) (λ _. tt)))))))))))

unlink_silent : (path : List ℕ) → AsksNoBytes (unlink path)
unfolding unlink
unlink_silent path =
    silent_bind _ _ (said_silent _) (λ names. silent_bind _ _ (refuse_silent _ _) (λ _. silent_bind _ _ (walk_silent _ _ names) (λ place. silent_bind _ _ (there_silent _) (λ i. silent_bind _ _ (kind_silent _) (λ is_dir. silent_bind _ _ (refuse_silent _ _) (λ _. tt))))))

replaced_silent : (j : ℕ) (is_dir : Bool) → AsksNoBytes (cond is_dir (replacing_dir j) (Gives (OldFile j)))
replaced_silent j true = silent_bind _ _ (λ s. tt) (λ entries. silent_bind _ _ (refuse_silent _ _) (λ _. tt))
replaced_silent j false = tt

replacing_silent : (from to : Place) (old_dir : Bool) (o : Option ℕ) → AsksNoBytes (replaced_at from to old_dir o)
replacing_silent from to old_dir None = silent_bind _ _ (refuse_silent _ _) (λ _. tt)
replacing_silent from to old_dir (Some j) = silent_bind _ _ (kind_silent (Some j)) (λ new_dir. silent_bind _ _ (refuse_silent _ _) (λ _. silent_bind _ _ (refuse_silent _ _) (λ _. replaced_silent j new_dir)))

renamed_silent : (from to : Place) (i : ℕ) (same : Bool) → AsksNoBytes (cond same (Gives (Tell reply.Done)) (rename_to from to i))
renamed_silent from to i true = tt
renamed_silent from to i false = silent_bind _ _ (kind_silent _) (λ old_dir. silent_bind _ _ (replacing_silent from to old_dir to.inode) (λ replaced. tt))

rename_silent : (old new : List ℕ) → AsksNoBytes (rename old new)
unfolding rename
rename_silent old new =
    silent_bind _ _ (said_silent _) (λ old_names. silent_bind _ _ (said_silent _) (λ new_names. silent_bind _ _ (refuse_silent _ _) (λ _. silent_bind _ _ (walk_silent _ _ old_names) (λ from. silent_bind _ _ (there_silent _) (λ i. silent_bind _ _ (walk_silent _ _ new_names) (λ to. silent_bind _ _ (refuse_silent _ _) (λ _. renamed_silent from to i (leads_to i to.inode))))))))

exchanged_silent : (one two : Place) (i j : ℕ) (same : Bool) → AsksNoBytes (cond same (Gives (Tell reply.Done)) (exchange_apart one two i j))
exchanged_silent one two i j true = tt
exchanged_silent one two i j false = silent_bind _ _ (refuse_silent _ _) (λ _. tt)

exchange_silent : (first second : List ℕ) → AsksNoBytes (exchange first second)
unfolding exchange
exchange_silent first second =
    silent_bind _ _ (said_silent _) (λ first_names. silent_bind _ _ (said_silent _) (λ second_names. silent_bind _ _ (refuse_silent _ _) (λ _. silent_bind _ _ (walk_silent _ _ first_names) (λ one. silent_bind _ _ (there_silent _) (λ i. silent_bind _ _ (walk_silent _ _ second_names) (λ two. silent_bind _ _ (there_silent _) (λ j. exchanged_silent one two i j (i == j))))))))

list_silent : (path : List ℕ) → AsksNoBytes (list_path path)
unfolding list_path
list_silent path = silent_bind _ _ (said_silent _) (λ names. silent_bind _ _ (walk_silent _ _ names) (λ place. silent_bind _ _ (there_silent _) (λ i. silent_bind _ _ (kind_silent _) (λ is_dir. silent_bind _ _ (refuse_silent _ _) (λ _. silent_bind _ _ (λ s. tt) (λ entries. tt))))))

described_silent : (s : Option Seen) → AsksNoBytes (node_description s)
described_silent None = tt
described_silent (Some (File names size)) = tt
described_silent (Some (Dir entries)) = tt

stat_silent : (path : List ℕ) → AsksNoBytes (stat path)
unfolding stat
stat_silent path = silent_bind _ _ (said_silent _) (λ names. silent_bind _ _ (walk_silent _ _ names) (λ place. silent_bind _ _ (there_silent _) (λ i. λ s. described_silent s)))

pub decide_silent : (own : Own) (c : Call) → is_pread c ≡ false → AsksNoBytes (decide own c)
decide_silent own (call.Open path flags) e = open_silent own path flags
decide_silent own (call.Close number) e = close_silent own number
decide_silent own (call.Pread number at count) e = absurd (cc)
decide_silent own (call.Pwrite number at bytes) e = pwrite_silent own number at bytes
decide_silent own (call.Truncate path len) e = truncate_silent path len
decide_silent own (call.Mkdir path) e = mkdir_silent path
decide_silent own (call.Rmdir path) e = rmdir_silent path
decide_silent own (call.Link old new) e = link_silent old new
decide_silent own (call.Unlink path) e = unlink_silent path
decide_silent own (call.Rename old new) e = rename_silent old new
decide_silent own (call.Exchange first second) e = exchange_silent first second
decide_silent own (call.List path) e = list_silent path
decide_silent own (call.Stat path) e = stat_silent path

pub blocks_for_pread : (p : Part) (own : Own) (c : Call) (i first many : ℕ) → run_part p (decide own c) ≡ Unknown (missing.Blocks i first many) → is_pread c ≡ true
blocks_for_pread p own c i first many e =
    elim (is_pread c) as (λ b. is_pread c ≡ b → b ≡ true) [
      | true ↦ λ is. refl
      | false ↦ λ is. absurd (no_blocks p (decide own c) i first many (decide_silent own c is) e)
    ] refl
