-- How long the record of a call is, whatever is known of the tree.
use Rattle.std.proofs.Common.{◌≡◌, ℕ, ◌+◌, ◌≤◌, List, [], ◌∷◌, length, length-append, Option, Some, None, Ok, Err, Bool, true, false, refl, ap, subst, arith, ◌==◌, ◌||◌, cond}
use Rattle.std.specs.Prelude.{◌&&◌, nat_le, not, min}
use Rattle.std.specs.List.{flat_map, list_any}
use Rattle.std.specs.FinMap as fin
use Rattle.std.proofs.lemmas.Bool.{and_parts, leb-true}
use Rattle.std.proofs.lemmas.List.Concat.{flat_map-cons}
use Rattle.posix_calls.specs.Name.{is_name}
use Rattle.posix_calls.specs.Path.{is_dots, path_names}
use Rattle.posix_calls.specs.Tree.{Own}
use Rattle.posix_calls.specs.Query.{Seen, File, Dir, Query, Gives, Refuses, IsDir, Look, Range, ◌>>=◌}
use Rattle.posix_calls.specs.Part.{Part, Known, run_part}
use Rattle.posix_calls.specs.Walk.{Place, leads_to, read_or_error, entries_at, size_at, names_at, kind_at, directory, walk, prefix, there}
use Rattle.posix_calls.specs.Decide.{open_inode, lowest_free, number_or, empties, open_there, open_path, close, bytes_from, pread, write_at, pwrite, truncate, mkdir, rmdir, link, unlink, replaced_at, rename_to, rename, exchange_apart, exchange, list_path, node_description, stat, decide}
use Rattle.posix_calls.specs.declared.limits.TheConstants.{MAX_NAME, MAX_TRANSFER}
use Rattle.posix_calls.specs.declared.call.Flags.{Flags}
use Rattle.posix_calls.specs.declared.call.Call.{Call}
use Rattle.posix_calls.specs.declared.call.Call.TheVariants as call
use Rattle.posix_calls.specs.declared.call.Reply.{Reply}
use Rattle.posix_calls.specs.declared.operation.Location.{Location}
use Rattle.posix_calls.specs.declared.operation.Operation.{Operation}
use Rattle.posix_calls.specs.declared.operation.Operation.TheVariants.{Tell, NewDir, NewFile, OpenFile, CloseFile, Write, Resize, RemoveDir, AddName, DropName, Move, Exchange}
use Rattle.posix_calls.specs.declared.operation.Replaced.TheVariants.{Nothing, OldFile, OldDir}
use Rattle.posix_calls.proofs.Readings.{AreNames, reading_names}
use Rattle.call_effects.specs.file_graph.declared.effect.Effect.{Effect}
use Rattle.call_effects.specs.file_graph.declared.effect.Effect.TheVariants.{Bytes}
use Rattle.call_effects.specs.log_record.Grammar.{u32, effect_bytes, record_bytes}
use Rattle.call_effects.specs.log_record.declared.format.Record.{Record}
use Rattle.call_effects.proofs.log_record_lemmas.Lengths.{length-u32, effect_size, length-effect_bytes}
use Rattle.call_effects.specs.Effects.{recounted_file, effects_by}
use Rattle.call_effects.specs.Records.{names_if, effects_asked, growth_asked, units_asked}
use Rattle.call_effects.proofs.KnownAsking.{bind_known, result_is}
use Rattle.call_effects.proofs.SpelledQuery.{Always, of_part, then_always, after_any, HasBytes, decide_fine}
use Rattle.client_plan.specs.NeedEffects.{longest_record}

-- ---- the names of an operation are those of the call's paths

abbrev IsShort : Location → Type 0
IsShort at = length at.name ≤ MAX_NAME

-- every name that a record of the operation has is short
abbrev HasNames : Operation → Type 0
HasNames (NewDir at) = IsShort at
HasNames (NewFile at number reads writes) = IsShort at
HasNames (RemoveDir at i) = IsShort at
HasNames (AddName at i) = IsShort at
HasNames (DropName at i) = IsShort at
HasNames (Move from to i is_dir replaced) = IsShort from × IsShort to
HasNames (Exchange first second i j) = IsShort first × IsShort second
HasNames _ = Unit {0}

abbrev Named : Query Operation → Type 0
Named q = Always HasNames q

abbrev EndsShort : Place → Type 0
EndsShort place = IsShort place.location

name_short : (name : List ℕ) → is_name name ≡ true → length name ≤ MAX_NAME
name_short name is =
    let no_dots = and_parts (nat_le 1 (length name) && nat_le (length name) MAX_NAME && not (list_any (λ b. (b == 0) || (b == 47)) name)) (not (is_dots name)) is in
    let no_slash = and_parts (nat_le 1 (length name) && nat_le (length name) MAX_NAME) (not (list_any (λ b. (b == 0) || (b == 47)) name)) no_dots.0 in
    let sized = and_parts (nat_le 1 (length name)) (nat_le (length name) MAX_NAME) no_slash.0 in
    leb-true (length name) MAX_NAME sized.1

walk_short : (dir : ℕ) (way : List ℕ) (names : List (List ℕ)) → AreNames names → Always EndsShort (walk dir way names)
unfolding walk
walk_short dir way [] valid = omega arith
walk_short dir way (name ∷ []) valid = after_any EndsShort (entries_at dir) _ (λ entries. name_short name valid.0)
walk_short dir way (name ∷ next ∷ names) valid = after_any EndsShort (entries_at dir) _ (λ entries. after_any EndsShort (directory (fin.get entries name)) _ (λ child. walk_short child (dir ∷ way) (next ∷ names) valid.1))

read_names : (path : List ℕ) → Always AreNames (read_or_error (path_names path))
read_names path = elim (path_names path) as (λ r. path_names path ≡ r → Always AreNames (read_or_error r)) [
  | Ok names ↦ λ is. reading_names path names is
  | Err e ↦ λ is. tt
] refl

-- what follows a path that was read
at_path : (path : List ℕ) (f : List (List ℕ) → Query Operation) → ((names : List (List ℕ)) → AreNames names → Named (f names)) → Named (read_or_error (path_names path) >>= f)
at_path path f rest = then_always AreNames HasNames (read_or_error (path_names path)) f (read_names path) rest

-- what follows a walk along its names
at_place : (names : List (List ℕ)) (f : Place → Query Operation) → AreNames names → ((place : Place) → IsShort place.location → Named (f place)) → Named (prefix names >>= f)
at_place names f valid rest = then_always EndsShort HasNames (prefix names) f (walk_short 1 [] names valid) rest

there_named : (place : Place) (number : ℕ) (f : Flags) (o : Option ℕ) → IsShort place.location → Named (open_there place number f o)
there_named place number f (Some i) short = after_any HasNames (empties f.truncate i) _ (λ empty. tt)
there_named place number f None short = after_any HasNames _ _ (λ a. after_any HasNames _ _ (λ b. short))

open_named : (own : Own) (path : List ℕ) (f : Flags) → Named (open_path own path f)
unfolding open_path
open_named own path f =
    at_path path _ (λ names valid. after_any HasNames _ _ (λ a. after_any HasNames (number_or (lowest_free own 0 32)) _ (λ number. at_place names _ valid (λ place short.
    after_any HasNames _ _ (λ b. after_any HasNames (kind_at place.inode) _ (λ is_dir. after_any HasNames _ _ (λ c. there_named place number f place.inode short)))))))

close_named : (own : Own) (number : ℕ) → Named (close own number)
unfolding close
close_named own number = after_any HasNames (open_inode (λ d. true) (own number)) _ (λ i. tt)

pread_named : (own : Own) (number at count : ℕ) → Named (pread own number at count)
unfolding pread
pread_named own number at count =
    after_any HasNames (open_inode (λ d. d.reads) (own number)) _ (λ i. after_any HasNames _ _ (λ a. after_any HasNames (size_at i) _ (λ size. after_any HasNames (bytes_from i at _) _ (λ bytes. tt))))

write_named : (i at : ℕ) (bytes : List ℕ) → Named (write_at i at bytes)
write_named i at [] = tt
write_named i at (b ∷ bytes) = after_any HasNames _ _ (λ a. tt)

pwrite_named : (own : Own) (number at : ℕ) (bytes : List ℕ) → Named (pwrite own number at bytes)
unfolding pwrite
pwrite_named own number at bytes = after_any HasNames (open_inode (λ d. d.writes) (own number)) _ (λ i. after_any HasNames _ _ (λ a. write_named i at bytes))

resized_named : (test : Bool) (r : Reply) (i len : ℕ) → HasNames (cond test (Tell r) (Resize i len))
resized_named true r i len = tt
resized_named false r i len = tt

truncate_named : (path : List ℕ) (len : ℕ) → Named (truncate path len)
unfolding truncate
truncate_named path len =
    after_any HasNames (read_or_error (path_names path)) _ (λ names. after_any HasNames (prefix names) _ (λ place. after_any HasNames (there place.inode) _ (λ i. after_any HasNames (kind_at place.inode) _ (λ is_dir.
    after_any HasNames _ _ (λ a. after_any HasNames _ _ (λ b. after_any HasNames (size_at i) _ (λ size. resized_named (size == len) _ i len)))))))

mkdir_named : (path : List ℕ) → Named (mkdir path)
unfolding mkdir
mkdir_named path = at_path path _ (λ names valid. at_place names _ valid (λ place short. after_any HasNames _ _ (λ a. after_any HasNames _ _ (λ b. short))))

rmdir_named : (path : List ℕ) → Named (rmdir path)
unfolding rmdir
rmdir_named path =
    at_path path _ (λ names valid. after_any HasNames _ _ (λ a. at_place names _ valid (λ place short. after_any HasNames (there place.inode) _ (λ i. after_any HasNames (kind_at place.inode) _ (λ is_dir.
    after_any HasNames _ _ (λ b. after_any HasNames (entries_at i) _ (λ entries. after_any HasNames _ _ (λ c. short))))))))

link_named : (old new : List ℕ) → Named (link old new)
unfolding link
link_named old new =
    after_any HasNames (read_or_error (path_names old)) _ (λ old_names. at_path new _ (λ names valid. after_any HasNames (prefix old_names) _ (λ from. after_any HasNames (there from.inode) _ (λ i.
    after_any HasNames (kind_at from.inode) _ (λ is_dir. after_any HasNames _ _ (λ a. at_place names _ valid (λ to short. after_any HasNames _ _ (λ b. after_any HasNames (names_at i) _ (λ count.
    after_any HasNames _ _ (λ c. after_any HasNames _ _ (λ d. short)))))))))))

unlink_named : (path : List ℕ) → Named (unlink path)
unfolding unlink
unlink_named path =
    at_path path _ (λ names valid. after_any HasNames _ _ (λ a. at_place names _ valid (λ place short. after_any HasNames (there place.inode) _ (λ i. after_any HasNames (kind_at place.inode) _ (λ is_dir.
    after_any HasNames _ _ (λ b. short))))))

moved_named : (test : Bool) (r : Reply) (from to : Place) (i : ℕ) → IsShort from.location → IsShort to.location → Named (cond test (Gives (Tell r)) (rename_to from to i))
moved_named true r from to i short other = tt
moved_named false r from to i short other = after_any HasNames (kind_at from.inode) _ (λ old_dir. after_any HasNames (replaced_at from to old_dir to.inode) _ (λ replaced. (short, other)))

rename_named : (old new : List ℕ) → Named (rename old new)
unfolding rename
rename_named old new =
    at_path old _ (λ old_names valid. at_path new _ (λ new_names fine. after_any HasNames _ _ (λ a. at_place old_names _ valid (λ from short. after_any HasNames (there from.inode) _ (λ i.
    at_place new_names _ fine (λ to other. after_any HasNames _ _ (λ b. moved_named (leads_to i to.inode) _ from to i short other)))))))

exchanged_named : (test : Bool) (r : Reply) (one two : Place) (i j : ℕ) → IsShort one.location → IsShort two.location → Named (cond test (Gives (Tell r)) (exchange_apart one two i j))
exchanged_named true r one two i j short other = tt
exchanged_named false r one two i j short other = after_any HasNames _ _ (λ a. (short, other))

exchange_named : (first second : List ℕ) → Named (exchange first second)
unfolding exchange
exchange_named first second =
    at_path first _ (λ first_names valid. at_path second _ (λ second_names fine. after_any HasNames _ _ (λ a. at_place first_names _ valid (λ one short. after_any HasNames (there one.inode) _ (λ i.
    at_place second_names _ fine (λ two other. after_any HasNames (there two.inode) _ (λ j. exchanged_named (i == j) _ one two i j short other)))))))

list_named : (path : List ℕ) → Named (list_path path)
unfolding list_path
list_named path =
    after_any HasNames (read_or_error (path_names path)) _ (λ names. after_any HasNames (prefix names) _ (λ place. after_any HasNames (there place.inode) _ (λ i. after_any HasNames (kind_at place.inode) _ (λ is_dir.
    after_any HasNames _ _ (λ a. after_any HasNames (entries_at i) _ (λ entries. tt))))))

described_named : (o : Option Seen) → Named (node_description o)
described_named None = tt
described_named (Some (File names size)) = tt
described_named (Some (Dir entries)) = tt

stat_named : (path : List ℕ) → Named (stat path)
unfolding stat
stat_named path = after_any HasNames (read_or_error (path_names path)) _ (λ names. after_any HasNames (prefix names) _ (λ place. after_any HasNames (there place.inode) _ (λ i. described_named)))

decide_named : (own : Own) (c : Call) → Named (decide own c)
decide_named own (call.Open path flags) = open_named own path flags
decide_named own (call.Close number) = close_named own number
decide_named own (call.Pread number at count) = pread_named own number at count
decide_named own (call.Pwrite number at bytes) = pwrite_named own number at bytes
decide_named own (call.Truncate path len) = truncate_named path len
decide_named own (call.Mkdir path) = mkdir_named path
decide_named own (call.Rmdir path) = rmdir_named path
decide_named own (call.Link old new) = link_named old new
decide_named own (call.Unlink path) = unlink_named path
decide_named own (call.Rename old new) = rename_named old new
decide_named own (call.Exchange first second) = exchange_named first second
decide_named own (call.List path) = list_named path
decide_named own (call.Stat path) = stat_named path

-- ---- the bytes of some effects

abbrev effects_size : List Effect → ℕ
effects_size [] = 0
effects_size (e ∷ es) = effect_size e + effects_size es

length-effects : (es : List Effect) → length (flat_map effect_bytes es) ≡ effects_size es
length-effects [] = refl
length-effects (e ∷ es) = omega (arith, ap length (flat_map-cons effect_bytes e es), length-append (effect_bytes e) (flat_map effect_bytes es), length-effect_bytes e, length-effects es)

length-record : (r : Record) → length (record_bytes r) ≡ 5 + effects_size r.effects
length-record r = omega (arith, length-append (u32 r.units) (length r.effects ∷ flat_map effect_bytes r.effects), length-u32 r.units, length-effects r.effects)

-- no operation's effects take more than the longest write's
effects_few : (names new : ℕ) (operation : Operation) → HasBytes operation → HasNames operation → effects_size (effects_by names new operation) ≤ 65553
effects_few names new (Tell answer) bytes short = omega arith
effects_few names new (NewDir at) bytes short = omega (arith, short)
effects_few names new (NewFile at number reads writes) bytes short = omega (arith, short)
effects_few names new (OpenFile i true number reads writes) bytes short = omega arith
effects_few names new (OpenFile i false number reads writes) bytes short = omega arith
effects_few names new (CloseFile i number) bytes short = omega arith
effects_few names new (Write i at new_bytes) bytes short = let most = bytes.1 in omega (arith, most)
effects_few names new (Resize i len) bytes short = omega arith
effects_few names new (RemoveDir at i) bytes short = omega (arith, short)
effects_few names new (AddName at i) bytes short = omega (arith, short)
effects_few names new (DropName at i) bytes short = omega (arith, short)
effects_few names new (Move from to i is_dir Nothing) bytes short = let old = short.0 in let other = short.1 in omega (arith, old, other)
effects_few names new (Move from to i is_dir (OldFile j)) bytes short = let old = short.0 in let other = short.1 in omega (arith, old, other)
effects_few names new (Move from to i is_dir (OldDir j)) bytes short = let old = short.0 in let other = short.1 in omega (arith, old, other)
effects_few names new (Exchange first second i j) bytes short = let one = short.0 in let two = short.1 in omega (arith, one, two)

-- ---- records

pub record_bound : (p : Part) (own : Own) (c : Call) (operation : Operation) (new : ℕ) (change : Record) → run_part p (decide own c) ≡ Known (Ok operation) → run_part p (effects_asked new operation) ≡ Known (Ok change.effects) → length (record_bytes change) ≤ longest_record
record_bound p own c operation new change comes effects =
    let named = bind_known p (names_if (recounted_file operation)) (λ names. Gives (effects_by names new operation)) change.effects effects in
    let same = result_is p (effects_by named.0 new operation) change.effects named.2 in
    let bytes = of_part HasBytes p (decide own c) operation (decide_fine own c) comes in
    let short = of_part HasNames p (decide own c) operation (decide_named own c) comes in
    let few = subst (λ (es : List Effect). effects_size es ≤ 65553) same (effects_few named.0 new operation bytes short) in
    let is = length-record change in
    omega (arith, few, is)

-- the longest write has a record of just so many bytes
pub longest_is_a_write : (units i at : ℕ) (bytes : List ℕ) → length bytes ≡ MAX_TRANSFER → length (record_bytes (record { units = units; effects = Bytes i at bytes ∷ [] })) ≡ longest_record
longest_is_a_write units i at bytes long = let is = length-record (record { units = units; effects = Bytes i at bytes ∷ [] }) in omega (arith, is, long)

abbrev IsSmall : ℕ → Type 0
IsSmall n = n ≤ 4294967295

cut_small : (grown : ℕ) → min grown 4294967295 ≤ 4294967295
cut_small grown = omega arith

-- the units that are asked for have 32 bits
pub units_small : (p : Part) (operation : Operation) (units : ℕ) → run_part p (units_asked operation) ≡ Known (Ok units) → units ≤ 4294967295
units_small p operation units known = of_part IsSmall p (units_asked operation) units (after_any IsSmall (growth_asked operation) (λ grown. Gives (min grown 4294967295)) cut_small) known
