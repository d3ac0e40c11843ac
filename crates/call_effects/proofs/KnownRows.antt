-- What clients with few copies come to, computed by the definitions.
use Rattle.std.proofs.Common.{◌≡◌, ℕ, List, [], ◌∷◌, ◌++◌, true, false, Bool, refl, Some, None, Option, Ok, Err, cond, ap, sym, ◌∙◌, arith, ◌==◌, inl, inr, subst}
use Rattle.std.specs.Prelude.{codes, option_map, ◌&&◌}
use Rattle.std.proofs.lemmas.Bool.Decides.{eqb_tells}
use Rattle.std.proofs.lemmas.Bool.{eqb-true}
use Rattle.std.specs.FinMap as fin
use Rattle.posix_calls.specs.Content.{Entries, range}
use Rattle.posix_calls.specs.Tree.{Own, Descriptors, any_up_to, with_own}
use Rattle.posix_calls.specs.declared.errno.Errno.TheVariants as errno
use Rattle.posix_calls.specs.declared.call.Call.TheVariants as call
use Rattle.posix_calls.specs.declared.operation.Operation.{Operation}
use Rattle.posix_calls.specs.declared.operation.Operation.TheVariants.{Tell, NewDir, DropName, Exchange}
use Rattle.posix_calls.specs.declared.call.Reply.TheVariants as reply
use Rattle.posix_calls.specs.declared.operation.Missing.{Missing}
use Rattle.posix_calls.specs.declared.operation.Missing.TheVariants as missing
use Rattle.posix_calls.specs.Query.{Seen, Query, IsDir, Look, Range}
use Rattle.posix_calls.specs.Part.{Part, Found, Known, Unknown, blocks_missing, run_part}
use Rattle.posix_calls.specs.Walk.{walk}
use Rattle.posix_calls.specs.Decide.{mkdir, unlink, exchange, stat, pread}
use Rattle.posix_calls.proofs.Chain.{part_bind, part_gives, part_refuses}
use Rattle.posix_calls.proofs.Directory.{lists}
use Rattle.log_record.specs.file_graph.Graph.{Graph, fresh, set_node, after_effects}
use Rattle.log_record.specs.file_graph.declared.effect.Kind.{Kind}
use Rattle.log_record.specs.file_graph.declared.effect.Kind.TheVariants as kind
use Rattle.log_record.specs.file_graph.declared.effect.Effect.{Effect}
use Rattle.log_record.specs.file_graph.declared.effect.Effect.TheVariants as effect
use Rattle.call_effects.specs.Records.{effects_asked}
use Rattle.call_effects.specs.Fits.{IsNew}
use Rattle.call_effects.specs.Blocks.{block_at}
use Rattle.call_effects.specs.KnownCopies.{child_known, known_after}
use Rattle.call_effects.specs.NodeView.{NodeView, FileView, DirView, view_at, view_of_node}
use Rattle.call_effects.specs.Knowledge.{Knowledge, Agrees, IsPlanned, part_of, with_copy, with_blocks, knows_after}
use Rattle.call_effects.proofs.Changes.{file}
use Rattle.call_effects.proofs.Fresh.{fresh_sound}
use Rattle.call_effects.proofs.KnownAfter.{agrees_after}
use Rattle.call_effects.proofs.KnownTold.{both_hold}

-- ---- how questions run by a part

abbrev answered : {A X : Type 0} → Missing → Option X → (X → Found A) → Found A
answered what None f = Unknown what
answered what (Some x) f = f x

part_is_dir : {A : Type 0} (p : Part) (i : ℕ) (next : Option Bool → Query A) → run_part p (IsDir i next) ≡ answered (missing.Node i) (p.is_dir i) (λ o. run_part p (next o))
unfolding run_part
part_is_dir {A = A} p i next = elim (p.is_dir i) as (λ o. ◌≡◌ {A = Found A} (elim o [ None ↦ Unknown (missing.Node i) | Some a ↦ run_part p (next a) ]) (answered (missing.Node i) o (λ o. run_part p (next o)))) [ None ↦ refl | Some a ↦ refl ]

part_look : {A : Type 0} (p : Part) (i : ℕ) (next : Option Seen → Query A) → run_part p (Look i next) ≡ answered (missing.Node i) (p.node i) (λ o. run_part p (next o))
unfolding run_part
part_look {A = A} p i next = elim (p.node i) as (λ o. ◌≡◌ {A = Found A} (elim o [ None ↦ Unknown (missing.Node i) | Some a ↦ run_part p (next a) ]) (answered (missing.Node i) o (λ o. run_part p (next o)))) [ None ↦ refl | Some a ↦ refl ]

part_range : {A : Type 0} (p : Part) (i at count : ℕ) (next : List ℕ → Query A) → run_part p (Range i at count next) ≡ answered (blocks_missing i at count) (p.bytes i at count) (λ bytes. run_part p (next bytes))
unfolding run_part
part_range {A = A} p i at count next = elim (p.bytes i at count) as (λ o. ◌≡◌ {A = Found A} (elim o [ None ↦ Unknown (blocks_missing i at count) | Some a ↦ run_part p (next a) ]) (answered (blocks_missing i at count) o (λ bytes. run_part p (next bytes)))) [ None ↦ refl | Some a ↦ refl ]

ruleset parts = (part_bind, part_gives, part_refuses, part_is_dir, part_look, part_range)

-- ---- rows

nothing_open : Own
nothing_open n = None

no_blocks : ℕ → ℕ → Option (List ℕ)
no_blocks i b = None

-- a client that knows nothing
nothing_copied : Knowledge
nothing_copied = record { client = 1; own = nothing_open; copies = λ i. None; blocks = no_blocks; granted = λ i. false }

-- a client that has a copy of the root alone
with_root : Option NodeView → Knowledge
with_root root = record { client = 1; own = nothing_open; copies = λ i. cond (i == 1) (Some root) None; blocks = no_blocks; granted = λ i. i == 2 }

root_copied : Knowledge
root_copied = with_root (view_at fresh 1)

without_a_copy : run_part (part_of nothing_copied) (mkdir (codes "/a")) ≡ Unknown (missing.Node 1)
unfolding mkdir walk nothing_copied
without_a_copy = simp parts refl

by_the_root : run_part (part_of root_copied) (mkdir (codes "/a")) ≡ Known (Ok (NewDir (record { parent = 1; name = codes "a" })))
unfolding mkdir walk root_copied with_root
by_the_root = simp (parts, lists, fin.gets) refl

-- a root with the directory /a (2) and the file /f (3)
two_entries : Entries (ℕ × Kind)
two_entries = fin.insert (fin.insert fin.empty (codes "a") (2, kind.Directory)) (codes "f") (3, kind.File)

two_copied : Knowledge
two_copied = with_root (Some (DirView 1 two_entries))

missing_the_directory : run_part (part_of two_copied) (mkdir (codes "/a/b")) ≡ Unknown (missing.Node 2)
unfolding mkdir walk two_copied with_root two_entries any_up_to
missing_the_directory = simp (parts, lists, fin.gets) refl

no_directory : run_part (part_of two_copied) (mkdir (codes "/f/b")) ≡ Known (Err errno.NotDirectory)
unfolding mkdir walk two_copied with_root two_entries any_up_to
no_directory = simp (parts, lists, fin.gets) refl

-- a file that is unlinked is known by the entry, and its number of names is asked for by the record alone
unlinked : run_part (part_of two_copied) (unlink (codes "/f")) ≡ Known (Ok (DropName (record { parent = 1; name = codes "f" }) 3))
unfolding unlink walk two_copied with_root two_entries any_up_to
unlinked = simp (parts, lists, fin.gets) refl

unlinked_effects : run_part (part_of two_copied) (effects_asked 0 (DropName (record { parent = 1; name = codes "f" }) 3)) ≡ Unknown (missing.Node 3)
unfolding two_copied with_root two_entries
unlinked_effects = simp parts refl

-- who has a copy of the root exchanges two names in it, and knows what they lead to then
names_exchanged : run_part (part_of two_copied) (exchange (codes "/a") (codes "/f")) ≡ Known (Ok (Exchange (record { parent = 1; name = codes "a" }) (record { parent = 1; name = codes "f" }) 2 3))
unfolding exchange walk two_copied with_root two_entries any_up_to
names_exchanged = simp (parts, lists, fin.gets) refl

first_known : child_known (known_after (effect.Swap 1 (codes "a") 1 (codes "f") ∷ []) two_copied.copies) 1 (codes "a") ≡ Some (3, kind.File)
unfolding two_copied with_root two_entries
first_known = simp (lists, fin.gets) refl

second_known : child_known (known_after (effect.Swap 1 (codes "a") 1 (codes "f") ∷ []) two_copied.copies) 1 (codes "f") ≡ Some (2, kind.Directory)
unfolding two_copied with_root two_entries
second_known = simp (lists, fin.gets) refl

-- a name that leads to nothing is not exchanged
nothing_known : child_known (known_after (effect.Swap 1 (codes "a") 1 (codes "n") ∷ []) two_copied.copies) 1 (codes "a") ≡ Some (2, kind.Directory)
unfolding two_copied with_root two_entries
nothing_known = simp (lists, fin.gets) refl

-- ---- bytes

-- the file at 3 is open for reading under 0
file_open : Own
file_open n = cond (n == 0) (Some (record { inode = 3; reads = true; writes = false })) None

-- beside the root a copy of /f, which has 16,000 bytes
file_copied : Knowledge
file_copied = with_copy (record { client = 1; own = file_open; copies = λ i. cond (i == 1) (Some (Some (DirView 1 two_entries))) None; blocks = no_blocks; granted = λ i. false }) 3 (Some (FileView 1 16000))

-- its size is told without its bytes
sized : run_part (part_of file_copied) (stat (codes "/f")) ≡ Known (Ok (Tell (reply.File 16000 1)))
unfolding stat walk file_copied file_open two_entries
sized = simp (parts, lists, fin.gets) refl

-- 5,000 bytes from 9,000 on touch blocks 2 and 3
unread : run_part (part_of file_copied) (pread file_open 0 9000 5000) ≡ Unknown (missing.Blocks 3 2 2)
unfolding pread file_copied file_open no_blocks
unread = simp parts refl

-- once these are served they are read, also where the others of the file are not known
module _ (block : ℕ → List ℕ) where
  served : Knowledge
  served = with_blocks file_copied 3 2 2 block

  read_when_served : run_part (part_of served) (pread file_open 0 9000 5000) ≡ Known (Ok (Tell (reply.Read (range 808 5000 (block 2 ++ (block 3 ++ []))))))
  unfolding pread served file_copied file_open no_blocks
  read_when_served = simp parts refl

-- of a file with 4,099 bytes the last block has three, and two of them are there from 4,097 on
end_copied : Knowledge
end_copied = with_blocks (with_copy file_copied 3 (Some (FileView 1 4099))) 3 1 1 (λ b. 7 ∷ 8 ∷ 9 ∷ [])

read_at_the_end : run_part (part_of end_copied) (pread file_open 0 4097 10) ≡ Known (Ok (Tell (reply.Read (8 ∷ 9 ∷ []))))
unfolding pread end_copied file_copied file_open no_blocks
read_at_the_end = simp parts refl

-- at the end of the file none are asked for
unread_past : run_part (part_of file_copied) (pread file_open 0 16000 5000) ≡ Known (Ok (Tell (reply.Read [])))
unfolding pread file_copied file_open
unread_past = simp parts refl

-- ---- what agrees

nobody : Descriptors
nobody c n = None

two_is_new : IsNew fresh 2
two_is_new = record { low = omega arith; high = omega arith; none = refl }

agrees_when_fresh : Agrees root_copied fresh nobody
unfolding root_copied with_root nothing_open nobody no_blocks
agrees_when_fresh = record {
  client = refl;
  own = λ number. refl;
  back = fresh;
  put_back = λ i. inl refl;
  copies = λ i copy is. elim (eqb_tells i 1) [
    | inl same ↦ ap (view_at fresh) same.1 ∙ (let here : Some (view_at fresh 1) ≡ Some copy = sym (ap (λ b. cond b (Some (view_at fresh 1)) None) same.0) ∙ is in cc)
    | inr off ↦ absurd (let clash : None ≡ Some copy = sym (ap (λ b. cond b (Some (view_at fresh 1)) None) off.0) ∙ is in cc)
  ];
  blocks = λ i b bytes is. absurd (cc);
  granted = λ i is. elim (eqb_tells i 2) [
    | inl same ↦ subst (IsNew fresh) (sym same.1) two_is_new
    | inr off ↦ absurd (let clash : true ≡ false = sym is ∙ off.0 in cc)
  ];
}

makes_a : IsPlanned root_copied (call.Mkdir (codes "/a")) 2 (NewDir (record { parent = 1; name = codes "a" })) (effect.Make 2 kind.Directory ∷ effect.Enter 1 2 kind.Directory (codes "a") ∷ effect.Names 2 1 ∷ [])
unfolding root_copied with_root
makes_a = record { comes = by_the_root; effects = simp parts refl; number = λ m. refl }

-- ---- a copy of a file that is gone

-- a client that has a copy of a file at 3, which was dropped, with its two bytes; the number was granted to it anew
gone_copied : Knowledge
gone_copied = record {
  client = 1;
  own = nothing_open;
  copies = λ i. cond (i == 3) (Some (Some (FileView 0 2))) (cond (i == 1) (Some (view_at fresh 1)) None);
  blocks = λ i b. cond (i == 3 && b == 0) (Some (7 ∷ 8 ∷ [])) None;
  granted = λ i. i == 3;
}

-- the root with this file put back
put_back : Graph
put_back = set_node fresh 3 (file 0 (7 ∷ 8 ∷ []))

three_is_new : IsNew fresh 3
three_is_new = record { low = omega arith; high = omega arith; none = refl }

copied_there : (a b : Bool) (x y copy : Option NodeView) → cond a (Some x) (cond b (Some y) None) ≡ Some copy → (a ≡ true → x ≡ copy) × (a ≡ false → (b ≡ true) × (y ≡ copy))
copied_there true b x y copy e = ((λ is. cc), (λ is. absurd (cc)))
copied_there false true x y copy e = ((λ is. absurd (cc)), (λ is. (refl, cc)))
copied_there false false x y copy e = absurd (cc)

block_there : (t : Bool) (bytes : List ℕ) → cond t (Some (7 ∷ 8 ∷ [])) None ≡ Some bytes → (t ≡ true) × (7 ∷ 8 ∷ [] ≡ bytes)
block_there true bytes e = (refl, cc)
block_there false bytes e = absurd (cc)

agrees_when_gone : Agrees gone_copied fresh nobody
unfolding gone_copied put_back nothing_open nobody
agrees_when_gone = record {
  client = refl;
  own = λ number. refl;
  back = put_back;
  put_back = λ i. elim (eqb_tells i 3) [
    | inl same ↦ inr (record { nothing = ap fresh same.1; bytes = 7 ∷ 8 ∷ []; file = ap (λ b. cond b (file 0 (7 ∷ 8 ∷ [])) (fresh i)) same.0 })
    | inr off ↦ inl (ap (λ b. cond b (file 0 (7 ∷ 8 ∷ [])) (fresh i)) off.0)
  ];
  copies = λ i copy is.
      let there = copied_there (i == 3) (i == 1) (Some (FileView 0 2)) (view_at fresh 1) copy is in
      elim (eqb_tells i 3) [
        | inl same ↦ ap (λ b. option_map view_of_node (cond b (file 0 (7 ∷ 8 ∷ [])) (fresh i))) same.0 ∙ there.0 same.0
        | inr off ↦
            let root = there.1 off.0 in
            ap (λ b. option_map view_of_node (cond b (file 0 (7 ∷ 8 ∷ [])) (fresh i))) off.0 ∙ ap (view_at fresh) (eqb-true i 1 root.0) ∙ root.1
      ];
  blocks = λ i b bytes is.
      let there = block_there (i == 3 && b == 0) bytes is in
      let at = both_hold (i == 3) (b == 0) there.0 in
      ap (λ j. block_at put_back j b) (eqb-true i 3 at.0) ∙ ap (block_at put_back 3) (eqb-true b 0 at.1) ∙ ap (λ x. Some x) there.1;
  granted = λ i is. subst (IsNew fresh) (sym (eqb-true i 3 is)) three_is_new;
}

-- the directory /a gets the number of the file that is gone
abbrev new_a : Operation
new_a = NewDir (record { parent = 1; name = codes "a" })

abbrev effects_a : List Effect
effects_a = effect.Make 3 kind.Directory ∷ effect.Enter 1 3 kind.Directory (codes "a") ∷ effect.Names 3 1 ∷ []

makes_there : IsPlanned gone_copied (call.Mkdir (codes "/a")) 3 new_a effects_a
unfolding gone_copied mkdir walk
makes_there = record { comes = simp (parts, lists, fin.gets) refl; effects = simp parts refl; number = λ m. refl }

-- what was known of the file is known no longer: its number is now the directory's
known_anew : (knows_after gone_copied 3 new_a effects_a).copies 3 ≡ Some (Some (DirView 1 fin.empty))
unfolding gone_copied
known_anew = refl

no_block_anew : (knows_after gone_copied 3 new_a effects_a).blocks 3 0 ≡ None
unfolding gone_copied
no_block_anew = refl

agrees_anew : Agrees (knows_after gone_copied 3 new_a effects_a) (after_effects fresh effects_a) (with_own nobody 1 nothing_open)
unfolding gone_copied nobody
agrees_anew = agrees_after gone_copied fresh nobody (call.Mkdir (codes "/a")) 3 new_a effects_a fresh_sound agrees_when_gone makes_there
