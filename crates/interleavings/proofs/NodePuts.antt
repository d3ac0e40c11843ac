-- What effects on one inode make of what stands there.
use Rattle.std.proofs.Common.{◌≡◌, ℕ, ◌+◌, ◌-◌, ◌<◌, ◌==◌, ◌||◌, Bool, true, false, cond, List, [], ◌∷◌, ◌++◌, drop, length, Option, Some, refl, sym, ap, ◌∙◌, inl, inr, append-nil, get_or, arith}
use Rattle.std.proofs.lemmas.Bool.Decides.{eqb_tells}
use Rattle.std.proofs.Math.Seq.{drop-nil}
use Rattle.std.proofs.lemmas.List.{drop_more}
use Rattle.std.specs.Prelude.{Result, Ok, Err, OnOk}
use Rattle.std.specs.FinMap as fin
use Rattle.std.specs.Cmp.Lexicographic.{nat_list_cmp_total}
use Rattle.posix_calls.specs.Content.{Entries, with_bytes}
use Rattle.system_laws.specs.file_graph.Graph.{Graph, Node, DirBody, FileBody, acted_graph, after_effect, after_effects, empty_body, is_among, set_node, subject_after, subjects}
use Rattle.system_laws.specs.file_graph.declared.effect.Kind.{Kind}
use Rattle.system_laws.specs.file_graph.declared.effect.Effect.{Effect}
use Rattle.system_laws.specs.file_graph.declared.effect.Effect.TheVariants as effect
use Rattle.system_laws.specs.file_graph.Plain.{PlainEntry, pairs}
use Rattle.system_laws.specs.log_record.declared.format.Record.{Record}
use Rattle.interleavings.specs.Snapshots.{entries_put}
use Rattle.system_laws.specs.world_invariant.Logs.{after_records}

flipped : (i j : ℕ) → (i == j) ≡ (j == i)
flipped i j = elim (eqb_tells i j) [
  | inl same ↦ elim (eqb_tells j i) [ inl back ↦ same.0 ∙ sym back.0 | inr other ↦ absurd (other.1 (sym same.1)) ]
  | inr other ↦ elim (eqb_tells j i) [ inl back ↦ absurd (other.1 (sym back.1)) | inr off ↦ other.0 ∙ sym off.0 ]
]

acted : (f : Option Node → Option Node) (o x : Option Node) (b : Bool) → cond (b || false) (f (cond b o x)) (cond b o x) ≡ cond b (f o) x
acted f o x true = refl
acted f o x false = refl

-- an effect on one inode is no Swap
acts_alone : (g : Graph) (i : ℕ) (e : Effect) → subjects e ≡ i ∷ [] → after_effect g e ≡ acted_graph g e
acts_alone g i (effect.Make j k) alone = refl
acts_alone g i (effect.Enter d j k name) alone = refl
acts_alone g i (effect.Leave d name) alone = refl
acts_alone g i (effect.Names j n) alone = refl
acts_alone g i (effect.Size j size) alone = refl
acts_alone g i (effect.Bytes j at new) alone = refl
acts_alone g i (effect.Drop j) alone = refl
acts_alone g i (effect.Swap d a e b) alone = let two_are_one : 2 ≡ 1 = ap length alone in absurd (omega (arith, two_are_one))

-- an effect on an inode acts on what was put there
pub acts_on_put : (g : Graph) (i : ℕ) (o : Option Node) (e : Effect) → subjects e ≡ i ∷ [] → after_effect (set_node g i o) e ≡ set_node g i (subject_after e o)
acts_on_put g i o e alone = λ t j. at j t
  where
    at : (j : ℕ) → after_effect (set_node g i o) e j ≡ set_node g i (subject_after e o) j
    at j =
        ap (λ (h : Graph). h j) (acts_alone (set_node g i o) i e alone)
        ∙ ap (λ (is : List ℕ). cond (is_among j is) (subject_after e (set_node g i o j)) (set_node g i o j)) alone
        ∙ ap (λ (b : Bool). cond (b || false) (subject_after e (set_node g i o j)) (set_node g i o j)) (flipped i j)
        ∙ acted (subject_after e) o (g j) (j == i)

-- what stands there is put there
pub put_itself : (g : Graph) (i : ℕ) → set_node g i (g i) ≡ g
put_itself g i = λ t j. at j t
  where
    at : (j : ℕ) → set_node g i (g i) j ≡ g j
    at j = elim (eqb_tells j i) [
      | inl same ↦ ap (λ (b : Bool). cond b (g i) (g j)) same.0 ∙ ap g (sym same.1)
      | inr other ↦ ap (λ (b : Bool). cond b (g i) (g j)) other.0
    ]

-- an effect on an inode puts there what it makes of what stands there
pub acts_on_own : (g : Graph) (i : ℕ) (e : Effect) → subjects e ≡ i ∷ [] → after_effect g e ≡ set_node g i (subject_after e (g i))
acts_on_own g i e alone = ap (λ (h : Graph). after_effect h e) (sym (put_itself g i)) ∙ acts_on_put g i (g i) e alone

pub node_made : (g : Graph) (i names : ℕ) (k : Kind) → after_effect (after_effect g (effect.Make i k)) (effect.Names i names) ≡ set_node g i (Some (record { names = names; body = empty_body k }))
node_made g i names k = ap (λ (h : Graph). after_effect h (effect.Names i names)) (acts_on_own g i (effect.Make i k) refl) ∙ acts_on_put g i (Some (record { names = 0; body = empty_body k })) (effect.Names i names) refl

-- bytes put at the front of an empty file are its bytes
pub bytes_put : (g : Graph) (i names : ℕ) (bytes : List ℕ) → after_effect (set_node g i (Some (record { names = names; body = FileBody [] }))) (effect.Bytes i 0 bytes) ≡ set_node g i (Some (record { names = names; body = FileBody bytes }))
bytes_put g i names bytes = acts_on_put g i (Some (record { names = names; body = FileBody [] })) (effect.Bytes i 0 bytes) refl ∙ ap (λ (bs : List ℕ). set_node g i (Some (record { names = names; body = FileBody bs }))) alone
  where
    alone : with_bytes 0 bytes [] ≡ bytes
    alone = ap (λ (bs : List ℕ). bytes ++ bs) (drop-nil (0 + length bytes)) ∙ append-nil bytes

after_append : (g : Graph) (es fs : List Effect) → after_effects g (es ++ fs) ≡ after_effects (after_effects g es) fs
after_append g [] fs = refl
after_append g (e ∷ es) fs = after_append (after_effect g e) es fs

-- entries put into an empty directory, the last one first, are those of the map of their list
pub entries_are_put : (g : Graph) (i names : ℕ) (es : List (List ℕ × (ℕ × Kind))) → after_effects (set_node g i (Some (record { names = names; body = DirBody fin.empty }))) (entries_put i es) ≡ set_node g i (Some (record { names = names; body = DirBody (fin.from_entries es) }))
entries_are_put g i names [] = refl
entries_are_put g i names (e ∷ es) =
    let empty = Some (record { names = names; body = DirBody fin.empty }) in
    after_append (set_node g i empty) (entries_put i es) (effect.Enter i e.1.0 e.1.1 e.0 ∷ [])
    ∙ ap (λ (h : Graph). after_effect h (effect.Enter i e.1.0 e.1.1 e.0)) (entries_are_put g i names es)
    ∙ acts_on_put g i (Some (record { names = names; body = DirBody (fin.from_entries es) })) (effect.Enter i e.1.0 e.1.1 e.0) refl

-- a map is that of its entries
pub map_of_entries : (m : Entries (ℕ × Kind)) → fin.from_entries (fin.entries m) ≡ m
map_of_entries m = fin.same_map nat_list_cmp_total (fin.slice_cmp-IsAntisymmetric fin.nat_cmp-IsAntisymmetric) (fin.from_entries (fin.entries m)) m (λ q. fin.get-from_entries nat_list_cmp_total (fin.entries m) q ∙ sym (fin.get-entries m q))

-- one entry more is put
pub entry_put : (g : Graph) (d : ℕ) (e : List ℕ × (ℕ × Kind)) (es : List (List ℕ × (ℕ × Kind))) → after_effect (after_effects g (entries_put d es)) (effect.Enter d e.1.0 e.1.1 e.0) ≡ after_effects g (entries_put d (e ∷ es))
entry_put g d e es = sym (after_append g (entries_put d es) (effect.Enter d e.1.0 e.1.1 e.0 ∷ []))

pub on_ok : {T E A B : Type 0} (r : Result T E) → (A → B) → OnOk r A → OnOk r B
on_ok (Ok x) f a = f a
on_ok (Err e) f a = a

-- ---- effects of a list, one after the other

from_here : {X : Type 0} (xs : List X) (k : ℕ) (x : X) → k < length xs → x ≡ get_or xs k x → drop k xs ≡ x ∷ drop (k + 1) xs
from_here xs k x inside is = drop_more xs k x inside ∙ ap (λ y. y ∷ drop (k + 1) xs) (sym is)

pub effects_more : (es : List Effect) (k : ℕ) (e : Effect) → k < length es → e ≡ get_or es k e → (now next whole : Graph) → next ≡ after_effect now e → after_effects now (drop k es) ≡ whole → after_effects next (drop (k + 1) es) ≡ whole
effects_more es k e inside is now next whole acted all = ap (λ (g : Graph). after_effects g (drop (k + 1) es)) acted ∙ ap (after_effects now) (sym (from_here es k e inside is)) ∙ all

pub records_more : (rs : List Record) (k : ℕ) (r : Record) → k < length rs → r ≡ get_or rs k r → (now next whole : Graph) → next ≡ after_effects now r.effects → after_records now (drop k rs) ≡ whole → after_records next (drop (k + 1) rs) ≡ whole
records_more rs k r inside is now next whole acted all = ap (λ (g : Graph). after_records g (drop (k + 1) rs)) acted ∙ ap (after_records now) (sym (from_here rs k r inside is)) ∙ all

-- ---- entries of a list, the last one first

pub one_more : (es : List PlainEntry) (n done : ℕ) (e : PlainEntry) → n ≡ length es → done < n → e ≡ get_or es (n - 1 - done) e → pairs (drop (n - (done + 1)) es) ≡ (e.name, e.value) ∷ pairs (drop (n - done) es)
one_more es n done e all inside is =
    ap (λ (k : ℕ). pairs (drop k es)) (omega arith)
    ∙ ap pairs (from_here es (n - 1 - done) e (omega (arith, all, inside)) is)
    ∙ ap (λ (k : ℕ). (e.name, e.value) ∷ pairs (drop k es)) (omega (arith, inside))

pub entries_more : (g now next : Graph) (d : ℕ) (es : List PlainEntry) (n done : ℕ) (e : PlainEntry) → n ≡ length es → done < n → e ≡ get_or es (n - 1 - done) e → next ≡ after_effect now (effect.Enter d e.value.0 e.value.1 e.name)
    → now ≡ after_effects g (entries_put d (pairs (drop (n - done) es))) → next ≡ after_effects g (entries_put d (pairs (drop (n - (done + 1)) es)))
entries_more g now next d es n done e all inside is entered before =
    entered
    ∙ ap (λ (h : Graph). after_effect h (effect.Enter d e.value.0 e.value.1 e.name)) before
    ∙ entry_put g d (e.name, e.value) (pairs (drop (n - done) es))
    ∙ ap (λ (ps : List (List ℕ × (ℕ × Kind))). after_effects g (entries_put d ps)) (sym (one_more es n done e all inside is))
