-- What is known after effects, one effect more in front; a graph that was as it was known is so after them.
use Rattle.std.proofs.Common.{◌≡◌, ◌≤◌, ◌<◌, ◌+◌, ◌||◌, Bool, true, false, ℕ, List, [], ◌∷◌, length, drop, get_or, Option, Some, None, cond, refl, ap, sym, ◌∙◌}
use Rattle.std.specs.Prelude.{Result, Ok, Err, OnErr, IsSome, option_map, unwrap_or}
use Rattle.std.specs.Ordering.{nat_cmp, eq_by_cmp}
use Rattle.std.specs.Cmp.Lexicographic.{slice_cmp}
use Rattle.std.specs.FinMap as fin
use Rattle.std.specs.BTreeMap.{get}
use Rattle.std.proofs.lemmas.List.{drop_more, drop_all}
use Rattle.call_effects.specs.file_graph.declared.effect.Kind.{Kind}
use Rattle.call_effects.specs.file_graph.declared.effect.Effect.{Effect}
use Rattle.call_effects.specs.file_graph.declared.effect.Effect.TheVariants as effect
use Rattle.call_effects.specs.file_graph.Graph.{Graph, after_effects, subjects, is_among}
use Rattle.call_effects.specs.file_graph.Plain.{is_swap}
use Rattle.call_effects.specs.file_graph.Subject.{subject}
use Rattle.call_effects.specs.KnownCopies.{Copies, SwapsAreKnown, child_known, known_acted, known_after, known_after_effect}
use Rattle.call_effects.specs.NodeView.{NodeView, FileView, DirView, view_acted, view_entries}
use Rattle.call_effects.proofs.KnownCopies.{seen_after}
use Rattle.record_validation.specs.KnownNodes.{Known, ViewsAgree}
use Rattle.record_validation.specs.Memory.{enters_known, want_room}
use Rattle.record_validation.proofs.Steps.{in_inserted}

-- an effect that is no Swap has one inode
pub alone_subject : (e : Effect) (d : ℕ) → is_swap e ≡ false → subject e ≡ d → subjects e ≡ d ∷ []
alone_subject (effect.Swap x a y b) d alone is = absurd cc
alone_subject (effect.Make i k) d alone is = ap (λ x. x ∷ []) is
alone_subject (effect.Enter x i k name) d alone is = ap (λ y. y ∷ []) is
alone_subject (effect.Leave x name) d alone is = ap (λ y. y ∷ []) is
alone_subject (effect.Names i n) d alone is = ap (λ x. x ∷ []) is
alone_subject (effect.Size i size) d alone is = ap (λ x. x ∷ []) is
alone_subject (effect.Bytes i at new) d alone is = ap (λ x. x ∷ []) is
alone_subject (effect.Drop i) d alone is = ap (λ x. x ∷ []) is

-- and acts by itself
pub alone_acts : (e : Effect) (known : Copies) → is_swap e ≡ false → known_acted e known ≡ known_after_effect e known
alone_acts (effect.Swap x a y b) known alone = absurd cc
alone_acts e known alone = refl

-- ---- what names are known to lead to

pub no_child : (known : Copies) (d : ℕ) (name : List ℕ) → unwrap_or (known d) None ≡ None → None ≡ child_known known d name
no_child known d name is = sym (ap (λ v. fin.get (view_entries v) name) is ∙ fin.get-empty (slice_cmp nat_cmp) name)

either_way : (b c : Bool) → c ≡ true → cond b true c ≡ true
either_way true c e = refl
either_way false c e = e

child_kept : (b : Bool) (d i : ℕ) (k : Kind) (a q : List ℕ) (o : Option (Option NodeView)) → IsSome (fin.get (view_entries (unwrap_or o None)) q) → IsSome (fin.get (view_entries (unwrap_or (option_map (λ v. cond b (view_acted (effect.Enter d i k a) v) v) o) None)) q)
child_kept b d i k a q None some = some
child_kept false d i k a q (Some v) some = some
child_kept true d i k a q (Some None) some = some
child_kept true d i k a q (Some (Some (FileView names size))) some = some
child_kept true d i k a q (Some (Some (DirView names es))) some = in_inserted es a q (i, k) ∙ either_way (eq_by_cmp (slice_cmp nat_cmp) q a) (fin.contains_key es q) some

-- a name leads somewhere still once another leads elsewhere
pub still_known : (known : Copies) (d i : ℕ) (k : Kind) (a : List ℕ) (e : ℕ) (q : List ℕ) → IsSome (child_known known e q) → IsSome (child_known (known_acted (effect.Enter d i k a) known) e q)
still_known known d i k a e q some = child_kept (is_among e (d ∷ [])) d i k a q (known e) some

pub agrees_after : (m n : Known) (g : Graph) (es : List Effect) → get nat_cmp n ≡ known_after es (get nat_cmp m) → SwapsAreKnown (get nat_cmp m) es → ViewsAgree m g → ViewsAgree n (after_effects g es)
agrees_after m n g es is swaps agrees i v at = seen_after es (get nat_cmp m) g agrees swaps i v (sym (ap (λ (k : Copies). k i) is) ∙ at)

from_here : (es : List Effect) (k : ℕ) (e : Effect) → k < length es → e ≡ get_or es k e → drop k es ≡ e ∷ drop (k + 1) es
from_here es k e inside is = drop_more es k e inside ∙ ap (λ (x : Effect). x ∷ drop (k + 1) es) (sym is)

pub taken_more : (es : List Effect) (k : ℕ) (e : Effect) → k < length es → e ≡ get_or es k e → (now next first : Known) → get nat_cmp next ≡ known_after_effect e (get nat_cmp now) → known_after (drop k es) (get nat_cmp now) ≡ known_after es (get nat_cmp first) → known_after (drop (k + 1) es) (get nat_cmp next) ≡ known_after es (get nat_cmp first)
taken_more es k e inside is now next first acted all =
    ap (known_after (drop (k + 1) es)) acted
    ∙ ap (λ (xs : List Effect). known_after xs (get nat_cmp now)) (sym (from_here es k e inside is))
    ∙ all

pub taken_all : (es : List Effect) (k : ℕ) → length es ≤ k → (now first : Known) → known_after (drop k es) (get nat_cmp now) ≡ known_after es (get nat_cmp first) → get nat_cmp now ≡ known_after es (get nat_cmp first)
taken_all es k done now first all = ap (λ (xs : List Effect). known_after xs (get nat_cmp now)) (sym (drop_all k es done)) ∙ all

-- ---- room for an entry

-- what holds anyway holds of an error
pub on_error : {T E P : Type 0} (r : Result T E) → P → OnErr r P
on_error (Ok x) holds = tt
on_error (Err y) holds = holds

left_of : (b c : Bool) → b ≡ true → (b || c) ≡ true
left_of b c e = ap (λ x. x || c) e

right_of : (b c : Bool) → c ≡ true → (b || c) ≡ true
right_of true c e = refl
right_of false c e = e

pub room_here : (es : List Effect) (k : ℕ) (e : Effect) → k < length es → e ≡ get_or es k e → (known : Copies) → enters_known e known ≡ true → want_room (drop k es) known ≡ true
room_here es k e inside is known wanted =
    ap (λ (xs : List Effect). want_room xs known) (from_here es k e inside is) ∙ left_of (enters_known e known) (want_room (drop (k + 1) es) (known_after_effect e known)) wanted

pub room_more : (es : List Effect) (k : ℕ) (e : Effect) → k < length es → e ≡ get_or es k e → (now next : Known) → get nat_cmp next ≡ known_after_effect e (get nat_cmp now) → want_room (drop (k + 1) es) (get nat_cmp next) ≡ true → want_room (drop k es) (get nat_cmp now) ≡ true
room_more es k e inside is now next acted wanted =
    ap (λ (xs : List Effect). want_room xs (get nat_cmp now)) (from_here es k e inside is)
    ∙ right_of (enters_known e (get nat_cmp now)) (want_room (drop (k + 1) es) (known_after_effect e (get nat_cmp now))) (ap (want_room (drop (k + 1) es)) (sym acted) ∙ wanted)
