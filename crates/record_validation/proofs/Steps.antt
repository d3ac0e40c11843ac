-- What effects make of a node's numbers is what they make of its view, counted.
use Rattle.std.proofs.Common.{◌≡◌, ℕ, ◌+◌, ◌<◌, Bool, true, false, cond, List, [], ◌∷◌, ◌++◌, length, take, Option, Some, None, refl, ap, ◌∙◌, add-one, ◌==◌, ◌||◌}
use Rattle.std.specs.Prelude.{get_or, option_map, is_some}
use Rattle.std.specs.Ordering.{nat_cmp, eq_by_cmp}
use Rattle.std.specs.Cmp.Lexicographic.{slice_cmp}
use Rattle.std.proofs.lemmas.Cmp.{nat_list_cmp_total}
use Rattle.std.proofs.Math.Seq.{take-suc}
use Rattle.std.specs.FinMap as fin
use Rattle.posix_calls.specs.Content.{Entries}
use Rattle.call_effects.specs.file_graph.declared.effect.Kind.{Kind}
use Rattle.call_effects.specs.file_graph.declared.effect.Kind.TheVariants as kind
use Rattle.call_effects.specs.file_graph.declared.effect.Effect.{Effect}
use Rattle.call_effects.specs.file_graph.declared.effect.Effect.TheVariants as effect
use Rattle.call_effects.specs.file_graph.Graph.{subjects, is_among}
use Rattle.call_effects.specs.NodeView.{NodeView, FileView, DirView, view_acted, view_after}
pub use Rattle.call_effects.proofs.NodeViews.{views_joined}
use Rattle.record_validation.specs.declared.node_counts.NodeCounts.TheVariants as counts
use Rattle.record_validation.specs.Counts.{counts_of, counts_after, counts_acted, is_named, entry_in, entry_acted, entry_after}

some_if : {A : Type 0} (b : Bool) (x : A) (o : Option A) → is_some (cond b (Some x) o) ≡ cond b true (is_some o)
some_if true x o = refl
some_if false x o = refl

none_if : {A : Type 0} (b : Bool) (o : Option A) → is_some (cond b None o) ≡ cond b false (is_some o)
none_if true o = refl
none_if false o = refl

pub in_inserted : (m : Entries (ℕ × Kind)) (name q : List ℕ) (v : ℕ × Kind) → fin.contains_key (fin.insert m name v) q ≡ cond (eq_by_cmp (slice_cmp nat_cmp) q name) true (fin.contains_key m q)
in_inserted m name q v = ap is_some (fin.get-insert nat_list_cmp_total m name v q) ∙ some_if (eq_by_cmp (slice_cmp nat_cmp) q name) v (fin.get m q)

in_removed : (m : Entries (ℕ × Kind)) (name q : List ℕ) → fin.contains_key (fin.remove m name) q ≡ cond (eq_by_cmp (slice_cmp nat_cmp) q name) false (fin.contains_key m q)
in_removed m name q = ap is_some (fin.get-remove nat_list_cmp_total m name q) ∙ none_if (eq_by_cmp (slice_cmp nat_cmp) q name) (fin.get m q)

abbrev no_entries : Entries (ℕ × Kind)
no_entries = fin.empty

in_empty : (q : List ℕ) → fin.contains_key no_entries q ≡ false
in_empty q = ap is_some (fin.get-empty (slice_cmp nat_cmp) q)

-- ---- one name

pub entry_acts : (name : List ℕ) (e : Effect) (v : Option NodeView) → entry_in name (view_acted e v) ≡ entry_acted name e (entry_in name v)
entry_acts name (effect.Make i kind.File) v = refl
entry_acts name (effect.Make i kind.Directory) v = ap (λ b. Some b) (in_empty name)
entry_acts name (effect.Enter d i k entered) None = refl
entry_acts name (effect.Enter d i k entered) (Some (FileView n size)) = refl
entry_acts name (effect.Enter d i k entered) (Some (DirView n es)) = ap (λ b. Some b) (in_inserted es entered name (i, k))
entry_acts name (effect.Leave d left) None = refl
entry_acts name (effect.Leave d left) (Some (FileView n size)) = refl
entry_acts name (effect.Leave d left) (Some (DirView n es)) = ap (λ b. Some b) (in_removed es left name)
entry_acts name (effect.Names i m) None = refl
entry_acts name (effect.Names i m) (Some (FileView n size)) = refl
entry_acts name (effect.Names i m) (Some (DirView n es)) = refl
entry_acts name (effect.Size i m) None = refl
entry_acts name (effect.Size i m) (Some (FileView n size)) = refl
entry_acts name (effect.Size i m) (Some (DirView n es)) = refl
entry_acts name (effect.Bytes i at new) None = refl
entry_acts name (effect.Bytes i at new) (Some (FileView n size)) = refl
entry_acts name (effect.Bytes i at new) (Some (DirView n es)) = refl
entry_acts name (effect.Drop i) v = refl
entry_acts name (effect.Swap d a e b) v = refl

entry_acts_if : (b : Bool) (name : List ℕ) (e : Effect) (v : Option NodeView) → entry_in name (cond b (view_acted e v) v) ≡ cond b (entry_acted name e (entry_in name v)) (entry_in name v)
entry_acts_if true name e v = entry_acts name e v
entry_acts_if false name e v = refl

pub entry_is : (name : List ℕ) (es : List Effect) (i : ℕ) (v : Option NodeView) → entry_in name (view_after es i v) ≡ entry_after name es i (entry_in name v)
entry_is name [] i v = refl
entry_is name (e ∷ es) i v = entry_is name es i (cond (is_among i (subjects e)) (view_acted e v) v) ∙ ap (entry_after name es i) (entry_acts_if (is_among i (subjects e)) name e v)

-- ---- the numbers

pub counts_act : (e : Effect) (v : Option NodeView) → option_map counts_of (view_acted e v) ≡ counts_acted e (is_named e v) (option_map counts_of v)
counts_act (effect.Make i kind.File) v = refl
counts_act (effect.Make i kind.Directory) v = ap (λ m. Some (counts.Directory 0 m)) (fin.len-empty (slice_cmp nat_cmp) (ℕ × Kind))
counts_act (effect.Enter d i k name) None = refl
counts_act (effect.Enter d i k name) (Some (FileView n size)) = refl
counts_act (effect.Enter d i k name) (Some (DirView n es)) = ap (λ m. Some (counts.Directory n m)) (fin.len-insert nat_list_cmp_total es name (i, k))
counts_act (effect.Leave d name) None = refl
counts_act (effect.Leave d name) (Some (FileView n size)) = refl
counts_act (effect.Leave d name) (Some (DirView n es)) = ap (λ m. Some (counts.Directory n m)) (fin.len-remove nat_list_cmp_total es name)
counts_act (effect.Names i m) None = refl
counts_act (effect.Names i m) (Some (FileView n size)) = refl
counts_act (effect.Names i m) (Some (DirView n es)) = refl
counts_act (effect.Size i m) None = refl
counts_act (effect.Size i m) (Some (FileView n size)) = refl
counts_act (effect.Size i m) (Some (DirView n es)) = refl
counts_act (effect.Bytes i at new) None = refl
counts_act (effect.Bytes i at new) (Some (FileView n size)) = refl
counts_act (effect.Bytes i at new) (Some (DirView n es)) = refl
counts_act (effect.Drop i) v = refl
counts_act (effect.Swap d a e b) v = refl

counts_act_if : (b : Bool) (e : Effect) (v : Option NodeView) → option_map counts_of (cond b (view_acted e v) v) ≡ cond b (counts_acted e (is_named e v) (option_map counts_of v)) (option_map counts_of v)
counts_act_if true e v = counts_act e v
counts_act_if false e v = refl

-- with one more effect
pub counts_more : (before : List Effect) (e : Effect) (i : ℕ) (v : Option NodeView) → counts_after (before ++ e ∷ []) i v ≡ cond (is_among i (subjects e)) (counts_acted e (is_named e (view_after before i v)) (counts_after before i v)) (counts_after before i v)
counts_more before e i v = ap (option_map counts_of) (views_joined before (e ∷ []) i v) ∙ counts_act_if (is_among i (subjects e)) e (view_after before i v)

pub next_taken : (es : List Effect) (k : ℕ) (e : Effect) → k < length es → take (k + 1) es ≡ take k es ++ (get_or es k e ∷ [])
next_taken es k e inside = ap (λ n. take n es) (add-one k) ∙ take-suc es k e inside

-- an inode is one, or not
pub on_one : (i d : ℕ) → is_among i (d ∷ []) ≡ (d == i)
on_one i d = last (d == i) where
  last : (b : Bool) → (b || false) ≡ b
  last true = refl
  last false = refl

-- or one of two
pub on_two : (i d e : ℕ) → is_among i (d ∷ e ∷ []) ≡ ((d == i) || (e == i))
on_two i d e = ap (λ b. (d == i) || b) (on_one i e)
