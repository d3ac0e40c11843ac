-- A copy of a directory tells the kinds of all that its entries name, so that no call lacks a kind alone.
use Rattle.std.proofs.Common.{◌≡◌, inl, inr, ℕ, List, [], ◌∷◌, refl, Some, None, cond, ap, sym, ◌∙◌, subst, true, false, Bool, ◌==◌}
use Rattle.std.specs.Prelude.{unwrap_or, option_map, ◌&&◌, ◌||◌}
use Rattle.std.specs.List.{list_any}
use Rattle.std.specs.Ordering.{eq_by_cmp}
use Rattle.std.specs.FinMap as fin
use Rattle.std.proofs.lemmas.Bool.{eq-eqb}
use Rattle.std.proofs.lemmas.Bool.Decides.{eqb_tells}
use Rattle.posix_calls.specs.Content.{Entries}
use Rattle.posix_calls.specs.Tree.{Descriptors}
use Rattle.posix_calls.proofs.Counts.{order}
use Rattle.posix_calls.proofs.Sums.{any_there}
use Rattle.log_record.specs.file_graph.Graph.{Graph}
use Rattle.log_record.specs.file_graph.declared.effect.Kind.{Kind}
use Rattle.log_record.specs.file_graph.declared.effect.Kind.TheVariants as kind
use Rattle.call_effects.specs.Effects.{kind_if}
use Rattle.call_effects.specs.Wholes.{kind_of, node_is_dir}
use Rattle.call_effects.specs.Knowledge.{Knowledge, Agrees, IsCopiedEntry, copy_of, same_kind, lists_as, is_listed, is_dir_by, part_of}
use Rattle.call_effects.specs.NodeView.{DirView}
use Rattle.posix_calls.specs.declared.operation.Location.{Location}
use Rattle.call_effects.proofs.Changes.{IsFair}
use Rattle.call_effects.proofs.KnownTold.{dir_copied, dir_stands, file_stands, part_is}
use Rattle.call_effects.proofs.KnownMissing.{Answers, by_dir, by_file}

pub or_true : (b : Bool) → (b || true) ≡ true
or_true true = refl
or_true false = refl

-- an entry that is found passes its test
found_any : {X : Type 0} (q : X → Bool) (name : List ℕ) (x : X) (es : List (List ℕ × X)) → fin.find order name es ≡ Some x → q x ≡ true → list_any (λ e. q e.1) es ≡ true
found_any q name x [] found is = absurd (cc)
found_any q name x (e ∷ es) found is =
    elim (eq_by_cmp order name e.0) as (λ b. cond b (Some e.1) (fin.find order name es) ≡ Some x → (q e.1 || list_any (λ f. q f.1) es) ≡ true) [
      | true ↦ λ here. let same : e.1 ≡ x = cc in ap (λ b. b || list_any (λ f. q f.1) es) (ap q same ∙ is)
      | false ↦ λ rest. ap (λ b. q e.1 || b) (found_any q name x es rest is) ∙ or_true (q e.1)
    ] found

itself : (what : Kind) → same_kind what what ≡ true
itself kind.File = refl
itself kind.Directory = refl

module _ (k : Knowledge) (g : Graph) (d : Descriptors) (fair : IsFair g d) (agrees : Agrees k g d) where
  pub entry_told : (at n i : ℕ) (es : Entries (ℕ × Kind)) (name : List ℕ) (what : Kind) → k.copies at ≡ Some (Some (DirView n es)) → fin.get es name ≡ Some (i, what) → is_listed k i what ≡ true
  entry_told at n i es name what copy is =
      let range = fair.typed.numbers at kind.Directory (ap kind_of (dir_copied k g d fair agrees at n es copy)) in
      let test : (i == i && same_kind what what) ≡ true = ap (λ b. b && same_kind what what) (eq-eqb i i refl) ∙ itself what in
      any_there 1024 at (λ x. lists_as i what (copy_of k x)) range.0 range.1
      (ap (λ x. lists_as i what (unwrap_or x None)) copy ∙ found_any (λ (e : ℕ × Kind). e.0 == i && same_kind e.1 what) name (i, what) (fin.entries es) (sym (fin.get-entries es name) ∙ is) test)

  by_kind : (i : ℕ) (what : Kind) → is_listed k i what ≡ true → Answers (is_dir_by (k.copies i) (is_listed k i kind.Directory) (is_listed k i kind.File))
  by_kind i kind.Directory e = subst (λ b. Answers (is_dir_by (k.copies i) b (is_listed k i kind.File))) (sym e) (by_dir (k.copies i) (is_listed k i kind.File))
  by_kind i kind.File e = subst (λ b. Answers (is_dir_by (k.copies i) (is_listed k i kind.Directory) b)) (sym e) (by_file (k.copies i) (is_listed k i kind.Directory))

  pub told_answered : (i : ℕ) (what : Kind) → is_listed k i what ≡ true → Answers ((part_of k).is_dir i)
  told_answered i what e = elim (eqb_tells i 1) [
    | inl same ↦ (Some true, ap (λ b. cond b (Some (Some true)) (is_dir_by (k.copies i) (is_listed k i kind.Directory) (is_listed k i kind.File))) same.0)
    | inr off ↦
        let a = by_kind i what e in
        (a.0, ap (λ b. cond b (Some (Some true)) (is_dir_by (k.copies i) (is_listed k i kind.Directory) (is_listed k i kind.File))) off.0 ∙ a.1)
  ]

  kind_test : (i : ℕ) (b : Bool) → kind_of (g i) ≡ Some (kind_if b) → option_map node_is_dir (agrees.back i) ≡ Some b
  kind_test i true is = dir_stands k g d fair agrees i is
  kind_test i false is = file_stands k g d fair agrees i is

  -- an entry of a copy tells its kind
  pub entry_tells_kind : (at : Location) (i : ℕ) (b : Bool) → IsCopiedEntry k at (i, kind_if b) → (part_of k).is_dir i ≡ Some (Some b)
  entry_tells_kind at i b entry =
      let a = told_answered i (kind_if b) (entry_told at.parent entry.names i entry.entries at.name (kind_if b) entry.copy entry.there) in
      let so : a.0 ≡ Some b = sym ((part_is k g d fair agrees).is_dir i a.0 a.1) ∙ kind_test i b (fair.typed.kinds at.parent entry.names entry.entries at.name (i, kind_if b) (dir_copied k g d fair agrees at.parent entry.names entry.entries entry.copy) entry.there) in
      a.1 ∙ ap (λ x. Some x) so
