-- A file that has no name and that nobody has open may be dropped.
use Rattle.std.proofs.Common.{◌≡◌, ◌≢◌, inl, inr, ℕ, ◌+◌, refl, Some, None, cond, ap, sym, ◌∙◌, subst, true, false, arith, ◌==◌}
use Rattle.std.specs.Prelude.{option_map, ◌&&◌, not}
use Rattle.std.proofs.lemmas.Bool.{eq-eqb}
use Rattle.std.proofs.lemmas.Bool.Decides.{eqb_tells}
use Rattle.posix_calls.specs.Tree.{Descriptors, is_open, names_in}
use Rattle.posix_calls.proofs.Open as opens
use Rattle.posix_calls.proofs.Reached as way
use Rattle.posix_calls.specs.declared.descriptor.Descriptor.{Descriptor}
use Rattle.log_record.specs.file_graph.Graph.{Graph, FileBody, set_node}
use Rattle.log_record.specs.file_graph.declared.effect.Kind.TheVariants as kind
use Rattle.call_effects.specs.Effects.{stored_count}
use Rattle.call_effects.specs.Wholes.{IsSound, IsTyped, state_of, tree_of, tree_node, keep, reachable_graph, kind_of, one_if}
use Rattle.call_effects.specs.Fits.{IsUnusedFile}
use Rattle.call_effects.specs.Knowledge.{Knowledge, Agrees}
use Rattle.call_effects.proofs.Changes.{IsFair, fair_of, sound_fair, file, named, names_stay, typed_drop, sound_of}
use Rattle.call_effects.proofs.PutBack.{stands_back}
use Rattle.call_effects.proofs.Puts.{put_other}
use Rattle.call_effects.proofs.Reached.{reached_kept, reached_whole}
use Rattle.call_effects.proofs.Ways.{chains, paths}

module _ (g : Graph) (d : Descriptors) (i : ℕ) (unused : IsUnusedFile g d i) where
  abbrev less : Graph
  less = set_node g i None

  here : (j : ℕ) → j ≡ i → less j ≡ None
  here j same = ap (λ b. cond b None (g j)) (eq-eqb j i same)

  there : (j : ℕ) → (j == i) ≡ false → less j ≡ g j
  there j off = ap (λ b. cond b None (g j)) off

  -- it was left out anyway
  same_kept : (j : ℕ) → reachable_graph less d j ≡ reachable_graph g d j
  same_kept j = elim (eqb_tells j i) [
    | inl same ↦
        ap (keep (is_open d j)) (here j same.1)
        ∙ sym (ap (λ x. reachable_graph g d x) same.1 ∙ ap (keep (is_open d i)) unused.is ∙ ap (λ b. cond (0 == 0 && not b) None (file 0 unused.bytes)) unused.closed)
    | inr off ↦ ap (keep (is_open d j)) (there j off.0)
  ]

  pub same_state : state_of less d ≡ state_of g d
  same_state = λ t. record { tree = λ j. option_map tree_node (same_kept j t); descriptors = d }

  pub agrees_still : (k : Knowledge) → Agrees k g d → Agrees k less d
  agrees_still k agrees = record {
    client = agrees.client;
    own = agrees.own;
    back = agrees.back;
    put_back = λ j. elim (eqb_tells j i) [
      | inl same ↦ inr (record { nothing = here j same.1; bytes = unused.bytes; file = ap agrees.back same.1 ∙ stands_back g agrees.back agrees.put_back i (record { names = 0; body = FileBody unused.bytes }) unused.is })
      | inr off ↦ elim (agrees.put_back j) [
        | inl was ↦ inl (was ∙ sym (there j off.0))
        | inr gone ↦ inr (record { nothing = there j off.0 ∙ gone.nothing; bytes = gone.bytes; file = gone.file })
      ]
    ];
    copies = agrees.copies;
    blocks = agrees.blocks;
    granted = λ j is. let free = agrees.granted j is in record { low = free.low; high = free.high; none = none_less j free.none };
  } where
    none_less : (j : ℕ) → g j ≡ None → less j ≡ None
    none_less j none = elim (eqb_tells j i) [
      | inl same ↦ here j same.1
      | inr off ↦ there j off.0 ∙ none
    ]

  -- ---- soundness

  module _ (sound : IsSound g d) where
    fair : IsFair g d
    fair = fair_of g d sound

    is_file : kind_of (g i) ≡ Some kind.File
    is_file = ap kind_of unused.is

    no_root : i ≢ 1
    no_root same = let clash : Some kind.File ≡ Some kind.Directory = sym is_file ∙ ap (λ j. kind_of (g j)) same ∙ sound.typed.root in cc

    no_name : named g i + one_if (i == 1) ≡ 0
    no_name = sym (sound.counts.counted i) ∙ ap stored_count unused.is

    closed : (c n : ℕ) (o : Descriptor) → d c n ≡ Some o → o.inode ≢ i
    closed c n o is same =
        let range = sound.typed.in_range c n o is in
        let clash : true ≡ false = sym (opens.open_there d c n o range.0 range.1 range.2 is) ∙ ap (is_open d) same ∙ unused.closed in
        cc

    same_names : (j : ℕ) → named less j ≡ named g j
    same_names j = let range = sound.typed.numbers i kind.File is_file in names_stay g i None j range.0 range.1 (sym (ap (λ o. names_in j (option_map tree_node o)) unused.is))

    typed_less : IsTyped less d
    typed_less = let none = no_name in typed_drop g d i sound.typed closed no_root (omega (arith, none))

    fair_less : IsFair less d
    fair_less =
        let gone : less i ≡ None = here i refl in
        let names = same_names i in
        let none = no_name in
        let rest : stored_count (less i) ≡ 0 = ap stored_count gone in
        sound_of g less d d i fair typed_less
        (λ j off. ap stored_count (put_other g i j None off))
        (λ j off. ap kind_of (put_other g i j None off))
        (λ j off. same_names j)
        (omega (arith, rest, names, none))
        (λ is. let clash : None ≡ Some kind.Directory = sym (ap kind_of gone) ∙ is in absurd (cc))

    pub sound_still : IsSound less d
    sound_still =
        let before = reached_kept g d (chains (tree_of g) sound.reached) in
        let kept_alike : tree_of (reachable_graph less d) ≡ tree_of (reachable_graph g d) = λ t j. option_map tree_node (same_kept j t) in
        sound_fair less d fair_less (paths (tree_of less) (reached_whole less d (subst way.AreReached (sym kept_alike) before)))
