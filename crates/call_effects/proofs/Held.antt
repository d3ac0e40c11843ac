-- What one descriptor that is taken or given back makes of the tree, and an operation with the descriptors after it.
use Rattle.std.proofs.Common.{◌≡◌, ◌≢◌, inl, inr, ℕ, ◌-◌, ◌<◌, ◌≤◌, [], refl, Some, None, Option, cond, ap, sym, ◌∙◌, subst, true, false, Bool, arith, ◌==◌}
use Rattle.std.specs.Prelude.{option_map, ◌&&◌, not}
use Rattle.std.proofs.lemmas.Bool.Decides.{eqb_tells}
use Rattle.posix_calls.specs.Content.{with_length}
use Rattle.posix_calls.specs.Tree.{Descriptors, Own, is_open, any_up_to, refers_to, set_own, with_own, names_of}
use Rattle.posix_calls.specs.declared.descriptor.Descriptor.{Descriptor}
use Rattle.posix_calls.specs.Tree as tree
use Rattle.posix_calls.specs.declared.operation.Operation.{Operation}
use Rattle.posix_calls.specs.declared.operation.Operation.TheVariants.{Tell, NewDir, NewFile, OpenFile, CloseFile, Write, Resize, RemoveDir, AddName, DropName, Move, Exchange}
use Rattle.posix_calls.specs.Operations.{tree_after, makes, held_after, less_unused}
use Rattle.posix_calls.proofs.Open.{own_cases, own_there, open_there}
use Rattle.posix_calls.proofs.Steps.{with_same}
use Rattle.log_record.specs.file_graph.Graph.{Graph, Node, after_effects}
use Rattle.log_record.specs.file_graph.declared.effect.Kind.TheVariants as kind
use Rattle.call_effects.specs.Effects.{effects_of, stored_count}
use Rattle.call_effects.specs.Wholes.{tree_of, tree_node, keep, reachable_graph, kind_of}
use Rattle.call_effects.specs.Fits.{IsNew, IsUsedFile, IsNumber, IsHeld, OperationFits}
use Rattle.call_effects.proofs.Puts.{put, put_there, put_same, put_through}
use Rattle.call_effects.proofs.Changes.{IsFair, file}
use Rattle.call_effects.proofs.Views.{file_count}
use Rattle.call_effects.proofs.NewNodes.{made, g2, fresh}
use Rattle.call_effects.proofs.Edges.{tree_used, size_is}
use Rattle.call_effects.proofs.Operations.{after_operation, Stays}

module _ (g : Graph) (d : Descriptors) (client number i : ℕ) (what : Option Descriptor) (near : (j : ℕ) → j ≢ i → refers_to j what ≡ refers_to j (d client number)) where
  abbrev pub now : Descriptors
  now = with_own d client (set_own (d client) number what)

  refers_same : (j c n : ℕ) → j ≢ i → refers_to j (now c n) ≡ refers_to j (d c n)
  refers_same j c n other = elim (own_cases d client number what c n) [
    | inl at ↦ ap (refers_to j) at.is ∙ near j other ∙ ap (λ k. refers_to j (d k number)) (sym at.same_client) ∙ ap (λ m. refers_to j (d c m)) (sym at.same_number)
    | inr same ↦ ap (refers_to j) same
  ]

  open_same : (j : ℕ) → j ≢ i → is_open now j ≡ is_open d j
  unfolding is_open
  open_same j other = ap (λ (f : ℕ → ℕ → Bool). any_up_to 8 (λ c. any_up_to 32 (λ n. f c (n - 1)))) (λ t c n. refers_same j c n other t)

  abbrev here : Option Node
  here = keep (is_open now i) (g i)

  kept_at : (j : ℕ) → reachable_graph g now j ≡ put (reachable_graph g d) i here j
  kept_at j = elim (eqb_tells j i) [
    | inl same ↦ ap (λ k. keep (is_open now k) (g k)) same.1 ∙ sym (ap (λ b. cond b here (reachable_graph g d j)) same.0)
    | inr off ↦ ap (λ b. keep b (g j)) (open_same j off.1) ∙ sym (ap (λ b. cond b here (reachable_graph g d j)) off.0)
  ]

  -- the graph that is kept changes at this inode alone
  pub kept_changed : reachable_graph g now ≡ put (reachable_graph g d) i here
  kept_changed = λ t j. kept_at j t

  pub fair_now : ((o : Descriptor) → what ≡ Some o → (kind_of (g o.inode) ≡ Some kind.File) × (1 ≤ client) × (client ≤ 8) × (number < 32)) → IsFair g d → IsFair g now
  fair_now ok fair = record {
    typed = record {
      kinds = fair.typed.kinds;
      numbers = fair.typed.numbers;
      root = fair.typed.root;
      opened = λ c n o there. elim (own_cases d client number what c n) [
        | inl at ↦ (ok o (sym at.is ∙ there)).0
        | inr same ↦ fair.typed.opened c n o (sym same ∙ there)
      ];
      in_range = λ c n o there. elim (own_cases d client number what c n) [
        | inl at ↦
            let r = ok o (sym at.is ∙ there) in
            let a = at.same_client in let b = at.same_number in let low = r.1 in let high = r.2 in let few = r.3 in
            (omega (arith, a, low), omega (arith, a, high), omega (arith, b, few))
        | inr same ↦ fair.typed.in_range c n o (sym same ∙ there)
      ];
    };
    counted = fair.counted;
    one_name = fair.one_name;
  }

-- ---- a file is opened

abbrev pub descriptor : ℕ → Bool → Bool → Descriptor
descriptor i r w = record { inode = i; reads = r; writes = w }

abbrev pub more_held : Descriptors → ℕ → ℕ → ℕ → Bool → Bool → Descriptors
more_held d client number i r w = with_own d client (set_own (d client) number (Some (descriptor i r w)))

near_new : (d : Descriptors) (client number i : ℕ) (r w : Bool) → d client number ≡ None → (j : ℕ) → j ≢ i → refers_to j (Some (descriptor i r w)) ≡ refers_to j (d client number)
near_new d client number i r w none j other = elim (eqb_tells i j) [ inl same ↦ absurd (other (sym same.1)) | inr off ↦ off.0 ] ∙ sym (ap (refers_to j) none)

and_false : (b : Bool) (o : Option Node) → cond (b && not true) None o ≡ o
and_false true o = refl
and_false false o = refl

pub record IsAsOpen (g : Graph) (d e : Descriptors) : Type 0 where
  pub tree : tree_of (reachable_graph g e) ≡ tree_of (reachable_graph g d)
  pub fair : IsFair g e

held_open : (g : Graph) (d : Descriptors) (client number i : ℕ) (r w : Bool) → IsFair g d → IsNumber (d client) number → 1 ≤ client → client ≤ 8 → IsUsedFile g d i → IsAsOpen g d (more_held d client number i r w)
held_open g d client number i r w fair num low high f =
    let what = Some (descriptor i r w) in
    let near = near_new d client number i r w num.none in
    let e = more_held d client number i r w in
    let open_now : is_open e i ≡ true = open_there e client number (descriptor i r w) low high num.low (own_there d client number what) in
    let before : reachable_graph g d i ≡ file f.names f.bytes = ap (keep (is_open d i)) f.is ∙ ap (λ b. cond b None (file f.names f.bytes)) f.used in
    let after : keep (is_open e i) (g i) ≡ file f.names f.bytes = ap (λ b. keep b (g i)) open_now ∙ ap (keep true) f.is ∙ and_false (f.names == 0) (file f.names f.bytes) in
    record {
      tree = ap tree_of (kept_changed g d client number i what near ∙ put_same (reachable_graph g d) i (keep (is_open e i) (g i)) (before ∙ sym after));
      fair = fair_now g d client number i what near (λ o is.
          let inodes : Some i ≡ Some o.inode = ap (option_map (λ (x : Descriptor). x.inode)) is in
          let same : i ≡ o.inode = cc in
          (ap (λ k. kind_of (g k)) (sym same) ∙ ap kind_of f.is, low, high, num.low)) fair;
    }

-- ---- a file is closed

abbrev pub less_held : Descriptors → ℕ → ℕ → Descriptors
less_held d client number = with_own d client (set_own (d client) number None)

near_old : (d : Descriptors) (client number i : ℕ) → IsHeld (d client) number i → (j : ℕ) → j ≢ i → refers_to j None ≡ refers_to j (d client number)
near_old d client number i h j other = sym (ap (refers_to j) h.is ∙ elim (eqb_tells h.what.inode j) [ inl same ↦ absurd (other (sym same.1 ∙ h.inode)) | inr off ↦ off.0 ])

tree_closed : (g : Graph) (d : Descriptors) (client number i : ℕ) → IsFair g d → IsHeld (d client) number i → (f : IsUsedFile g d i) → tree_of (reachable_graph g (less_held d client number)) ≡ less_unused (less_held d client number) (tree_of (reachable_graph g d)) i
tree_closed g d client number i fair h f =
    let t = tree_of (reachable_graph g d) in
    let e = less_held d client number in
    let count : names_of t i ≡ f.names = sym (file_count g d i fair (ap kind_of f.is)) ∙ ap stored_count f.is in
    ap tree_of (kept_changed g d client number i None (near_old d client number i h))
    ∙ put_through (option_map tree_node) (reachable_graph g d) i (keep (is_open e i) (g i))
    ∙ ap (λ o. put t i (option_map tree_node (keep (is_open e i) o))) f.is
    ∙ elim (f.names == 0 && not (is_open e i)) as (λ b. put t i (option_map tree_node (cond b None (file f.names f.bytes))) ≡ cond b (put t i None) t) [
      | true ↦ refl
      | false ↦ put_same t i (Some (tree.File f.bytes)) (tree_used g d i f.names f.bytes f.is f.used)
    ]
    ∙ ap (λ n. cond (n == 0 && not (is_open e i)) (put t i None) t) (sym count)

-- ---- every operation

abbrev pub graph_after : Graph → ℕ → Operation → Graph
graph_after g new operation = after_effects g (effects_of g new operation)

-- an operation that leads to these descriptors
pub record IsDone (g : Graph) (d e : Descriptors) (new : ℕ) (operation : Operation) : Type 0 where
  pub tree : tree_of (reachable_graph (graph_after g new operation) e) ≡ tree_after e new (tree_of (reachable_graph g d)) operation
  pub fair : IsFair (graph_after g new operation) e

done_same : (g : Graph) (d : Descriptors) (client new : ℕ) (operation : Operation) → Stays operation → IsFair g d → (makes operation ≡ true → IsNew g new) → OperationFits g d (d client) operation → IsDone g d (with_own d client (d client)) new operation
done_same g d client new operation st fair free fits =
    let b = after_operation g d (d client) new operation st fair free fits in
    subst (λ e. IsDone g d e new operation) (sym (with_same d client)) (record { tree = b.tree; fair = b.fair })

pub done : (g : Graph) (d : Descriptors) (client new : ℕ) (operation : Operation) → 1 ≤ client → client ≤ 8 → IsFair g d → (makes operation ≡ true → IsNew g new) → OperationFits g d (d client) operation → IsDone g d (held_after client new d operation) new operation
done g d client new (CloseFile i number) low high fair free (f, h) = record {
  tree = tree_closed g d client number i fair h f;
  fair = fair_now g d client number i None (near_old d client number i h) (λ o no_one. absurd (cc)) fair;
}
done g d client new (NewFile at number reads writes) low high fair free (room, num) =
    let operation = NewFile at number reads writes in
    let b = after_operation g d (d client) new operation tt fair free (room, num) in
    let last = g2 g d new kind.File at fair (free refl) room in
    let is : graph_after g new operation new ≡ file 1 [] = ap (λ h. h new) (made g d new kind.File at fair (free refl) room) ∙ put_there last new (fresh 1 kind.File) in
    let held = held_open (graph_after g new operation) d client number new reads writes b.fair num low high (record { names = 1; bytes = []; is = is; used = refl }) in
    record { tree = held.tree ∙ b.tree; fair = held.fair }
done g d client new (OpenFile i true number reads writes) low high fair free (f, num) =
    let operation = OpenFile i true number reads writes in
    let b = after_operation g d (d client) new operation tt fair free (f, num) in
    let is : graph_after g new operation i ≡ file f.names (with_length 0 f.bytes) = ap (λ h. h i) (size_is g i f.names 0 f.bytes f.is) ∙ put_there g i (file f.names (with_length 0 f.bytes)) in
    let held = held_open (graph_after g new operation) d client number i reads writes b.fair num low high (record { names = f.names; bytes = with_length 0 f.bytes; is = is; used = f.used }) in
    record { tree = held.tree ∙ b.tree; fair = held.fair }
done g d client new (OpenFile i false number reads writes) low high fair free (f, num) =
    let held = held_open g d client number i reads writes fair num low high f in
    record { tree = held.tree; fair = held.fair }
done g d client new (Tell answer) low high fair free fits = done_same g d client new (Tell answer) tt fair free fits
done g d client new (NewDir at) low high fair free fits = done_same g d client new (NewDir at) tt fair free fits
done g d client new (Write i at bytes) low high fair free fits = done_same g d client new (Write i at bytes) tt fair free fits
done g d client new (Resize i len) low high fair free fits = done_same g d client new (Resize i len) tt fair free fits
done g d client new (RemoveDir at i) low high fair free fits = done_same g d client new (RemoveDir at i) tt fair free fits
done g d client new (AddName at i) low high fair free fits = done_same g d client new (AddName at i) tt fair free fits
done g d client new (DropName at i) low high fair free fits = done_same g d client new (DropName at i) tt fair free fits
done g d client new (Move from to i b replaced) low high fair free fits = done_same g d client new (Move from to i b replaced) tt fair free fits
done g d client new (Exchange first second i j) low high fair free fits = done_same g d client new (Exchange first second i j) tt fair free fits
