use Rattle.std.proofs.Common.{ℕ, true, false, cond, List, [], ◌∷◌, Option, Some, None, refl, sym, subst}
use Rattle.std.specs.Prelude.{IsSome}
use Rattle.std.specs.Ordering.{nat_cmp, eq_by_cmp}
use Rattle.std.specs.Cmp.Lexicographic.{slice_cmp, nat_list_cmp_total}
use Rattle.std.specs.BTreeMap.{get}
use Rattle.std.specs.FinMap as fin
use Rattle.file_graph.specs.declared.effect.Kind.{Kind}
use Rattle.file_graph.specs.declared.effect.Effect.TheVariants as effect
use Rattle.file_graph.specs.Graph.{Graph, Node, FileBody, DirBody, is_among, subject_after, acted_graph, node_entries, child_at}
use Rattle.file_graph.proofs.plain.swap_names.Goals as goal

-- a name of a directory still leads to something where another was entered, or the same
still_in : (d i : ℕ) (k : Kind) (name : List ℕ) (o : Option Node) (q : List ℕ) → IsSome (fin.get (node_entries o) q) → IsSome (fin.get (node_entries (subject_after (effect.Enter d i k name) o)) q)
still_in d i k name None q there = there
still_in d i k name (Some n) q there =
    elim (n.body) as (λ y. IsSome (fin.get (node_entries (Some (record { names = n.names; body = y }))) q) → IsSome (fin.get (node_entries (subject_after (effect.Enter d i k name) (Some (record { names = n.names; body = y })))) q)) [
      | FileBody bytes ↦ λ h. h
      | DirBody es ↦ λ h.
          subst IsSome (sym (fin.get-insert nat_list_cmp_total es name (i, k) q))
          (elim (eq_by_cmp (slice_cmp nat_cmp) q name) as (λ b. IsSome (cond b (Some (i, k)) (fin.get es q))) [ true ↦ refl | false ↦ h ])
    ] there

still_there : (g : Graph) (d i : ℕ) (k : Kind) (name : List ℕ) (e : ℕ) (q : List ℕ) → IsSome (child_at g e q) → IsSome (child_at (acted_graph g (effect.Enter d i k name)) e q)
still_there g d i k name e q there =
    elim (is_among e (d ∷ [])) as (λ b. IsSome (fin.get (node_entries (cond b (subject_after (effect.Enter d i k name) (g e)) (g e))) q)) [ true ↦ still_in d i k name (g e) q there | false ↦ there ]

pub set_child-requires-2 : goal.set_child-requires-2
set_child-requires-2 c =
    subst (λ (g : Graph). IsSome (child_at g c.args.other c.args.other_name.now)) (sym c.set_child.ensures)
    (still_there (get nat_cmp c.args.nodes.now) c.args.directory c.in-Some-child_at.other_child.0 c.in-Some-child_at.other_child.1 c.args.name.now c.args.other c.args.other_name.now (subst IsSome c.in-Some-child_at.ensures refl))
