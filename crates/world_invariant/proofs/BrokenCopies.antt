-- A copy that is not as the whole is: what its client answers is no step of the tree.
use Rattle.std.proofs.Common.{◌≡◌, inl, inr, ℕ, ◌+◌, [], ◌∷◌, refl, Some, Ok, ap, sym, ◌∙◌, subst, arith}
use Rattle.std.specs.Prelude.{is_some, option_map}
use Rattle.std.specs.FinMap as fin
use Rattle.std.proofs.lemmas.Bool.{false≢true}
use Rattle.posix_calls.specs.Content.{Entries}
use Rattle.posix_calls.specs.Tree.{Tree, Dir, names_of}
use Rattle.posix_calls.specs.Query.{seen_node, view_of, run, ◌>>=◌}
use Rattle.posix_calls.specs.Part.{Known, run_part}
use Rattle.posix_calls.specs.Walk.{walk}
use Rattle.posix_calls.specs.Decide.{stat, node_description}
use Rattle.posix_calls.specs.Operations.{Step, Follows, answer, reply_of}
use Rattle.posix_calls.specs.declared.call.Reply.TheVariants as reply
use Rattle.posix_calls.specs.declared.operation.Operation.TheVariants.{Tell}
use Rattle.posix_calls.proofs.Chain.{part_bind, part_gives, part_refuses}
use Rattle.posix_calls.proofs.Counts.{order}
use Rattle.call_effects.specs.file_graph.Graph.{fresh}
use Rattle.call_effects.specs.file_graph.declared.effect.Kind.{Kind}
use Rattle.call_effects.specs.file_graph.declared.effect.Kind.TheVariants as kind
use Rattle.call_effects.specs.Knowledge.{Agrees, part_of}
use Rattle.call_effects.specs.NodeView.{view_at}
use Rattle.call_effects.specs.Wholes.{without_kinds}
use Rattle.call_effects.proofs.GrowthAsked.{len_seen}
use Rattle.call_effects.proofs.Rises.{len_inserted}
use Rattle.world_invariant.specs.Logs.{after_clients}
use Rattle.world_invariant.specs.World.{whole_graph, held_descriptors, world_state}
use Rattle.world_invariant.specs.ClientSteps.{CanAnswer, after_answer}
use Rattle.world_invariant.specs.BrokenWorlds.{entered_graph, stale, stat_root, no_entries}
use Rattle.world_invariant.proofs.Idle.{none_some}
use Rattle.world_invariant.proofs.Walks.{part_is_dir, part_look, none_seen}
use Rattle.world_invariant.proofs.BrokenWorlds.{has_a, none_before, one_after, view_of_same}

ruleset parts = (part_bind, part_gives, part_refuses, part_is_dir, part_look)

pub stale_broken : Agrees (stale.clients 2).knows (whole_graph stale) (held_descriptors stale) → ⊥
unfolding after_clients
stale_broken agrees = elim (agrees.put_back 1) [
  | inl same ↦
      let copied = agrees.copies 1 (view_at fresh 1) refl in
      let now : view_at entered_graph 1 ≡ view_at fresh 1 = sym (view_of_same (whole_graph stale) agrees.back same) ∙ copied in
      false≢true (sym none_before ∙ sym (ap has_a now) ∙ one_after)
  | inr gone ↦ false≢true (sym (ap is_some gone.nothing))
]

-- by its copy the root has no entry
known_comes : run_part (part_of (stale.clients 2).knows) (stat (47 ∷ [])) ≡ Known (Ok no_entries)
unfolding stat walk
known_comes = simp parts (ap (λ n. Known (Ok (Tell (reply.Dir n)))) none_seen)

pub stale_can : CanAnswer stale 2 stat_root 0 no_entries
stale_can = record {
  client = refl;
  alive = refl;
  idle = refl;
  planned = record { comes = known_comes; effects = simp parts refl; number = λ m. absurd (false≢true m) };
  pinned = λ what e. none_some what e;
}

-- by the tree it has one
abbrev entries : Entries (ℕ × Kind)
entries = fin.insert fin.empty (97 ∷ []) (2, kind.Directory)

one_entry : fin.len (without_kinds entries) ≡ 1
one_entry = len_seen entries ∙ len_inserted fin.empty (97 ∷ []) (2, kind.Directory) (simp fin.gets refl) ∙ ap (λ n. n + 1) (fin.len-empty order (ℕ × Kind))

told : (t : Tree) (es : Entries ℕ) → t 1 ≡ Some (Dir es) → run (view_of t) (stat (47 ∷ [])) ≡ Ok (Tell (reply.Dir (fin.len es)))
unfolding run ◌>>=◌ stat walk
told t es is = ap (λ o. run (view_of t) (node_description (option_map (seen_node (names_of t 1)) o))) is

root_there : (world_state stale).tree 1 ≡ Some (Dir (without_kinds entries))
unfolding after_clients
root_there = refl

answer_is : answer (world_state stale) 2 stat_root ≡ Ok (Tell (reply.Dir (fin.len (without_kinds entries))))
answer_is = told (world_state stale).tree (without_kinds entries) root_there

pub stale_wrong : Step (world_state stale) 2 stat_root (reply_of no_entries) (world_state (after_answer stale 2 0 no_entries)) → ⊥
stale_wrong step = elim step [
  | inl p ↦
      let follows = subst (λ a. Follows (world_state stale) 2 p.0 a (reply.Dir 0) (world_state (after_answer stale 2 0 no_entries))) answer_is p.1 in
      let same : reply.Dir 0 ≡ reply.Dir (fin.len (without_kinds entries)) = follows.1 in
      let none : 0 ≡ fin.len (without_kinds entries) = cc in
      let one : fin.len (without_kinds entries) ≡ 1 = one_entry in
      absurd (omega (arith, none, one))
  | inr g ↦ let clash : reply.Dir 0 ≡ reply.Failed g.0 = g.2 in absurd (cc)
]
