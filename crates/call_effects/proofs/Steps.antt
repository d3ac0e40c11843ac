-- One call over a sound graph: its reply and its effects are one step of the file tree.
use Rattle.std.proofs.Common.{◌≡◌, inl, ℕ, ◌≤◌, refl, Ok, Err, cond, ap, sym, ◌∙◌, subst, true, false, Bool}
use Rattle.std.specs.Prelude.{option_map, ◌&&◌, nat_le}
use Rattle.std.proofs.lemmas.Bool.{leb-true}
use Rattle.posix_calls.specs.Tree.{Descriptors, is_open}
use Rattle.posix_calls.specs.Query.{run}
use Rattle.posix_calls.specs.Decide.{decide}
use Rattle.posix_calls.specs.Operations.{is_client, answer, Follows, Step, makes, reply_of, held_after}
use Rattle.posix_calls.specs.declared.operation.Operation.{Operation}
use Rattle.posix_calls.specs.declared.errno.Errno.{Errno}
use Rattle.posix_calls.specs.declared.errno.Errno.TheVariants as errno
use Rattle.posix_calls.specs.declared.call.Call.{Call}
use Rattle.posix_calls.specs.declared.call.Reply.TheVariants as reply
use Rattle.log_record.specs.file_graph.Graph.{Graph}
use Rattle.call_effects.specs.Wholes.{IsSound, state_of, graph_view, tree_node, keep}
use Rattle.call_effects.specs.Fits.{IsNew, OperationFits}
use Rattle.call_effects.specs.Calls.{answer_over}
use Rattle.call_effects.proofs.Changes.{fair_of}
use Rattle.call_effects.proofs.Views.{views_same}
use Rattle.call_effects.proofs.Held.{graph_after}
use Rattle.call_effects.proofs.Calls.{decide_fits}
use Rattle.call_effects.proofs.ReachedAfter.{state_is, sound_after}

-- the state's answer is the graph's
answer_same : (g : Graph) (d : Descriptors) (client : ℕ) (c : Call) → IsSound g d → answer (state_of g d) client c ≡ answer_over g d client c
answer_same g d client c sound = ap (λ v. cond (is_client client) (run v (decide (d client) c)) (Err errno.Invalid)) (views_same g d (fair_of g d sound))

both : (a b : Bool) → (a && b) ≡ true → (a ≡ true) × (b ≡ true)
both true b e = (refl, e)
both false b e = absurd (cc)

-- only a client's call comes to an operation
record IsClients (g : Graph) (d : Descriptors) (client : ℕ) (c : Call) (operation : Operation) : Type 0 where
  low : 1 ≤ client
  high : client ≤ 8
  comes : run (graph_view g d) (decide (d client) c) ≡ Ok operation

clients : (g : Graph) (d : Descriptors) (client : ℕ) (c : Call) (operation : Operation) → answer_over g d client c ≡ Ok operation → IsClients g d client c operation
clients g d client c operation e = elim (is_client client) as (λ b. is_client client ≡ b → cond b (run (graph_view g d) (decide (d client) c)) (Err errno.Invalid) ≡ Ok operation → IsClients g d client c operation) [
  | true ↦ λ is comes. let r = both (nat_le 1 client) (nat_le client 8) is in record { low = leb-true _ _ r.0; high = leb-true _ _ r.1; comes = comes }
  | false ↦ λ is comes. absurd (cc)
] refl e

pub answer_fits : (g : Graph) (d : Descriptors) (client : ℕ) (c : Call) (operation : Operation) → IsSound g d → answer_over g d client c ≡ Ok operation → OperationFits g d (d client) operation
answer_fits g d client c operation sound e = decide_fits g d client c operation (fair_of g d sound) ((clients g d client c operation e).comes)

pub call_done : (g : Graph) (d : Descriptors) (client new : ℕ) (c : Call) (operation : Operation) → IsSound g d → answer_over g d client c ≡ Ok operation → (makes operation ≡ true → IsNew g new)
    → Step (state_of g d) client c (reply_of operation) (state_of (graph_after g new operation) (held_after client new d operation))
call_done g d client new c operation sound e free =
    let mine = clients g d client c operation e in
    let fits = answer_fits g d client c operation sound e in
    let after = state_of (graph_after g new operation) (held_after client new d operation) in
    inl (
      new,
      subst (λ r. Follows (state_of g d) client new r (reply_of operation) after) (sym (answer_same g d client c sound ∙ e))
          ((λ m. (let f = free m in record { low = f.low; high = f.high; none = ap (λ o. option_map tree_node (keep (is_open d new) o)) f.none })), refl, state_is g d client new operation mine.low mine.high sound free fits),
    )

pub call_sound : (g : Graph) (d : Descriptors) (client new : ℕ) (c : Call) (operation : Operation) → IsSound g d → answer_over g d client c ≡ Ok operation → (makes operation ≡ true → IsNew g new) → IsSound (graph_after g new operation) (held_after client new d operation)
call_sound g d client new c operation sound e free =
    let mine = clients g d client c operation e in
    sound_after g d client new operation mine.low mine.high sound free (answer_fits g d client c operation sound e)

pub call_refused : (g : Graph) (d : Descriptors) (client : ℕ) (c : Call) (x : Errno) → IsSound g d → answer_over g d client c ≡ Err x → Step (state_of g d) client c (reply.Failed x) (state_of g d)
call_refused g d client c x sound e =
    inl (0, subst (λ r. Follows (state_of g d) client 0 r (reply.Failed x) (state_of g d)) (sym (answer_same g d client c sound ∙ e)) (refl, refl))
