-- What all parts make together.
use Rattle.std.proofs.Common.{◌≡◌, ℕ, List, ap, sym, ◌∙◌, subst}
use Rattle.posix_calls.specs.Run.{Run}
use Rattle.posix_calls.specs.Tree.{State}
use Rattle.world_invariant.specs.Invariant.{IsCoherent}
use Rattle.world_history.specs.declared.moves.Move.{Move}
use Rattle.world_history.specs.Configuration.{Configuration, IsConsistent, KernelPart, tree_of, world_of}
use Rattle.world_history.specs.History.{after_moves, opening_of, turns_in}
use Rattle.world_history.specs.FiniteParts.{HasSameParts}
use Rattle.world_history.specs.Participants.{OfClient, OfKernel, takes_part}
use Rattle.world_history.specs.Parts.{client_after, kernel_after}
use Rattle.world_history.specs.Together.{AllTogether, Has, HaveWholeRun, configuration_by}
use Rattle.world_history.proofs.Consistent.{consistent_keeps}
use Rattle.world_history.proofs.Keeping.{history_keeps}
use Rattle.world_history.proofs.Listings.{same_consistent, same_tree}
use Rattle.world_history.proofs.Parts.{client_is, kernel_is, restart_is_of_kernel}
use Rattle.world_history.proofs.Together.{has_turns, same_opening}
use Rattle.world_history.proofs.Turns.{turns_are_of_clients}

module _ (s : Configuration) (ks : List Move) (ms : ℕ → List Move) (all : AllTogether s ks ms) where
  abbrev h : List Move
  h = all.history

  kernel_there : (configuration_by s ks ms).kernel ≡ (after_moves s h).kernel
  kernel_there = sym (kernel_is s h ∙ ap (kernel_after s.kernel) all.kernel)

  made_there : HasSameParts (after_moves s h) (configuration_by s ks ms)
  made_there = record {
    shared = ap (λ (k : KernelPart). k.machine.kernel.shared) kernel_there;
    capacity = ap (λ (k : KernelPart). k.machine.kernel.capacity) kernel_there;
    accounts = λ c is. ap (λ (k : KernelPart). k.machine.kernel.accounts c) kernel_there;
    accepted = λ c is. ap (λ (k : KernelPart). k.machine.accepted c) kernel_there;
    failed = ap (λ (k : KernelPart). k.failed_digest) kernel_there;
    clients = λ c is. sym (client_is s c h ∙ ap (client_after c (s.clients c)) (all.clients c is));
  }

  pub all_consistent : IsConsistent s → IsConsistent (configuration_by s ks ms)
  all_consistent con = same_consistent (after_moves s h) (configuration_by s ks ms) made_there (consistent_keeps s h con all.legal)

  pub whole_run : IsCoherent (world_of s) → HaveWholeRun s ks ms
  whole_run coherent = record {
    turns = turns_in s h;
    run = subst (λ (first : State). Run first (turns_in s h) (tree_of (configuration_by s ks ms))) (sym (ap (opening_of s) (sym all.kernel) ∙ same_opening s (takes_part OfKernel) restart_is_of_kernel h))
        (subst (λ (last : State). Run (opening_of s h) (turns_in s h) last) (sym (same_tree (after_moves s h) (configuration_by s ks ms) made_there)) (history_keeps s h coherent all.legal).run);
    listed = λ c is. subst (Has s (turns_in s h) (OfClient c)) (all.clients c is) (has_turns s h all.legal (OfClient c));
    clients = turns_are_of_clients s h all.legal;
  }
