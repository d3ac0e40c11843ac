-- Worlds in which nobody uses a graph: one part of the invariant at a time is not so of the graph, and all others hold.
use Rattle.std.proofs.Common.{◌≡◌, ◌≢◌, ℕ, ◌+◌, ◌<◌, ◌≤◌, List, [], length, refl, sym, subst, arith}
use Rattle.std.proofs.lemmas.Bool.{false≢true}
use Rattle.posix_calls.specs.Tree.{sum_up_to}
use Rattle.posix_calls.specs.declared.limits.TheConstants.{MAX_FILE}
use Rattle.posix_calls.proofs.Sums.{all_zero}
use Rattle.call_effects.specs.file_graph.Graph.{Graph, fresh, after_effects}
use Rattle.call_effects.specs.file_graph.Units.{charge}
use Rattle.call_effects.specs.ClosedGraph.{nobody}
use Rattle.call_effects.specs.Wholes.{IsSound}
use Rattle.world_invariant.specs.Limits.{AreWithin}
use Rattle.world_invariant.specs.World.{whole_graph}
use Rattle.world_invariant.specs.FormatWorld.{idle_client, idle_account, idle_world}
use Rattle.world_invariant.specs.BrokenWorlds.{unpaid_record, one_file, rootless, with_bytes, large_file, overfull}
use Rattle.world_invariant.specs.Parts.{NumbersFree, NumbersInRange, NumbersInOneHand, NodesWithin, UnitsFit, WorldPart, Book, Each, LeasesLegal, WholeSound, WholeKnown, HoldsOfWorld, BreaksAlone}
use Rattle.world_invariant.proofs.Idle.{idle_stands, idle_agrees, idle_whole, idle_held}
use Rattle.world_invariant.proofs.Parts.{client_parts}
use Rattle.world_invariant.proofs.NewNodes.{file_sound, file_within, makes_file}
use Rattle.world_invariant.proofs.BrokenWorlds.{one_more}
use Rattle.world_invariant.proofs.BrokenBooks.{one_within}
use Rattle.world_invariant.proofs.BrokenStores.{rootless_broken}

-- all parts but one of such a world
module _ (part : WorldPart) (capacity : ℕ) (g : Graph) (fits : Book UnitsFit ≢ part → charge g ≤ capacity) (sound : WholeSound ≢ part → IsSound g nobody) (within : Book NodesWithin ≢ part → AreWithin g) where
  pub idle_others : (q : WorldPart) → q ≢ part → HoldsOfWorld q (idle_world capacity g)
  idle_others (Book NumbersFree) off = λ c i is_c e. absurd (false≢true e)
  idle_others (Book NumbersInRange) off = λ c i is_c e. absurd (false≢true e)
  idle_others (Book NumbersInOneHand) off = λ c d i is_c is_d other e. refl
  idle_others (Book NodesWithin) off = within off
  idle_others (Book UnitsFit) off =
      let nothing : sum_up_to 8 (λ c. 0) ≡ 0 = all_zero 8 (λ c. 0) (λ c. refl) in
      let fit : charge g ≤ capacity = fits off in
      omega (arith, nothing, fit)
  idle_others (Each q) off = λ c is_c. client_parts g (idle_account 0) c (idle_client c 0) (idle_stands g c 0) q
  idle_others LeasesLegal off = λ c d is_c is_d other i e. refl
  idle_others WholeSound off = subst (λ h. IsSound (whole_graph (idle_world capacity g)) h) (sym (idle_held capacity g)) (subst (λ h. IsSound h nobody) (sym (idle_whole capacity g)) (sound off))
  idle_others WholeKnown off = idle_agrees capacity g

-- ---- no root

pub rootless_alone : BreaksAlone WholeSound rootless
rootless_alone = record { broken = rootless_broken; others = idle_others WholeSound (charge one_file) one_file (λ off. omega arith) (λ off. absurd (off refl)) (λ off. one_within) }

-- ---- a file with too many bytes

pub large_alone : (bytes : List ℕ) → MAX_FILE < length bytes → BreaksAlone (Book NodesWithin) (large_file bytes)
large_alone bytes more = record {
  broken = λ within. let few : length bytes ≤ MAX_FILE = (within 2).body in absurd (omega (arith, more, few));
  others = idle_others (Book NodesWithin) (charge (with_bytes bytes)) (with_bytes bytes) (λ off. omega arith) (λ off. file_sound bytes) (λ off. absurd (off refl));
}

-- ---- more than the capacity

pub overfull_alone : BreaksAlone (Book UnitsFit) overfull
overfull_alone = record {
  broken = λ fits.
      let fit : charge (after_effects fresh unpaid_record.effects) + sum_up_to 8 (λ c. 0) ≤ charge fresh = fits in
      let more : charge (after_effects fresh unpaid_record.effects) ≡ charge fresh + 1 = one_more in
      absurd (omega (arith, fit, more));
  others = idle_others (Book UnitsFit) (charge fresh) (after_effects fresh unpaid_record.effects) (λ off. absurd (off refl)) (λ off. subst (λ g. IsSound g nobody) (sym makes_file) (file_sound [])) (λ off. subst AreWithin (sym makes_file) (file_within [] (omega arith)));
}
