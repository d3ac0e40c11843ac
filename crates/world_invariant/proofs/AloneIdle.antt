-- All parts of the invariant but one, of a world in which nobody but client 1 has anything, over any graph.
use Rattle.std.proofs.Common.{◌≡◌, ◌≢◌, inl, ℕ, ◌+◌, ◌<◌, ◌≤◌, true, false, refl, None, ap, sym, ◌∙◌, arith}
use Rattle.std.proofs.lemmas.Bool.{false≢true}
use Rattle.posix_calls.specs.Tree.{sum_up_to}
use Rattle.posix_calls.specs.Operations.{is_client}
use Rattle.posix_calls.proofs.Sums.{all_zero, one_changes, same_if}
use Rattle.call_effects.specs.file_graph.Graph.{Graph}
use Rattle.call_effects.specs.file_graph.Units.{charge}
use Rattle.call_effects.specs.ClosedGraph.{nobody}
use Rattle.call_effects.specs.Wholes.{IsSound}
use Rattle.call_effects.specs.Knowledge.{Knowledge, Agrees}
use Rattle.world_invariant.specs.Limits.{AreWithin}
use Rattle.world_invariant.specs.Logs.{after_records, after_clients}
use Rattle.world_invariant.specs.World.{Account, Client, World, undigested_records, whole_graph, held_descriptors, at, moved_world}
use Rattle.world_invariant.specs.FormatWorld.{knows_nothing, idle_client, idle_account, idle_world}
use Rattle.world_invariant.specs.Parts.{BookPart, NumbersFree, NumbersInRange, NumbersInOneHand, NodesWithin, UnitsFit, HoldsIn, ClientPart, HoldsOf, WorldPart, Book, Each, HoldsOfWorld}
use Rattle.world_invariant.proofs.Alone.{moved_others}
use Rattle.world_invariant.proofs.Idle.{none_some, idle_held, idle_stands}
use Rattle.world_invariant.proofs.Kernels.{each}
use Rattle.world_invariant.proofs.Moved.{both_same, held_same}
use Rattle.world_invariant.proofs.Parts.{client_parts}

-- what knows nothing agrees with every graph
pub nothing_known : (c : ℕ) (g : Graph) → is_client c ≡ true → Agrees (knows_nothing c) g nobody
nothing_known c g is_c = record {
  client = is_c;
  own = λ n. refl;
  back = g;
  put_back = λ i. inl refl;
  copies = λ i copy e. none_some copy e;
  blocks = λ i b bytes e. none_some bytes e;
  granted = λ i e. absurd (false≢true e);
}

-- what has to be shown of client 1's account and part
pub record IsAll (part : WorldPart) (capacity : ℕ) (g : Graph) (a : Account) (p : Client) : Type 0 where
  pub own : (q : ClientPart) → Each q ≢ part → HoldsOf q g a 1 p
  pub closed : p.knows.own ≡ (λ n. None)
  pub free : Book NumbersFree ≢ part → (i : ℕ) → a.numbers i ≡ true → g i ≡ None
  pub range : Book NumbersInRange ≢ part → (i : ℕ) → a.numbers i ≡ true → (1 < i) × (i ≤ 1024)
  pub within : AreWithin g
  pub fits : charge g + a.units ≤ capacity
  pub sound : IsSound (after_records g (undigested_records a p)) nobody
  pub known : Agrees p.knows (after_records g (undigested_records a p)) nobody

module _ (part : WorldPart) (capacity : ℕ) (g : Graph) (a : Account) (p : Client) (is : IsAll part capacity g a p) where
  abbrev one : World
  one = moved_world (idle_world capacity g) 1 g a p

  one_whole : whole_graph one ≡ after_records g (undigested_records a p)
  unfolding after_clients
  one_whole = refl

  one_held : held_descriptors one ≡ nobody
  one_held = held_same (idle_world capacity g) 1 g a p is.closed ∙ idle_held capacity g

  each_account : (Q : ℕ → Account → Type 0) → Q 1 a → ((d : ℕ) → d ≢ 1 → Q d (idle_account 0)) → (d : ℕ) → Q d (at (λ c. idle_account 0) 1 a d)
  each_account Q own others d = each (λ c. idle_account 0) 1 a Q own others d

  one_book : (q : BookPart) → Book q ≢ part → HoldsIn q one.kernel
  one_book NumbersFree off = λ c i is_c. each_account (λ d b. b.numbers i ≡ true → g i ≡ None) (is.free off i) (λ d other e. absurd (false≢true e)) c
  one_book NumbersInRange off = λ c i is_c. each_account (λ d b. b.numbers i ≡ true → (1 < i) × (i ≤ 1024)) (is.range off i) (λ d other e. absurd (false≢true e)) c
  one_book NumbersInOneHand off = λ c d i is_c is_d other e.
      let first : c ≡ 1 = each_account (λ d b. b.numbers i ≡ true → d ≡ 1) (λ e. refl) (λ d other e. absurd (false≢true e)) c e in
      each_account (λ d b. d ≢ 1 → b.numbers i ≡ false) (λ off. absurd (off refl)) (λ d off again. refl) d (λ same. other (same ∙ sym first))
  one_book NodesWithin off = is.within
  one_book UnitsFit off =
      let nothing : sum_up_to 8 (λ c. 0) ≡ 0 = all_zero 8 (λ c. 0) (λ c. refl) in
      let changed : sum_up_to 8 (λ d. (at (λ c. idle_account 0) 1 a d).units) + 0 ≡ sum_up_to 8 (λ c. 0) + a.units = one_changes 8 (λ c. 0) (λ d. (at (λ c. idle_account 0) 1 a d).units) 1 (omega arith) (omega arith) (λ d other. ap (λ (x : Account). x.units) (same_if d 1 a (idle_account 0) other)) in
      let fits : charge g + a.units ≤ capacity = is.fits in
      omega (arith, nothing, changed, fits)

  one_known : (k : Knowledge) → Agrees k (after_records g (undigested_records a p)) nobody → Agrees k (whole_graph one) (held_descriptors one)
  one_known k agrees = both_same (λ s o. Agrees k s o) one_whole one_held agrees

  pub one_others : (q : WorldPart) → q ≢ part → HoldsOfWorld q one
  one_others = moved_others part (idle_world capacity g) 1 g a p refl one_book is.own
      (λ q off d is_d other. client_parts g (idle_account 0) d (idle_client d 0) (idle_stands g d 0) q)
      (λ off c d is_c is_d other i e. refl)
      (λ off d is_d other. (λ i e. refl, λ i e. absurd (false≢true e)))
      (λ off. both_same (λ s o. IsSound s o) one_whole one_held is.sound)
      (λ off. (one_known p.knows is.known, λ d is_d other. one_known (knows_nothing d) (nothing_known d (after_records g (undigested_records a p)) is_d)))
