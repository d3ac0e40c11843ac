-- Small worlds that break a part of the invariant on what clients know and hold, and no other part.
use Rattle.std.proofs.Common.{◌≡◌, ◌≢◌, inl, inr, ℕ, ◌==◌, ◌||◌, cond, Bool, [], length, true, false, refl, Some, None, Option, ap, sym, ◌∙◌, arith}
use Rattle.std.specs.Prelude.{option_map, ◌&&◌}
use Rattle.std.proofs.lemmas.Bool.{false≢true}
use Rattle.std.proofs.lemmas.Bool.Decides.{eqb_tells}
use Rattle.call_effects.specs.file_graph.Graph.{Graph, fresh, file_bytes}
use Rattle.call_effects.specs.file_graph.Units.{charge}
use Rattle.call_effects.specs.Blocks.{block_at, block_of, range_by}
use Rattle.call_effects.specs.Knowledge.{Agrees, IsPlanned, IsPutBack, part_of}
use Rattle.call_effects.specs.NodeView.{NodeView, view_at}
use Rattle.world_invariant.specs.Logs.{after_clients}
use Rattle.world_invariant.specs.World.{Begun, Client, World, whole_graph, held_descriptors}
use Rattle.world_invariant.specs.Invariant.{IsCoherent}
use Rattle.world_invariant.specs.FormatWorld.{idle_client, idle_account, idle_world}
use Rattle.world_invariant.specs.ClientSteps.{IsBegun, after_reply}
use Rattle.world_invariant.specs.PairWalk.{write_7, two}
use Rattle.world_invariant.specs.Walk.{make_world}
use Rattle.world_invariant.specs.BrokenWorlds.{entered_graph, stale, watch_world, root_alone, block_watching, first_block}
use Rattle.world_invariant.specs.Parts.{ClientPart, CopiesLeased, BlocksLeased, BegunPlanned, BegunHasEffects, HoldsOf, Each, LeasesLegal, WholeKnown, BreaksAlone}
use Rattle.world_invariant.proofs.Alone.{less_others, same_less, quiet_others}
use Rattle.world_invariant.proofs.AloneRecords.{entered_sound, entered_within}
use Rattle.world_invariant.proofs.BrokenCopies.{stale_broken}
use Rattle.world_invariant.proofs.Bytes.{same_call, same_effects}
use Rattle.world_invariant.proofs.Idle.{none_some, idle_holds, idle_stands}
use Rattle.world_invariant.proofs.Moved.{booked_same}
use Rattle.world_invariant.proofs.Parts.{book_parts, client_parts}
use Rattle.world_invariant.proofs.PairWalks.{two_hold}
use Rattle.world_invariant.proofs.Walks.{making_holds}

-- a copy of the root alone, by a client that holds the root
root_copied : (i : ℕ) (copy : Option NodeView) → cond (i == 1) (Some (view_at fresh 1)) None ≡ Some copy → (i == 1 || false) ≡ true
root_copied i copy e = elim (eqb_tells i 1) [
  | inl same ↦ ap (λ b. b || false) same.0
  | inr off ↦ none_some copy (sym (ap (λ b. cond b (Some (view_at fresh 1)) None) off.0) ∙ e)
]

-- ---- a copy that is not as the whole is

abbrev still : World
still = idle_world (charge entered_graph) entered_graph

still_holds : IsCoherent still
still_holds = idle_holds (charge entered_graph) entered_graph (omega arith) entered_sound entered_within

abbrev stale_client : Client
stale_client = stale.clients 2

stale_own : (q : ClientPart) → HoldsOf q entered_graph (idle_account 0) 2 stale_client
stale_own CopiesLeased = root_copied
stale_own BegunPlanned = λ b e. none_some b e
stale_own BlocksLeased = λ i b bytes e. none_some bytes e
stale_own q = client_parts entered_graph (idle_account 0) 2 (idle_client 2 0) (idle_stands entered_graph 2 0) q

pub stale_alone : BreaksAlone WholeKnown stale
stale_alone = record {
  broken = λ is. stale_broken (is 2 refl);
  others = quiet_others WholeKnown still 2 (idle_account 0) stale_client still_holds refl refl refl
      (λ q off. book_parts stale.kernel (booked_same still 2 stale_client still_holds refl) q) (λ q off. stale_own q)
      (λ off d is_d other. (λ i e. absurd (false≢true e), λ i e. absurd (false≢true e)))
      (λ off. absurd (off refl));
}

-- ---- a copy without a lease, or beside another client's

abbrev watcher : (ℕ → Bool) → Client
watcher reads = (watch_world reads).clients 2

watcher_known : (reads : ℕ → Bool) → Agrees (watcher reads).knows (whole_graph make_world) (held_descriptors make_world)
unfolding after_clients
watcher_known reads = record {
  client = refl;
  own = λ n. refl;
  back = whole_graph make_world;
  put_back = λ i. inl refl;
  copies = λ i copy e. elim (eqb_tells i 1) [
    | inl same ↦
        let there : Some (view_at fresh 1) ≡ Some copy = sym (ap (λ b. cond b (Some (view_at fresh 1)) None) same.0) ∙ e in
        let one : view_at fresh 1 ≡ copy = cc in
        ap (view_at (whole_graph make_world)) same.1 ∙ one
    | inr off ↦ none_some copy (sym (ap (λ b. cond b (Some (view_at fresh 1)) None) off.0) ∙ e)
  ];
  blocks = λ i b bytes e. none_some bytes e;
  granted = λ i e. absurd (false≢true e);
}

unleased_own : (q : ClientPart) → Each q ≢ Each CopiesLeased → HoldsOf q make_world.kernel.shared (make_world.kernel.accounts 2) 2 (watcher (λ i. false))
unleased_own CopiesLeased off = absurd (off refl)
unleased_own BegunPlanned off = λ b e. none_some b e
unleased_own q off = client_parts make_world.kernel.shared (make_world.kernel.accounts 2) 2 (make_world.clients 2) (making_holds.stands 2 refl) q

pub unleased_alone : BreaksAlone (Each CopiesLeased) (watch_world (λ i. false))
unleased_alone = record {
  broken = λ is. false≢true (is 2 refl 1 (view_at fresh 1) refl);
  others = less_others (Each CopiesLeased) make_world 2 (make_world.kernel.accounts 2) (watcher (λ i. false)) making_holds refl (same_less make_world 2 (watcher (λ i. false)) refl refl refl refl) unleased_own (λ off. watcher_known (λ i. false));
}

beside_own : (q : ClientPart) → HoldsOf q make_world.kernel.shared (make_world.kernel.accounts 2) 2 (watcher root_alone)
beside_own CopiesLeased = root_copied
beside_own BlocksLeased = λ i b bytes e. none_some bytes e
beside_own BegunPlanned = λ b e. none_some b e
beside_own q = client_parts make_world.kernel.shared (make_world.kernel.accounts 2) 2 (make_world.clients 2) (making_holds.stands 2 refl) q

pub beside_alone : BreaksAlone LeasesLegal (watch_world root_alone)
beside_alone = record {
  broken = λ is. false≢true (sym (is 1 2 refl refl (λ e. false≢true (ap (λ n. n == 1) e)) 1 refl));
  others = quiet_others LeasesLegal make_world 2 (make_world.kernel.accounts 2) (watcher root_alone) making_holds refl refl refl
      (λ q off. book_parts (watch_world root_alone).kernel (booked_same make_world 2 (watcher root_alone) making_holds refl) q) (λ q off. beside_own q)
      (λ off. absurd (off refl))
      (λ off. watcher_known root_alone);
}

-- ---- a block without a lease

abbrev reader : Client
reader = block_watching.clients 2

two_parts : (q : ClientPart) → HoldsOf q two.kernel.shared (two.kernel.accounts 2) 2 (two.clients 2)
two_parts q = client_parts two.kernel.shared (two.kernel.accounts 2) 2 (two.clients 2) (two_hold.stands 2 refl) q

-- its begun call asks for no block
reader_planned : (b : Begun) → reader.begun ≡ Some b → IsPlanned reader.knows b.call b.new b.operation b.change.effects
reader_planned b e = let is = two_parts BegunPlanned b e in record {
  comes = same_call (part_of (two.clients 2).knows) (λ i at count. range_by (first_block i) at count) (two.clients 2).knows.own b.call b.new b.operation b.change.effects is.comes is.effects (two_parts BegunHasEffects b e);
  effects = same_effects (part_of (two.clients 2).knows) (λ i at count. range_by (first_block i) at count) b.new b.operation b.change.effects is.effects;
  number = is.number;
}

reader_own : (q : ClientPart) → Each q ≢ Each BlocksLeased → HoldsOf q two.kernel.shared (two.kernel.accounts 2) 2 reader
reader_own BlocksLeased off = absurd (off refl)
reader_own BegunPlanned off = reader_planned
reader_own q off = two_parts q

empty_file : file_bytes (whole_graph two 2) ≡ Some []
unfolding after_clients
empty_file = refl

known_block : (back : Graph) → IsPutBack (whole_graph two) back → block_at back 2 0 ≡ Some (block_of 0 [])
known_block back put = elim (put 2) [
  | inl same ↦ ap (λ o. option_map (block_of 0) (file_bytes o)) same ∙ ap (option_map (block_of 0)) empty_file
  | inr gone ↦ absurd (let clash : None ≡ Some [] = sym (ap file_bytes gone.nothing) ∙ empty_file in cc)
]

reader_known : Agrees reader.knows (whole_graph two) (held_descriptors two)
reader_known = let is = two_hold.agrees 2 refl in record {
  client = is.client;
  own = is.own;
  back = is.back;
  put_back = is.put_back;
  copies = is.copies;
  blocks = λ i b bytes e. elim (eqb_tells i 2) [
    | inl two ↦ elim (eqb_tells b 0) [
      | inl first ↦
          let there : Some (block_of 0 []) ≡ Some bytes = sym (ap (λ t. cond (t && (b == 0)) (Some (block_of 0 [])) None) two.0 ∙ ap (λ t. cond t (Some (block_of 0 [])) None) first.0) ∙ e in
          ap (λ j. block_at is.back j b) two.1 ∙ ap (block_at is.back 2) first.1 ∙ known_block is.back is.put_back ∙ there
      | inr off ↦ none_some bytes (sym (ap (λ t. cond (t && (b == 0)) (Some (block_of 0 [])) None) two.0 ∙ ap (λ t. cond t (Some (block_of 0 [])) None) off.0) ∙ e)
    ]
    | inr off ↦ none_some bytes (sym (ap (λ t. cond (t && (b == 0)) (Some (block_of 0 [])) None) off.0) ∙ e)
  ];
  granted = is.granted;
}

pub block_alone : BreaksAlone (Each BlocksLeased) block_watching
block_alone = record {
  broken = λ is. false≢true (is 2 refl 2 0 (block_of 0 []) refl);
  others = less_others (Each BlocksLeased) two 2 (two.kernel.accounts 2) reader two_hold refl (same_less two 2 reader refl refl refl refl) reader_own (λ off. reader_known);
}

pub block_begun : IsBegun block_watching 1 write_7
block_begun = record { client = refl; there = refl; known = λ e. absurd (cc) }

one_byte : option_map length (block_at (whole_graph (after_reply block_watching 1 write_7)) 2 0) ≡ Some 1
unfolding after_clients
one_byte = refl

pub block_stale : Agrees ((after_reply block_watching 1 write_7).clients 2).knows (whole_graph (after_reply block_watching 1 write_7)) (held_descriptors (after_reply block_watching 1 write_7)) → ⊥
block_stale agrees = elim (agrees.put_back 2) [
  | inl same ↦ absurd (let clash : Some 1 ≡ Some 0 = sym one_byte ∙ ap (λ o. option_map length (option_map (block_of 0) (file_bytes o))) (sym same) ∙ ap (option_map length) (agrees.blocks 2 0 (block_of 0 []) refl) in cc)
  | inr gone ↦ absurd (let clash : Some 1 ≡ None = sym one_byte ∙ ap (λ o. option_map length (option_map (block_of 0) (file_bytes o))) gone.nothing in cc)
]
