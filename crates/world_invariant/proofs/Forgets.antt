-- A client forgets some of what it knows.
use Rattle.std.proofs.Common.{◌≡◌, ℕ, List, refl, Some, Option, sym, ◌∙◌}
use Rattle.call_effects.specs.Blocks.{range_by}
use Rattle.call_effects.specs.Knowledge.{Knowledge, part_of}
use Rattle.call_effects.proofs.Served.{less_agrees}
use Rattle.world_invariant.specs.World.{Begun, Client, World, whole_graph, held_descriptors, world_state}
use Rattle.world_invariant.specs.ClientParts.{IsPending, IsSoundPart}
use Rattle.world_invariant.specs.Invariant.{IsCoherent}
use Rattle.world_invariant.specs.LeaseSteps.{CanForget, forget_world, CanForgetBlocks, blocks_forgotten}
use Rattle.world_invariant.proofs.Idle.{none_some}
use Rattle.world_invariant.proofs.Begins.{tree_same}
use Rattle.world_invariant.proofs.Moved.{quiet, booked_same, before_less, after_less}
use Rattle.world_invariant.proofs.Bytes.{same_call, same_effects}

module _ (w : World) (c : ℕ) (less : Knowledge) (h : IsCoherent w) (can : CanForget w c less) where
  abbrev p : Client
  p = record (w.clients c) { knows = less }

  s : IsSoundPart w.kernel.shared (w.kernel.accounts c) c (w.clients c)
  s = h.stands c can.client

  own_same : less.own ≡ (w.clients c).knows.own
  own_same = λ t n. can.fewer.own n t

  pub forgotten_holds : IsCoherent (forget_world w c less)
  forgotten_holds = quiet w c w.kernel.shared (w.kernel.accounts c) p h can.client refl refl own_same (booked_same w c p h can.client)
      (record { number = can.fewer.client ∙ s.number; rests = record { closed = λ e n. can.fewer.own n ∙ s.rests.closed e n; idle = s.rests.idle }; marked = s.marked; starts = s.starts; logged = s.logged; units = s.units; numbered = record { made = s.numbered.made; once = s.numbered.once; granted = λ i e. s.numbered.granted i (can.fewer.granted i e); unused = λ i e. s.numbered.unused i (can.fewer.granted i e) }; leased = record { copies = λ i copy e. s.leased.copies i copy (can.fewer.copies.nodes i copy e); blocks = λ i b bytes e. s.leased.blocks i b bytes (can.fewer.copies.blocks i b bytes e) }; pinned = record { opened = λ n o e. s.pinned.opened n o (sym (can.fewer.own n) ∙ e); booked = s.pinned.booked }; pending = λ b e. none_some b (sym can.idle ∙ e) })
      (before_less w c p h can.client (λ i e. e)) (after_less w c p h can.client (λ i e. e))
      (less_agrees (w.clients c).knows (whole_graph w) (held_descriptors w) (h.agrees c can.client) less can.fewer)

  pub forgotten_tree : world_state (forget_world w c less) ≡ world_state w
  forgotten_tree = tree_same w c w.kernel.shared (w.kernel.accounts c) p refl refl own_same

module _ (w : World) (c : ℕ) (fewer : ℕ → ℕ → Option (List ℕ)) (h : IsCoherent w) (can : CanForgetBlocks w c fewer) where
  abbrev k : Knowledge
  k = (w.clients c).knows

  abbrev left : Knowledge
  left = record k { blocks = fewer }

  abbrev q : Client
  q = record (w.clients c) { knows = left }

  t : IsSoundPart w.kernel.shared (w.kernel.accounts c) c (w.clients c)
  t = h.stands c can.client

  still_pending : (b : Begun) → (w.clients c).begun ≡ Some b → IsPending (w.clients c).status left (w.clients c).pins b
  still_pending b is = let y = t.pending b is in record {
    planned = record {
      comes = same_call (part_of k) (λ i at count. range_by (fewer i) at count) k.own b.call b.new b.operation b.change.effects y.planned.comes y.planned.effects y.some;
      effects = same_effects (part_of k) (λ i at count. range_by (fewer i) at count) b.new b.operation b.change.effects y.planned.effects;
      number = y.planned.number;
    };
    some = y.some;
    pinned = y.pinned;
  }

  pub blocks_forgotten_hold : IsCoherent (blocks_forgotten w c fewer)
  blocks_forgotten_hold = quiet w c w.kernel.shared (w.kernel.accounts c) q h can.client refl refl refl (booked_same w c q h can.client)
      (record { number = t.number; rests = t.rests; marked = t.marked; starts = t.starts; logged = t.logged; units = t.units; numbered = t.numbered; leased = record { copies = t.leased.copies; blocks = λ i b bytes e. t.leased.blocks i b bytes (can.known i b bytes e) }; pinned = t.pinned; pending = still_pending })
      (before_less w c q h can.client (λ i e. e)) (after_less w c q h can.client (λ i e. e))
      (less_agrees k (whole_graph w) (held_descriptors w) (h.agrees c can.client) left (record { client = refl; own = λ n. refl; copies = record { nodes = λ j copy e. e; blocks = can.known }; granted = λ j e. e }))

  pub blocks_forgotten_tree : world_state (blocks_forgotten w c fewer) ≡ world_state w
  blocks_forgotten_tree = tree_same w c w.kernel.shared (w.kernel.accounts c) q refl refl refl
