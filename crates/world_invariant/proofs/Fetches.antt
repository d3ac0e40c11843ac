-- Copies and blocks are fetched: what the client's own records make of the shared node is what the whole has there.
use Rattle.std.proofs.Common.{◌≡◌, inl, inr, ℕ, ◌==◌, cond, Bool, true, false, List, refl, Some, None, Option, Ok, ap, sym, ◌∙◌, subst}
use Rattle.std.specs.Prelude.{◌&&◌, option_map}
use Rattle.std.proofs.lemmas.Bool.{eqb-true}
use Rattle.std.proofs.lemmas.Bool.Decides.{eqb_tells}
use Rattle.posix_calls.specs.Operations.{is_client}
use Rattle.posix_calls.specs.Decide.{decide}
use Rattle.posix_calls.specs.Part.{Known, run_part}
use Rattle.posix_calls.specs.declared.call.Call.{Call}
use Rattle.posix_calls.specs.declared.operation.Operation.{Operation}
use Rattle.call_effects.specs.file_graph.Graph.{FileBody, file_bytes}
use Rattle.call_effects.specs.file_graph.declared.effect.Effect.{Effect}
use Rattle.call_effects.specs.Blocks.{block_of, block_at}
use Rattle.call_effects.specs.NodeView.{NodeView, view_of_node, view_at}
use Rattle.call_effects.specs.Records.{effects_asked}
use Rattle.call_effects.specs.Knowledge.{Knowledge, Agrees, HasCopies, IsPlanned, in_run, part_of, with_copy, with_blocks}
use Rattle.call_effects.proofs.Changes.{fair_of}
use Rattle.call_effects.proofs.KnownMissing.{stays_known}
use Rattle.call_effects.proofs.PutBack.{stands_back}
use Rattle.call_effects.proofs.Served.{copy_agrees, blocks_agree}
use Rattle.world_invariant.specs.World.{Begun, Client, World, has_lease, log_of, whole_graph, held_descriptors, world_state}
use Rattle.world_invariant.specs.ClientParts.{IsPending, IsSoundPart}
use Rattle.world_invariant.specs.Invariant.{IsCoherent}
use Rattle.world_invariant.specs.LeaseSteps.{own_view, CanFetch, after_fetch, CanRead, blocks_fetched}
use Rattle.world_invariant.proofs.Owners.{whole_at}
use Rattle.world_invariant.proofs.Idle.{none_some}
use Rattle.world_invariant.proofs.Facts.{owned}
use Rattle.world_invariant.proofs.Begins.{tree_same}
use Rattle.world_invariant.proofs.Moved.{quiet, booked_same, before_less, after_less}

-- a planned call stays one with more copies
pub still_planned : (w : World) (h : IsCoherent w) (k more : Knowledge) → Agrees k (whole_graph w) (held_descriptors w) → Agrees more (whole_graph w) (held_descriptors w) → HasCopies more k → more.own ≡ k.own → ((i : ℕ) → k.granted i ≡ true → more.granted i ≡ true)
    → (call : Call) (new : ℕ) (operation : Operation) (es : List Effect) → IsPlanned k call new operation es → IsPlanned more call new operation es
still_planned w h k more less agrees all own granted call new operation es plan =
    let fair = fair_of (whole_graph w) (held_descriptors w) h.sound in
    record {
      comes = subst (λ o. run_part (part_of more) (decide o call) ≡ Known (Ok operation)) (sym own) (stays_known k more all (whole_graph w) (held_descriptors w) fair less agrees (decide k.own call) (Ok operation) plan.comes);
      effects = stays_known k more all (whole_graph w) (held_descriptors w) fair less agrees (effects_asked new operation) (Ok es) plan.effects;
      number = λ m. granted new (plan.number m);
    }

module _ (w : World) (c i : ℕ) (h : IsCoherent w) (is_c : is_client c ≡ true) (leased : has_lease (w.clients c) i ≡ true) where
  pub view_is : whole_graph w i ≡ own_view w c i
  view_is = whole_at (log_of w) w.kernel.shared c i (owned w h c i is_c leased)

module _ (w : World) (c i : ℕ) (h : IsCoherent w) (can : CanFetch w c i) where
  abbrev k : Knowledge
  k = (w.clients c).knows

  abbrev more : Knowledge
  more = with_copy k i (view_at (own_view w c) i)

  abbrev p : Client
  p = record (w.clients c) { knows = more }

  s : IsSoundPart w.kernel.shared (w.kernel.accounts c) c (w.clients c)
  s = h.stands c can.client

  seen : whole_graph w i ≡ own_view w c i
  seen = view_is w c i h can.client can.leased

  same_copy : with_copy k i (view_at (whole_graph w) i) ≡ more
  same_copy = ap (λ o. with_copy k i (option_map view_of_node o)) seen

  agrees : Agrees more (whole_graph w) (held_descriptors w)
  agrees = subst (λ x. Agrees x (whole_graph w) (held_descriptors w)) same_copy (copy_agrees k (whole_graph w) (held_descriptors w) (h.agrees c can.client) i (λ none. can.clear (sym seen ∙ none)))

  pending : (b : Begun) → (w.clients c).begun ≡ Some b → IsPending (w.clients c).status more (w.clients c).pins b
  pending b e = elim can.missing [
    | inl idle ↦ none_some b (sym idle ∙ e)
    | inr none ↦ record {
      planned = still_planned w h k more (h.agrees c can.client) agrees (record { nodes = λ j copy there. copied j copy none there; blocks = λ j n bytes there. there }) refl (λ j g. g) b.call b.new b.operation b.change.effects (s.pending b e).planned;
      some = (s.pending b e).some;
      pinned = (s.pending b e).pinned;
    }
  ]
    where
      copied : (j : ℕ) (copy : Option NodeView) → k.copies i ≡ None → k.copies j ≡ Some copy → more.copies j ≡ Some copy
      copied j copy none there = elim (eqb_tells j i) [
        | inl same ↦ none_some copy (sym none ∙ ap k.copies (sym same.1) ∙ there)
        | inr off ↦ ap (λ t. cond t (Some (view_at (own_view w c) i)) (k.copies j)) off.0 ∙ there
      ]

  held_copy : (j : ℕ) (copy : Option NodeView) → more.copies j ≡ Some copy → has_lease (w.clients c) j ≡ true
  held_copy j copy e = elim (eqb_tells j i) [
    | inl same ↦ ap (has_lease (w.clients c)) same.1 ∙ can.leased
    | inr off ↦ s.leased.copies j copy (sym (ap (λ t. cond t (Some (view_at (own_view w c) i)) (k.copies j)) off.0) ∙ e)
  ]

  pub fetched_holds : IsCoherent (after_fetch w c i)
  fetched_holds = quiet w c w.kernel.shared (w.kernel.accounts c) p h can.client refl refl refl (booked_same w c p h can.client)
      (record { number = s.number; rests = s.rests; marked = s.marked; starts = s.starts; logged = s.logged; units = s.units; numbered = s.numbered; leased = record { copies = held_copy; blocks = s.leased.blocks }; pinned = s.pinned; pending = pending })
      (before_less w c p h can.client (λ j e. e)) (after_less w c p h can.client (λ j e. e)) agrees

  pub fetched_tree : world_state (after_fetch w c i) ≡ world_state w
  fetched_tree = tree_same w c w.kernel.shared (w.kernel.accounts c) p refl refl refl

module _ (w : World) (c i first count names : ℕ) (bytes : List ℕ) (h : IsCoherent w) (can : CanRead w c i names bytes) where
  abbrev knew : Knowledge
  knew = (w.clients c).knows

  abbrev knows : Knowledge
  knows = with_blocks knew i first count (λ b. block_of b bytes)

  abbrev reader : Client
  reader = record (w.clients c) { knows = knows }

  stood : IsSoundPart w.kernel.shared (w.kernel.accounts c) c (w.clients c)
  stood = h.stands c can.client

  file_is : whole_graph w i ≡ Some (record { names = names; body = FileBody bytes })
  file_is = view_is w c i h can.client can.leased ∙ can.file

  now_agrees : Agrees knows (whole_graph w) (held_descriptors w)
  now_agrees = blocks_agree knew (whole_graph w) (held_descriptors w) (h.agrees c can.client) i first count names bytes file_is

  -- blocks that the client had are those that it got
  kept_block : (j b : ℕ) (t : Bool) (block : List ℕ) → (j == i && in_run first count b) ≡ t → knew.blocks j b ≡ Some block → cond t (Some (block_of b bytes)) (knew.blocks j b) ≡ Some block
  kept_block j b false block test there = there
  kept_block j b true block test there =
      let known = h.agrees c can.client in
      let same : j ≡ i = eqb-true j i (first_of (j == i) (in_run first count b) test) in
      let back : known.back i ≡ Some (record { names = names; body = FileBody bytes }) = stands_back (whole_graph w) known.back known.put_back i (record { names = names; body = FileBody bytes }) file_is in
      sym (ap (λ o. option_map (block_of b) (file_bytes o)) back) ∙ ap (λ x. block_at known.back x b) (sym same) ∙ known.blocks j b block there
    where
      first_of : (x y : Bool) → (x && y) ≡ true → x ≡ true
      first_of true y e = refl
      first_of false y e = e

  held_block : (j b : ℕ) (block : List ℕ) → knows.blocks j b ≡ Some block → has_lease (w.clients c) j ≡ true
  held_block j b block e = elim (eqb_tells j i) [
    | inl same ↦ ap (has_lease (w.clients c)) same.1 ∙ can.leased
    | inr off ↦ stood.leased.blocks j b block (sym (ap (λ t. cond (t && in_run first count b) (Some (block_of b bytes)) (knew.blocks j b)) off.0) ∙ e)
  ]

  pub blocks_fetched_hold : IsCoherent (blocks_fetched w c i first count bytes)
  blocks_fetched_hold = quiet w c w.kernel.shared (w.kernel.accounts c) reader h can.client refl refl refl (booked_same w c reader h can.client)
      (record {
        number = stood.number;
        rests = stood.rests;
        marked = stood.marked;
        starts = stood.starts;
        logged = stood.logged;
        units = stood.units;
        numbered = stood.numbered;
        leased = record { copies = stood.leased.copies; blocks = held_block };
        pinned = stood.pinned;
        pending = λ b e. let p = stood.pending b e in record {
          planned = still_planned w h knew knows (h.agrees c can.client) now_agrees (record { nodes = λ j copy there. there; blocks = λ j n block there. kept_block j n (j == i && in_run first count n) block refl there }) refl (λ j g. g) b.call b.new b.operation b.change.effects p.planned;
          some = p.some;
          pinned = p.pinned;
        };
      })
      (before_less w c reader h can.client (λ j e. e)) (after_less w c reader h can.client (λ j e. e)) now_agrees

  pub blocks_fetched_tree : world_state (blocks_fetched w c i first count bytes) ≡ world_state w
  blocks_fetched_tree = tree_same w c w.kernel.shared (w.kernel.accounts c) reader refl refl refl
