-- What goes wrong in small worlds that break one part of the invariant each: a step of such a world.
use Rattle.std.proofs.Common.{◌≡◌, ◌≢◌, inl, inr, ℕ, ◌+◌, ◌≤◌, ◌==◌, ◌||◌, Bool, true, false, [], ◌∷◌, refl, Some, None, Option, ap, sym, ◌∙◌, arith}
use Rattle.std.specs.Prelude.{is_some}
use Rattle.std.specs.FinMap as fin
use Rattle.std.proofs.lemmas.Bool.{false≢true}
use Rattle.std.proofs.lemmas.Bool.Decides.{eqb_tells}
use Rattle.posix_calls.specs.Tree.{State, sum_up_to}
use Rattle.posix_calls.proofs.Sums.{one_changes}
use Rattle.call_effects.specs.file_graph.Graph.{Graph, fresh, cost, after_effects, touches, is_among}
use Rattle.call_effects.specs.file_graph.Units.{charge, growth}
use Rattle.call_effects.proofs.file_graph_lemmas.Touches.{untouched, charge_rises}
use Rattle.call_effects.specs.log_record.declared.format.Record.{Record}
use Rattle.call_effects.specs.Knowledge.{Agrees}
use Rattle.call_effects.specs.NodeView.{NodeView, FileView, DirView, view_at}
use Rattle.call_effects.specs.Wholes.{IsSound}
use Rattle.world_invariant.specs.Logs.{after_clients, ArePaid}
use Rattle.world_invariant.specs.World.{Kernel, all_of, records_of, whole_graph, held_descriptors, world_state}
use Rattle.world_invariant.specs.ClientParts.{IsBooked}
use Rattle.world_invariant.specs.ClientSteps.{IsBegun, after_reply}
use Rattle.world_invariant.specs.RegionSteps.{CanSeal, region_sealed}
use Rattle.world_invariant.specs.KernelSteps.{CanDigest, records_digested}
use Rattle.world_invariant.specs.Walk.{mkdir_a, made_world}
use Rattle.world_invariant.specs.BrokenWorlds.{make_record, marked_past, granted_twice, watch_world, half, misbegun, unpaid_record, overdrawn}
use Rattle.world_invariant.proofs.Moved.{each_client}

-- ---- a mark past its records

pub past_same : (c : ℕ) → all_of marked_past c ≡ all_of made_world c
past_same = each_client made_world 1 made_world.kernel.shared (record (made_world.kernel.accounts 1) { mark = 1 }) (made_world.clients 1) (λ d b q. records_of b q ≡ all_of made_world d) refl (λ d other. refl)

pub past_sealed : CanSeal marked_past 1
past_sealed = record { client = refl; idle = refl; some = λ e. absurd (cc); back = λ e. absurd (cc) }

pub past_lost : world_state (region_sealed marked_past 1) ≢ world_state marked_past
unfolding after_clients
past_lost e = false≢true (ap (λ (s : State). is_some (s.tree 2)) e)

-- ---- a number in two hands

pub twice_begun : IsBegun granted_twice 1 mkdir_a
twice_begun = record { client = refl; there = refl; known = λ e. absurd (cc) }

pub twice_taken : Agrees ((after_reply granted_twice 1 mkdir_a).clients 2).knows (whole_graph (after_reply granted_twice 1 mkdir_a)) (held_descriptors (after_reply granted_twice 1 mkdir_a)) → ⊥
unfolding after_clients
twice_taken agrees = let free = agrees.granted 2 refl in false≢true (sym (ap is_some free.none))

-- ---- a stale copy

pub watching_begun : (reads : ℕ → Bool) → IsBegun (watch_world reads) 1 mkdir_a
watching_begun reads = record { client = refl; there = refl; known = λ e. absurd (cc) }

-- whether a directory has the entry `a`
pub has_a : Option NodeView → Bool
has_a None = false
has_a (Some (FileView names size)) = false
has_a (Some (DirView names entries)) = is_some (fin.get entries (97 ∷ []))

pub none_before : has_a (view_at fresh 1) ≡ false
unfolding has_a
none_before = simp fin.gets refl

pub one_after : has_a (view_at (after_effects fresh mkdir_a.change.effects) 1) ≡ true
unfolding has_a
one_after = simp fin.gets refl

-- the same node has the same view
pub view_of_same : (g back : Graph) → back 1 ≡ g 1 → view_at back 1 ≡ view_at g 1
view_of_same g back same = ap (λ o. view_at (λ i. o) 1) same

pub watching_stale : (reads : ℕ → Bool) → Agrees ((after_reply (watch_world reads) 1 mkdir_a).clients 2).knows (whole_graph (after_reply (watch_world reads) 1 mkdir_a)) (held_descriptors (after_reply (watch_world reads) 1 mkdir_a)) → ⊥
unfolding after_clients
watching_stale reads agrees = elim (agrees.put_back 1) [
  | inl same ↦
      let copied = agrees.copies 1 (view_at fresh 1) refl in
      let now : view_at (after_effects fresh mkdir_a.change.effects) 1 ≡ view_at fresh 1 = sym (view_of_same (replied_graph reads) agrees.back same) ∙ copied in
      false≢true (sym none_before ∙ sym (ap has_a now) ∙ one_after)
  | inr gone ↦ false≢true (sym (ap is_some gone.nothing))
]
  where
    replied_graph : (ℕ → Bool) → Graph
    replied_graph reads = whole_graph (after_reply (watch_world reads) 1 mkdir_a)

-- all else holds of it

-- ---- a record of no call

pub half_begun : IsBegun misbegun 1 half
half_begun = record { client = refl; there = refl; known = λ e. absurd (cc) }

pub half_unsound : IsSound (whole_graph (after_reply misbegun 1 half)) (held_descriptors (after_reply misbegun 1 half)) → ⊥
unfolding after_clients
half_unsound sound = false≢true (ap (λ n. n == 1) (sound.counts.one_name 2 refl))

-- ---- a digest that passes the capacity

off_two : (j : ℕ) → j ≢ 2 → is_among j (touches unpaid_record.effects) ≡ false
off_two j other = elim (eqb_tells 2 j) [ inl same ↦ absurd (other (sym same.1)) | inr off ↦ ap (λ b. b || false) off.0 ]

pub one_more : charge (after_effects fresh unpaid_record.effects) ≡ charge fresh + 1
unfolding charge
one_more =
    let changed : sum_up_to 1024 (λ i. cost (after_effects fresh unpaid_record.effects i)) + 0 ≡ sum_up_to 1024 (λ i. cost (fresh i)) + 1 =
    one_changes 1024 (λ i. cost (fresh i)) (λ i. cost (after_effects fresh unpaid_record.effects i)) 2 (omega arith) (omega arith) (λ j other. ap cost (untouched fresh unpaid_record.effects j (off_two j other))) in
    omega (arith, changed)

pub unpaid_broken : ArePaid fresh (unpaid_record ∷ []) → ⊥
unpaid_broken paid =
    let none : growth fresh unpaid_record.effects ≤ 0 = paid.0 in
    let risen : charge (after_effects fresh unpaid_record.effects) ≤ charge fresh + growth fresh unpaid_record.effects = charge_rises fresh unpaid_record.effects in
    let more : charge (after_effects fresh unpaid_record.effects) ≡ charge fresh + 1 = one_more in
    absurd (omega (arith, none, risen, more))

pub over_digests : (r : Record) → CanDigest (overdrawn r) 1 (r ∷ []) []
over_digests r = record { client = refl; some = λ e. absurd (cc); split = refl }

-- what is so of an account with the number 2 and of one without a number

pub too_much : (k : Kernel) → k.capacity ≡ charge fresh → charge k.shared ≡ charge fresh + 1 → IsBooked k → ⊥
too_much k capacity more is =
    let fits : charge k.shared + sum_up_to 8 (λ c. (k.accounts c).units) ≤ k.capacity = is.fits in
    absurd (omega (arith, fits, capacity, more))

pub unpaid_passed : IsBooked (records_digested (overdrawn unpaid_record) 1 (unpaid_record ∷ [])).kernel → ⊥
unpaid_passed = too_much (records_digested (overdrawn unpaid_record) 1 (unpaid_record ∷ [])).kernel refl one_more

pub unbooked_passed : IsBooked (records_digested (overdrawn make_record) 1 (make_record ∷ [])).kernel → ⊥
unbooked_passed = too_much (records_digested (overdrawn make_record) 1 (make_record ∷ [])).kernel refl one_more
