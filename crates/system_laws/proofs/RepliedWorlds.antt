-- A world in which a begun call was answered, and its client knows what it kept in its tables: no more than the record's effects tell, with a copy of the node that was made.
use Rattle.std.proofs.Common.{◌≡◌, inl, inr, ℕ, ◌==◌, cond, Bool, true, false, List, [], ◌∷◌, ◌++◌, Option, Some, None, refl, ap, sym, ◌∙◌, subst}
use Rattle.std.proofs.lemmas.Bool.Decides.{eqb_tells}
use Rattle.posix_calls.specs.Tree.{with_own}
use Rattle.posix_calls.specs.Operations.{makes, own_after}
use Rattle.posix_calls.specs.declared.operation.Operation.{Operation}
use Rattle.posix_calls.specs.declared.operation.Operation.TheVariants.{Tell, NewDir, NewFile, OpenFile, CloseFile, Write, Resize, RemoveDir, AddName, DropName, Move, Exchange}
use Rattle.event_steps.specs.file_graph.Graph.{after_effects, is_among, touches}
use Rattle.event_steps.specs.file_graph.declared.effect.Effect.{Effect}
use Rattle.event_steps.specs.call_effects.Effects.{effects_by, recounted_file, stored_at}
use Rattle.event_steps.specs.call_effects.Knowledge.{Agrees, IsForgetful, Knowledge, knows_after, knows_made}
use Rattle.event_steps.specs.call_effects.NodeView.{NodeView, view_after}
use Rattle.event_steps.specs.client_plan.CallPlan.{change_of, made_by}
use Rattle.event_steps.specs.client_view.AfterRecord.{knows_logged}
use Rattle.event_steps.specs.world_invariant.ClientParts.{IsPending, IsSoundPart}
use Rattle.event_steps.specs.world_invariant.ClientSteps.{IsBegun, after_reply, with_client}
use Rattle.event_steps.specs.world_invariant.Invariant.{IsCoherent}
use Rattle.event_steps.specs.world_invariant.Logs.{is_touched, is_written}
use Rattle.event_steps.specs.world_invariant.World.{Begun, Client, Kernel, World, at, has_lease, held_descriptors, log_of, undigested_records, whole_graph, world_state}
use Rattle.event_steps.specs.world_invariant.World as world
use Rattle.event_steps.proofs.client_view_lemmas.Agreement.{no_less, one_less}
use Rattle.event_steps.proofs.world_invariant_lemmas.Begins.{tree_same}
use Rattle.event_steps.proofs.world_invariant_lemmas.Facts.{writing_holds}
use Rattle.event_steps.proofs.world_invariant_lemmas.Idle.{none_some}
use Rattle.event_steps.proofs.world_invariant_lemmas.Moved.{after_less, before_less, booked_same, both_same, held_moved, quiet}
use Rattle.event_steps.proofs.world_invariant_lemmas.Records.{in_first, rest_written}
use Rattle.event_steps.proofs.world_invariant_lemmas.Replies.{replied_holds, replied_whole}
use Rattle.event_steps.proofs.call_effects_lemmas.KnownAfter.{agrees_after, made_agrees}
use Rattle.event_steps.proofs.call_effects_lemmas.KnownSteps.{planned_answer}
use Rattle.event_steps.proofs.call_effects_lemmas.Served.{less_agrees}
use Rattle.system_laws.proofs.Frame.{at_there, same_kernel}

-- a client's part that is put in the place of another that was put there
at_again : {A : Type 0} (f : ℕ → A) (c : ℕ) (x y : A) → at (at f c x) c y ≡ at f c y
at_again f c x y = λ t d. there d t
  where
    there : (d : ℕ) → at (at f c x) c y d ≡ at f c y d
    there d = elim (d == c) as (λ b. cond b y (cond b x (f d)) ≡ cond b y (f d)) [ true ↦ refl | false ↦ refl ]

pub part_again : (w : World) (c : ℕ) (p q : Client) → with_client (with_client w c p) c q ≡ with_client w c q
part_again w c p q = λ t. record { kernel = kernel t; clients = at_again w.clients c p q t }
  where
    kernel : (with_client (with_client w c p) c q).kernel ≡ (with_client w c q).kernel
    kernel = same_kernel (with_client w c p) c q ∙ same_kernel w c p ∙ sym (same_kernel w c q)

-- what is made is touched
made_touched : (names new : ℕ) (operation : Operation) → makes operation ≡ true → is_among new (touches (effects_by names new operation)) ≡ true
made_touched names new (NewDir at) m = elim (eqb_tells new new) [ inl same ↦ in_first (new == new) (is_among new (at.parent ∷ new ∷ [])) same.0 | inr off ↦ absurd (off.1 refl) ]
made_touched names new (NewFile at number reads writes) m = elim (eqb_tells new new) [ inl same ↦ in_first (new == new) (is_among new (at.parent ∷ new ∷ [])) same.0 | inr off ↦ absurd (off.1 refl) ]
made_touched names new (Tell answer) m = absurd (cc)
made_touched names new (OpenFile i empties number reads writes) m = absurd (cc)
made_touched names new (CloseFile i number) m = absurd (cc)
made_touched names new (Write i at bytes) m = absurd (cc)
made_touched names new (Resize i len) m = absurd (cc)
made_touched names new (RemoveDir at i) m = absurd (cc)
made_touched names new (AddName at i) m = absurd (cc)
made_touched names new (DropName at i) m = absurd (cc)
made_touched names new (Move from to i is_dir replaced) m = absurd (cc)
made_touched names new (Exchange first second i j) m = absurd (cc)

-- what a client knows once its record is kept, by its tables
abbrev pub kept_by : Knowledge → Begun → Knowledge
kept_by k b = knows_logged k b.change.effects (made_by b.new b.operation) (change_of b.new b.operation)

-- its part then
abbrev pub replied_part : Client → Begun → Client
replied_part p b = record p { begun = None; current = p.current ++ (b.change ∷ []); knows = kept_by p.knows b }

module _ (w : World) (c : ℕ) (b : Begun) (h : IsCoherent w) (is : IsBegun w c b) where
  abbrev was : Client
  was = w.clients c

  abbrev es : List Effect
  es = b.change.effects

  abbrev after : Knowledge
  after = knows_after was.knows b.new b.operation es

  abbrev logged : Client
  logged = record was { begun = None; current = was.current ++ (b.change ∷ []); knows = after }

  abbrev kept : Knowledge
  kept = kept_by was.knows b

  stood : IsSoundPart w.kernel.shared (w.kernel.accounts c) c was
  stood = h.stands c is.client

  pending : IsPending was.status was.knows was.pins b
  pending = stood.pending b is.there

  abbrev then : World
  then = after_reply w c b

  then_holds : IsCoherent then
  then_holds = replied_holds w c b h is

  there : then.clients c ≡ logged
  there = at_there w.clients c logged

  stands_then : IsSoundPart then.kernel.shared (then.kernel.accounts c) c logged
  stands_then = subst (λ (p : Client). IsSoundPart then.kernel.shared (then.kernel.accounts c) c p) there (then_holds.stands c is.client)

  new_touched : makes b.operation ≡ true → is_among b.new (touches es) ≡ true
  new_touched m = subst (λ (fs : List Effect). is_among b.new (touches fs) ≡ true) (planned_answer was.knows (whole_graph w) (held_descriptors w) b.call b.new b.operation es h.sound (h.agrees c is.client) pending.planned).1
      (made_touched (stored_at (whole_graph w) (recounted_file b.operation)) b.new b.operation m)

  new_held : makes b.operation ≡ true → has_lease was b.new ≡ true
  new_held m = writing_holds w h c b.new (stood.logged.leased b.new (ap (λ o. is_written b.new (log_of w c ++ world.change_of o)) is.there ∙ rest_written b.new (log_of w c) (b.change ∷ []) (in_first (is_touched b.new b.change) false (new_touched m))))

  -- with copies that agree with the whole, less some of what is known
  module _ (copies : ℕ → Option (Option NodeView)) (less : Knowledge)
      (agrees : Agrees (record after { copies = copies }) (after_effects (whole_graph w) es) (with_own (held_descriptors w) was.knows.client (own_after b.new was.knows.own b.operation)))
      (leased : (i : ℕ) (copy : Option NodeView) → copies i ≡ Some copy → has_lease was i ≡ true)
      (fewer : IsForgetful (record after { copies = copies }) less) where
    abbrev p : Client
    p = record logged { knows = less }

    own_same : less.own ≡ after.own
    own_same = λ t n. fewer.own n t

    agrees_then : Agrees less (whole_graph then) (held_descriptors then)
    agrees_then = both_same (λ g o. Agrees less g o) (replied_whole w c b h is)
        (held_moved w c w.kernel.shared (w.kernel.accounts c) logged is.client ∙ sym (ap (λ (d : ℕ). with_own (held_descriptors w) d (own_after b.new was.knows.own b.operation)) stood.number))
        (less_agrees (record after { copies = copies }) (after_effects (whole_graph w) es) (with_own (held_descriptors w) was.knows.client (own_after b.new was.knows.own b.operation)) agrees less fewer)

    log_same : undigested_records (then.kernel.accounts c) p ≡ log_of then c
    log_same = ap (undigested_records (then.kernel.accounts c)) (sym there)

    opened_same : less.own ≡ (then.clients c).knows.own
    opened_same = own_same ∙ ap (λ (q : Client). q.knows.own) (sym there)

    less_holds : IsCoherent (with_client w c p)
    less_holds =
        let t = stands_then in
        subst IsCoherent (part_again w c logged p)
        (quiet then c then.kernel.shared (then.kernel.accounts c) p then_holds is.client refl log_same opened_same (booked_same then c p then_holds is.client)
        (record {
          number = fewer.client ∙ t.number;
          rests = record { closed = λ e n. fewer.own n ∙ t.rests.closed e n; idle = t.rests.idle };
          marked = t.marked;
          starts = t.starts;
          logged = t.logged;
          units = t.units;
          numbered = record { made = t.numbered.made; once = t.numbered.once; granted = λ i e. t.numbered.granted i (fewer.granted i e); unused = λ i e. t.numbered.unused i (fewer.granted i e) };
          leased = record { copies = λ i copy e. leased i copy (fewer.copies.nodes i copy e); blocks = λ i n bytes e. t.leased.blocks i n bytes (fewer.copies.blocks i n bytes e) };
          pinned = record { opened = λ n o e. t.pinned.opened n o (sym (fewer.own n) ∙ e); booked = t.pinned.booked };
          pending = λ d e. none_some d e;
        })
        (before_less then c p then_holds is.client (λ i e. ap (λ (q : Client). q.writes i) there ∙ e))
        (after_less then c p then_holds is.client (λ i e. ap (λ (q : Client). has_lease q i) (sym there) ∙ e))
        agrees_then)

    less_tree : world_state (with_client w c p) ≡ world_state then
    less_tree = ap world_state (sym (part_again w c logged p)) ∙ tree_same then c then.kernel.shared (then.kernel.accounts c) p log_same refl opened_same

  -- whether a node is made
  record Replied : Type 0 where
    holds : IsCoherent (with_client w c (replied_part was b))
    tree : world_state (with_client w c (replied_part was b)) ≡ world_state (after_reply w c b)

  by_made : (m : Bool) → makes b.operation ≡ m → Replied
  by_made true m =
      let copies = (knows_made was.knows b.new b.operation es).copies in
      let agrees = made_agrees was.knows (whole_graph w) (held_descriptors w) b.call b.new b.operation es h.sound (h.agrees c is.client) pending.planned m in
      let fewer : IsForgetful (knows_made was.knows b.new b.operation es) kept = subst (λ (made : Option ℕ). IsForgetful (knows_made was.knows b.new b.operation es) (knows_logged was.knows es made (change_of b.new b.operation))) (sym (ap (λ x. cond x (Some b.new) None) m)) (one_less was.knows b.new b.operation es b.call pending.planned m) in
      record { holds = less_holds copies kept agrees leased fewer; tree = less_tree copies kept agrees leased fewer }
    where
      leased : (i : ℕ) (copy : Option NodeView) → (knows_made was.knows b.new b.operation es).copies i ≡ Some copy → has_lease was i ≡ true
      leased i copy e = elim (eqb_tells i b.new) [
        | inl same ↦ ap (has_lease was) same.1 ∙ new_held m
        | inr off ↦ stands_then.leased.copies i copy (sym (ap (λ x. cond x (Some (view_after es b.new None)) (after.copies i)) off.0) ∙ e)
      ]
  by_made false m =
      let agrees = agrees_after was.knows (whole_graph w) (held_descriptors w) b.call b.new b.operation es h.sound (h.agrees c is.client) pending.planned in
      let fewer : IsForgetful after kept = subst (λ (made : Option ℕ). IsForgetful after (knows_logged was.knows es made (change_of b.new b.operation))) (sym (ap (λ x. cond x (Some b.new) None) m)) (no_less was.knows b.new b.operation es m) in
      record { holds = less_holds after.copies kept agrees stands_then.leased.copies fewer; tree = less_tree after.copies kept agrees stands_then.leased.copies fewer }

  pub answered_holds : IsCoherent (with_client w c (replied_part was b))
  answered_holds = (by_made (makes b.operation) refl).holds

  pub answered_tree : world_state (with_client w c (replied_part was b)) ≡ world_state (after_reply w c b)
  answered_tree = (by_made (makes b.operation) refl).tree
