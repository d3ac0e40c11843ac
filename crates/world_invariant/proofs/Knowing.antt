-- What clients know, hold and have open after a call of one of them.
use Rattle.std.proofs.Common.{◌≡◌, ◌≢◌, ◌⊎◌, inl, inr, ℕ, ◌==◌, ◌||◌, cond, Bool, true, false, List, [], ◌∷◌, ◌++◌, refl, Some, None, Option, ap, sym, ◌∙◌, subst}
use Rattle.std.specs.Prelude.{◌&&◌, not, is_some}
use Rattle.std.proofs.lemmas.Bool.{false≢true}
use Rattle.std.proofs.lemmas.Bool.Decides.{eqb_tells}
use Rattle.posix_calls.specs.Tree.{Own, Descriptors, with_own}
use Rattle.posix_calls.specs.Operations.{is_client, makes, own_after}
use Rattle.posix_calls.specs.Kinds.{opens}
use Rattle.posix_calls.specs.declared.call.Call.{Call}
use Rattle.posix_calls.specs.declared.descriptor.Descriptor.{Descriptor}
use Rattle.posix_calls.specs.declared.operation.Operation.{Operation}
use Rattle.posix_calls.specs.declared.operation.Operation.TheVariants.{Tell, NewDir, NewFile, OpenFile, CloseFile, Write, Resize, RemoveDir, AddName, DropName, Move, Exchange}
use Rattle.posix_calls.proofs.Sums.{same_if}
use Rattle.call_effects.specs.file_graph.Graph.{Graph, after_effects, is_among, touches, subjects}
use Rattle.std.proofs.lemmas.List.Concat.{flat_map-cons}
use Rattle.call_effects.specs.file_graph.declared.effect.Effect.{Effect}
use Rattle.call_effects.specs.Blocks.{block_after, block_acted}
use Rattle.call_effects.specs.Wholes.{IsSound}
use Rattle.call_effects.specs.Knowledge.{Knowledge, Agrees, IsPlanned, knows_after}
use Rattle.call_effects.proofs.KnownCopies.{some_after}
use Rattle.call_effects.proofs.KnownSteps.{planned_sound}
use Rattle.call_effects.proofs.KnownAfter.{agrees_after, other_agrees}
use Rattle.world_invariant.specs.World.{World, has_lease, whole_graph, held_descriptors}
use Rattle.world_invariant.specs.ClientParts.{IsLeased, IsPinned, OpensPinned}
use Rattle.world_invariant.specs.Invariant.{IsCoherent}
use Rattle.world_invariant.proofs.Records.{either, both, or_first, or_rest, or_joined}
use Rattle.world_invariant.proofs.Idle.{none_some}
use Rattle.world_invariant.proofs.Facts.{writing_holds, granted_alone}

-- ---- blocks that no effect touches

among_append : (i : ℕ) (is js : List ℕ) → is_among i (is ++ js) ≡ (is_among i is || is_among i js)
among_append i [] js = refl
among_append i (j ∷ is) js = ap (λ b. j == i || b) (among_append i is js) ∙ or_joined (j == i) (is_among i is) (is_among i js)

pub block_stays : (es : List Effect) (i b : ℕ) (block : Option (List ℕ)) → is_among i (touches es) ≡ false → block_after es i b block ≡ block
block_stays [] i b block off = refl
block_stays (e ∷ es) i b block off =
    let neither : (is_among i (subjects e) || is_among i (touches es)) ≡ false = sym (among_append i (subjects e) (touches es)) ∙ ap (is_among i) (sym (flat_map-cons subjects e es)) ∙ off in
    ap (λ t. block_after es i b (cond t (block_acted e b block) block)) (or_first (is_among i (subjects e)) (is_among i (touches es)) neither)
    ∙ block_stays es i b block (or_rest (is_among i (subjects e)) (is_among i (touches es)) neither)

-- what is known is something
is_there : {A : Type 0} (o : Option A) → is_some o ≡ true → (x : A) × (o ≡ Some x)
is_there None some = absurd (false≢true some)
is_there (Some x) some = (x, refl)

-- ---- descriptors

-- what is open after an operation was open, or is what it opens
pub opened_after : (new n : ℕ) (own : Own) (operation : Operation) (o : Descriptor) → own_after new own operation n ≡ Some o → (own n ≡ Some o) ⊎ ((what : ℕ × Descriptor) × (opens new operation ≡ Some what) × (what.1 ≡ o))
opened_after new n own (NewFile at number reads writes) o e = elim (eqb_tells n number) [
  | inl same ↦ let d : Descriptor = record { inode = new; reads = reads; writes = writes } in inr ((number, d), refl, (let is : Some d ≡ Some o = sym (ap (λ b. cond b (Some d) (own n)) same.0) ∙ e in cc))
  | inr off ↦ inl (sym (same_if n number (Some (record { inode = new; reads = reads; writes = writes })) (own n) off.1) ∙ e)
]
opened_after new n own (OpenFile i empties number reads writes) o e = elim (eqb_tells n number) [
  | inl same ↦ let d : Descriptor = record { inode = i; reads = reads; writes = writes } in inr ((number, d), refl, (let is : Some d ≡ Some o = sym (ap (λ b. cond b (Some d) (own n)) same.0) ∙ e in cc))
  | inr off ↦ inl (sym (same_if n number (Some (record { inode = i; reads = reads; writes = writes })) (own n) off.1) ∙ e)
]
opened_after new n own (CloseFile i number) o e = elim (eqb_tells n number) [
  | inl same ↦ none_some o (sym (ap (λ b. cond b None (own n)) same.0) ∙ e)
  | inr off ↦ inl (sym (same_if n number None (own n) off.1) ∙ e)
]
opened_after new n own (Tell answer) o e = inl e
opened_after new n own (NewDir at) o e = inl e
opened_after new n own (Write i at bytes) o e = inl e
opened_after new n own (Resize i len) o e = inl e
opened_after new n own (RemoveDir at i) o e = inl e
opened_after new n own (AddName at i) o e = inl e
opened_after new n own (DropName at i) o e = inl e
opened_after new n own (Move from to i is_dir replaced) o e = inl e
opened_after new n own (Exchange first second i j) o e = inl e

pub pinned_after : (book pins : ℕ → Bool) (own : Own) (new : ℕ) (operation : Operation) → IsPinned book pins own → OpensPinned pins new operation → IsPinned book pins (own_after new own operation)
pinned_after book pins own new operation pinned opening = record {
  opened = λ n o e. elim (opened_after new n own operation o e) [
    | inl was ↦ pinned.opened n o was
    | inr is ↦ subst (λ (d : Descriptor). pins d.inode ≡ true) is.2 (opening is.0 is.1)
  ];
  booked = pinned.booked;
}

and_left : (a b : Bool) → (a && b) ≡ true → a ≡ true
and_left true b e = refl
and_left false b e = e

and_right : (a b : Bool) → (a && b) ≡ true → b ≡ true
and_right true b e = e
and_right false b e = absurd (false≢true e)

-- a number that is left was granted, and is not the one that was used
pub granted_before : (k : Knowledge) (new i : ℕ) (operation : Operation) (es : List Effect) → (knows_after k new operation es).granted i ≡ true → k.granted i ≡ true
granted_before k new i operation es e = and_left (k.granted i) (not (makes operation && i == new)) e

pub granted_apart : (k : Knowledge) (new i : ℕ) (operation : Operation) (es : List Effect) → (knows_after k new operation es).granted i ≡ true → makes operation ≡ true → i ≡ new → ⊥
granted_apart k new i operation es e m same =
    let used : (makes operation && i == new) ≡ true = ap (λ b. b && i == new) m ∙ (ap (λ x. i == x) (sym same) ∙ there i) in
    both (not (makes operation && i == new)) (and_right (k.granted i) (not (makes operation && i == new)) e) (ap not used)
  where
    there : (i : ℕ) → (i == i) ≡ true
    there i = elim (eqb_tells i i) [ inl same ↦ same.0 | inr off ↦ absurd (off.1 refl) ]

-- ---- the whole after a planned call

module _ (w : World) (c : ℕ) (h : IsCoherent w) (is_c : is_client c ≡ true) (call : Call) (new : ℕ) (operation : Operation) (es : List Effect)
    (planned : IsPlanned (w.clients c).knows call new operation es) (leased : (i : ℕ) → is_among i (touches es) ≡ true → (w.clients c).writes i ≡ true) where
  abbrev k : Knowledge
  k = (w.clients c).knows

  abbrev after : Graph
  after = after_effects (whole_graph w) es

  abbrev opened : Descriptors
  opened = with_own (held_descriptors w) c (own_after new k.own operation)

  numbered : k.client ≡ c
  numbered = (h.stands c is_c).number

  pub planned_sound_after : IsSound after opened
  planned_sound_after = subst (λ d. IsSound after (with_own (held_descriptors w) d (own_after new k.own operation))) numbered (planned_sound k (whole_graph w) (held_descriptors w) h.sound (h.agrees c is_c) call new operation es planned)

  pub own_agrees_after : Agrees (knows_after k new operation es) after opened
  own_agrees_after = subst (λ d. Agrees (knows_after k new operation es) after (with_own (held_descriptors w) d (own_after new k.own operation))) numbered (agrees_after k (whole_graph w) (held_descriptors w) call new operation es h.sound (h.agrees c is_c) planned)

  -- what another holds is not touched
  beside : (d i : ℕ) → is_client d ≡ true → d ≢ c → has_lease (w.clients d) i ≡ true → is_among i (touches es) ≡ false
  beside d i is_d other has = elim (either (is_among i (touches es))) [
    | inl there ↦ both (has_lease (w.clients d) i) has (h.beside c d is_c is_d other i (leased i there))
    | inr clean ↦ clean
  ]

  pub others_agree_after : (d : ℕ) → is_client d ≡ true → d ≢ c → Agrees (w.clients d).knows after opened
  others_agree_after d is_d other =
      subst (λ e. Agrees (w.clients d).knows after (with_own (held_descriptors w) e (own_after new k.own operation))) numbered
      (other_agrees k (whole_graph w) (held_descriptors w) call new operation es h.sound (h.agrees c is_c) planned (w.clients d).knows (h.agrees d is_d)
      (λ same. other (sym (h.stands d is_d).number ∙ same ∙ numbered))
      (λ i copy e. beside d i is_d other ((h.stands d is_d).leased.copies i copy e))
      (λ i b bytes e. beside d i is_d other ((h.stands d is_d).leased.blocks i b bytes e))
      (λ m. granted_alone w h c d new is_c is_d other (planned.number m)))

  pub leased_after : IsLeased (has_lease (w.clients c)) (knows_after k new operation es)
  leased_after = record {
    copies = λ i copy e. let was = is_there (k.copies i) (sym (some_after es k.copies i) ∙ ap is_some e) in (h.stands c is_c).leased.copies i was.0 was.1;
    blocks = λ i b bytes e. elim (either (is_among i (touches es))) [
      | inl there ↦ writing_holds w h c i (leased i there)
      | inr clean ↦ (h.stands c is_c).leased.blocks i b bytes (sym (block_stays es i b (k.blocks i b) clean) ∙ e)
    ];
  }
