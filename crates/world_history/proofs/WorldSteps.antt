-- Steps of the world that are made of several of its own.
use Rattle.std.proofs.Common.{◌≡◌, ◌≢◌, inl, inr, ℕ, ◌+◌, ◌-◌, ◌≤◌, ◌==◌, cond, Bool, true, false, List, [], ◌∷◌, ◌++◌, length, Option, Some, None, refl, ap, sym, ◌∙◌, subst, arith, eq-eqb}
use Rattle.std.proofs.lemmas.Bool.Decides.{eqb_tells}
use Rattle.posix_calls.specs.Tree.{with_own}
use Rattle.posix_calls.specs.Operations.{is_client, makes, own_after}
use Rattle.posix_calls.specs.declared.operation.Operation.{Operation}
use Rattle.posix_calls.specs.declared.operation.Operation.TheVariants.{Tell, NewDir, NewFile, OpenFile, CloseFile, Write, Resize, RemoveDir, AddName, DropName, Move, Exchange}
use Rattle.posix_calls.proofs.Sums.{there_if}
use Rattle.world_invariant.specs.file_graph.Graph.{is_among, touches}
use Rattle.world_invariant.specs.file_graph.declared.effect.Effect.{Effect}
use Rattle.world_invariant.specs.call_effects.Effects.{effects_by, recounted_file, stored_at}
use Rattle.world_invariant.specs.call_effects.Knowledge.{Agrees, Knowledge, knows_after, knows_made, with_copy}
use Rattle.world_invariant.specs.call_effects.NodeView.{NodeView, view_after, view_at}
use Rattle.world_invariant.specs.ClientParts.{IsPending, IsSoundPart}
use Rattle.world_invariant.specs.ClientSteps.{IsBegun, after_reply, given_up, with_client}
use Rattle.world_invariant.specs.Burial.{IsDying}
use Rattle.world_invariant.specs.Halves.{units_sent}
use Rattle.world_invariant.specs.Invariant.{IsCoherent}
use Rattle.world_invariant.specs.LeaseSteps.{CanFetch, CanForgetBlocks, after_fetch, blocks_forgotten, own_view}
use Rattle.world_invariant.specs.Logs.{after_records, is_touched, is_written}
use Rattle.world_invariant.specs.World.{Account, Away, Begun, Client, Dead, Failed, Kernel, Status, World, at, change_of, has_lease, held_descriptors, log_of, undigested_records, whole_graph, world_state}
use Rattle.world_invariant.proofs.Begins.{given_up_holds, given_up_tree, tree_same}
use Rattle.world_invariant.proofs.Facts.{writing_holds}
use Rattle.world_invariant.proofs.Fetches.{fetched_holds, fetched_tree}
use Rattle.world_invariant.proofs.Forgets.{blocks_forgotten_hold, blocks_forgotten_tree}
use Rattle.world_invariant.proofs.Halves.{units_sent_hold, units_sent_tree}
use Rattle.world_invariant.proofs.Idle.{none_some}
use Rattle.world_invariant.proofs.Moved.{after_less, at_same, before_less, booked_same, both_same, held_moved, quiet}
use Rattle.world_invariant.proofs.Records.{in_first, rest_written}
use Rattle.world_invariant.proofs.Replies.{replied_holds, replied_whole}
use Rattle.world_invariant.proofs.call_effects_lemmas.KnownAfter.{made_agrees}
use Rattle.world_invariant.proofs.call_effects_lemmas.KnownSteps.{planned_answer}
use Rattle.world_history.specs.Conditions.{CanCopy}
use Rattle.world_history.specs.Moves.{knows_replied, replied, without_blocks}

-- ---- a part that is put in the place of another that was put there

pub at_there : {A : Type 0} (f : ℕ → A) (c : ℕ) (x : A) → at f c x c ≡ x
at_there f c x = there_if c x (f c)

pub at_else : {A : Type 0} (f : ℕ → A) (c : ℕ) (x : A) (d : ℕ) → d ≢ c → at f c x d ≡ f d
at_else f c x d off = elim (eqb_tells d c) [
  | inl same ↦ absurd (off same.1)
  | inr other ↦ ap (λ b. cond b x (f d)) other.0
]

pub at_again : {A : Type 0} (f : ℕ → A) (c : ℕ) (x y : A) → at (at f c x) c y ≡ at f c y
at_again f c x y = λ t d. there d t
  where
    there : (d : ℕ) → at (at f c x) c y d ≡ at f c y d
    there d = elim (d == c) as (λ b. cond b y (cond b x (f d)) ≡ cond b y (f d)) [ true ↦ refl | false ↦ refl ]

-- the kernel of the world with another part of a client is what it was
pub same_kernel : (w : World) (c : ℕ) (p : Client) → (with_client w c p).kernel ≡ w.kernel
same_kernel w c p = ap (λ (accounts : ℕ → Account). record { shared = w.kernel.shared; capacity = w.kernel.capacity; accounts = accounts }) (at_same w.kernel.accounts c)

pub part_again : (w : World) (c : ℕ) (p q : Client) → with_client (with_client w c p) c q ≡ with_client w c q
part_again w c p q = λ t. record { kernel = kernel t; clients = at_again w.clients c p q t }
  where
    kernel : (with_client (with_client w c p) c q).kernel ≡ (with_client w c q).kernel
    kernel = same_kernel (with_client w c p) c q ∙ same_kernel w c p ∙ sym (same_kernel w c q)

-- ---- a copy is fetched, and the copies of blocks are let go

abbrev alone : Kernel → Client → World
alone k p = record { kernel = k; clients = λ d. p }

module _ (w : World) (c i : ℕ) (h : IsCoherent w) (can : CanCopy w c i) where
  abbrev reader : Client
  reader = w.clients c

  abbrev less : Client
  less = record reader { knows = without_blocks reader.knows i }

  fewer : (j b : ℕ) (bytes : List ℕ) → (without_blocks reader.knows i).blocks j b ≡ Some bytes → reader.knows.blocks j b ≡ Some bytes
  fewer j b bytes e = elim (eqb_tells j i) [
    | inl same ↦ none_some bytes (sym (ap (λ x. cond x None (reader.knows.blocks j b)) same.0) ∙ e)
    | inr other ↦ sym (ap (λ x. cond x None (reader.knows.blocks j b)) other.0) ∙ e
  ]

  abbrev let_go : World
  let_go = blocks_forgotten w c (without_blocks reader.knows i).blocks

  may_let_go : CanForgetBlocks w c (without_blocks reader.knows i).blocks
  may_let_go = record { client = can.client; known = fewer }

  let_go_holds : IsCoherent let_go
  let_go_holds = blocks_forgotten_hold w c (without_blocks reader.knows i).blocks h may_let_go

  by_itself : CanFetch (alone w.kernel less) c i
  by_itself = record { client = can.client; leased = can.leased; missing = can.missing; clear = λ none b. ap (λ x. cond x None (reader.knows.blocks i b)) (eq-eqb i i refl) }

  still_by_itself : CanFetch (alone let_go.kernel (let_go.clients c)) c i
  still_by_itself = subst (λ (k : Kernel). CanFetch (alone k (let_go.clients c)) c i) (sym (same_kernel w c less)) (subst (λ (p : Client). CanFetch (alone w.kernel p) c i) (sym (at_there w.clients c less)) by_itself)

  may_fetch : CanFetch let_go c i
  may_fetch = let x = still_by_itself in record { client = x.client; leased = x.leased; missing = x.missing; clear = x.clear }

  abbrev pub copied : Client
  copied = record reader { knows = with_copy (without_blocks reader.knows i) i (view_at (own_view w c) i) }

  abbrev made : Kernel → Client → Client
  made k p = record p { knows = with_copy p.knows i (view_at (after_records k.shared (undigested_records (k.accounts c) p)) i) }

  is_copied : after_fetch let_go c i ≡ with_client w c copied
  is_copied =
      ap (λ (p : Client). with_client let_go c (made let_go.kernel p)) (at_there w.clients c less)
      ∙ ap (λ (k : Kernel). with_client let_go c (made k less)) (same_kernel w c less)
      ∙ part_again w c less copied

  pub copied_holds : IsCoherent (with_client w c copied)
  copied_holds = subst IsCoherent is_copied (fetched_holds let_go c i let_go_holds may_fetch)

  pub copied_tree : world_state (with_client w c copied) ≡ world_state w
  copied_tree = ap world_state (sym is_copied) ∙ fetched_tree let_go c i let_go_holds may_fetch ∙ blocks_forgotten_tree w c (without_blocks reader.knows i).blocks h may_let_go

-- ---- a begun call is answered, and its client has a copy of the node that it made

-- what is made is touched
made_touched : (names new : ℕ) (operation : Operation) → makes operation ≡ true → is_among new (touches (effects_by names new operation)) ≡ true
made_touched names new (NewDir at) m = elim (eqb_tells new new) [ inl same ↦ in_first (new == new) (is_among new (at.parent ∷ new ∷ [])) same.0 | inr off ↦ absurd (off.1 refl) ]
made_touched names new (NewFile at number reads writes) m = elim (eqb_tells new new) [ inl same ↦ in_first (new == new) (is_among new (at.parent ∷ new ∷ [])) same.0 | inr off ↦ absurd (off.1 refl) ]
made_touched names new (Tell answer) m = absurd (cc)
made_touched names new (OpenFile i empties number reads writes) m = absurd (cc)
made_touched names new (CloseFile i number) m = absurd (cc)
made_touched names new (Write i at bytes) m = absurd (cc)
made_touched names new (Resize i len) m = absurd (cc)
made_touched names new (RemoveDir at i) m = absurd (cc)
made_touched names new (AddName at i) m = absurd (cc)
made_touched names new (DropName at i) m = absurd (cc)
made_touched names new (Move from to i is_dir replaced) m = absurd (cc)
made_touched names new (Exchange first second i j) m = absurd (cc)

module _ (w : World) (c : ℕ) (b : Begun) (h : IsCoherent w) (is : IsBegun w c b) where
  abbrev was : Client
  was = w.clients c

  abbrev es : List Effect
  es = b.change.effects

  abbrev after : Knowledge
  after = knows_after was.knows b.new b.operation es

  abbrev with_made : Knowledge
  with_made = knows_made was.knows b.new b.operation es

  abbrev logged : Knowledge → Client
  logged k = record was { begun = None; current = was.current ++ (b.change ∷ []); knows = k }

  stood : IsSoundPart w.kernel.shared (w.kernel.accounts c) c was
  stood = h.stands c is.client

  pending : IsPending was.status was.knows was.pins b
  pending = stood.pending b is.there

  abbrev then : World
  then = after_reply w c b

  then_holds : IsCoherent then
  then_holds = replied_holds w c b h is

  there : then.clients c ≡ logged after
  there = at_there w.clients c (logged after)

  stands_then : IsSoundPart then.kernel.shared (then.kernel.accounts c) c (logged after)
  stands_then = subst (λ (p : Client). IsSoundPart then.kernel.shared (then.kernel.accounts c) c p) there (then_holds.stands c is.client)

  module _ (m : makes b.operation ≡ true) where
    new_touched : is_among b.new (touches es) ≡ true
    new_touched = subst (λ (fs : List Effect). is_among b.new (touches fs) ≡ true) (planned_answer was.knows (whole_graph w) (held_descriptors w) b.call b.new b.operation es h.sound (h.agrees c is.client) pending.planned).1
        (made_touched (stored_at (whole_graph w) (recounted_file b.operation)) b.new b.operation m)

    new_held : has_lease was b.new ≡ true
    new_held = writing_holds w h c b.new (stood.logged.leased b.new (ap (λ o. is_written b.new (log_of w c ++ change_of o)) is.there ∙ rest_written b.new (log_of w c) (b.change ∷ []) (in_first (is_touched b.new b.change) false new_touched)))

    leased : (i : ℕ) (copy : Option NodeView) → with_made.copies i ≡ Some copy → has_lease was i ≡ true
    leased i copy e = elim (eqb_tells i b.new) [
      | inl same ↦ ap (has_lease was) same.1 ∙ new_held
      | inr off ↦ stands_then.leased.copies i copy (sym (ap (λ x. cond x (Some (view_after es b.new None)) (after.copies i)) off.0) ∙ e)
    ]

    agrees_then : Agrees with_made (whole_graph then) (held_descriptors then)
    agrees_then = both_same (λ g o. Agrees with_made g o) (replied_whole w c b h is)
        (held_moved w c w.kernel.shared (w.kernel.accounts c) (logged after) is.client ∙ sym (ap (λ (d : ℕ). with_own (held_descriptors w) d (own_after b.new was.knows.own b.operation)) stood.number))
        (made_agrees was.knows (whole_graph w) (held_descriptors w) b.call b.new b.operation es h.sound (h.agrees c is.client) pending.planned m)

    log_same : undigested_records (then.kernel.accounts c) (logged with_made) ≡ log_of then c
    log_same = ap (undigested_records (then.kernel.accounts c)) (sym there)

    opened_same : with_made.own ≡ (then.clients c).knows.own
    opened_same = ap (λ (q : Client). q.knows.own) (sym there)

    made_holds : IsCoherent (with_client w c (logged with_made))
    made_holds =
        let t = stands_then in
        subst IsCoherent (part_again w c (logged after) (logged with_made))
        (quiet then c then.kernel.shared (then.kernel.accounts c) (logged with_made) then_holds is.client refl log_same opened_same (booked_same then c (logged with_made) then_holds is.client)
        (record {
          number = t.number;
          rests = record { closed = λ e n. t.rests.closed e n; idle = t.rests.idle };
          marked = t.marked;
          starts = t.starts;
          logged = t.logged;
          units = t.units;
          numbered = record { made = t.numbered.made; once = t.numbered.once; granted = λ i e. t.numbered.granted i e; unused = λ i e. t.numbered.unused i e };
          leased = record { copies = λ i copy e. leased i copy e; blocks = λ i n bytes e. t.leased.blocks i n bytes e };
          pinned = record { opened = λ n o e. t.pinned.opened n o e; booked = t.pinned.booked };
          pending = λ d e. none_some d e;
        })
        (before_less then c (logged with_made) then_holds is.client (λ i e. ap (λ (q : Client). q.writes i) there ∙ e))
        (after_less then c (logged with_made) then_holds is.client (λ i e. ap (λ (q : Client). has_lease q i) (sym there) ∙ e))
        agrees_then)

    made_tree : world_state (with_client w c (logged with_made)) ≡ world_state then
    made_tree = ap world_state (sym (part_again w c (logged after) (logged with_made))) ∙ tree_same then c then.kernel.shared (then.kernel.accounts c) (logged with_made) log_same refl opened_same

  -- whether a node is made
  abbrev Answered : Knowledge → Type 0
  Answered k = IsCoherent (with_client w c (logged k)) × (world_state (with_client w c (logged k)) ≡ world_state then)

  by_made : (m : Bool) → makes b.operation ≡ m → Answered (cond m with_made after)
  by_made true m = (made_holds m, made_tree m)
  by_made false m = (then_holds, refl)

  answered : Answered (knows_replied was.knows b.new b.operation es)
  answered = by_made (makes b.operation) refl

  pub answered_holds : IsCoherent (with_client w c (replied (Some b) was))
  answered_holds = answered.0

  pub answered_tree : world_state (with_client w c (replied (Some b) was)) ≡ world_state (after_reply w c b)
  answered_tree = answered.1

-- ---- a dead client's record is not found

not_failed : (s : Status) → s ≡ Dead → s ≡ Failed → ⊥
not_failed s dead failed = let clash : Dead ≡ Failed = sym dead ∙ failed in cc

module _ (w : World) (c : ℕ) (b : Begun) (h : IsCoherent w) (is : IsDying w c b) where
  its : IsBegun w c b
  its = record { client = is.client; there = is.there; known = not_failed (w.clients c).status is.dead }

  abbrev dier : Client
  dier = w.clients c

  abbrev back : Client
  back = record dier { begun = None; spare = dier.spare + b.change.units }

  abbrev without_it : Client
  without_it = record dier { begun = None }

  abbrev gone : World
  gone = units_sent (given_up w c b) c b.change.units

  is_gone : gone ≡ with_client w c without_it
  is_gone =
      ap (λ (p : Client). with_client (given_up w c b) c (record p { spare = p.spare - b.change.units })) (at_there w.clients c back)
      ∙ part_again w c back (record back { spare = back.spare - b.change.units })
      ∙ ap (λ (n : ℕ). with_client w c (record dier { begun = None; spare = n })) spared
    where
      spared : dier.spare + b.change.units - b.change.units ≡ dier.spare
      spared = omega arith

  pub lost_holds : IsCoherent (with_client w c without_it)
  lost_holds = subst IsCoherent is_gone (units_sent_hold (given_up w c b) c b.change.units (given_up_holds w c b h its) is.client)

  pub lost_tree : world_state (with_client w c without_it) ≡ world_state w
  lost_tree = ap world_state (sym is_gone) ∙ units_sent_tree (given_up w c b) c b.change.units (given_up_holds w c b h its) is.client ∙ given_up_tree w c b h its

-- ---- a region that is not away

-- all before it is digested
pub mark_at_past : (w : World) (c : ℕ) → IsCoherent w → is_client c ≡ true → (w.clients c).other ≢ Away → (w.kernel.accounts c).mark ≡ (w.clients c).past
mark_at_past w c h is_c back =
    let m = (h.stands c is_c).marked in
    let none : length (w.clients c).sealed ≡ 0 = ap length (m.none back) in
    let low : (w.clients c).past ≤ (w.kernel.accounts c).mark = m.low in
    let high : (w.kernel.accounts c).mark ≤ (w.clients c).past + length (w.clients c).sealed = m.high in
    omega (arith, none, low, high)
