-- A file that has no name and that nobody has pinned goes out of the shared graph, and no call sees it.
use Rattle.std.proofs.Common.{◌≡◌, ◌≢◌, inl, inr, ℕ, zero, suc, ◌+◌, ◌-◌, ◌≤◌, ◌||◌, cond, Bool, true, false, List, [], ◌∷◌, refl, Some, None, Option, ap, sym, ◌∙◌, subst, arith}
use Rattle.std.proofs.lemmas.Bool.{false≢true, eqb-true}
use Rattle.std.proofs.lemmas.Bool.Decides.{eqb_tells}
use Rattle.posix_calls.specs.Tree.{Own, sum_up_to, any_up_to, refers_to, has_open, is_open}
use Rattle.posix_calls.specs.Operations.{is_client}
use Rattle.posix_calls.specs.declared.descriptor.Descriptor.{Descriptor}
use Rattle.posix_calls.proofs.Sums.{same_if, there_if, any_is}
use Rattle.call_effects.specs.file_graph.Graph.{Graph, FileBody, set_node, cost, after_effects, is_among, touches, directory_in}
use Rattle.call_effects.proofs.file_graph_lemmas.Touches.{local_by_directories, directories_after}
use Rattle.call_effects.specs.file_graph.Units.{charge, rise, growth}
use Rattle.call_effects.specs.file_graph.declared.effect.Effect.{Effect}
use Rattle.call_effects.specs.log_record.declared.format.Record.{Record}
use Rattle.call_effects.specs.Wholes.{IsSound, state_of}
use Rattle.call_effects.specs.Fits.{IsUnusedFile}
use Rattle.call_effects.specs.Knowledge.{Agrees}
use Rattle.call_effects.proofs.Unused.{same_state, sound_still, agrees_still}
use Rattle.world_invariant.specs.Logs.{is_made, is_made_in, ArePaid, IsNameless, NamesNone}
use Rattle.world_invariant.specs.Limits.{IsWithin}
use Rattle.world_invariant.specs.World.{Begun, World, change_of, log_of, all_of, whole_graph, held_descriptors, world_state}
use Rattle.world_invariant.specs.Invariant.{IsCoherent}
use Rattle.world_invariant.specs.KernelSteps.{CanReclaim, after_reclaim}
use Rattle.world_invariant.proofs.Records.{either, both, or_first, or_rest, alike_less, records_local}
use Rattle.world_invariant.proofs.Owners.{client_is, owner_of, whole_at}
use Rattle.world_invariant.proofs.Idle.{none_some}
use Rattle.world_invariant.proofs.Made.{effects_none, clients_none, unmade_append}
use Rattle.world_invariant.proofs.Along.{along_front}
use Rattle.world_invariant.proofs.Keeping.{through, keep_less}
use Rattle.world_invariant.proofs.Facts.{apart_logs, makes_granted}

sums_below : (n : ℕ) (f g : ℕ → ℕ) → ((c : ℕ) → f c ≤ g c) → sum_up_to n f ≤ sum_up_to n g
unfolding sum_up_to
sums_below zero f g h = omega arith
sums_below (suc n) f g h =
    let rest : sum_up_to n f ≤ sum_up_to n g = sums_below n f g h in
    let last : f (suc n) ≤ g (suc n) = h (suc n) in
    omega (arith, rest, last)

-- one graph is another without a node
module _ (i : ℕ) where
  pub charge_less : (g h : Graph) → h i ≡ None → ((j : ℕ) → j ≢ i → h j ≡ g j) → charge h ≤ charge g
  unfolding charge
  charge_less g h none same = sums_below 1024 (λ j. cost (h j)) (λ j. cost (g j)) (λ j. at j)
    where
      at : (j : ℕ) → cost (h j) ≤ cost (g j)
      at j = elim (eqb_tells j i) [
        | inl there ↦ let nothing : cost (h j) ≡ 0 = ap (λ k. cost (h k)) there.1 ∙ ap cost none in omega (arith, nothing)
        | inr off ↦ let equal : cost (h j) ≡ cost (g j) = ap cost (same j off.1) in omega (arith, equal)
      ]

  growth_less : (g h : Graph) (es : List Effect) → directory_in (g i) ≡ None → h i ≡ None → ((j : ℕ) → j ≢ i → h j ≡ g j) → is_made i es ≡ false → growth h es ≤ growth g es
  unfolding growth
  growth_less g h es bare none same unmade = sums_below 1024 (λ j. cond (is_among j (touches es)) (rise h (after_effects h es) j) 0) (λ j. cond (is_among j (touches es)) (rise g (after_effects g es) j) 0) (λ j. at j)
    where
      less_if : (b : Bool) (x y : ℕ) → x ≤ y → cond b x 0 ≤ cond b y 0
      less_if true x y low = low
      less_if false x y low = omega arith

      at : (j : ℕ) → cond (is_among j (touches es)) (rise h (after_effects h es) j) 0 ≤ cond (is_among j (touches es)) (rise g (after_effects g es) j) 0
      at j = less_if (is_among j (touches es)) (rise h (after_effects h es) j) (rise g (after_effects g es) j) (elim (eqb_tells j i) [
        | inl there ↦
            let nothing : cost (after_effects h es j) ≡ 0 = ap (λ k. cost (after_effects h es k)) there.1 ∙ ap cost (effects_none h es i none unmade) in
            omega (arith, nothing)
        | inr off ↦
            let before : cost (h j) ≡ cost (g j) = ap cost (same j off.1) in
            let after : cost (after_effects h es j) ≡ cost (after_effects g es j) = ap cost (local_by_directories h g es (λ k at. alike_less i g h bare none same k) j (same j off.1)) in
            omega (arith, before, after)
      ])

  pub paid_less : (rs : List Record) (g h : Graph) → directory_in (g i) ≡ None → h i ≡ None → ((j : ℕ) → j ≢ i → h j ≡ g j) → is_made_in i rs ≡ false → ArePaid g rs → ArePaid h rs
  paid_less [] g h bare none same unmade paid = tt
  paid_less (r ∷ rs) g h bare none same unmade paid =
      let alike = alike_less i g h bare none same in
      let still : after_effects h r.effects i ≡ None = effects_none h r.effects i none (or_first (is_made i r.effects) (is_made_in i rs) unmade) in
      let less : growth h r.effects ≤ growth g r.effects = growth_less g h r.effects bare none same (or_first (is_made i r.effects) (is_made_in i rs) unmade) in
      let enough : growth g r.effects ≤ r.units = paid.0 in (
        omega (arith, less, enough),
        paid_less rs (after_effects g r.effects) (after_effects h r.effects) (sym (directories_after h g r.effects (λ k at. alike k) i (alike i)) ∙ ap directory_in still) still (λ j off. local_by_directories h g r.effects (λ k at. alike k) j (same j off)) (or_rest (is_made i r.effects) (is_made_in i rs) unmade) paid.1,
      )

-- what is open is pinned in the book
open_pinned : (w : World) (i : ℕ) → IsCoherent w → ((c : ℕ) → is_client c ≡ true → (w.kernel.accounts c).pins i ≡ false) → is_open (held_descriptors w) i ≡ false
unfolding is_open
open_pinned w i h unpinned = elim (either (any_up_to 8 (λ c. has_open (held_descriptors w c) i))) [
  | inl there ↦ let c = any_is 8 (λ c. has_open (held_descriptors w c) i) there in absurd (by_client c.k (client_is c.k c.low c.high) c.passes)
  | inr closed ↦ closed
]
  where
    referred : (own : Own) (n i : ℕ) → refers_to i (own n) ≡ true → (o : Descriptor) × (own n ≡ Some o) × (o.inode ≡ i)
    referred own n i e = elim (own n) as (λ d. own n ≡ d → refers_to i d ≡ true → (o : Descriptor) × (own n ≡ Some o) × (o.inode ≡ i)) [
      | None ↦ λ is e. absurd (false≢true e)
      | Some o ↦ λ is e. (o, is, eqb-true o.inode i e)
    ] refl e

    by_client : (c : ℕ) → is_client c ≡ true → has_open (held_descriptors w c) i ≡ true → ⊥
    by_client c is_c e =
        let n = any_is 32 (λ n. refers_to i (held_descriptors w c (n - 1))) e in
        let o = referred (held_descriptors w c) (n.k - 1) i n.passes in
        let own : (w.clients c).knows.own (n.k - 1) ≡ Some o.0 = sym (ap (λ b. cond b ((w.clients c).knows.own (n.k - 1)) None) is_c) ∙ o.1 in
        both ((w.kernel.accounts c).pins i) ((h.stands c is_c).pinned.booked i (subst (λ j. (w.clients c).pins j ≡ true) o.2 ((h.stands c is_c).pinned.opened (n.k - 1) o.0 own))) (unpinned c is_c)

-- a file of the shared graph that has no name there has none in the whole
pub nameless_whole : (w : World) (i : ℕ) → IsCoherent w → IsNameless (w.kernel.shared i) → IsNameless (whole_graph w i)
nameless_whole w i h file =
    let o = owner_of (log_of w) i (apart_logs w h) in
    let none = along_front NamesNone (log_of w o.0) (change_of (w.clients o.0).begun) w.kernel.shared ((h.stands o.0 o.1.client).logged.unnamed) in
    subst IsNameless (sym (whole_at (log_of w) w.kernel.shared o.0 i o.1)) (through (λ j o. IsNameless o) (log_of w o.0) w.kernel.shared i none file)

module _ (w : World) (i : ℕ) (h : IsCoherent w) (can : CanReclaim w.kernel i) where
  abbrev shared : Graph
  shared = set_node w.kernel.shared i None

  gone : shared i ≡ None
  gone = there_if i None (w.kernel.shared i)

  else_same : (j : ℕ) → j ≢ i → shared j ≡ w.kernel.shared j
  else_same j off = same_if j i None (w.kernel.shared j) off

  unbooked : (d : ℕ) → is_client d ≡ true → (w.kernel.accounts d).numbers i ≡ false
  unbooked d is_d = elim (either ((w.kernel.accounts d).numbers i)) [
    | inl there ↦ none_some (record { names = 0; body = FileBody can.file.bytes }) (sym (h.booked.free d i is_d there) ∙ can.file.is)
    | inr clean ↦ clean
  ]

  log_unmade : (d : ℕ) → is_client d ≡ true → is_made_in i (log_of w d) ≡ false
  log_unmade d is_d = elim (either (is_made_in i (log_of w d))) [
    | inl there ↦ both ((w.kernel.accounts d).numbers i) ((h.stands d is_d).numbered.made i there) (unbooked d is_d)
    | inr clean ↦ clean
  ]

  begun_unmade : (d : ℕ) → is_client d ≡ true → (o : Option Begun) → (w.clients d).begun ≡ o → is_made_in i (change_of o) ≡ false
  begun_unmade d is_d None is = refl
  begun_unmade d is_d (Some b) is = elim (either (is_made i b.change.effects)) [
    | inl there ↦
        let plan = ((h.stands d is_d).pending b is).planned in
        let m = makes_granted w h d is_d b.call b.new b.operation b.change.effects plan i there in
        both ((w.kernel.accounts d).numbers i) ((h.stands d is_d).numbered.granted i (subst (λ x. (w.clients d).knows.granted x ≡ true) (sym m.1) (plan.number m.0))) (unbooked d is_d)
    | inr clean ↦ ap (λ b. b || false) clean
  ]

  all_unmade : (d : ℕ) → is_client d ≡ true → is_made_in i (all_of w d) ≡ false
  all_unmade d is_d = unmade_append i (log_of w d) (change_of (w.clients d).begun) (log_unmade d is_d) (begun_unmade d is_d ((w.clients d).begun) refl)

  pub reclaimed_whole : whole_graph (after_reclaim w i) ≡ set_node (whole_graph w) i None
  reclaimed_whole = λ t j. at j t
    where
      at : (j : ℕ) → whole_graph (after_reclaim w i) j ≡ set_node (whole_graph w) i None j
      at j = elim (eqb_tells j i) [
        | inl same ↦
            ap (λ x. whole_graph (after_reclaim w i) x) same.1
            ∙ clients_none 8 (log_of w) shared i gone (λ d low high. log_unmade d (client_is d low high))
            ∙ sym (ap (λ b. cond b None (whole_graph w j)) same.0)
        | inr off ↦
            let o = owner_of (log_of w) j (apart_logs w h) in
            whole_at (log_of w) shared o.0 j o.1
            ∙ records_local shared w.kernel.shared (log_of w o.0) (λ k at. alike_less i w.kernel.shared shared (ap directory_in can.file.is) gone else_same k) j (else_same j off.1)
            ∙ sym (whole_at (log_of w) w.kernel.shared o.0 j o.1)
            ∙ sym (ap (λ b. cond b None (whole_graph w j)) off.0)
      ]

  unused : IsUnusedFile (whole_graph w) (held_descriptors w) i
  unused = let file = nameless_whole w i h can.file in record { bytes = file.bytes; is = file.is; closed = open_pinned w i h can.unpinned }

  pub reclaimed_tree : world_state (after_reclaim w i) ≡ world_state w
  reclaimed_tree = ap (λ g. state_of g (held_descriptors w)) reclaimed_whole ∙ same_state (whole_graph w) (held_descriptors w) i unused

  pub reclaimed_holds : IsCoherent (after_reclaim w i)
  reclaimed_holds =
      let less : charge shared ≤ charge w.kernel.shared = charge_less i w.kernel.shared shared gone else_same in
      let fits : charge w.kernel.shared + sum_up_to 8 (λ d. (w.kernel.accounts d).units) ≤ w.kernel.capacity = h.booked.fits in
      record {
        booked = record {
          free = λ c j is_c e. elim (eqb_tells j i) [ inl same ↦ ap shared same.1 ∙ gone | inr off ↦ else_same j off.1 ∙ h.booked.free c j is_c e ];
          range = h.booked.range;
          alone = h.booked.alone;
          limits = λ j. elim (eqb_tells j i) [ inl same ↦ subst (IsWithin j) (sym (ap shared same.1 ∙ gone)) tt | inr off ↦ subst (IsWithin j) (sym (else_same j off.1)) (h.booked.limits j) ];
          fits = omega (arith, less, fits);
        };
        stands = λ c is_c. let s = h.stands c is_c in record {
          number = s.number;
          rests = s.rests;
          marked = s.marked;
          starts = s.starts;
          logged = record { leased = s.logged.leased; paid = paid_less i (all_of w c) w.kernel.shared shared (ap directory_in can.file.is) gone else_same (all_unmade c is_c) s.logged.paid; limits = keep_less IsWithin i (all_of w c) w.kernel.shared shared (ap directory_in can.file.is) gone else_same (all_unmade c is_c) s.logged.limits; unnamed = keep_less (λ j o. IsNameless o) i (all_of w c) w.kernel.shared shared (ap directory_in can.file.is) gone else_same (all_unmade c is_c) s.logged.unnamed };
          units = s.units;
          numbered = s.numbered;
          leased = s.leased;
          pinned = s.pinned;
          pending = s.pending;
        };
        beside = h.beside;
        sound = subst (λ g. IsSound g (held_descriptors w)) (sym reclaimed_whole) (sound_still (whole_graph w) (held_descriptors w) i unused h.sound);
        agrees = λ c is_c. subst (λ g. Agrees (w.clients c).knows g (held_descriptors w)) (sym reclaimed_whole) (agrees_still (whole_graph w) (held_descriptors w) i unused (w.clients c).knows (h.agrees c is_c));
      }
