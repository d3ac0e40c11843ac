-- Each move of the small history may follow.
use Rattle.std.proofs.Common.{◌≡◌, inl, inr, ℕ, ◌+◌, ◌-◌, ◌==◌, ◌||◌, cond, true, false, List, [], ◌∷◌, refl, Some, None, Option, Ok, ap, sym, ◌∙◌, subst, arith}
use Rattle.std.specs.Prelude.{min}
use Rattle.std.proofs.lemmas.Bool.Decides.{eqb_tells}
use Rattle.posix_calls.specs.Units.{directory_units}
use Rattle.posix_calls.specs.Tree.{sum_up_to}
use Rattle.posix_calls.specs.EmptyTree.{empty_state}
use Rattle.posix_calls.specs.Part.{Known, run_part}
use Rattle.posix_calls.specs.Run.{Run}
use Rattle.posix_calls.proofs.Chain.{part_bind, part_gives, part_refuses}
use Rattle.posix_calls.proofs.Sums.{all_zero}
use Rattle.world_invariant.specs.file_graph.Graph.{fresh}
use Rattle.world_invariant.specs.file_graph.Units.{charge}
use Rattle.world_invariant.specs.call_effects.Knowledge.{IsPlanned, Knowledge, part_of}
use Rattle.world_invariant.specs.call_effects.NodeView.{view_at}
use Rattle.world_invariant.specs.call_effects.Records.{units_asked}
use Rattle.world_invariant.specs.BookSteps.{HasRoom, IsUnbooked}
use Rattle.world_invariant.specs.ClientSteps.{CanBegin}
use Rattle.world_invariant.specs.LeaseSteps.{IsUnheld}
use Rattle.world_invariant.specs.Walk as walk
use Rattle.world_invariant.specs.World.{Client, has_lease}
use Rattle.world_invariant.proofs.call_effects_lemmas.Fresh.{fresh_sound, fresh_state}
use Rattle.world_invariant.proofs.Fresh.{fresh_within}
use Rattle.world_invariant.proofs.Idle.{idle_holds, idle_tree, none_some}
use Rattle.world_invariant.proofs.Walks.{held_both, none_seen, part_is_dir, part_look, planned}
use Rattle.world_history.specs.declared.moves.Move.{Move}
use Rattle.world_history.specs.declared.moves.Move.TheVariants as moves
use Rattle.world_history.specs.Conditions.{HoldsNothing}
use Rattle.world_history.specs.Configuration.{Configuration, IsConsistent, tree_of, world_of}
use Rattle.world_history.specs.History.{IsHistory, after_moves}
use Rattle.world_history.specs.Opening.{begun_of}
use Rattle.world_history.specs.SmallHistory.{begun_moves, kept_moves, mkdir_a, small_history, small_start, small_turns}
use Rattle.world_history.proofs.Keeping.{history_keeps}
use Rattle.world_history.proofs.WorldSteps.{at_else}

pub start_holds : IsConsistent small_start
start_holds = record {
  coherent = idle_holds (charge fresh + 10) fresh (omega arith) fresh_sound fresh_within;
  accepted = λ c is_c. inl refl;
  marks = λ c is_c. omega arith;
  failed = λ x e. none_some x e;
}

room : HasRoom walk.start.kernel 10
room = let nothing : sum_up_to 8 (λ c. 0) ≡ 0 = all_zero 8 (λ c. 0) (λ c. refl) in omega (arith, nothing)

unbooked : (i : ℕ) → (2 == i || false) ≡ true → IsUnbooked walk.start.kernel i
unbooked i e = subst (IsUnbooked walk.start.kernel) (two i e) (record { low = omega arith; high = omega arith; none = refl; nobody = λ d is_d. refl })
  where
    two : (i : ℕ) → (2 == i || false) ≡ true → 2 ≡ i
    two i e = elim (eqb_tells 2 i) [ inl same ↦ same.1 | inr off ↦ absurd (let clash : false ≡ true = sym (ap (λ b. b || false) off.0) ∙ e in cc) ]

abbrev after : List Move → Configuration
after h = after_moves small_start h

-- nobody else holds anything
root_unheld : IsUnheld (world_of (after (moves.Granted 1 10 (2 ∷ []) ∷ []))) 1 1
root_unheld d is_d other = ap (λ (p : Client). has_lease p 1) (at_else walk.start.clients 1 ((after (moves.Granted 1 10 (2 ∷ []) ∷ [])).clients 1) d other)

new_unheld : IsUnheld (world_of (after (moves.TookWrite 1 1 ∷ moves.Granted 1 10 (2 ∷ []) ∷ []))) 1 2
new_unheld d is_d other = ap (λ (p : Client). has_lease p 2) (at_else (after (moves.Granted 1 10 (2 ∷ []) ∷ [])).clients 1 ((after (moves.TookWrite 1 1 ∷ moves.Granted 1 10 (2 ∷ []) ∷ [])).clients 1) d other ∙ at_else walk.start.clients 1 ((after (moves.Granted 1 10 (2 ∷ []) ∷ [])).clients 1) d other)

-- ---- the call

none_of : (j b : ℕ) → cond {A = Option (List ℕ)} (j == 1) None None ≡ None
none_of j b = elim (j == 1) as (λ x. cond {A = Option (List ℕ)} x None None ≡ None) [ true ↦ refl | false ↦ refl ]

abbrev knows : (ℕ → ℕ → Option (List ℕ)) → Knowledge
knows blocks = record { client = 1; own = λ n. None; copies = λ i. cond (i == 1) (Some (view_at fresh 1)) None; blocks = blocks; granted = λ i. i == 2 || false }

ruleset parts = (part_bind, part_gives, part_refuses, part_is_dir, part_look)

counted : run_part (part_of (knows (λ j b. None))) (units_asked walk.mkdir_a.operation) ≡ Known (Ok 2)
counted = simp parts (ap (λ n. Known (Ok (min (directory_units 0 + (directory_units (n + 1) - directory_units n)) 4294967295))) none_seen)

can_begin : CanBegin (world_of (after (moves.Fetched 1 1 (view_at fresh 1) ∷ moves.TookWrite 1 2 ∷ moves.TookWrite 1 1 ∷ moves.Granted 1 10 (2 ∷ []) ∷ []))) 1 (begun_of mkdir_a)
can_begin = record {
  client = refl;
  alive = refl;
  idle = refl;
  ready = refl;
  planned = subst (λ blocks. IsPlanned (knows blocks) walk.mkdir_a.call 2 walk.mkdir_a.operation walk.mkdir_a.change.effects) (λ t j b. sym (none_of j b) t) planned;
  some = λ e. absurd (cc);
  counted = subst (λ blocks. run_part (part_of (knows blocks)) (units_asked walk.mkdir_a.operation) ≡ Known (Ok 2)) (λ t j b. sym (none_of j b) t) counted;
  leased = held_both;
  enough = omega arith;
  pinned = λ what e. none_some what e;
}

begun_is : IsHistory small_start begun_moves
begun_is = (
  (can_begin, tt),
  (
    ((record { client = refl; leased = refl; missing = inl refl }, refl), tt),
    (
      ((refl, new_unheld), tt),
      (
        ((refl, root_unheld), tt),
        (
          (record { client = refl; room = room; unbooked = unbooked; once = (refl, tt) }, tt),
          tt,
        ),
      ),
    ),
  ),
)

-- ---- its client's death

kept_is : IsHistory small_start kept_moves
kept_is = (
  (record { client = refl; away = refl; digested = refl }, tt),
  (
    ((refl, ([], record { client = refl; some = λ e. absurd (cc); accepted = omega arith; split = refl })), tt),
    (
      ((record { client = refl; some = λ e. absurd (cc); before = refl; first = refl }, refl), tt),
      (
        ((record { client = refl; idle = refl; some = λ e. absurd (cc); back = λ e. absurd (cc) }, refl, refl), tt),
        (
          (record { client = refl; dead = refl; idle = refl }, tt),
          (
            ((begun_of mkdir_a, record { client = refl; there = refl; known = λ e. absurd (cc) }), tt),
            (
              (record { client = refl; alive = refl }, tt),
              begun_is,
            ),
          ),
        ),
      ),
    ),
  ),
)

holds_nothing : HoldsNothing ((after (moves.Gave 1 2 ∷ moves.Gave 1 1 ∷ kept_moves)).clients 1)
holds_nothing = record {
  reads = λ i. elim (i == 2) as (λ b. cond b false (cond (i == 1) false (cond b false (cond (i == 1) false false))) ≡ false) [ true ↦ refl | false ↦ elim (i == 1) as (λ b. cond b false (cond b false false) ≡ false) [ true ↦ refl | false ↦ refl ] ];
  writes = λ i. elim (i == 2) as (λ b. cond b false (cond (i == 1) false (b || ((i == 1) || false))) ≡ false) [ true ↦ refl | false ↦ elim (i == 1) as (λ b. cond b false (b || false) ≡ false) [ true ↦ refl | false ↦ refl ] ];
}

pub small_is : IsHistory small_start small_history
small_is = (
  (tt, refl),
  (
    ((record { client = refl; buried = refl; digested = refl; other = refl; ready = refl }, record { reads = λ i. refl; writes = λ i. refl }, refl), tt),
    (
      (record { client = refl; back = refl }, tt),
      (
        ((record { client = refl; settled = refl; digested = refl; back = λ e. absurd (cc) }, holds_nothing, refl), tt),
        (
          (record { client = refl; idle = refl; clean = refl }, tt),
          (
            (record { client = refl; idle = refl; clean = refl }, tt),
            kept_is,
          ),
        ),
      ),
    ),
  ),
)

pub small_run : Run empty_state small_turns (tree_of (after_moves small_start small_history))
small_run = subst (λ first. Run first small_turns (tree_of (after_moves small_start small_history))) (idle_tree (charge fresh + 10) fresh ∙ fresh_state) (history_keeps small_start small_history start_holds.coherent small_is).run
