-- A client that decides an exchange of two names knows both their directories.
use Rattle.std.proofs.Common.{◌≡◌, ℕ, List, [], ◌∷◌, refl, Some, None, Option, Ok, cond, ap, sym, ◌∙◌, subst, true, false, Bool, ◌==◌}
use Rattle.std.specs.Prelude.{option_map, IsSome, is_some, ◌||◌}
use Rattle.posix_calls.specs.Tree.{Own}
use Rattle.posix_calls.specs.Query.{Gives}
use Rattle.posix_calls.specs.Part.{Part, Known, run_part}
use Rattle.posix_calls.specs.Walk.{Place, refuse, is_root, walk, prefix, entries_seen}
use Rattle.posix_calls.specs.Decide.{exchange_apart, exchange, decide}
use Rattle.posix_calls.specs.declared.errno.Errno.{Errno}
use Rattle.posix_calls.specs.declared.call.Call.{Call}
use Rattle.posix_calls.specs.declared.call.Call.TheVariants as call
use Rattle.posix_calls.specs.declared.call.Reply.TheVariants as reply
use Rattle.posix_calls.specs.declared.operation.Operation.{Operation}
use Rattle.posix_calls.specs.declared.operation.Operation.TheVariants.{Tell, NewDir, NewFile, OpenFile, CloseFile, Write, Resize, RemoveDir, AddName, DropName, Move, Exchange}
use Rattle.posix_calls.specs.declared.operation.Replaced.TheVariants.{Nothing, OldFile, OldDir}
use Rattle.log_record.specs.file_graph.declared.effect.Effect.{Effect}
use Rattle.call_effects.specs.Effects.{recounted_file, effects_by}
use Rattle.call_effects.specs.Records.{names_if, effects_asked}
use Rattle.call_effects.specs.KnownCopies.{Copies, SwapsAreKnown}
use Rattle.call_effects.specs.Knowledge.{Knowledge, IsPlanned, part_of}
use Rattle.call_effects.proofs.Facts.{or_left}
use Rattle.call_effects.proofs.KnownAsking.{bind_known, read_known, result_is}
use Rattle.call_effects.proofs.SpelledQuery.{IsSingle, decide_single, of_part}

-- both directories of an exchange are known
abbrev KnowsBoth : Copies → Operation → Type 0
KnowsBoth known (Exchange first second i j) = IsSome (known first.parent) × IsSome (known second.parent)
KnowsBoth known _ = Unit {0}

swaps_by : (known : Copies) (names new : ℕ) (operation : Operation) → KnowsBoth known operation → SwapsAreKnown known (effects_by names new operation)
swaps_by known names new (Tell answer) both = tt
swaps_by known names new (NewDir at) both = (tt, (tt, (tt, tt)))
swaps_by known names new (NewFile at number reads writes) both = (tt, (tt, (tt, tt)))
swaps_by known names new (OpenFile x true number reads writes) both = (tt, tt)
swaps_by known names new (OpenFile x false number reads writes) both = tt
swaps_by known names new (CloseFile x number) both = tt
swaps_by known names new (Write x at bytes) both = (tt, tt)
swaps_by known names new (Resize x len) both = (tt, tt)
swaps_by known names new (RemoveDir at x) both = (tt, (tt, tt))
swaps_by known names new (AddName at x) both = (tt, (tt, tt))
swaps_by known names new (DropName at x) both = (tt, (tt, tt))
swaps_by known names new (Move from to x is_dir Nothing) both = (tt, (tt, tt))
swaps_by known names new (Move from to x is_dir (OldFile j)) both = (tt, (tt, (tt, (tt, tt))))
swaps_by known names new (Move from to x is_dir (OldDir j)) both = (tt, (tt, (tt, (tt, tt))))
swaps_by known names new (Exchange first second i j) both = (both, tt)

-- ---- by the walks

-- the directory of a name that was walked to was looked at
walk_looks : (p : Part) (from : ℕ) (way : List ℕ) (name : List ℕ) (names : List (List ℕ)) (place : Place) → run_part p (walk from way (name ∷ names)) ≡ Known (Ok place) → IsSome (p.node place.location.parent)
unfolding walk
walk_looks p from way name [] place e =
    let entries = bind_known p _ _ _ e in
    let seen = read_known p from entries_seen entries.0 entries.1 in
    subst (λ (x : Place). IsSome (p.node x.location.parent)) (result_is p _ place entries.2) (ap is_some seen.1)
walk_looks p from way name (next ∷ names) place e =
    let entries = bind_known p _ _ _ e in
    let child = bind_known p _ _ _ entries.2 in
    walk_looks p child.0 (from ∷ way) next names place child.2

prefix_looks : (p : Part) (names : List (List ℕ)) (place : Place) → is_root names ≡ false → run_part p (prefix names) ≡ Known (Ok place) → IsSome (p.node place.location.parent)
prefix_looks p [] place busy e = absurd cc
prefix_looks p (name ∷ names) place busy e = walk_looks p 1 [] name names place e

not_refused : (p : Part) (e : Errno) (b : Bool) (u : Unit {0}) → run_part p (refuse e b) ≡ Known (Ok u) → b ≡ false
unfolding run_part
not_refused p e true u is = absurd cc
not_refused p e false u is = refl

mapped_some : {A B : Type 0} (f : A → B) (o : Option A) → IsSome (option_map f o) → IsSome o
mapped_some f None some = some
mapped_some f (Some x) some = refl

-- ---- every call

module _ (k : Knowledge) where
  abbrev p : Part
  p = part_of k

  exchange_knows : (first second : List ℕ) (operation : Operation) → run_part p (exchange first second) ≡ Known (Ok operation) → KnowsBoth k.copies operation
  unfolding exchange
  exchange_knows first second operation e =
      let first_names = bind_known p _ _ _ e in
      let second_names = bind_known p _ _ _ first_names.2 in
      let busy = bind_known p _ _ _ second_names.2 in
      let one = bind_known p _ _ _ busy.2 in
      let i = bind_known p _ _ _ one.2 in
      let two = bind_known p _ _ _ i.2 in
      let j = bind_known p _ _ _ two.2 in
      let roots = or_left (is_root first_names.0) (is_root second_names.0) (not_refused p _ _ _ busy.1) in
      let known_one = mapped_some _ (k.copies one.0.location.parent) (prefix_looks p first_names.0 one.0 roots.0 one.1) in
      let known_two = mapped_some _ (k.copies two.0.location.parent) (prefix_looks p second_names.0 two.0 roots.1 two.1) in
      elim (i.0 == j.0) as (λ b. run_part p (cond b (Gives (Tell reply.Done)) (exchange_apart one.0 two.0 i.0 j.0)) ≡ Known (Ok operation) → KnowsBoth k.copies operation) [
        | true ↦ λ told. subst (KnowsBoth k.copies) (result_is p _ operation told) tt
        | false ↦ λ rest. let apart = bind_known p _ _ _ rest in subst (KnowsBoth k.copies) (result_is p _ operation apart.2) (known_one, known_two)
      ] j.2

  single_knows : (operation : Operation) → IsSingle operation → KnowsBoth k.copies operation
  single_knows (Exchange first second i j) single = absurd single
  single_knows _ single = tt

  decided_knows : (own : Own) (c : Call) (operation : Operation) → run_part p (decide own c) ≡ Known (Ok operation) → KnowsBoth k.copies operation
  decided_knows own (call.Exchange first second) operation e = exchange_knows first second operation e
  decided_knows own c operation e = single_knows operation (of_part IsSingle p (decide own c) operation (decide_single own c tt) e)

  pub planned_swaps : (c : Call) (new : ℕ) (operation : Operation) (es : List Effect) → IsPlanned k c new operation es → SwapsAreKnown k.copies es
  planned_swaps c new operation es plan =
      let names = bind_known p (names_if (recounted_file operation)) (λ n. Gives (effects_by n new operation)) es plan.effects in
      subst (SwapsAreKnown k.copies) (result_is p _ es names.2) (swaps_by k.copies names.0 new operation (decided_knows k.own c operation plan.comes))
