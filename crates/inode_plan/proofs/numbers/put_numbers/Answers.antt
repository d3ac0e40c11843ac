use Rattle.std.proofs.Common.{◌≡◌, ◌∙◌, ◌++◌, ◌∷◌, ℕ, List, append-nil, refl, ap, sym, subst}
use Rattle.std.specs.Prelude.{IsSome}
use Rattle.std.specs.BTreeMap.{get}
use Rattle.std.specs.List.{Contains}
use Rattle.std.specs.Ordering.{nat_cmp}
use Rattle.std.proofs.lemmas.List.Elements.{Contains-append_right}
use Rattle.std.specs.Map.{keys_of}
use Rattle.area_commit.proofs.Given.{cons_here}
use Rattle.inode_plan.specs.BlockWrites.{AreKeys}
use Rattle.inode_plan.proofs.Rising.{sorted_rise}
use Rattle.inode_plan.proofs.Keyed.{with_err}
use Rattle.inode_plan.proofs.Keys.{key_there, key_is}
use Rattle.inode_plan.proofs.numbers.put_numbers.Goals as goal

pub returns-clause-keys : goal.returns-clause-keys
returns-clause-keys c =
    let m = c.args.blocks.now in
    let items : List ℕ = c.keys.numbers.items in
    let is : items ≡ keys_of m.entries = sym (append-nil items) ∙ ap (λ (xs : List ℕ). items ++ xs) (sym c.in-None.ensures.steps.0) ∙ c.keys.invariant in
    subst (AreKeys m) (sym is) (record { rising = sorted_rise (keys_of m.entries) c.keys-number-items.ensures.ordered; each = λ k. (key_is k m.entries, key_there k m.entries) })

pub returns-in_err-push-clause-memory : goal.returns-in_err-push-clause-memory
returns-in_err-push-clause-memory c =
    let m = c.args.blocks.now in
    let n : ℕ = c.in-Some.number.now in
    let items : List ℕ = c.keys.numbers.items in
    let rest : List ℕ = c.next.new.self in
    let all : items ++ (n ∷ rest) ≡ keys_of m.entries = ap (λ (xs : List ℕ). items ++ xs) (sym c.in-Some.ensures.steps) ∙ c.keys.invariant in
    let key : IsSome (get nat_cmp m n) = key_is n m.entries (subst (λ (xs : List ℕ). Contains xs n) all (Contains-append_right items (n ∷ rest) n (cons_here n rest n refl))) in
    with_err ((k : ℕ) × IsSome (get nat_cmp m k)) c.from_residual.result (n, key)
