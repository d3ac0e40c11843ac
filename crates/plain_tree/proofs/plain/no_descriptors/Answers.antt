use Rattle.std.proofs.Common.{◌≡◌, ◌+◌, ℕ, zero, suc, None, List, [], ◌∷◌, ◌++◌, Option, length, get_or, refl, ap, ◌∙◌, length-append}
use Rattle.posix_calls.specs.Own.{own_of}
use Rattle.plain_tree.specs.Plain.{held_of}
use Rattle.posix_calls.specs.declared.descriptor.Descriptor.{Descriptor}
use Rattle.plain_tree.proofs.plain.no_descriptors.Goals as goal

abbrev Row : Type 0
Row = List (Option Descriptor)

pushed : (rows : List Row) (own : Row) → ((c n : ℕ) → own_of (get_or rows c []) n ≡ None) → ((n : ℕ) → own_of own n ≡ None) → (c n : ℕ) → own_of (get_or (rows ++ own ∷ []) c []) n ≡ None
pushed [] own none new zero n = new n
pushed [] own none new (suc c) n = refl
pushed (r ∷ rows) own none new zero n = none zero n
pushed (r ∷ rows) own none new (suc c) n = pushed rows own (λ k m. none (suc k) m) new c n

held_none : (rows : List Row) → ((c n : ℕ) → own_of (get_or rows c []) n ≡ None) → (c n : ℕ) → held_of rows c n ≡ None
held_none rows none zero n = refl
held_none rows none (suc c) n = none c n

pub loop-init : goal.loop-init
loop-init c = (λ k n. ap (λ (rows : List Row). own_of (get_or rows k []) n) c.new-rows.ensures.items, ap length c.new-rows.ensures.items)

pub loop-preserved : goal.loop-preserved
loop-preserved c =
    let grown : c.push.new.self.items ≡ c.loop.rows.items ++ c.new.result ∷ [] = c.in_ok-push.ensures.items in
    (λ k n. ap (λ (rows : List Row). own_of (get_or rows k []) n) grown ∙ pushed c.loop.rows.items _ c.loop.invariant.0 c.new.ensures k n, ap length grown ∙ length-append c.loop.rows.items (c.new.result ∷ []) ∙ ap (λ m. m + 1) c.loop.invariant.1)

pub returns-clause-none : goal.returns-clause-none
returns-clause-none c = λ k a n. held_none c.loop.rows.items c.loop.invariant.0 a n k
