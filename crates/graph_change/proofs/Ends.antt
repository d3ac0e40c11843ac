-- A map that loses its last entries, one after the other.
use Rattle.std.proofs.Common.{◌≡◌, inl, inr, ℕ, ◌≤◌, cond, false, Option, Some, None, sym, ap, ◌∙◌, subst, arith, nat_lt}
use Rattle.std.specs.Prelude.{option_map, IsSome, IfSome}
use Rattle.std.specs.Ordering.{nat_cmp}
use Rattle.std.specs.Cmp.{nat_cmp_total, unsigned_tied}
use Rattle.std.proofs.lemmas.Bool.{false≢true}
use Rattle.std.proofs.lemmas.Bool.Decides.{eqb_tells, nat_tests}
use Rattle.std.proofs.lemmas.Map.Keys.{ge_from_not_lt}
use Rattle.std.specs.FinMap as fin
use Rattle.std.specs.BTreeMap.{BTreeMap, get, IsUpperBound, Updates}
use Rattle.graph_change.specs.View.{map_of}
use Rattle.graph_change.proofs.Blocks.{either}
use Rattle.graph_change.proofs.Maps.{value_at}

not_below : (n end : ℕ) → end ≤ n → nat_lt n end ≡ false
not_below n end le = grind (arith, nat_tests)

at_or_past : (n end : ℕ) → nat_lt n end ≡ false → end ≤ n
at_or_past n end h = grind (arith, nat_tests)

-- what a map has below an end
below : {X Y : Type 0} (f : X → Y) (m : BTreeMap ℕ X) (end q : ℕ) → fin.get (fin.retain_keys (map_of f m.entries) (λ b. nat_lt b end)) q ≡ cond (nat_lt q end) (option_map f (get nat_cmp m q)) None
below f m end q =
    fin.get-retain_keys (map_of f m.entries) (λ b. nat_lt b end) q (λ x e. ap (λ b. nat_lt b end) (sym (fin.nat_cmp-IsAntisymmetric q x e)))
    ∙ ap (λ o. cond (nat_lt q end) o None) (value_at f m q)

-- an entry that stands at the end or past it makes no difference below
gone : {X Y : Type 0} (f : X → Y) (old new : BTreeMap ℕ X) (k end : ℕ) → end ≤ k → Updates nat_cmp old new k None → fin.retain_keys (map_of f new.entries) (λ b. nat_lt b end) ≡ fin.retain_keys (map_of f old.entries) (λ b. nat_lt b end)
gone f old new k end past updates = fin.same_map nat_cmp_total fin.nat_cmp-IsAntisymmetric _ _ (λ q.
    below f new end q
    ∙ elim (eqb_tells k q) [
      | inl here ↦
          let out = not_below q end (subst (λ n. end ≤ n) here.1 past) in
          ap (λ b. cond b (option_map f (get nat_cmp new q)) None) out ∙ sym (ap (λ b. cond b (option_map f (get nat_cmp old q)) None) out)
      | inr off ↦ ap (λ o. cond (nat_lt q end) (option_map f o) None) (updates.0 q ∙ ap (λ b. cond b None (get nat_cmp old q)) (unsigned_tied k q ∙ off.0))
    ]
    ∙ sym (below f old end q))

-- the last entry goes, where one stands at the end or past it
pub last_gone : {X Y : Type 0} (f : X → Y) (r : Option (ℕ × X)) (old new : BTreeMap ℕ X) (end b : ℕ) → end ≤ b → IsSome (get nat_cmp old b) → IsSome r → IfSome r (λ p. IsUpperBound nat_cmp old p.0) → IfSome r (λ p. Updates nat_cmp old new p.0 None)
    → fin.retain_keys (map_of f new.entries) (λ b. nat_lt b end) ≡ fin.retain_keys (map_of f old.entries) (λ b. nat_lt b end)
last_gone f (Some p) old new end b past there some greatest updates =
    let up = ge_from_not_lt p.0 b (greatest b there) in
    gone f old new p.0 end (omega (arith, past, up)) updates
last_gone f None old new end b past there some greatest updates = absurd (false≢true some)

-- no entry stands at the end or past it
pub none_past : {X Y : Type 0} (f : X → Y) (m : BTreeMap ℕ X) (end : ℕ) → ((b : ℕ) → end ≤ b → get nat_cmp m b ≡ None) → map_of f m.entries ≡ fin.retain_keys (map_of f m.entries) (λ b. nat_lt b end)
none_past f m end none = fin.same_map nat_cmp_total fin.nat_cmp-IsAntisymmetric _ _ (λ q.
    value_at f m q
    ∙ elim (either (nat_lt q end)) [
      | inl t ↦ sym (ap (λ b. cond b (option_map f (get nat_cmp m q)) None) t)
      | inr out ↦ ap (option_map f) (none q (at_or_past q end out)) ∙ sym (ap (λ b. cond b (option_map f (get nat_cmp m q)) None) out)
    ]
    ∙ sym (below f m end q))
