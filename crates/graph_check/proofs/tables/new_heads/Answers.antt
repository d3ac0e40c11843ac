use Rattle.std.proofs.Common.{◌≡◌, Option, Some, None, refl}
use Rattle.std.proofs.lemmas.Result.{IfOk-weaker}
use Rattle.graph_check.proofs.tables.new_heads.Goals as goal

-- what holds of no value holds of none alone
none_alone : {A : Type 0} (P : Option A → Type 0) → ((x : A) → P (Some x) → ⊥) → (y : Option A) → P y → y ≡ None
none_alone P never None is = refl
none_alone P never (Some x) is = absurd (never x is)

pub returns : goal.returns
returns c = IfOk-weaker c.vec.result _ _ (λ v all. all (none_alone _ (λ x is. is))) c.vec.ensures.items_if_clones_equal
