-- Blocks of some inodes are forgotten, and then of others.
use Rattle.std.proofs.Common.{◌≡◌, ℕ, Bool, true, false, cond, Option, None, refl, ap, sym}
use Rattle.std.specs.Prelude.{◌||◌}
use Rattle.client_plan.specs.call_effects.Knowledge.{Knowledge}

-- what is forgotten of some inodes, and then of others, is forgotten of both
abbrev pub without : Knowledge → (ℕ → Bool) → Knowledge
without k gone = record k { blocks = λ i b. cond (gone i) None (k.blocks i b) }

pub twice : {X : Type 0} (b c : Bool) (o : Option X) → cond c None (cond b None o) ≡ cond (b || c) None o
twice true true o = refl
twice true false o = refl
twice false c o = refl

-- nothing of nobody
pub none_gone : (k : Knowledge) (gone : ℕ → Bool) → ((i : ℕ) → gone i ≡ false) → k ≡ without k gone
none_gone k gone none = λ t. record { client = k.client; own = k.own; copies = k.copies; blocks = λ i b. sym (ap (λ g. cond g None (k.blocks i b)) (none i)) t; granted = k.granted }

pub same_gone : (k : Knowledge) (f g : ℕ → Bool) → ((i : ℕ) → f i ≡ g i) → without k f ≡ without k g
same_gone k f g same = λ t. record { client = k.client; own = k.own; copies = k.copies; blocks = λ i b. cond (same i t) None (k.blocks i b); granted = k.granted }

pub both_gone : (k : Knowledge) (f g : ℕ → Bool) → without (without k f) g ≡ without k (λ i. f i || g i)
both_gone k f g = λ t. record { client = k.client; own = k.own; copies = k.copies; blocks = λ i b. twice (f i) (g i) (k.blocks i b) t; granted = k.granted }
