use Rattle.std.proofs.Common.{◌≡◌, ℕ, Bool, List, sym, subst, rules, ◌⊎◌}
use Rattle.std.specs.Prelude.{◌↔◌, MatchBool, map}
use Rattle.std.specs.Global.{Vec}
use Rattle.area_reader.specs.Names.{IsAmong}
use Rattle.area_reader.proofs.Among.{is_new, inserted}
use Rattle.area_reader.proofs.names.Names.add.Goals as goal

abbrev bytes : Vec ℕ → List ℕ
bytes v = v.items

abbrev IsTold : List (List ℕ) → List ℕ → Bool → Type 0
IsTold xs n new = MatchBool new (IsAmong xs n → ⊥) (IsAmong xs n)

pub returns-clause-new : goal.returns-clause-new
returns-clause-new c =
    let k = c.in_ok-copy.copy in
    let same : k.items ≡ c.args.name.now = search rules in
    let told = is_new bytes k c.self.inside.met.keys in
    let there = subst (λ (xs : List (List ℕ)). IsTold xs k.items c.in-Ok.new) c.self.view_is (subst (λ (b : Bool). IsTold (map bytes c.self.inside.met.keys) k.items b) (sym c.in-Ok.ensures.added) told) in
    subst (λ (n : List ℕ). IsTold c.args.self.now n c.in-Ok.new) same there

abbrev HaveMore : List (List ℕ) → List (List ℕ) → List ℕ → Type 0
HaveMore new old name = (n : List ℕ) → IsAmong new n ↔ (IsAmong old n ⊎ (n ≡ name))

pub returns-clause-names : goal.returns-clause-names
returns-clause-names c =
    let k = c.in_ok-copy.copy in
    let same : k.items ≡ c.args.name.now = search rules in
    let more : HaveMore (map bytes c.insert.new.self.keys) (map bytes c.self.inside.met.keys) k.items = subst (λ ks. HaveMore (map bytes ks) (map bytes c.self.inside.met.keys) k.items) (sym c.in-Ok.ensures.keys) (inserted bytes k c.self.inside.met.keys) in
    let there = subst (λ (xs : List (List ℕ)). HaveMore (map bytes c.insert.new.self.keys) xs k.items) c.self.view_is more in
    subst (HaveMore (map bytes c.insert.new.self.keys) c.args.self.now) same there
