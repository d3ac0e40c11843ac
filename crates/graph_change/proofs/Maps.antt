-- A map in memory as the finite map of what its values say.
use Rattle.std.proofs.Common.{◌≡◌, inl, inr, ℕ, List, [], ◌∷◌, Bool, true, false, Option, Some, None, refl, sym, ap, ◌∙◌, cond, subst}
use Rattle.std.proofs.lemmas.Bool.Decides.{eqb_tells}
use Rattle.std.specs.Prelude.{option_map, unwrap_or, IsSome}
use Rattle.std.specs.Ordering.{nat_cmp, is_eq, eq_by_cmp}
use Rattle.std.specs.Cmp.{nat_cmp_total, eq_by_cmp_equiv}
use Rattle.std.specs.Map.{lookup}
use Rattle.std.specs.FinMap as fin
use Rattle.std.specs.BTreeMap.{BTreeMap, get, is_at, Updates}
use Rattle.graph_change.specs.View.{map_of}
use Rattle.graph_change.proofs.Blocks.{get_put}

in_option : {X Y : Type 0} (f : X → Y) (b : Bool) (x : X) (o : Option X) → cond b (Some (f x)) (option_map f o) ≡ option_map f (cond b (Some x) o)
in_option f true x o = refl
in_option f false x o = refl

found : {X Y : Type 0} (f : X → Y) (i : ℕ) (es : List (ℕ × X)) → fin.get (map_of f es) i ≡ option_map f (lookup (is_at (nat_cmp i)) es)
found f i [] = fin.get-empty nat_cmp i
found f i (e ∷ es) =
    fin.get-insert nat_cmp_total (map_of f es) e.0 (f e.1) i
    ∙ ap (cond (is_eq (nat_cmp i e.0)) (Some (f e.1))) (found f i es)
    ∙ in_option f (is_eq (nat_cmp i e.0)) e.1 (lookup (is_at (nat_cmp i)) es)

pub value_at : {X Y : Type 0} (f : X → Y) (m : BTreeMap ℕ X) (i : ℕ) → fin.get (map_of f m.entries) i ≡ option_map f (get nat_cmp m i)
value_at f m i = found f i m.entries

-- what is put into the one is put into the other
put_in : {X Y : Type 0} (f : X → Y) (old : BTreeMap ℕ X) (new : List (ℕ × X)) (i : ℕ) (x : X) (y : Y) → f x ≡ y → ((q : ℕ) → lookup (is_at (nat_cmp q)) new ≡ cond (is_at (nat_cmp i) q) (Some x) (get nat_cmp old q)) → map_of f new ≡ fin.insert (map_of f old.entries) i y
put_in f old new i x y same updates = fin.same_map nat_cmp_total fin.nat_cmp-IsAntisymmetric _ _ (λ q.
    found f q new
    ∙ ap (option_map f) (updates q)
    ∙ sym (in_option f (is_at (nat_cmp i) q) x (get nat_cmp old q))
    ∙ ap (λ b. cond b (Some (f x)) (option_map f (get nat_cmp old q))) ((eq_by_cmp_equiv nat_cmp_total).symm i q)
    ∙ ap (λ z. cond (eq_by_cmp nat_cmp q i) (Some z) (option_map f (get nat_cmp old q))) same
    ∙ sym (fin.get-insert nat_cmp_total (map_of f old.entries) i y q ∙ ap (cond (eq_by_cmp nat_cmp q i) (Some y)) (value_at f old q)))

pub put_at : {X Y : Type 0} (f : X → Y) (old new : BTreeMap ℕ X) (i : ℕ) (x : X) (y : Y) → f x ≡ y → Updates nat_cmp old new i (Some x) → map_of f new.entries ≡ fin.insert (map_of f old.entries) i y
put_at f old new i x y same updates = put_in f old new.entries i x y same updates.0

-- what was there
pub was_there : {X Y : Type 0} (f : X → Y) (m : BTreeMap ℕ X) (i : ℕ) (o : Option X) (none : Y) → get nat_cmp m i ≡ o → unwrap_or (fin.get (map_of f m.entries) i) none ≡ unwrap_or (option_map f o) none
was_there f m i o none e = ap (λ w. unwrap_or w none) (value_at f m i ∙ ap (option_map f) e)

-- what is there is changed there
pub put_over : {X Y : Type 0} (f : X → Y) (g : Y → Y) (old new : BTreeMap ℕ X) (i : ℕ) (x w : X) (none : Y) → get nat_cmp old i ≡ Some x → f w ≡ g (f x) → (IsSome (get nat_cmp old i) → Updates nat_cmp old new i (Some w)) → map_of f new.entries ≡ fin.insert (map_of f old.entries) i (g (unwrap_or (fin.get (map_of f old.entries) i) none))
put_over f g old new i x w none there same updates =
    put_at f old new i w _ (same ∙ ap g (sym (was_there f old i (Some x) none there))) (updates (subst IsSome (sym there) refl))

-- what isn't there is made first
pub put_new : {X Y : Type 0} (f : X → Y) (g : Y → Y) (old new : BTreeMap ℕ X) (i : ℕ) (w : X) (none : Y) → get nat_cmp old i ≡ None → f w ≡ g none → Updates nat_cmp old new i (Some w) → map_of f new.entries ≡ fin.insert (map_of f old.entries) i (g (unwrap_or (fin.get (map_of f old.entries) i) none))
put_new f g old new i w none absent same updates =
    put_at f old new i w _ (same ∙ ap g (sym (was_there f old i None none absent))) updates

-- what is there stays, if it says the same
pub put_same : {X Y : Type 0} (f : X → Y) (old new : BTreeMap ℕ X) (i : ℕ) (x w : X) → get nat_cmp old i ≡ Some x → f w ≡ f x → (IsSome (get nat_cmp old i) → Updates nat_cmp old new i (Some w)) → map_of f new.entries ≡ map_of f old.entries
put_same f old new i x w there same updates =
    put_at f old new i w (f x) same (updates (subst IsSome (sym there) refl))
    ∙ fin.same_map nat_cmp_total fin.nat_cmp-IsAntisymmetric _ _ (λ q.
    get_put (map_of f old.entries) i (f x) q ∙ elim (eqb_tells q i) [
      | inl here ↦ ap (λ t. cond t (Some (f x)) (fin.get (map_of f old.entries) q)) here.0 ∙ sym (ap (fin.get (map_of f old.entries)) here.1 ∙ value_at f old i ∙ ap (option_map f) there)
      | inr off ↦ ap (λ t. cond t (Some (f x)) (fin.get (map_of f old.entries) q)) off.0
    ])

-- the same of a map that was lent until then
pub put_lent : {X Y : Type 0} (f : X → Y) (old : BTreeMap ℕ X) (lent new : List (ℕ × X)) (i : ℕ) (x : X) (y : Y) → ((q : ℕ) → lookup (is_at (nat_cmp q)) lent ≡ cond (is_at (nat_cmp i) q) (Some x) (get nat_cmp old q)) → f x ≡ y → new ≡ lent → map_of f new ≡ fin.insert (map_of f old.entries) i y
put_lent f old lent new i x y updates same is = ap (map_of f) is ∙ put_in f old lent i x y same updates

-- what stands at a place, which is made first if nothing does
pub stood_or_new : {X Y : Type 0} (f : X → Y) (m : BTreeMap ℕ X) (i : ℕ) (o : Option X) (x d : X) (none : Y) → o ≡ get nat_cmp m i → x ≡ unwrap_or o d → f d ≡ none → f x ≡ unwrap_or (fin.get (map_of f m.entries) i) none
stood_or_new f m i None x d none is at new = ap f at ∙ new ∙ sym (was_there f m i None none (sym is))
stood_or_new f m i (Some y) x d none is at new = ap f at ∙ sym (was_there f m i (Some y) none (sym is))

-- where it stood, what says the same changes nothing
pub stood_same : {X Y : Type 0} (f : X → Y) (m : BTreeMap ℕ X) (i : ℕ) (o : Option X) (x d w : X) → o ≡ get nat_cmp m i → x ≡ unwrap_or o d → w ≡ x → (x ≡ d → ⊥) → fin.insert (map_of f m.entries) i (f w) ≡ map_of f m.entries
stood_same f m i None x d w is at same stood = absurd (stood at)
stood_same f m i (Some y) x d w is at same stood =
    let there : fin.get (map_of f m.entries) i ≡ Some (f w) = value_at f m i ∙ ap (option_map f) (sym is) ∙ ap (λ z. Some (f z)) (sym (same ∙ at)) in
    fin.same_map nat_cmp_total fin.nat_cmp-IsAntisymmetric _ _ (λ q.
    get_put (map_of f m.entries) i (f w) q ∙ elim (eqb_tells q i) [
      | inl here ↦ ap (λ t. cond t (Some (f w)) (fin.get (map_of f m.entries) q)) here.0 ∙ sym (ap (fin.get (map_of f m.entries)) here.1 ∙ there)
      | inr off ↦ ap (λ t. cond t (Some (f w)) (fin.get (map_of f m.entries) q)) off.0
    ])
