-- The parts of an inode, and their blocks.
use Rattle.std.proofs.Common.{◌≡◌, ◌≢◌, ◌<◌, ◌+◌, ℕ, Bool, true, false, refl, sym, ap, subst, ◌∙◌, arith, Option, Some, None, inl, inr, ◌⊎◌}
use Rattle.std.specs.Prelude.{◌↔◌, ◌==◌, option_map, MatchBool}
use Rattle.std.proofs.lemmas.Bool.{cases_eq, cond-true, cond-false, eq-eqb, ne_eqb}
use Rattle.tier_device.specs.declared.media.Tier.{Tier}
use Rattle.tier_device.specs.declared.media.Tier.TheVariants.{Fast, Block, Slow}
use Rattle.area_reader.specs.Store.{root_of, length_of}
use Rattle.batch_journal.specs.layout.Extents.{ExtentList}
use Rattle.extent_tree.specs.Places.{place_of}
use Rattle.area_reader.specs.Map.{place_by, in_tier, extents_in}
use Rattle.area_reader.specs.BlockMarks.{UsedMarks, is_marked, HasRoom, Adds, TakesBlocks, Clashes}
use Rattle.area_reader.specs.Parts.{InodeUse, part_block, part_for, IsRoot, IsPlace, IsOfTier, IsWithin, HasRoomFor}
use Rattle.area_reader.specs.declared.inode.InodeParts.{InodeParts}
use Rattle.area_reader.proofs.Takings.{take_one, take_none, take_more, take_same, clash_one, clash_after, clash_more}

abbrev part : Tier → Option ℕ → InodeUse
part t o = (t, o)

abbrev at_fast : ℕ → Option (Tier × ℕ)
at_fast n = Some (Fast, n)

part_is : (a : InodeUse) (t : Tier) (o : Option ℕ) → a.0 ≡ t → a.1 ≡ o → a ≡ part t o
part_is a t o one two = λ p. (one p, two p)

part_tier : (a : InodeUse) (t : Tier) (o : Option ℕ) → a ≡ part t o → a.0 ≡ t
part_tier a t o e = ap (λ (x : InodeUse). x.0) e

part_number : (a : InodeUse) (t : Tier) (o : Option ℕ) → a ≡ part t o → a.1 ≡ o
part_number a t o e = ap (λ (x : InodeUse). x.1) e

some_same : (j k : ℕ) → Some j ≡ Some k → j ≡ k
some_same j k e = cc

no_block : {B : Type 0} (o : Option B) (b : B) → o ≡ None → o ≡ Some b → ⊥
no_block o b none some = let e : None ≡ Some b = sym none ∙ some in cc

-- a mark that was set or not
marked_or_not : (old new : UsedMarks) (x : InodeParts) (these : InodeUse → Type 0) (a : InodeUse) (t : Tier) (k : ℕ) → part_block x a ≡ Some (t, k) → ((c : InodeUse) → (c ≡ a) ↔ these c) → (was : Bool) → was ≡ is_marked old t k → Adds old new (λ u j. (u ≡ t) × (j ≡ k)) → MatchBool was (Clashes old (part_block x) these) (TakesBlocks old new (part_block x) these)
marked_or_not old new x these a t k at same true was adds = clash_one (part_block x) old these a t k ((same a).0 refl) at (sym was)
marked_or_not old new x these a t k at same false was adds = take_same (part_block x) old new (λ c. c ≡ a) these (take_one (part_block x) old new a t k at (sym was) adds) (λ c u j there. same c)

-- ---- the list of extents

root_same : (t : Tier) (c : InodeUse) → (c ≡ part t None) ↔ IsRoot t c
root_same t c = (λ e. (part_tier c t None e, part_number c t None e), λ is. part_is c t None is.0 is.1)

root_at : (x : InodeParts) (t : Tier) → root_of x.slot t ≢ 0 → part_block x (part t None) ≡ Some (Fast, root_of x.slot t)
root_at x t some = cond-false (root_of x.slot t == 0) _ _ (ne_eqb _ 0 some)

root_there : (x : InodeParts) (t : Tier) (r : ℕ) → r ≡ root_of x.slot t → r ≢ 0 → part_block x (part t None) ≡ Some (Fast, r)
root_there x t r is some = root_at x t (λ e. some (is ∙ e)) ∙ ap (λ (n : ℕ). at_fast n) (sym is)

pub root_room : (m : UsedMarks) (x : InodeParts) (t : Tier) (r : ℕ) → HasRoomFor m x → r ≡ root_of x.slot t → r ≢ 0 → HasRoom m Fast r
root_room m x t r room is some = room (part t None) Fast r (root_there x t r is some)

pub root_marked : (old new : UsedMarks) (x : InodeParts) (t : Tier) (r : ℕ) → r ≡ root_of x.slot t → r ≢ 0 → (was : Bool) → was ≡ is_marked old Fast r → Adds old new (λ u j. (u ≡ Fast) × (j ≡ r)) → MatchBool was (Clashes old (part_block x) (IsRoot t)) (TakesBlocks old new (part_block x) (IsRoot t))
root_marked old new x t r at some was is adds = marked_or_not old new x (IsRoot t) (part t None) Fast r (root_there x t r at some) (root_same t) was is adds

part_of : (x : InodeParts) (a : InodeUse) (t : Tier) (o : Option ℕ) → a.0 ≡ t → a.1 ≡ o → part_block x a ≡ part_for x t o
part_of x a t o one two = ap (λ u. part_for x u a.1) one ∙ ap (part_for x t) two

pub root_none : (m : UsedMarks) (x : InodeParts) (t : Tier) → root_of x.slot t ≡ 0 → TakesBlocks m m (part_block x) (IsRoot t)
root_none m x t zero' = take_none (part_block x) m (IsRoot t) (λ a u k is at. no_block (part_block x a) (u, k) (part_of x a t None is.0 is.1 ∙ cond-true (root_of x.slot t == 0) _ _ (eq-eqb _ 0 zero')) at)

-- ---- logical blocks

-- what is found of a logical block among the extents of a tier
pub place_found : (x : InodeParts) (t : Tier) (k : ℕ) (found : Option ExtentList) (read there : Option ℕ) → found ≡ in_tier x.extents t → read ≡ place_of (extents_in found) k → read ≡ there → place_by x.extents t k ≡ there
place_found x t k found read there of_tier at is = ap (λ o. place_of (extents_in o) k) (sym of_tier) ∙ (sym at ∙ is)

place_at : (x : InodeParts) (t : Tier) (k p : ℕ) → place_by x.extents t k ≡ Some p → part_block x (part t (Some k)) ≡ Some (t, p)
place_at x t k p at = ap (option_map (λ p. (t, p))) at

pub place_room : (old mid : UsedMarks) (x : InodeParts) (t : Tier) (n : ℕ) → HasRoomFor old x → TakesBlocks old mid (part_block x) (IsPlace t n) → (k p : ℕ) → place_by x.extents t k ≡ Some p → HasRoom mid t p
place_room old mid x t n room takes k p at = subst (λ (m : ℕ). p < m) (sym (takes.adds.room t)) (room (part t (Some k)) t p (place_at x t k p at))

pub places_none : (m : UsedMarks) (x : InodeParts) (t : Tier) → TakesBlocks m m (part_block x) (IsPlace t 0)
places_none m x t = take_none (part_block x) m (IsPlace t 0) (λ a u k is at. let low = is.2 in omega (arith, low))

more_places : (t : Tier) (n : ℕ) (a : InodeUse) → ((IsPlace t n a) ⊎ (a ≡ part t (Some n))) ↔ IsPlace t (n + 1) a
more_places t n a = (
  λ is. elim is [ inl before ↦ (before.0, before.1, (let low = before.2 in omega (arith, low)), before.3) | inr e ↦ (part_tier a t (Some n) e, n, omega arith, part_number a t (Some n) e) ],
  λ is. elim (cases_eq (is.1) n) [ inl same ↦ inr (part_is a t (Some n) is.0 (is.3 ∙ ap Some same)) | inr other ↦ inl (is.0, is.1, (let low = is.2 in omega (arith, low, other)), is.3) ],
)

pub places_more : (old mid new : UsedMarks) (x : InodeParts) (t : Tier) (n p : ℕ) → TakesBlocks old mid (part_block x) (IsPlace t n) → place_by x.extents t n ≡ Some p → is_marked mid t p ≡ false → Adds mid new (λ u j. (u ≡ t) × (j ≡ p)) → TakesBlocks old new (part_block x) (IsPlace t (n + 1))
places_more old mid new x t n p takes at unmarked adds =
    let one = take_one (part_block x) mid new (part t (Some n)) t p (place_at x t n p at) unmarked adds in
    let both = take_more (part_block x) old mid new (IsPlace t n) (λ c. c ≡ part t (Some n)) takes one in
    take_same (part_block x) old new (λ c. (IsPlace t n c) ⊎ (c ≡ part t (Some n))) (IsPlace t (n + 1)) both (λ a u k there. more_places t n a)

pub places_skip : (old mid : UsedMarks) (x : InodeParts) (t : Tier) (n : ℕ) → TakesBlocks old mid (part_block x) (IsPlace t n) → place_by x.extents t n ≡ None → TakesBlocks old mid (part_block x) (IsPlace t (n + 1))
places_skip old mid x t n takes none = take_same (part_block x) old mid (IsPlace t n) (IsPlace t (n + 1)) takes (λ a u k there. (λ is. (more_places t n a).0 (inl is), λ is. elim ((more_places t n a).1 is) [ inl before ↦ before | inr e ↦ absurd (no_block (part_block x a) (u, k) (ap (part_block x) e ∙ ap (option_map (λ p. (t, p))) none) there) ]))

not_before : (t : Tier) (n : ℕ) (a : InodeUse) → IsPlace t n a → a ≡ part t (Some n) → ⊥
not_before t n a is e = let same = some_same (is.1) n (sym (is.3) ∙ part_number a t (Some n) e) in let low = is.2 in omega (arith, low, same)

pub places_clash : (old mid : UsedMarks) (x : InodeParts) (t : Tier) (n most p : ℕ) → n < most → TakesBlocks old mid (part_block x) (IsPlace t n) → place_by x.extents t n ≡ Some p → is_marked mid t p ≡ true → Clashes old (part_block x) (IsPlace t most)
places_clash old mid x t n most p few takes at marked =
    let one = clash_one (part_block x) mid (λ c. c ≡ part t (Some n)) (part t (Some n)) t p refl (place_at x t n p at) marked in
    clash_after (part_block x) old mid (IsPlace t n) (λ c. c ≡ part t (Some n)) (IsPlace t most) takes one (not_before t n) (λ a e. (part_tier a t (Some n) e, n, few, part_number a t (Some n) e))

-- ---- a tier, and all of them

pub room_kept : (old mid : UsedMarks) (x : InodeParts) (these : InodeUse → Type 0) → HasRoomFor old x → TakesBlocks old mid (part_block x) these → HasRoomFor mid x
room_kept old mid x these room takes a t k at = subst (λ (m : ℕ). k < m) (sym (takes.adds.room t)) (room a t k at)

some_none : (k : ℕ) → None ≡ Some k → ⊥
some_none k e = cc

root_no_place : (t : Tier) (n : ℕ) (a : InodeUse) → IsRoot t a → IsPlace t n a → ⊥
root_no_place t n a root place = some_none (place.1) (sym (root.1) ∙ place.3)

pub tier_clash : (old : UsedMarks) (x : InodeParts) (t : Tier) → Clashes old (part_block x) (IsRoot t) → Clashes old (part_block x) (IsOfTier t x)
tier_clash old x t clash = clash_more (part_block x) old (IsRoot t) (IsOfTier t x) clash (λ a is. inl is)

pub tier_more : (old mid new : UsedMarks) (x : InodeParts) (t : Tier) → TakesBlocks old mid (part_block x) (IsRoot t) → (was : Bool) → MatchBool was (Clashes mid (part_block x) (IsPlace t (length_of x.slot))) (TakesBlocks mid new (part_block x) (IsPlace t (length_of x.slot))) → MatchBool was (Clashes old (part_block x) (IsOfTier t x)) (TakesBlocks old new (part_block x) (IsOfTier t x))
tier_more old mid new x t takes true clash = clash_after (part_block x) old mid (IsRoot t) (IsPlace t (length_of x.slot)) (IsOfTier t x) takes clash (root_no_place t (length_of x.slot)) (λ a is. inr is)
tier_more old mid new x t takes false more = take_more (part_block x) old mid new (IsRoot t) (IsPlace t (length_of x.slot)) takes more

pub tier_of : (x : InodeParts) (t : Tier) (a : InodeUse) → IsOfTier t x a → a.0 ≡ t
tier_of x t a is = elim is [ inl root ↦ root.0 | inr place ↦ place.0 ]

fast_no_block : Fast ≡ Block → ⊥
fast_no_block e = cc

fast_no_slow : Fast ≡ Slow → ⊥
fast_no_slow e = cc

block_no_slow : Block ≡ Slow → ⊥
block_no_slow e = cc

pub block_clash : (old fast : UsedMarks) (x : InodeParts) → TakesBlocks old fast (part_block x) (IsOfTier Fast x) → Clashes fast (part_block x) (IsOfTier Block x) → Clashes old (part_block x) (IsOfTier Block x)
block_clash old fast x takes clash = clash_after (part_block x) old fast (IsOfTier Fast x) (IsOfTier Block x) (IsOfTier Block x) takes clash (λ a one two. fast_no_block (sym (tier_of x Fast a one) ∙ tier_of x Block a two)) (λ a is. is)

pub slow_clash : (old fast block : UsedMarks) (x : InodeParts) → TakesBlocks old fast (part_block x) (IsOfTier Fast x) → TakesBlocks fast block (part_block x) (IsOfTier Block x) → Clashes block (part_block x) (IsOfTier Slow x) → Clashes old (part_block x) (IsOfTier Slow x)
slow_clash old fast block x one two clash =
    clash_after (part_block x) old fast (IsOfTier Fast x) (IsOfTier Slow x) (IsOfTier Slow x) one
    (clash_after (part_block x) fast block (IsOfTier Block x) (IsOfTier Slow x) (IsOfTier Slow x) two clash (λ a here there. block_no_slow (sym (tier_of x Block a here) ∙ tier_of x Slow a there)) (λ a is. is))
    (λ a here there. fast_no_slow (sym (tier_of x Fast a here) ∙ tier_of x Slow a there))
    (λ a is. is)

abbrev OfSome : InodeParts → InodeUse → Type 0
OfSome x a = ((IsOfTier Fast x a) ⊎ (IsOfTier Block x a)) ⊎ (IsOfTier Slow x a)

of_some : (x : InodeParts) (a : InodeUse) (t : Tier) → a.0 ≡ t → IsOfTier t x a → OfSome x a
of_some x a Fast e is = inl (inl is)
of_some x a Block e is = inl (inr is)
of_some x a Slow e is = inr is

within_tier : (x : InodeParts) (a : InodeUse) (t : Tier) → IsOfTier t x a → IsWithin x a
within_tier x a t is = subst (λ (u : Tier). IsOfTier u x a) (sym (tier_of x t a is)) is

within_some : (x : InodeParts) (a : InodeUse) → OfSome x a ↔ IsWithin x a
within_some x a = (
  λ is. elim is [ inl upper ↦ elim upper [ inl fast ↦ within_tier x a Fast fast | inr block ↦ within_tier x a Block block ] | inr slow ↦ within_tier x a Slow slow ],
  λ is. of_some x a (a.0) refl is,
)

pub inode_taken : (old fast block slow : UsedMarks) (x : InodeParts) → TakesBlocks old fast (part_block x) (IsOfTier Fast x) → TakesBlocks fast block (part_block x) (IsOfTier Block x) → TakesBlocks block slow (part_block x) (IsOfTier Slow x) → TakesBlocks old slow (part_block x) (IsWithin x)
inode_taken old fast block slow x one two three =
    let upper = take_more (part_block x) old fast block (IsOfTier Fast x) (IsOfTier Block x) one two in
    let all = take_more (part_block x) old block slow (λ a. (IsOfTier Fast x a) ⊎ (IsOfTier Block x a)) (IsOfTier Slow x) upper three in
    take_same (part_block x) old slow (OfSome x) (IsWithin x) all (λ a u k there. within_some x a)
