-- Where the blocks of a file lie after a change of it.
use Rattle.std.proofs.Common.{◌≡◌, ◌≢◌, ◌<◌, ◌≤◌, ◌+◌, ◌/◌, ◌^◌, ◌⊎◌, ◌∙◌, ◌||◌, ℕ, List, [], ◌∷◌, length, Bool, true, false, Option, Some, None, arith, inl, inr, sym, ap, subst, refl}
use Rattle.std.specs.Prelude.{IsSome, suc}
use Rattle.std.specs.List.{Contains}
use Rattle.std.proofs.lemmas.Bool.{cases_Bool, cond-true, cond-false, false≢true}
use Rattle.std.proofs.lemmas.List.Elements.{Contains-get_or}
use Rattle.std.proofs.lemmas.Option.{none-some, same_Some}
use Rattle.posix_calls.specs.declared.limits.TheConstants.{MAX_FILE}
use Rattle.tier_device.specs.declared.media.Tier.{Tier}
use Rattle.area_commit.specs.layout.declared.geometry.Space.TheVariants as space
use Rattle.area_commit.specs.layout.Places.{Sizes, is_data}
use Rattle.area_commit.specs.graph_change.Bytes.{length_after, end}
use Rattle.area_commit.specs.graph_change.Change.{Change, writes_block}
use Rattle.area_commit.specs.InodeChange.{writes_over}
use Rattle.area_commit.proofs.Holes.{over_written, over_out, over_at, over_same}
use Rattle.area_commit.specs.graph_change.Tidy.{IsTidyChange}
use Rattle.area_commit.specs.tree_blocks.FileBlock.{is_cut_off}
use Rattle.area_commit.proofs.tree_blocks_lemmas.FileBlocks.{written_inside, left_inside}
use Rattle.area_commit.specs.extent_tree.BlockFormat.{LiesWithin, IsOneToOne}
use Rattle.area_commit.specs.extent_tree.Map.{TierRuns, runs_in, lies_at, LieOnce, LieBelow}
use Rattle.area_commit.specs.extent_tree.declared.map.Place.{Place}
use Rattle.area_commit.proofs.Given.{cons_cases, nothing}
use Rattle.inode_plan.specs.PlacedFile.{nth_number, nth_place, NumbersArePlaced}
use Rattle.inode_plan.specs.BlockWrites.{AreNumbers}
use Rattle.inode_plan.specs.MapChange.{IsCutBy, IsMapAfter, AreFresh, AreData, leaves, AreLeft, KeepsPlace, TakesPlace}
use Rattle.inode_plan.proofs.Moves.{same_or_other}

-- where a number stands among others
pub record StandsAt (numbers : List ℕ) (k : ℕ) : Type 0 where
  pub at : ℕ
  pub inside : at < length numbers
  pub is : nth_number numbers at ≡ k

stands_later : (x : ℕ) (xs : List ℕ) (k : ℕ) → StandsAt xs k → StandsAt (x ∷ xs) k
stands_later x xs k r = let lt = r.inside in record { at = suc r.at; inside = omega (arith, lt); is = r.is }

stands_in : (xs : List ℕ) (k : ℕ) → Contains xs k → StandsAt xs k
stands_in [] k at = absurd (nothing k at)
stands_in (x ∷ xs) k at = elim (cons_cases x xs k at) [
  | inl here ↦ record { at = 0; inside = omega arith; is = here }
  | inr there ↦ stands_later x xs k (stands_in xs k there)
]

-- ---- the map is cut, and then the blocks are placed

module _ (lay : Tier → ℕ → Option ℕ) (c : Change) (numbers : List ℕ) (are : AreNumbers lay c numbers) where
  pub written_at : (n : ℕ) → n < length numbers → writes_over lay c (nth_number numbers n) ≡ true
  written_at n lt = (are.each (nth_number numbers n)).0 (Contains-get_or numbers n 0 lt)

  pub number_fits : IsTidyChange c → end c.length ≤ MAX_FILE → (n : ℕ) → n < length numbers → nth_number numbers n + 1 < 2 ^ 32
  number_fits tidy few n lt = let begins = tidy.blocks (nth_number numbers n) (over_written lay (nth_number numbers n) c (written_at n lt)) in omega (arith, begins, few)

  -- the same where another account tells the same blocks as written
  pub numbers_over : (other : Tier → ℕ → Option ℕ) → ((k : ℕ) → writes_over lay c k ≡ writes_over other c k) → AreNumbers other c numbers
  numbers_over other same = record {
    rising = are.rising;
    each = λ k. (λ at. sym (same k) ∙ (are.each k).0 at, λ put. (are.each k).1 (same k ∙ put));
  }

  -- so it is where the blocks lay the same by it
  pub numbers_as : (other : Tier → ℕ → Option ℕ) → ((t : Tier) (k : ℕ) → lay t k ≡ other t k) → AreNumbers other c numbers
  numbers_as other same = numbers_over other (λ k. over_same lay k c other (λ t. same t k))

  pub stands : (k : ℕ) → writes_over lay c k ≡ true → StandsAt numbers k
  stands k put = stands_in numbers k ((are.each k).1 put)

module _ (c : Change) (numbers : List ℕ) (places : List Place) (old mid new : TierRuns) (are : AreNumbers (lies_at old) c numbers) (cut : IsCutBy c.length old mid) (placed : NumbersArePlaced numbers places (length numbers) mid new) where
  stays_put : (t : Tier) (k : ℕ) → writes_over (lies_at old) c k ≡ false → lies_at new t k ≡ lies_at mid t k
  stays_put t k out = placed.others k t (λ n lt is. false≢true (sym out ∙ ap (λ j. writes_over (lies_at old) c j) (sym is) ∙ written_at (lies_at old) c numbers are n lt))

  pub map_after : IsMapAfter c numbers places old new
  map_after = record {
    there = placed.there;
    once = placed.once;
    gone = λ t k out off. stays_put t k out ∙ cut t k ∙ cond-true (is_cut_off c.length k) None (lies_at old t k) off;
    others = λ t k out on. stays_put t k out ∙ cut t k ∙ cond-false (is_cut_off c.length k) None (lies_at old t k) on;
  }

-- ---- what holds of the map then

neither : (a b : Bool) → (a || b) ≡ false → (a ≡ false) × (b ≡ false)
neither false b is = (refl, is)
neither true b is = absurd (cc)

pub both_out : (a b : Bool) → a ≡ false → b ≡ false → (a || b) ≡ false
both_out a b one two = ap (λ x. x || b) one ∙ two

module _ (c : Change) (numbers : List ℕ) (places : List Place) (old new : TierRuns) (are : AreNumbers (lies_at old) c numbers) (after : IsMapAfter c numbers places old new) where
  abbrev over : ℕ → Bool
  over k = writes_over (lies_at old) c k

  -- the place of a written block
  pub in_place : (k : ℕ) (s : StandsAt numbers k) → lies_at new (nth_place places s.at).tier k ≡ Some (nth_place places s.at).block
  in_place k s = subst (λ j. lies_at new (nth_place places s.at).tier j ≡ Some (nth_place places s.at).block) s.is (after.there s.at s.inside)

  nowhere_else : (k : ℕ) (s : StandsAt numbers k) (t : Tier) → t ≢ (nth_place places s.at).tier → lies_at new t k ≡ None
  nowhere_else k s t other = subst (λ j. lies_at new t j ≡ None) s.is (after.once s.at t s.inside other)

  tier_of : (k : ℕ) (s : StandsAt numbers k) (t : Tier) → IsSome (lies_at new t k) → t ≡ (nth_place places s.at).tier
  tier_of k s t some = elim (same_or_other t (nth_place places s.at).tier) [
    | inl same ↦ same
    | inr other ↦ absurd (false≢true (subst IsSome (nowhere_else k s t other) some))
  ]

  some_at : (t : Tier) (k p : ℕ) → lies_at new t k ≡ Some p → IsSome (lies_at new t k)
  some_at t k p at = subst IsSome (sym at) refl

  takes : (t : Tier) (k p : ℕ) → StandsAt numbers k → lies_at new t k ≡ Some p → TakesPlace numbers places t k p
  takes t k p s at =
      let tier : t ≡ (nth_place places s.at).tier = tier_of k s t (some_at t k p at) in
      record {
        at = s.at;
        inside = s.inside;
        number = s.is;
        tier = sym tier;
        block = same_Some (nth_place places s.at).block p (sym (in_place k s) ∙ subst (λ u. lies_at new u k ≡ Some p) tier at);
      }

  -- each block lies where it lay, or in the place of its number
  pub keeps_or_takes : (t : Tier) (k p : ℕ) → lies_at new t k ≡ Some p → KeepsPlace c old t k p ⊎ TakesPlace numbers places t k p
  keeps_or_takes t k p at = elim (cases_Bool (over k)) [
    | inl put ↦ inr (takes t k p (stands (lies_at old) c numbers are k put) at)
    | inr out ↦ elim (cases_Bool (is_cut_off c.length k)) [
      | inl off ↦ absurd (none-some p (sym (after.gone t k out off) ∙ at))
      | inr on ↦
          let was : lies_at old t k ≡ Some p = sym (after.others t k out on) ∙ at in
          inl (record { stays = both_out (writes_block c k) (is_cut_off c.length k) (sym (over_at (lies_at old) k c t p was) ∙ out) on; was = was })
    ]
  ]

  pub after_once : LieOnce old → LieOnce new
  after_once once t u k some_t some_u = elim (cases_Bool (over k)) [
    | inl put ↦ tier_of k (stands (lies_at old) c numbers are k put) t some_t ∙ sym (tier_of k (stands (lies_at old) c numbers are k put) u some_u)
    | inr out ↦ elim (cases_Bool (is_cut_off c.length k)) [
      | inl off ↦ absurd (false≢true (subst IsSome (after.gone t k out off) some_t))
      | inr on ↦ once t u k (subst IsSome (after.others t k out on) some_t) (subst IsSome (after.others u k out on) some_u)
    ]
  ]

  pub after_below : (size : ℕ) → IsTidyChange c → LieBelow ((size + 4095) / 4096) old → LieBelow ((length_after c.length size + 4095) / 4096) new
  after_below size tidy below t k some = elim (cases_Bool (over k)) [
    | inl put ↦ (let begins = written_inside c size k tidy (over_written (lies_at old) k c put) in omega (arith, begins))
    | inr out ↦ elim (cases_Bool (is_cut_off c.length k)) [
      | inl off ↦ absurd (false≢true (subst IsSome (after.gone t k out off) some))
      | inr on ↦
          let was = below t k (subst IsSome (after.others t k out on) some) in
          let begins = left_inside c size k tidy on (omega (arith, was)) in
          omega (arith, begins)
    ]
  ]

  module _ (fresh : AreFresh places (length numbers) old) where
    -- no kept place is a new one
    kept_apart : (t : Tier) (j k p : ℕ) → TakesPlace numbers places t j p → KeepsPlace c old t k p → ⊥
    kept_apart t j k p one other =
        fresh.free one.at k one.inside (subst (λ u. lies_at old u k ≡ Some (nth_place places one.at).block) (sym one.tier) (other.was ∙ ap (λ q. Some q) (sym one.block)))

    taken_apart : (t : Tier) (j k p : ℕ) → TakesPlace numbers places t j p → TakesPlace numbers places t k p → j ≡ k
    taken_apart t j k p one other =
        sym one.number ∙ ap (nth_number numbers) (fresh.apart one.at other.at one.inside other.inside (one.tier ∙ sym other.tier) (one.block ∙ sym other.block)) ∙ other.number

    pub after_apart : ((t : Tier) → IsOneToOne (runs_in old t)) → (t : Tier) → IsOneToOne (runs_in new t)
    after_apart apart t j k p at_j at_k = elim (keeps_or_takes t j p at_j) [
      | inl one ↦ elim (keeps_or_takes t k p at_k) [
        | inl other ↦ apart t j k p one.was other.was
        | inr other ↦ absurd (kept_apart t k j p other one)
      ]
      | inr one ↦ elim (keeps_or_takes t k p at_k) [
        | inl other ↦ absurd (kept_apart t j k p one other)
        | inr other ↦ taken_apart t j k p one other
      ]
    ]

    -- what is left is what no block has any more
    pub left_is_lost : (t : Tier) (left : List ℕ) → IsOneToOne (runs_in old t) → AreLeft c old t left → (p : ℕ) → Contains left p → (k : ℕ) → lies_at new t k ≡ Some p → ⊥
    left_is_lost t left apart is p at k now =
        let was = (is p).0 at in
        elim (keeps_or_takes t k p now) [
          | inl kept ↦ false≢true (sym kept.stays ∙ ap (leaves c) (apart k was.0 p kept.was was.2) ∙ was.1)
          | inr taken ↦ fresh.free taken.at was.0 taken.inside (subst (λ u. lies_at old u was.0 ≡ Some (nth_place places taken.at).block) (sym taken.tier) (was.2 ∙ ap (λ q. Some q) (sym taken.block)))
        ]

  pub lost_is_left : (t : Tier) (left : List ℕ) → AreLeft c old t left → (p k : ℕ) → lies_at old t k ≡ Some p → (lies_at new t k ≡ Some p → ⊥) → Contains left p
  lost_is_left t left is p k was none = elim (cases_Bool (leaves c k)) [
    | inl away ↦ (is p).1 (k, away, was)
    | inr here ↦ (let both = neither (writes_block c k) (is_cut_off c.length k) here in absurd (none (after.others t k (over_out (lies_at old) k c both.0) both.1 ∙ was)))
  ]

  pub after_within : (g : Sizes) → IsTidyChange c → end c.length ≤ MAX_FILE → AreData g places (length numbers) → ((t : Tier) → LiesWithin g (space.Data t) (runs_in old t)) → (t : Tier) → LiesWithin g (space.Data t) (runs_in new t)
  after_within g tidy few are_data within t k p at = elim (keeps_or_takes t k p at) [
    | inl kept ↦ within t k p kept.was
    | inr taken ↦
        let begins = tidy.blocks k (over_written (lies_at old) k c (subst (λ j. over j ≡ true) taken.number (written_at (lies_at old) c numbers are taken.at taken.inside))) in
        (omega (arith, begins, few), subst (λ u. is_data g u p 1 ≡ true) taken.tier (subst (λ q. is_data g (nth_place places taken.at).tier q 1 ≡ true) taken.block (are_data taken.at taken.inside)))
  ]
