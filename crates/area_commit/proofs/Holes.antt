-- Which blocks a change writes, by where the blocks lay that it starts from.
use Rattle.std.proofs.Common.{◌≡◌, ◌≤◌, ◌*◌, ◌/◌, ◌%◌, ◌==◌, ◌∙◌, ◌||◌, inl, inr, ℕ, Bool, true, false, Option, Some, None, refl, sym, ap, arith}
use Rattle.std.specs.Prelude.{◌&&◌, is_some, not, nat_le, unwrap_or}
use Rattle.std.specs.FinMap as fin
use Rattle.std.proofs.lemmas.Bool.{false≢true, and_parts, or_parts, or_left, or_right, eqb-true, leb-true, cases_Bool}
use Rattle.std.proofs.lemmas.Bool.Decides.{eqb_tells}
use Rattle.tier_device.specs.declared.media.Tier.{Tier}
use Rattle.tier_device.specs.declared.media.Tier.TheVariants.{Fast, Block, Slow}
use Rattle.area_reader.specs.graph_change.Bytes.{Length, Grown, Cut}
use Rattle.area_reader.specs.graph_change.Change.{Change, Patch, blank, patch_at, cuts_within, writes_block}
use Rattle.area_reader.specs.tree_blocks.FileBlock.{is_cut_off}
use Rattle.area_commit.specs.InodeChange.{is_mapped, writes_over}

-- ---- choices

-- where a second choice is a narrower one
narrow : (a b m : Bool) → (a || (b && m)) ≡ true → (a || b) ≡ true
narrow true b m is = refl
narrow false b m is = (and_parts b m is).0

narrow_out : (a b m : Bool) → (a || b) ≡ false → (a || (b && m)) ≡ false
narrow_out a b m out = let both = or_parts a b out in ap (λ x. x || (b && m)) both.0 ∙ ap (λ x. x && m) both.1

narrow_all : (a b m : Bool) → m ≡ true → (a || (b && m)) ≡ (a || b)
narrow_all a b m is = ap (λ x. a || (b && x)) is ∙ ap (λ x. a || x) (all b)
  where
    all : (x : Bool) → (x && true) ≡ x
    all true = refl
    all false = refl

or_false : (a : Bool) → (a || false) ≡ a
or_false true = refl
or_false false = refl

-- what is left out of the narrower one alone
left_out : (a b m : Bool) → (a || (b && m)) ≡ false → (a || b) ≡ true → (a ≡ false) × (b ≡ true) × (m ≡ false)
left_out true b m out in_it = absurd (false≢true (sym out))
left_out false true m out in_it = (refl, refl, out)
left_out false false m out in_it = absurd (false≢true in_it)

-- ---- where a block lies

none_is : (o : Option ℕ) → is_some o ≡ false → o ≡ None
none_is None is = refl
none_is (Some p) is = absurd (false≢true (sym is))

module _ (lies : Tier → ℕ → Option ℕ) (k : ℕ) where
  pub nowhere : is_mapped lies k ≡ false → (t : Tier) → lies t k ≡ None
  unfolding is_mapped
  nowhere out t =
      let fast = or_parts (is_some (lies Fast k)) (is_some (lies Block k) || is_some (lies Slow k)) out in
      let below = or_parts (is_some (lies Block k)) (is_some (lies Slow k)) fast.1 in
      by t fast.0 below.0 below.1
    where
      by : (u : Tier) → is_some (lies Fast k) ≡ false → is_some (lies Block k) ≡ false → is_some (lies Slow k) ≡ false → lies u k ≡ None
      by Fast one two three = none_is (lies Fast k) one
      by Block one two three = none_is (lies Block k) two
      by Slow one two three = none_is (lies Slow k) three

  pub unmapped : ((t : Tier) → lies t k ≡ None) → is_mapped lies k ≡ false
  unfolding is_mapped
  unmapped none = λ i. is_some (none Fast i) || (is_some (none Block i) || is_some (none Slow i))

  pub mapped_at : (t : Tier) (p : ℕ) → lies t k ≡ Some p → is_mapped lies k ≡ true
  unfolding is_mapped
  mapped_at Fast p at = or_left (is_some (lies Fast k)) (is_some (lies Block k) || is_some (lies Slow k)) (ap is_some at)
  mapped_at Block p at = or_right (is_some (lies Fast k)) (is_some (lies Block k) || is_some (lies Slow k)) (or_left (is_some (lies Block k)) (is_some (lies Slow k)) (ap is_some at))
  mapped_at Slow p at = or_right (is_some (lies Fast k)) (is_some (lies Block k) || is_some (lies Slow k)) (or_right (is_some (lies Block k)) (is_some (lies Slow k)) (ap is_some at))

  pub mapped_same : (other : Tier → ℕ → Option ℕ) → ((t : Tier) → lies t k ≡ other t k) → is_mapped lies k ≡ is_mapped other k
  unfolding is_mapped
  mapped_same other same = λ i. is_some (same Fast i) || (is_some (same Block i) || is_some (same Slow i))

  -- ---- what is written

  module _ (c : Change) where
    abbrev is_put : Bool
    is_put = fin.contains_key c.patches k

    abbrev is_cut : Bool
    is_cut = cuts_within c.length k

    -- what is written over it has bytes, or is cut
    pub over_written : writes_over lies c k ≡ true → writes_block c k ≡ true
    over_written is = narrow is_put is_cut (is_mapped lies k) is

    pub over_out : writes_block c k ≡ false → writes_over lies c k ≡ false
    over_out out = narrow_out is_put is_cut (is_mapped lies k) out

    -- of a block that lay somewhere it is all the same
    pub over_mapped : is_mapped lies k ≡ true → writes_over lies c k ≡ writes_block c k
    over_mapped is = narrow_all is_put is_cut (is_mapped lies k) is

    pub over_at : (t : Tier) (p : ℕ) → lies t k ≡ Some p → writes_over lies c k ≡ writes_block c k
    over_at t p at = over_mapped (mapped_at t p at)

    pub over_same : (other : Tier → ℕ → Option ℕ) → ((t : Tier) → lies t k ≡ other t k) → writes_over lies c k ≡ writes_over other c k
    over_same other same = ap (λ m. is_put || (is_cut && m)) (mapped_same other same)

    -- where it is not cut, or bytes are put into it, that decides; else it is where it lay
    pub over_uncut : is_cut ≡ false → writes_over lies c k ≡ is_put
    over_uncut out = ap (λ x. is_put || (x && is_mapped lies k)) out ∙ or_false is_put

    pub over_put : is_put ≡ true → writes_over lies c k ≡ is_put
    over_put is = or_left is_put (is_cut && is_mapped lies k) is ∙ sym is

    pub over_cut : is_put ≡ false → is_cut ≡ true → writes_over lies c k ≡ is_mapped lies k
    over_cut out cut = ap (λ x. x || (is_cut && is_mapped lies k)) out ∙ ap (λ x. x && is_mapped lies k) cut

    -- nothing is put into a hole that stays, and it is not cut off
    pub hole : writes_over lies c k ≡ false → writes_block c k ≡ true → (is_put ≡ false) × (is_cut ≡ true) × (is_mapped lies k ≡ false)
    hole out is = left_out is_put is_cut (is_mapped lies k) out is

-- nothing is put into it
pub unput : (c : Change) (k : ℕ) → fin.contains_key c.patches k ≡ false → patch_at c.patches k ≡ blank
unput c k out = none (fin.get c.patches k) out
  where
    none : (o : Option Patch) → is_some o ≡ false → unwrap_or o blank ≡ blank
    none None is = refl
    none (Some x) is = absurd (false≢true (sym is))

-- a block within which a file is cut begins before the cut
pub cut_begins : (len : Length) (k : ℕ) → cuts_within len k ≡ true → is_cut_off len k ≡ false
cut_begins (Grown to) k is = absurd (false≢true is)
cut_begins (Cut least to) k is =
    let both = and_parts (not (least % 4096 == 0)) (least / 4096 == k) is in
    let there : least / 4096 ≡ k = eqb-true (least / 4096) k both.1 in
    elim (cases_Bool (nat_le least (4096 * k))) [
      | inr on ↦ on
      | inl off ↦ elim (eqb_tells (least % 4096) 0) [
        | inl none ↦ absurd (false≢true (sym (ap (λ t. not t) none.0) ∙ both.0))
        | inr some ↦ (let rest = some.1 in let past : least ≤ 4096 * k = leb-true least (4096 * k) off in absurd (omega (arith, there, rest, past)))
      ]
    ]
