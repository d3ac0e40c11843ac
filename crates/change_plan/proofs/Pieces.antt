-- What is one behind another: slots, shares, data and runs.
use Rattle.std.proofs.Common.{◌≡◌, ◌≢◌, ◌≤◌, ◌<◌, ◌+◌, ◌-◌, ◌*◌, inl, inr, ◌⊎◌, ℕ, List, [], ◌∷◌, ◌++◌, length, take, drop, true, refl, sym, ap, ◌∙◌, subst, arith}
use Rattle.std.specs.Prelude.{◌==◌}
use Rattle.std.specs.List.{Contains}
use Rattle.std.proofs.lemmas.Bool.{cond-true, cond-false, ne_eqb, eq-eqb}
use Rattle.std.proofs.lemmas.List.{take-append-le, drop-append-le, get_or_append_left, get_or-append-add, length-append, length-drop}
use Rattle.std.proofs.lemmas.List.Concat.{flat_map-append}
use Rattle.std.proofs.lemmas.List.Elements.{Contains-append_left, Contains-append_right, Contains-append_cases}
use Rattle.std.proofs.Math.Seq.{drop-append-add}
use Rattle.tier_device.specs.declared.media.Tier.{Tier}
use Rattle.tier_device.specs.declared.media.Tier.TheVariants.{Fast, Block, Slow}
use Rattle.block_alloc.specs.declared.runs.Run.{Run}
use Rattle.block_alloc.specs.Runs.{run_blocks, blocks_of}
use Rattle.inode_plan.specs.batch_journal.Images.{slice}
use Rattle.inode_plan.specs.area_reader.Store.{Store}
use Rattle.inode_plan.specs.area_commit.declared.slots.ChangedSlot.{ChangedSlot}
use Rattle.inode_plan.specs.area_commit.Slots.{RiseIn}
use Rattle.inode_plan.specs.area_commit.DataWrite.{block_at, HoldData}
use Rattle.inode_plan.proofs.area_commit_lemmas.Members.{cons_cases, cons_here, nothing}
use Rattle.inode_plan.specs.area_commit.declared.plan.FreedBlocks.{FreedBlocks}
use Rattle.inode_plan.specs.area_commit.Plan.{lost_in, is_changed}
use Rattle.inode_plan.proofs.area_commit_lemmas.Chosen.{changed_has, has_changed}
use Rattle.change_plan.specs.Part.{Share, IsIn}
use Rattle.change_plan.specs.Parts.{LoseBoth, with_at, both}

-- ---- a value at one inode

pub at_one : {X : Type 0} (i : ℕ) (v : X) (f : ℕ → X) → with_at i v f i ≡ v
at_one i v f = cond-true (i == i) v (f i) (eq-eqb i i refl)

pub at_other : {X : Type 0} (i : ℕ) (v : X) (f : ℕ → X) (j : ℕ) → j ≢ i → with_at i v f j ≡ f j
at_other i v f j other = cond-false (j == i) v (f j) (ne_eqb j i other)

-- ---- one slot more

module _ (slots : List ChangedSlot) (c : ChangedSlot) where
  pub changed_old : (j : ℕ) → is_changed slots j ≡ true → is_changed (slots ++ (c ∷ [])) j ≡ true
  changed_old j is =
      let r = changed_has slots j is in
      subst (λ (k : ℕ). is_changed (slots ++ (c ∷ [])) k ≡ true) r.2 (has_changed (slots ++ (c ∷ [])) r.0 (Contains-append_left slots (c ∷ []) r.0 r.1))

  pub changed_last : is_changed (slots ++ (c ∷ [])) c.inode ≡ true
  changed_last = has_changed (slots ++ (c ∷ [])) c (Contains-append_right slots (c ∷ []) c (cons_here c [] c refl))

  pub last_or_old : (d : ChangedSlot) → Contains (slots ++ (c ∷ [])) d → Contains slots d ⊎ (c ≡ d)
  last_or_old d at = elim (Contains-append_cases slots (c ∷ []) d at) [
    | inl old ↦ inl old
    | inr new ↦ elim (cons_cases c [] d new) [ inl here ↦ inr here | inr there ↦ absurd (nothing d there) ]
  ]

  pub changed_either : (j : ℕ) → is_changed (slots ++ (c ∷ [])) j ≡ true → (is_changed slots j ≡ true) ⊎ (c.inode ≡ j)
  changed_either j is =
      let r = changed_has (slots ++ (c ∷ [])) j is in
      elim (last_or_old r.0 r.1) [
        | inl old ↦ inl (subst (λ (k : ℕ). is_changed slots k ≡ true) r.2 (has_changed slots r.0 old))
        | inr here ↦ inr (ap (λ (d : ChangedSlot). d.inode) here ∙ r.2)
      ]

pub rise_more : (low last : ℕ) (slots : List ChangedSlot) (c : ChangedSlot) → RiseIn low last slots → low ≤ c.inode → c.inode ≤ last → ((d : ChangedSlot) → Contains slots d → d.inode < c.inode) → RiseIn low last (slots ++ (c ∷ []))
rise_more low last [] c rise first end below = (first, end, tt)
rise_more low last (d ∷ ds) c rise first end below = (
  rise.0,
  rise.1,
  rise_more (d.inode + 1) last ds c rise.2 (let less : d.inode < c.inode = below d (Contains-append_left (d ∷ []) ds d (cons_here d [] d refl)) in omega (arith, less)) end (λ e at. below e (Contains-append_right (d ∷ []) ds e at)),
)

pub below_changed : (i : ℕ) (slots : List ChangedSlot) → ((d : ChangedSlot) → Contains slots d → d.inode < i) → (j : ℕ) → is_changed slots j ≡ true → j < i
below_changed i slots below j is =
    let r = changed_has slots j is in
    let less : r.0.inode < i = below r.0 r.1 in
    subst (λ (k : ℕ). k < i) r.2 less

-- ---- two shares

pub in_left : (a b : Share) (p : Tier × ℕ) → IsIn a p → IsIn (both a b) p
in_left a b p (inl node) = inl (node.0, Contains-append_left a.nodes b.nodes p.1 node.1)
in_left a b p (inr place) = inr (Contains-append_left a.«data» b.«data» p place)

pub in_right : (a b : Share) (p : Tier × ℕ) → IsIn b p → IsIn (both a b) p
in_right a b p (inl node) = inl (node.0, Contains-append_right a.nodes b.nodes p.1 node.1)
in_right a b p (inr place) = inr (Contains-append_right a.«data» b.«data» p place)

pub in_either : (a b : Share) (p : Tier × ℕ) → IsIn (both a b) p → IsIn a p ⊎ IsIn b p
in_either a b p (inl node) = elim (Contains-append_cases a.nodes b.nodes p.1 node.1) [ inl one ↦ inl (inl (node.0, one)) | inr two ↦ inr (inl (node.0, two)) ]
in_either a b p (inr place) = elim (Contains-append_cases a.«data» b.«data» p place) [ inl one ↦ inl (inr one) | inr two ↦ inr (inr two) ]

-- ---- parts of the data

slice_left : (at n : ℕ) (xs ys : List ℕ) → at + n ≤ length xs → slice at n (xs ++ ys) ≡ slice at n xs
slice_left at n xs ys within =
    let long : length (drop at xs) ≡ length xs - at = length-drop at xs in
    ap (take n) (drop-append-le at xs ys (omega (arith, within))) ∙ take-append-le n (drop at xs) ys (omega (arith, long, within))

slice_right : (at n m : ℕ) (xs ys : List ℕ) → length xs ≡ m → slice (m + at) n (xs ++ ys) ≡ slice at n ys
slice_right at n m xs ys long = subst (λ (k : ℕ). slice (k + at) n (xs ++ ys) ≡ slice at n ys) long (ap (take n) (drop-append-add xs ys at))

module _ (s : Store) (ps qs : List (Tier × ℕ)) (xs ys : List ℕ) (long : length xs ≡ 4096 * length ps) where
  pub holds_left : HoldData s (ps ++ qs) (xs ++ ys) → HoldData s ps xs
  holds_left holds n within =
      let all : length (ps ++ qs) ≡ length ps + length qs = length-append ps qs in
      let whole = holds n (omega (arith, within, all)) in
      sym (ap (block_at s) (get_or_append_left ps qs (Fast, 0) n within)) ∙ (whole ∙ slice_left (4096 * n) 4096 xs ys (omega (arith, within, long)))

  pub holds_right : HoldData s (ps ++ qs) (xs ++ ys) → HoldData s qs ys
  holds_right holds n within =
      let all : length (ps ++ qs) ≡ length ps + length qs = length-append ps qs in
      let whole = holds (length ps + n) (omega (arith, within, all)) in
      let at : 4096 * (length ps + n) ≡ 4096 * length ps + 4096 * n = omega arith in
      sym (ap (block_at s) (get_or-append-add ps qs n (Fast, 0))) ∙ (whole ∙ (ap (λ (k : ℕ). slice k 4096 (xs ++ ys)) at ∙ slice_right (4096 * n) 4096 (4096 * length ps) xs ys long))

-- ---- runs

pub blocks_left : (xs ys : List Run) (k : ℕ) → Contains (blocks_of xs) k → Contains (blocks_of (xs ++ ys)) k
blocks_left xs ys k at = subst (λ (ks : List ℕ). Contains ks k) (sym (flat_map-append run_blocks xs ys)) (Contains-append_left (blocks_of xs) (blocks_of ys) k at)

pub blocks_right : (xs ys : List Run) (k : ℕ) → Contains (blocks_of ys) k → Contains (blocks_of (xs ++ ys)) k
blocks_right xs ys k at = subst (λ (ks : List ℕ). Contains ks k) (sym (flat_map-append run_blocks xs ys)) (Contains-append_right (blocks_of xs) (blocks_of ys) k at)

pub blocks_either : (xs ys : List Run) (k : ℕ) → Contains (blocks_of (xs ++ ys)) k → Contains (blocks_of xs) k ⊎ Contains (blocks_of ys) k
blocks_either xs ys k at = Contains-append_cases (blocks_of xs) (blocks_of ys) k (subst (λ (ks : List ℕ). Contains ks k) (flat_map-append run_blocks xs ys) at)

pub lost_parts : (a b all : FreedBlocks) → LoseBoth a b all → (t : Tier) → lost_in all t ≡ lost_in a t ++ lost_in b t
lost_parts a b all lose Fast = lose.fast
lost_parts a b all lose Block = lose.block
lost_parts a b all lose Slow = lose.slow
