-- How many data blocks a change wants: it is one number, a small one for each inode, and they are of blocks that are written.
use Rattle.std.proofs.Common.{◌≡◌, ◌≤◌, ◌<◌, ◌+◌, ◌*◌, ◌∙◌, inl, inr, ℕ, List, [], ◌∷◌, length, true, Option, Some, refl, sym, subst, arith}
use Rattle.std.specs.List.{Contains}
use Rattle.std.specs.FinMap as fin
use Rattle.std.proofs.lemmas.List.{length-map}
use Rattle.inode_plan.proofs.area_commit_lemmas.Members.{cons_here, cons_there}
use Rattle.inode_plan.specs.graph_change.Bounds.{IsBounded, AreBounded}
use Rattle.inode_plan.specs.graph_change.Bytes.{end}
use Rattle.inode_plan.specs.graph_change.Change.{Change, Changes, writes_block}
use Rattle.inode_plan.specs.graph_change.Tidy.{IsTidyChange, AreTidyChanges}
use Rattle.tier_device.specs.declared.media.Tier.{Tier}
use Rattle.tier_device.specs.declared.media.Tier.TheVariants as tiers
use Rattle.posix_calls.specs.declared.limits.TheConstants.{MAX_FILE, MAX_INODE}
use Rattle.inode_plan.specs.layout.Places.{Sizes, is_inode}
use Rattle.inode_plan.specs.layout.declared.places.TheConstants.{FILE_BLOCKS}
use Rattle.inode_plan.specs.area_reader.Store.{Store}
use Rattle.inode_plan.specs.area_commit.InodeChange.{is_mapped, places_from, writes_over}
use Rattle.inode_plan.proofs.area_commit_lemmas.Holes.{mapped_at, over_written}
use Rattle.inode_plan.specs.BlockWrites.{AreNumbers}
use Rattle.inode_plan.proofs.area_commit_lemmas.Chosen.{inode_range}
use Rattle.change_plan.specs.Next.{WantsData}
use Rattle.change_plan.specs.BlockDemand.{WantInTurn, WantsBlocks}
use Rattle.change_plan.proofs.Climbs.{climb_rising, climb_few, climb_within, change_here, has_here, key_has, keys_climb}

-- ---- of one inode

-- of a file that is cut within a block alone, that block may be written
pub alone_written : (c : Change) (k : ℕ) → ((lay : Tier → ℕ → Option ℕ) → writes_over lay c k ≡ is_mapped lay k) → writes_block c k ≡ true
alone_written c k alone = over_written somewhere k c (alone somewhere ∙ mapped_at somewhere k tiers.Fast 0 refl)
  where
    somewhere : Tier → ℕ → Option ℕ
    somewhere t j = Some 0

numbers_same : (lay : Tier → ℕ → Option ℕ) (c : Change) (xs ys : List ℕ) → AreNumbers lay c xs → AreNumbers lay c ys → length xs ≡ length ys
numbers_same lay c xs ys one two =
    let first = climb_rising 0 one.rising.0 xs one.rising.1 in
    let second = climb_rising 0 two.rising.0 ys two.rising.1 in
    let le = climb_within 0 0 xs ys first second (λ k at. (two.each k).1 ((one.each k).0 at)) in
    let ge = climb_within 0 0 ys xs second first (λ k at. (one.each k).1 ((two.each k).0 at)) in
    omega (arith, le, ge)

pub wants_same : (g : Sizes) (s : Store) (c : Change) (i m n : ℕ) → WantsData g s c i m → WantsData g s c i n → m ≡ n
wants_same g s c i m n (inl one) (inl two) = let same = numbers_same (places_from g s i c.base) c one.1 two.1 one.2 two.2 in omega (arith, same, one.3, two.3)
wants_same g s c i m n (inl one) (inr two) = absurd (two.0 one.0)
wants_same g s c i m n (inr one) (inl two) = absurd (one.0 two.0)
wants_same g s c i m n (inr one) (inr two) = omega (arith, one.1, two.1)

pub wants_few : (g : Sizes) (s : Store) (c : Change) (i n : ℕ) → IsTidyChange c → IsBounded c → WantsData g s c i n → n ≤ FILE_BLOCKS
wants_few g s c i n tidy bounded (inl is) =
    let inside : (k : ℕ) → Contains is.1 k → k < FILE_BLOCKS =
    λ k at. (let before : 4096 * k < end c.length = tidy.blocks k (over_written (places_from g s i c.base) k c ((is.2.each k).0 at)) in let low : end c.length ≤ MAX_FILE = bounded.length in omega (arith, before, low)) in
    let few = climb_few 0 is.1 FILE_BLOCKS (climb_rising 0 is.2.rising.0 is.1 is.2.rising.1) (omega arith) inside in
    omega (arith, few, is.3)
wants_few g s c i n tidy bounded (inr is) = omega (arith, is.1)

-- ---- of all, one after the other

-- the blocks of as many greatest files as there are inodes, and of one more
abbrev pub most_wanted : ℕ
most_wanted = FILE_BLOCKS * (MAX_INODE + 1)

-- So many are counted of the first inodes: with those that the rest want they are what the change wants.
pub record Counted (g : Sizes) (s : Store) (cs : Changes) (count : ℕ) (rest : List (ℕ × Change)) : Type 0 where
  pub wants : (more : ℕ) → WantInTurn g s rest more → WantsBlocks g s cs (count + more)
  pub inside : (e : ℕ × Change) → Contains rest e → Contains (fin.entries cs) e
  pub few : count + FILE_BLOCKS * length rest ≤ most_wanted

-- no inode's number is greater than the highest, so that there are no more inodes
pub entries_few : (cs : Changes) → ((i : ℕ) → fin.contains_key cs i ≡ true → i < MAX_INODE + 1) → length (fin.entries cs) ≤ MAX_INODE + 1
entries_few cs low =
    let many = length-map (fin.entries cs) (λ (e : ℕ × Change). e.0) in
    let few = climb_few 0 (fin.keys cs) (MAX_INODE + 1) (keys_climb cs) (omega arith) (λ k at. low k (key_has cs k at)) in
    omega (arith, many, few)

module _ (g : Sizes) (s : Store) (cs : Changes) (bounded : AreBounded cs) where
  pub none_counted : Counted g s cs 0 (fin.entries cs)
  none_counted = record {
    wants = λ more wants. (let same : 0 + more ≡ more = omega arith in subst (λ (n : ℕ). WantsBlocks g s cs n) (sym same) wants);
    inside = λ e at. at;
    few = (let few = entries_few cs (λ i has. (let high = (inode_range i (bounded.inodes i has)).1 in omega (arith, high))) in omega (arith, few));
  }

  pub next_number : (count : ℕ) (e : ℕ × Change) (rest : List (ℕ × Change)) → Counted g s cs count (e ∷ rest) → is_inode e.0 ≡ true
  next_number count e rest counted = bounded.inodes e.0 (has_here cs e (counted.inside e (cons_here e rest e refl)))

  pub one_counted : (tidy : AreTidyChanges cs) (count its : ℕ) (e : ℕ × Change) (rest : List (ℕ × Change)) → Counted g s cs count (e ∷ rest) → WantsData g s e.1 e.0 its → Counted g s cs (count + its) rest
  one_counted tidy count its e rest counted wants =
      let here = change_here cs e (counted.inside e (cons_here e rest e refl)) in
      let small = wants_few g s e.1 e.0 its (subst IsTidyChange here (tidy e.0)) (subst IsBounded here (bounded.changes e.0)) wants in
      record {
        wants = λ more later. (let sum : count + (its + more) ≡ count + its + more = omega arith in subst (λ (n : ℕ). WantsBlocks g s cs n) sum (counted.wants (its + more) (its, more, wants, later, refl)));
        inside = λ d at. counted.inside d (cons_there e rest d at);
        few = omega (arith, counted.few, small);
      }

pub all_counted : (g : Sizes) (s : Store) (cs : Changes) (count : ℕ) → Counted g s cs count [] → WantsBlocks g s cs count
all_counted g s cs count counted = let sum : count + 0 ≡ count = omega arith in subst (λ (n : ℕ). WantsBlocks g s cs n) sum (counted.wants 0 refl)

-- ---- of all at once

module _ (g : Sizes) (s : Store) (cs : Changes) (bounded : AreBounded cs) (tidy : AreTidyChanges cs) where
  in_turn_few : (es : List (ℕ × Change)) (count : ℕ) → ((e : ℕ × Change) → Contains es e → Contains (fin.entries cs) e) → WantInTurn g s es count → count ≤ FILE_BLOCKS * length es
  in_turn_few [] count inside none = omega (arith, none)
  in_turn_few (e ∷ es) count inside wants =
      let here = change_here cs e (inside e (cons_here e es e refl)) in
      let small = wants_few g s e.1 e.0 wants.0 (subst IsTidyChange here (tidy e.0)) (subst IsBounded here (bounded.changes e.0)) wants.2 in
      let rest = in_turn_few es wants.1 (λ d at. inside d (cons_there e es d at)) wants.3 in
      let sum = wants.4 in
      omega (arith, small, rest, sum)

  pub blocks_few : (count : ℕ) → WantsBlocks g s cs count → count ≤ most_wanted
  blocks_few count wants =
      let few = in_turn_few (fin.entries cs) count (λ e at. at) wants in
      let inodes = entries_few cs (λ i has. (let high = (inode_range i (bounded.inodes i has)).1 in omega (arith, high))) in
      omega (arith, few, inodes)
