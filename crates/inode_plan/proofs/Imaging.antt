-- Images of written blocks, one more at a time.
use Rattle.std.proofs.Common.{◌≡◌, ◌≢◌, ◌<◌, ◌+◌, ◌∙◌, ℕ, List, length, Some, refl, sym, ap, subst, arith, inl, inr}
use Rattle.std.proofs.lemmas.Bool.{cases_eq, cases_lt}
use Rattle.area_commit.specs.batch_journal.Images.{image_for}
use Rattle.area_commit.specs.tree_blocks.Directory.{numbered_blocks}
use Rattle.area_commit.specs.Batches.{PutsImage}
use Rattle.inode_plan.specs.Blocks.{nth_block, HaveOwnPlaces}
use Rattle.inode_plan.specs.PlannedDirectory.{HaveImages}

-- the first so many written blocks have their images
pub record ImagesTo (blocks : List (List ℕ)) (places written : List ℕ) (count : ℕ) (old new : List (ℕ × List ℕ)) : Type 0 where
  pub there : (n : ℕ) → n < count → image_for (nth_block places (nth_block written n)) new ≡ Some (numbered_blocks blocks (nth_block written n))
  pub others : (p : ℕ) → ((n : ℕ) → n < count → nth_block places (nth_block written n) ≢ p) → image_for p new ≡ image_for p old

pub images_none : (blocks : List (List ℕ)) (places written : List ℕ) (old : List (ℕ × List ℕ)) → ImagesTo blocks places written 0 old old
images_none blocks places written old = record { there = λ n lt. absurd (omega (arith, lt)); others = λ p none. refl }

-- a block that is written twice has the same image
pub images_more : (blocks : List (List ℕ)) (places written : List ℕ) (n : ℕ) (old mid new : List (ℕ × List ℕ)) → HaveOwnPlaces places → ((m : ℕ) → m < n + 1 → nth_block written m < length places)
    → ImagesTo blocks places written n old mid → PutsImage (nth_block places (nth_block written n)) (numbered_blocks blocks (nth_block written n)) mid new → ImagesTo blocks places written (n + 1) old new
images_more blocks places written n old mid new apart inside so_far put = record {
  there = λ m lt. elim (cases_eq (nth_block written m) (nth_block written n)) [
    | inl same ↦ subst (λ w. image_for (nth_block places w) new ≡ Some (numbered_blocks blocks w)) (sym same) put.0
    | inr other ↦
        let before : m < n = elim (cases_lt m n) [ inl lt' ↦ lt' | inr ge ↦ absurd (let e : m ≡ n = omega (arith, lt, ge) in other (ap (nth_block written) e)) ] in
        put.1 (nth_block places (nth_block written m)) (λ same. other (apart (nth_block written m) (nth_block written n) (inside m lt) (inside n (omega arith)) same)) ∙ so_far.there m before
  ];
  others = λ p none. put.1 p (λ same. none n (omega arith) (sym same)) ∙ so_far.others p (λ m lt. none m (omega (arith, lt)));
}

pub images_all : (blocks : List (List ℕ)) (places written : List ℕ) (old new : List (ℕ × List ℕ)) → ImagesTo blocks places written (length written) old new → HaveImages blocks places written old new
images_all blocks places written old new to = record { there = to.there; others = to.others }
