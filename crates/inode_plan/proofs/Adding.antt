-- One block more behind the bytes of others.
use Rattle.std.proofs.Common.{◌≡◌, ◌<◌, ◌≤◌, ◌+◌, ◌-◌, ◌*◌, ◌∙◌, ◌⊎◌, ℕ, Bool, true, List, [], ◌++◌, length, take, drop, get_or, Option, Some, None, arith, inl, inr, sym, ap, subst, refl}
use Rattle.std.specs.Prelude.{option_map, unwrap_or, replicate}
use Rattle.std.specs.BTreeMap.{BTreeMap, get}
use Rattle.std.specs.Ordering.{nat_cmp}
use Rattle.std.proofs.lemmas.Bool.{cases_lt}
use Rattle.std.proofs.lemmas.List.{take-append-le, take-append-drop, drop-append-le, take_all, length-append, length-drop, length-replicate}
use Rattle.std.proofs.Math.Seq.{drop-append_seam}
use Rattle.area_commit.specs.batch_journal.Images.{slice}
use Rattle.area_commit.specs.graph_change.Change.{Change, Patch, IsWhole, blank, patch_at}
use Rattle.area_commit.specs.graph_change.View.{patch_of, patches_of}
use Rattle.area_commit.proofs.graph_change_lemmas.Maps.{value_at}
use Rattle.area_commit.specs.tree_blocks.Inode.{LogicalBlocks}
use Rattle.std.proofs.lemmas.List.FromFn.{length-map-range_with_len}
use Rattle.area_commit.specs.graph_change.Bytes.{Length, Cut, byte_after, kept_byte}
use Rattle.area_commit.specs.tree_blocks.FileBlock.{kept_length, put_in, in_block, block_after, is_cut_off, ReadSame, ReadsAfter}
use Rattle.area_commit.proofs.tree_blocks_lemmas.FileBlocks.{made_of_same, made_whole, made_behind}
use Rattle.inode_plan.specs.PlacedFile.{nth_number}
use Rattle.inode_plan.specs.Bytes.{IsBlockAfter, HoldsBlocks}

put_of : (o : Option (List ℕ × List Bool)) → put_in o ≡ unwrap_or (option_map patch_of o) blank
put_of None = refl
put_of (Some b) = refl

-- what is put into a block is what stands at its number
pub put_is : (m : BTreeMap ℕ (List ℕ × List Bool)) (i : ℕ) (o : Option (List ℕ × List Bool)) → o ≡ get nat_cmp m i → put_in o ≡ patch_at (patches_of m) i
put_is m i o is = put_of o ∙ ap (λ (x : Option Patch). unwrap_or x blank) (ap (option_map patch_of) is ∙ sym (value_at patch_of m i))

slice_left : (at n : ℕ) (xs ys : List ℕ) → at + n ≤ length xs → slice at n (xs ++ ys) ≡ slice at n xs
slice_left at n xs ys le = ap (take n) (drop-append-le at xs ys (omega (arith, le))) ∙ take-append-le n (drop at xs) ys (let long = length-drop at xs in omega (arith, long, le))

slice_right : (at n : ℕ) (xs ys : List ℕ) → length xs ≡ at → length ys ≡ n → slice at n (xs ++ ys) ≡ ys
slice_right at n xs ys here long = ap (take n) (ap (λ k. drop k (xs ++ ys)) (sym here) ∙ drop-append_seam xs ys) ∙ take_all n ys (omega (arith, long))

pub holds_none : (c : Change) (old : LogicalBlocks) (numbers : List ℕ) → HoldsBlocks c old numbers 0 []
holds_none c old numbers = record { long = refl; each = λ n lt. absurd (omega (arith, lt)) }

pub holds_more : (c : Change) (old : LogicalBlocks) (numbers : List ℕ) (n : ℕ) (bytes block : List ℕ) → HoldsBlocks c old numbers n bytes → length block ≡ 4096 → IsBlockAfter c old (nth_number numbers n) block → HoldsBlocks c old numbers (n + 1) (bytes ++ block)
holds_more c old numbers n bytes block h long after =
    let all = h.long in
    record {
      long = (let both = length-append bytes block in omega (arith, both, all, long));
      each = λ m lt. elim (cases_lt m n) [
        | inl before ↦ subst (λ (b : List ℕ). IsBlockAfter c old (nth_number numbers m) b) (sym (slice_left (4096 * m) 4096 bytes block (omega (arith, all, before)))) (h.each m before)
        | inr ge ↦ (let is : m ≡ n = omega (arith, lt, ge) in
            subst (λ (j : ℕ). IsBlockAfter c old (nth_number numbers j) (slice (4096 * j) 4096 (bytes ++ block))) (sym is)
            (subst (λ (b : List ℕ). IsBlockAfter c old (nth_number numbers n) b) (sym (slice_right (4096 * n) 4096 bytes block all long)) after))
      ];
    }

pub after_is_a_block : (len : Length) (patch : Patch) (k : ℕ) (old : List ℕ) → length (block_after len patch k old) ≡ 4096
after_is_a_block len patch k old = length-map-range_with_len (byte_after (in_block len patch k) old) 0 4096

-- what a change makes of a buffer that reads as the old block, or whose bytes make no difference
pub made_from : (len : Length) (patch put : Patch) (k : ℕ) (old buffer block : List ℕ) → block ≡ block_after len put k buffer → put ≡ patch → ReadSame buffer old → ReadsAfter len patch k old block
made_from len patch put k old buffer block is same read =
    subst (ReadsAfter len patch k old) (sym (is ∙ ap (λ (p : Patch). block_after len p k buffer) same)) (made_of_same len patch k old buffer read)

pub made_anyway : (len : Length) (patch put : Patch) (k : ℕ) (old buffer block : List ℕ) → block ≡ block_after len put k buffer → put ≡ patch → (is_cut_off len k ≡ true) ⊎ IsWhole put → ReadsAfter len patch k old block
made_anyway len patch put k old buffer block is same no_matter =
    subst (ReadsAfter len patch k old) (sym (is ∙ ap (λ (p : Patch). block_after len p k buffer) same))
    (elim no_matter [ inl off ↦ made_behind len patch k old buffer off | inr whole ↦ made_whole len patch k old buffer (subst IsWhole same whole) ])

-- the bytes of a block that are all put are what a change makes of it, whatever the old block is
pub made_of_put : (len : Length) (patch put : Patch) (k : ℕ) (old block : List ℕ) → put ≡ patch → ((p : ℕ) → p < 4096 → put p ≡ Some (get_or block p 0)) → ReadsAfter len patch k old block
made_of_put len patch put k old block same each p lt =
    sym (ap (λ (o : Option ℕ). elim o [ None ↦ kept_byte (Cut (kept_length len k) 4096) old p | Some b ↦ b ]) (ap (λ (f : Patch). f p) (sym same) ∙ each p lt))

-- a block that is as long as the buffer that it is made in
pub made_long : (len : Length) (put : Patch) (k : ℕ) (buffer block : List ℕ) → block ≡ block_after len put k buffer → length block ≡ 4096
made_long len put k buffer block is = ap length is ∙ after_is_a_block len put k buffer

-- where the zeros stand that are put behind other bytes
pub zeros_begin : (size : ℕ) (old zeros : List ℕ) → zeros ≡ old ++ replicate size 0 → length zeros - size ≡ length old
zeros_begin size old zeros is = omega (arith, ap length is, length-append old (replicate size 0), length-replicate {A = ℕ} size 0)

-- a block that is made where zeros stood behind other bytes
module _ (at size : ℕ) (old zeros new : List ℕ) (here : at ≡ length old) (is : zeros ≡ old ++ replicate size 0) (front : take at new ≡ take at zeros) where
  pub stands_behind : new ≡ old ++ drop at new
  stands_behind =
      sym (take-append-drop at new)
      ∙ ap (λ (xs : List ℕ). xs ++ drop at new) (front ∙ ap (take at) is ∙ take-append-le at old (replicate size 0) (omega (arith, here)) ∙ take_all at old (omega (arith, here)))

  pub is_long : length new ≡ length zeros → length (drop at new) ≡ size
  is_long same = omega (arith, length-drop at new, same, ap length is, length-append old (replicate size 0), length-replicate {A = ℕ} size 0, here)
