use Rattle.std.proofs.Common.{◌≡◌, ◌≤◌, ◌-◌, ◌++◌, ◌∙◌, ℕ, List, length, take, ap, arith, sym}
use Rattle.std.specs.Prelude.{replicate, option_map}
use Rattle.graph_change.specs.Bytes.{Length}
use Rattle.graph_change.specs.Change.{Patch, patched_bytes}
use Rattle.graph_change.specs.View.{new_length, patch_of}
use Rattle.tree_blocks.specs.FileBlock.{put_in, kept_length, block_after}
use Rattle.tree_blocks.proofs.FileBlocks.{block_is, block_is_cut}
use Rattle.tree_blocks.proofs.file_blocks.change_block.Goals as goal

pub returns-in-Some : goal.returns-in-Some
returns-in-Some c =
    let len : Length = new_length c.args.len in
    let k : ℕ = c.args.number in
    let old : List ℕ = c.args.block.now in
    let patch : Patch = patch_of c.in-Some.change.now in
    let few : kept_length len k ≤ 4096 = omega (arith, c.kept_length.ensures.kept, c.kept_length.ensures.few) in
    let cut : c.cut_block.new.block ≡ take (kept_length len k) old ++ replicate (length old - kept_length len k) 0 = c.cut_block.ensures ∙ ap (λ (n : ℕ). take n old ++ replicate (length old - n) 0) c.kept_length.ensures.kept in
    c.put_over.ensures ∙ ap (patched_bytes patch) cut ∙ block_is len patch k old c.requires few ∙ ap (λ o. block_after len (put_in (option_map (λ b. b.now) o)) k old) (sym c.in-Some.is)

pub returns-in-None : goal.returns-in-None
returns-in-None c =
    let len : Length = new_length c.args.len in
    let k : ℕ = c.args.number in
    let old : List ℕ = c.args.block.now in
    let few : kept_length len k ≤ 4096 = omega (arith, c.kept_length.ensures.kept, c.kept_length.ensures.few) in
    let cut : c.cut_block.new.block ≡ take (kept_length len k) old ++ replicate (length old - kept_length len k) 0 = c.cut_block.ensures ∙ ap (λ (n : ℕ). take n old ++ replicate (length old - n) 0) c.kept_length.ensures.kept in
    cut ∙ block_is_cut len k old c.requires few ∙ ap (λ o. block_after len (put_in (option_map (λ b. b.now) o)) k old) (sym c.in-None.is)
