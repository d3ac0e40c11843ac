use Rattle.std.proofs.Common.{◌≡◌, ◌+◌, ◌*◌, ◌<◌, ℕ, List, [], ◌++◌, length, take, get_or, refl, ap, ◌∙◌, arith}
use Rattle.std.specs.List.{flat_map}
use Rattle.std.proofs.lemmas.List.{length-append, length-take, append-nil, take_all}
use Rattle.layout.specs.declared.extents.Extent.{Extent}
use Rattle.layout.specs.Bytes.{u32, padded_text}
use Rattle.layout.specs.Extents.{extent_text}
use Rattle.layout.proofs.Blocks.{blank_filled, written_u32}
use Rattle.layout.proofs.Items.{item_on}
use Rattle.layout.proofs.ExtentLaws.{head_text, head_text_long, extent_text_long, extent_texts_long, head_and_extents}
use Rattle.layout.proofs.extents.write_block.Goals as goal

pub loop-index-init : goal.loop-index-init
loop-index-init c =
    let owner = c.args.owner in
    let level = c.args.level in
    let count = length c.args.extents.now in
    let b0 : c.args.block.now ≡ padded_text 4096 [] = blank_filled 4096 c.args.block.now c.requires.long c.requires.blank in
    let w1 = written_u32 4096 0 owner [] c.args.block.now b0 refl (omega arith) in
    let w2 = written_u32 4096 4 count (u32 owner) c.put_u32.new.bytes (c.put_u32.ensures ∙ w1.0) w1.1 (omega arith) in
    let t2 : List ℕ = u32 owner ++ u32 count in
    let w3 = written_u32 4096 8 level t2 c.put_u32-2.new.bytes (c.put_u32-2.ensures ∙ w2.0) w2.1 (omega arith) in
    let w4 = written_u32 4096 12 0 (t2 ++ u32 level) c.put_u32-3.new.bytes (c.put_u32-3.ensures ∙ w3.0) w3.1 (omega arith) in
    c.put_u32-4.ensures ∙ w4.0 ∙ ap (padded_text 4096) (append-nil-back (head_text owner count level))
  where
    append-nil-back : (t : List ℕ) → t ≡ t ++ []
    append-nil-back t = rw append-nil refl

pub loop-index-preserved : goal.loop-index-preserved
loop-index-preserved c =
    let i = c.loop-index.index in
    let extents = c.args.extents.now in
    let zero_extent : Extent = record { logical = 0; length = 0; place = 0 } in
    let x : Extent = get_or extents i zero_extent in
    let head : List ℕ = head_text c.args.owner (length extents) c.args.level in
    let within : i < length extents = c.loop-index-test.true in
    let so_far : List ℕ = head ++ flat_map extent_text (take i extents) in
    let long : length so_far ≡ 16 + 12 * i = omega (arith, length-append head (flat_map extent_text (take i extents)), head_text_long c.args.owner (length extents) c.args.level, extent_texts_long (take i extents), length-take i extents, within) in
    c.put_extent.ensures
    ∙ item_on extent_text 4096 (16 + 12 * i) i head extents x zero_extent c.loop-index.block c.loop-index.invariant long (omega (arith, within, c.requires.few, extent_text_long x)) within refl

pub returns : goal.returns
returns c =
    let extents = c.args.extents.now in
    let all = take_all c.loop-index.index extents c.loop-index-test.false in
    c.loop-index.invariant
    ∙ ap (λ (es : List Extent). padded_text 4096 (head_text c.args.owner (length extents) c.args.level ++ flat_map extent_text es)) all
    ∙ ap (padded_text 4096) (head_and_extents (record { owner = c.args.owner; level = c.args.level; extents = extents }))
