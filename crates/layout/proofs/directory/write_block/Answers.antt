use Rattle.std.proofs.Common.{◌≡◌, ◌+◌, ◌*◌, ◌<◌, ◌≤◌, ℕ, List, [], ◌∷◌, ◌++◌, length, take, get_or, refl, ap, sym, subst, ◌∙◌, arith}
use Rattle.std.specs.List.{flat_map}
use Rattle.std.proofs.lemmas.List.{length-append, append-nil, take_all, take_more}
use Rattle.std.proofs.lemmas.Grind.{flat_map-append}
use Rattle.layout.specs.declared.directory.DirEntry.{DirEntry}
use Rattle.layout.specs.Bytes.{u32, padded_text, with_text}
use Rattle.layout.specs.Directory.{entry_text}
use Rattle.layout.proofs.Blocks.{blank_filled, filled_twice, written_u32}
use Rattle.layout.proofs.Items.{item_on}
use Rattle.layout.proofs.DirectoryLaws.{head_text, head_text_long, head_start_long, entry_text_long}
use Rattle.layout.proofs.directory.write_block.Goals as goal

append-nil-back : (t : List ℕ) → t ≡ t ++ []
append-nil-back t = rw append-nil refl

pub loop-index-init : goal.loop-index-init
loop-index-init c =
    let owner = c.args.owner in
    let count = length c.args.entries.now in
    let b0 : c.args.block.now ≡ padded_text 4096 [] = blank_filled 4096 c.args.block.now c.requires.long c.requires.blank in
    let w1 = written_u32 4096 0 owner [] c.args.block.now b0 refl (omega arith) in
    let w2 = written_u32 4096 4 count (u32 owner) c.put_u32.new.bytes (c.put_u32.ensures ∙ w1.0) w1.1 (omega arith) in
    let start : List ℕ = u32 owner ++ u32 count in
    let head = filled_twice 64 4096 start (omega (arith, head_start_long owner count)) (omega arith) in
    (c.put_u32-2.ensures ∙ w2.0 ∙ head ∙ ap (padded_text 4096) (append-nil-back (head_text owner count)), refl)

-- the texts of one entry more
longer : (es : List DirEntry) (i : ℕ) (x : DirEntry) → i < length es → x ≡ get_or es i x → length x.name ≤ 64 → length (flat_map entry_text (take i es)) ≡ 72 * i → length (flat_map entry_text (take (i + 1) es)) ≡ 72 * (i + 1)
longer es i x lt read short long =
    let more : take (i + 1) es ≡ take i es ++ x ∷ [] = take_more es i x lt ∙ ap (λ (y : DirEntry). take i es ++ y ∷ []) (sym read) in
    let texts : flat_map entry_text (take (i + 1) es) ≡ flat_map entry_text (take i es) ++ (entry_text x ++ []) = ap (flat_map entry_text) more ∙ flat_map-append entry_text (take i es) (x ∷ []) in
    ap length texts ∙ omega (arith, long, length-append (flat_map entry_text (take i es)) (entry_text x ++ []), length-append (entry_text x) [], entry_text_long x short)

pub loop-index-preserved : goal.loop-index-preserved
loop-index-preserved c =
    let i = c.loop-index.index in
    let entries = c.args.entries.now in
    let x : DirEntry = c.index-entries-index.result in
    let read : x ≡ get_or entries i x = c.index-entries-index.is in
    let lent = c.entry_ref-entry.ensures.entry in
    let short : length x.name ≤ 64 = subst (λ (e : DirEntry). length e.name ≤ 64) lent c.entry_ref-entry.ensures.short in
    let head : List ℕ = head_text c.args.owner (length entries) in
    let within : i < length entries = c.loop-index-test.true in
    let texts : List ℕ = flat_map entry_text (take i entries) in
    let long : length (head ++ texts) ≡ 64 + 72 * i = omega (arith, length-append head texts, head_text_long c.args.owner (length entries), c.loop-index.invariant.1) in (
      c.put_entry.ensures
          ∙ ap (λ (e : DirEntry). with_text (64 + 72 * i) (entry_text e) c.loop-index.block) lent
          ∙ item_on entry_text 4096 (64 + 72 * i) i head entries x x c.loop-index.block c.loop-index.invariant.0 long (omega (arith, within, c.requires.few, entry_text_long x short)) within read,
      longer entries i x within read short c.loop-index.invariant.1,
    )

pub returns : goal.returns
returns c =
    let entries = c.args.entries.now in
    let all = take_all c.loop-index.index entries c.loop-index-test.false in
    c.loop-index.invariant.0
    ∙ ap (λ (es : List DirEntry). padded_text 4096 (head_text c.args.owner (length entries) ++ flat_map entry_text es)) all
