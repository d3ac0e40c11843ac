use Rattle.std.proofs.Common.{◌≡◌, ◌∙◌, ◌+◌, ◌*◌, ◌-◌, ◌<◌, ℕ, List, ap, take, drop, length, arith}
use Rattle.layout.specs.Bytes.{with_text}
use Rattle.layout.specs.Directory.{block_entries, entry_text, entry_of}
use Rattle.layout.proofs.DirChanges.{entry_bytes, entry_copied}
use Rattle.layout.proofs.dir_changes.copy_last.Goals as goal

pub returns : goal.returns
returns c =
    let block = c.args.block.now in
    let v = block_entries block in
    let j = c.args.count - 1 in
    let lj : j < length v.entries = omega (arith, c.requires.count, c.requires.inside) in
    let s = c.requires.entries in
    let size : 64 + 72 * j + 72 - (64 + 72 * j) ≡ 72 = omega arith in
    let text : c.copy_from_slice.new.self ≡ entry_text (entry_of v j) = c.copy_from_slice.ensures.after ∙ ap (λ (k : ℕ). take k (drop (64 + 72 * j) block)) size ∙ entry_bytes block j s lj in
    c.put.ensures ∙ ap (λ (t : List ℕ). with_text (64 + 72 * c.args.index) t block) text ∙ ap (with_text (64 + 72 * c.args.index) (entry_text (entry_of v j))) s.spelled ∙ entry_copied v c.args.index j s.fit (omega (arith, c.requires.count, c.requires.inside)) lj
