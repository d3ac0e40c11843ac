use Rattle.std.proofs.Common.{◌∙◌, ◌++◌, [], refl, ap, sym}
use Rattle.std.proofs.lemmas.List.{append-nil, append_assoc, length-append}
use Rattle.std.proofs.lemmas.Result.{on_ok_weaker}
use Rattle.host_media.specs.FileBytes.{known}
use Rattle.host_media.specs.FileRange.{range_changes, range_told}
use Rattle.host_media.proofs.ToldTiers.{content-of, rewritten, unchanged}
use Rattle.host_media.proofs.file_bytes.write_back.Goals as goal

pub returns-clause-changes : goal.returns-clause-changes
returns-clause-changes c =
    let t0 = range_told c.args.range.now in
    let t1 = range_told c.write.new.self in
    let t2 = range_told c.write-2.new.self in
    let f = c.bytes-fast.result.now in
    let b = c.bytes-block.result.now in
    let s = c.bytes.result.now in
    let all = c.requires.stand ∙ ap known (sym (content-of c.args.tiers.now f b s c.bytes-fast.ensures c.bytes-block.ensures c.bytes.ensures)) in
    let first = all ∙ ap known (append_assoc f b s) in
    let second = c.in_ok-write.ensures.written ∙ rewritten t0 [] f (b ++ s) 0 first refl ∙ all in
    let third = c.in_ok-write-2.ensures.written ∙ rewritten t1 f b s _ second refl ∙ second ∙ ap known (sym (append-nil (f ++ b ++ s))) in
    on_ok_weaker c.write-3.result (λ written.
    c.write-3.ensures.changes
    ∙ unchanged t2 (f ++ b) s [] _ third (sym (length-append f b)) (range_changes c.write-2.new.self)
    ∙ c.in_ok-write-2.ensures.changes
    ∙ unchanged t1 f b s _ second refl (range_changes c.write.new.self)
    ∙ c.in_ok-write.ensures.changes
    ∙ unchanged t0 [] f (b ++ s) 0 first refl (range_changes c.args.range.now)) c.write-3.ensures.written
