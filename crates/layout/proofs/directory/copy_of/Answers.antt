use Rattle.std.proofs.Common.{◌≡◌, ◌∙◌, ◌++◌, ◌∷◌, [], ◌<◌, ◌+◌, List, ap, sym, take, length, get_or, arith}
use Rattle.std.proofs.lemmas.List.{take_more}
use Rattle.std.proofs.lemmas.Option.{get_or_from_slice_get}
use Rattle.layout.specs.declared.directory.DirEntry.{DirEntry}
use Rattle.layout.specs.LentEntry.{owned_entry}
use Rattle.layout.proofs.DirectoryLaws.{entry_fits}
use Rattle.layout.proofs.directory.copy_of.Goals as goal

pub to_entry-requires : goal.to_entry-requires
to_entry-requires c = (entry_fits (owned_entry c.entry.result) c.entry.ensures.fits).name

pub entries-preserved : goal.entries-preserved
entries-preserved c =
    let es = c.args.found.now.entries in
    let i = c.entries.index in
    let x : DirEntry = owned_entry c.entry.result in
    let there : get_or es i x ≡ x = get_or_from_slice_get es i x x c.entry.ensures.entry in
    let same : c.in_ok-to_entry.field-0 ≡ x = c.in_ok-to_entry.ensures in
    let within : i < length es = omega (arith, c.entries-test.true, c.len-count.ensures.len) in
    let more : take (i + 1) es ≡ take i es ++ x ∷ [] = take_more es i x within ∙ ap (λ (y : DirEntry). take i es ++ y ∷ []) there in
    c.in_ok-push.ensures.items ∙ ap (λ (y : DirEntry). c.entries.entries.items ++ y ∷ []) same ∙ ap (λ (t : List DirEntry). t ++ x ∷ []) c.entries.invariant ∙ sym more
