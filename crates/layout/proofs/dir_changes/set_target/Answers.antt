use Rattle.std.proofs.Common.{◌≡◌, ◌∙◌, ◌+◌, ◌*◌, ℕ, [], ◌∷◌, ap, arith, rules, length, refl}
use Rattle.layout.specs.Bytes.{u32, with_text}
use Rattle.layout.specs.Directory.{block_entries, entries_spelling, entry_of, with_target}
use Rattle.file_graph.specs.Kinds.{kind_byte}
use Rattle.layout.specs.declared.directory.DirEntry.{DirEntry}
use Rattle.layout.proofs.DirChanges.{listed_now, entries_now, fit_parts, fit_set, names_kept, target_set}
use Rattle.layout.proofs.dir_changes.set_target.Goals as goal

pub overflow_mul-at : goal.overflow_mul-at
overflow_mul-at c = let l = listed_now c.args.block.now c.requires.entries in omega (arith, l.few, c.requires.inside)

pub overflow_add-at : goal.overflow_add-at
overflow_add-at c = let l = listed_now c.args.block.now c.requires.entries in omega (arith, l.few, c.requires.inside)

pub put_u32-requires : goal.put_u32-requires
put_u32-requires c = let l = listed_now c.args.block.now c.requires.entries in omega (arith, l.few, l.long, c.requires.inside)

pub overflow_add-at-2 : goal.overflow_add-at-2
overflow_add-at-2 c = let l = listed_now c.args.block.now c.requires.entries in omega (arith, l.few, c.requires.inside)

pub put-requires : goal.put-requires
put-requires c = let l = listed_now c.args.block.now c.requires.entries in let same : length c.put_u32.new.bytes ≡ length c.args.block.now = search rules in omega (arith, l.few, l.long, same, c.requires.inside)

pub returns : goal.returns
returns c =
    let v = block_entries c.args.block.now in
    let i = c.args.index in
    let s = c.requires.entries in
    let f = fit_parts v s.fit in
    let e : DirEntry = record { inode = c.args.inode; kind = c.args.kind; name = (entry_of v i).name } in
    let is : c.put.new.bytes ≡ entries_spelling (with_target v i c.args.inode c.args.kind) =
    c.put.ensures
    ∙ ap (λ (b : ℕ). with_text (64 + 72 * i + 4) (b ∷ []) c.put_u32.new.bytes) c.kind_byte.ensures
    ∙ ap (with_text (64 + 72 * i + 4) (kind_byte c.args.kind ∷ [])) (c.put_u32.ensures ∙ ap (with_text (64 + 72 * i) (u32 c.args.inode)) s.spelled)
    ∙ target_set v i c.args.inode c.args.kind f c.requires.inside in
    let now = entries_now c.put.new.bytes (with_target v i c.args.inode c.args.kind) (fit_set v i e f c.requires.fits (names_kept v.entries i e refl c.requires.inside ∙ f.distinct)) is in
    record { entries = now.0; set = now.1 }
