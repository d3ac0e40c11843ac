use Rattle.std.proofs.Common.{◌≡◌, ◌<◌, ◌∙◌, ℕ, List, length, Some, ap, sym, subst}
use Rattle.std.specs.Prelude.{◌⊎◌, ◌↔◌, Bool, MatchBool, slice_get}
use Rattle.batch_journal.specs.layout.declared.directory.DirEntry.{DirEntry}
use Rattle.batch_journal.specs.layout.Directory.{EntryList, block_entries, entry_of}
use Rattle.batch_journal.specs.layout.LentEntry.{owned_entry}
use Rattle.tree_blocks.proofs.Lists.{got}
use Rattle.area_reader.specs.Names.{IsAmong}
use Rattle.area_reader.proofs.Twins.{adds_more, shares_name}
use Rattle.area_reader.proofs.entries.add_names.Goals as goal

-- the name that is added is that of the entry
name_here : (v : EntryList) (es : List DirEntry) (i : ℕ) (x : DirEntry) → es ≡ v.entries → i < length v.entries → slice_get es i ≡ Some x → x.name ≡ (entry_of v i).name
name_here v es i x same lt is = ap (λ (e : DirEntry). e.name) (got v.entries i x lt (ap (λ (l : List DirEntry). slice_get l i) (sym same) ∙ is))

abbrev HaveMore : List (List ℕ) → List (List ℕ) → List ℕ → Type 0
HaveMore new old name = (n : List ℕ) → IsAmong new n ↔ (IsAmong old n ⊎ (n ≡ name))

pub returns-then-not-is_new : goal.returns-then-not-is_new
returns-then-not-is_new c =
    let v : EntryList = block_entries c.args.block.now in
    let i : ℕ = c.entries.index in
    let list : c.from_known-list.result ≡ v = c.from_known-list.ensures in
    let test : i < c.len-index-end.result = c.entries-test.true in
    let long : c.len-index-end.result ≡ length v.entries = c.len-index-end.ensures.len ∙ ap (λ (l : EntryList). length l.entries) list in
    let lt : i < length v.entries = subst (λ n. i < n) long test in
    let name = name_here v c.from_known-list.result.entries i (owned_entry c.entry-entry.result) (ap (λ (l : EntryList). l.entries) list) lt c.entry-entry.ensures.entry in
    let n : List ℕ = (owned_entry c.entry-entry.result).name in
    let there : IsAmong c.entries.names n = subst (λ (b : Bool). MatchBool b (IsAmong c.entries.names n → ⊥) (IsAmong c.entries.names n)) c.if-not-is_new.true c.in_ok-is_new.ensures.new in
    shares_name c.args.block.now c.requires i lt c.args.names.now c.entries.names c.entries.invariant (subst (IsAmong c.entries.names) name there)

pub entries-preserved : goal.entries-preserved
entries-preserved c =
    let v : EntryList = block_entries c.args.block.now in
    let i : ℕ = c.entries.index in
    let list : c.from_known-list.result ≡ v = c.from_known-list.ensures in
    let test : i < c.len-index-end.result = c.entries-test.true in
    let long : c.len-index-end.result ≡ length v.entries = c.len-index-end.ensures.len ∙ ap (λ (l : EntryList). length l.entries) list in
    let lt : i < length v.entries = subst (λ n. i < n) long test in
    let name = name_here v c.from_known-list.result.entries i (owned_entry c.entry-entry.result) (ap (λ (l : EntryList). l.entries) list) lt c.entry-entry.ensures.entry in
    let n : List ℕ = (owned_entry c.entry-entry.result).name in
    let fresh : IsAmong c.entries.names n → ⊥ = subst (λ (b : Bool). MatchBool b (IsAmong c.entries.names n → ⊥) (IsAmong c.entries.names n)) c.if-not-is_new.false c.in_ok-is_new.ensures.new in
    let more : HaveMore c.add.new.self c.entries.names n = c.in_ok-is_new.ensures.names in
    adds_more c.args.block.now c.requires i lt c.args.names.now c.entries.names c.entries.invariant c.add.new.self (subst (λ (x : List ℕ). IsAmong c.entries.names x → ⊥) name fresh) (subst (HaveMore c.add.new.self c.entries.names) name more)
