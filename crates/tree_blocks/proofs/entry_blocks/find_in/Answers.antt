use Rattle.std.proofs.Common.{◌≡◌, ◌<◌, ◌∙◌, ℕ, length, ap, sym, arith, inl, inr, Some, None, List}
use Rattle.std.specs.List.{position}
use Rattle.std.proofs.lemmas.Bool.{cases_eq}
use Rattle.layout.specs.Directory.{EntryList, block_entries}
use Rattle.layout.proofs.DirChanges.{listed_now}
use Rattle.tree_blocks.specs.Directory.{numbered_blocks}
use Rattle.tree_blocks.proofs.Finding.{has, found_name, not_found, found_numbered}
use Rattle.tree_blocks.proofs.entry_blocks.find_in.Goals as goal

pub returns-in-Some-clause-found : goal.returns-in-Some-clause-found
returns-in-Some-clause-found c =
    let k : ℕ = c.blocks-2.k in
    let name : List ℕ = c.args.name.now in
    let v : EntryList = block_entries (numbered_blocks c.args.blocks.now k) in
    let lt : k < length c.args.blocks.now = c.blocks-2-test.true in
    let is : position (has name) v.entries ≡ Some c.in-Some.index = ap (λ (l : EntryList). position (has name) l.entries) (sym c.from_known.ensures) ∙ sym c.in-Some.ensures in
    let f = found_name name v.entries c.in-Some.index is in
    let few = (listed_now (numbered_blocks c.args.blocks.now k) (c.requires.entries k lt)).few in
    found_numbered (λ j. block_entries (numbered_blocks c.args.blocks.now j)) (length c.args.blocks.now) name k c.in-Some.index lt (omega (arith, few, f.0)) f.0 f.1

pub blocks-2-preserved : goal.blocks-2-preserved
blocks-2-preserved c j i lt inside =
    let k : ℕ = c.blocks-2.k in
    let name : List ℕ = c.args.name.now in
    elim (cases_eq j k) [
      | inl here ↦
          let is : position (has name) (block_entries (numbered_blocks c.args.blocks.now k)).entries ≡ None = ap (λ (l : EntryList). position (has name) l.entries) (sym c.from_known.ensures) ∙ sym c.in_default.ensures in
          not_found name (block_entries (numbered_blocks c.args.blocks.now j)).entries (ap (λ (x : ℕ). position (has name) (block_entries (numbered_blocks c.args.blocks.now x)).entries) here ∙ is) i inside
      | inr off ↦ c.blocks-2.invariant j i (omega (arith, lt, off)) inside
    ]
