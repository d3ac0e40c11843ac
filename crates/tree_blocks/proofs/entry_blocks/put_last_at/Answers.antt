use Rattle.std.proofs.Common.{◌≡◌, ◌/◌, ◌%◌, ◌<◌, ◌∙◌, ℕ, [], set, ap, arith, length, subst, sym, List}
use Rattle.std.proofs.lemmas.List.{get_or-set_same, get_or-set_other}
use Rattle.layout.specs.Directory.{AreEntries, block_entries, without_entry}
use Rattle.tree_blocks.specs.Directory.{numbered_blocks}
use Rattle.tree_blocks.proofs.Leaving.{distinct_target, less_within, less_across}
use Rattle.tree_blocks.proofs.entry_blocks.put_last_at.Goals as goal

pub move_last-requires-clause-distinct : goal.move_last-requires-clause-distinct
move_last-requires-clause-distinct c =
    let before : c.args.number / 56 < c.args.last / 56 = omega (arith, c.requires.inside, c.if-to-from.false) in
    distinct_target c.requires.directory.0 c.args.last (numbered_blocks c.args.blocks.now) c.requires.directory.1 c.args.number before

pub returns-then-to-from-clause-less : goal.returns-then-to-from-clause-less
returns-then-to-from-clause-less c owner is =
    let bs : List (List ℕ) = c.args.blocks.now in
    let at : ℕ = c.args.number / 56 in
    let w : List ℕ = c.take_entry.new.block in
    let here : at ≡ c.args.last / 56 = c.if-to-from.true in
    let room : at < length bs = omega (arith, c.requires.long, c.requires.inside) in
    let there : numbered_blocks (set bs at w) (c.args.last / 56) ≡ w = ap (numbered_blocks (set bs at w)) (sym here) ∙ get_or-set_same bs at w [] room in
    less_within owner c.args.last (numbered_blocks bs) is (numbered_blocks (set bs at w)) c.args.number c.requires.inside here
    (λ k off. get_or-set_other bs at k w [] (λ e. off (e ∙ here)))
    (subst AreEntries (sym there) c.take_entry.ensures.entries)
    (ap block_entries there ∙ c.take_entry.ensures.taken ∙ ap (λ (k : ℕ). without_entry (block_entries (numbered_blocks bs k)) (c.args.number % 56)) here)

pub returns-else-to-from-clause-less : goal.returns-else-to-from-clause-less
returns-else-to-from-clause-less c owner is =
    let before : c.args.number / 56 < c.args.last / 56 = omega (arith, c.requires.inside, c.if-to-from.false) in
    less_across owner c.args.last (numbered_blocks c.args.blocks.now) is c.args.number before (numbered_blocks c.move_last.new.blocks) c.move_last.ensures.others c.move_last.ensures.target c.move_last.ensures.source c.move_last.ensures.moved c.move_last.ensures.left
