use Rattle.std.proofs.Common.{◌≡◌, ◌+◌, ◌-◌, ◌<◌, ℕ, List, [], length, take, drop, get_or, ◌++◌, ◌∙◌, ap, arith}
use Rattle.block_cache.specs.declared.blocks.Place.{Place}
use Rattle.block_cache.specs.Entries.{others_than}
use Rattle.block_cache.proofs.Entries.{after_turns, turn_from, turn_to}
use Rattle.block_cache.proofs.file_drop.drop_blocks.Goals as goal

pub turns-preserved : goal.turns-preserved
turns-preserved c =
    let i = c.turns.invariant in
    let es = c.args.cache.now.entries in
    let m = c.turns.left - 1 in
    let d : Place × List ℕ = (record { inode = 0; block = 0 }, []) in
    let one : c.turns.left ≡ m + 1 = omega (arith, c.turns-test.true) in
    let lt : m < length es = omega (arith, one, i.within) in
    let cut = i.turned ∙ ap (λ n. after_turns c.args.inode n es) one ∙ turn_from c.args.inode m es d lt in
    let new = c.turn.ensures (others_than c.args.inode (drop (m + 1) es) ++ take m es) (get_or es m d) cut in
    record {
      within = omega (arith, lt);
      turned = ap (λ q. q.entries) new ∙ turn_to c.args.inode m es d lt;
      cap = ap (λ q. q.cap) new ∙ i.cap;
    }
