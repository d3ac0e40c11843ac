use Rattle.std.proofs.Common.{◌≡◌, List, Option, Some, None, option_map, is_some, true, refl, ◌∙◌, ap, sym, subst}
use Rattle.block_cache.specs.declared.blocks.Place.{Place}
use Rattle.block_cache.specs.CacheList.{Block, use_block, bytes_if_first}
use Rattle.block_cache.specs.Entries.{blocks_in}
use Rattle.block_cache.proofs.Entries.{first_is_used, promoted_is_used}
use Rattle.block_cache.proofs.Found.{used_first}
use Rattle.block_cache.proofs.Spans.{promoted_in}
use Rattle.block_cache.specs.Spans.{AreIn}
use Rattle.block_cache.proofs.blocks.Blocks.move_to_front.Goals as goal

some_still : {T U : Type 0} → (f : T → U) (o : Option T) → is_some (option_map f o) ≡ is_some o
some_still f None = refl
some_still f (Some x) = refl

pub returns-clause-moved : goal.returns-clause-moved
returns-clause-moved c =
    let p : Place = record { inode = c.args.inode; block = c.args.block } in
    ap (λ q. blocks_in q.entries) c.promote.ensures.entries ∙ promoted_is_used p c.self.inside.cache.entries c.len.ensures.valid.0 ∙ ap (use_block c.args.inode c.args.block) c.self.view_is

pub returns-clause-found : goal.returns-clause-found
returns-clause-found c = ap (bytes_if_first c.args.inode c.args.block) (returns-clause-moved c) ∙ used_first c.args.inode c.args.block c.args.self.now

pub returns-then-is_some-clause-moved : goal.returns-then-is_some-clause-moved
returns-then-is_some-clause-moved c =
    let p : Place = record { inode = c.args.inode; block = c.args.block } in
    let first : is_some (bytes_if_first c.args.inode c.args.block c.args.self.now) ≡ true = sym (ap is_some c.peek_if_first.ensures.bytes) ∙ some_still (λ b. b.now) c.peek_if_first.result ∙ sym c.is_some.ensures ∙ c.if-is_some.true in
    subst (λ (bs : List Block). is_some (bytes_if_first c.args.inode c.args.block bs) ≡ true → bs ≡ use_block c.args.inode c.args.block bs) c.self.view_is (first_is_used p c.self.inside.cache.entries c.len.ensures.valid.0) first

pub returns-then-is_some-clause-found : goal.returns-then-is_some-clause-found
returns-then-is_some-clause-found c = ap (bytes_if_first c.args.inode c.args.block) (returns-then-is_some-clause-moved c) ∙ used_first c.args.inode c.args.block c.args.self.now

pub invariant_of-self : goal.invariant_of-self
invariant_of-self c =
    let p : Place = record { inode = c.args.inode; block = c.args.block } in (
      ap (λ q. q.cap) c.promote.ensures.entries ∙ c.self.invariant.0,
      subst (AreIn c.self.inside.spans.items) (sym (ap (λ q. q.entries) c.promote.ensures.entries)) (promoted_in p c.self.inside.spans.items c.self.inside.cache.entries c.self.invariant.1),
    )
