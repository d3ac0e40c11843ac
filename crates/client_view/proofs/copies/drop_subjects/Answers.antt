use Rattle.std.proofs.Common.{ap, ◌∙◌}
use Rattle.block_cache.specs.CacheList.{without_file}
use Rattle.client_view.proofs.LeftBlocks.{left_alone, left_both}
use Rattle.client_view.proofs.copies.drop_subjects.Goals as goal

pub returns-in-Some : goal.returns-in-Some
returns-in-Some c =
    c.drop_file-in-Some.ensures
    ∙ ap (without_file c.in-Some.other) c.drop_file.ensures
    ∙ left_both c.args.blocks.now c.args.effect.now c.subjects-first.result.0 c.in-Some.other c.subjects-first.result.1 c.subjects-first.ensures.is c.in-Some.is

pub returns-in_default : goal.returns-in_default
returns-in_default c = c.drop_file.ensures ∙ left_alone c.args.blocks.now c.args.effect.now c.subjects-first.result.0 c.subjects-first.result.1 c.subjects-first.ensures.is c.in_default.is
