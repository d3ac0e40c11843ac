use Rattle.tree_blocks.proofs.name_changes.change_name.Goals as goal

pub returns-in-None-clause-held : goal.returns-in-None-clause-held
returns-in-None-clause-held c = c.drop_name.ensures.held c.args.owner c.requires.held
