use Rattle.call_effects.proofs.NodeViews.{viewed_after, block_known_after, views_joined, blocks_joined}
use Rattle.call_effects.proofs.known_laws.effects_replay_over_what_was_fetched.Goals as goal

pub returns-clause-view : goal.returns-clause-view
returns-clause-view c = viewed_after

pub returns-clause-block : goal.returns-clause-block
returns-clause-block c = block_known_after

pub returns-clause-views_join : goal.returns-clause-views_join
returns-clause-views_join c = views_joined

pub returns-clause-blocks_join : goal.returns-clause-blocks_join
returns-clause-blocks_join c = blocks_joined
