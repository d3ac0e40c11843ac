use Rattle.std.proofs.Common.{Some, None, cond, rules, tests}
use Rattle.std.proofs.lemmas.Iterator.{YieldsList-from_slice}
use Rattle.std.proofs.lemmas.Iterator.Search.{any_from_yields_List}
use Rattle.client_view.specs.KnowledgeTables.{copy_at}
use Rattle.client_view.specs.AfterRecord.{is_made}
use Rattle.client_view.specs.Preparation.{enters}
use Rattle.client_view.proofs.enter_rooms.any_enters.Goals as goal

pub returns : goal.returns
returns c = any_from_yields_List (λ e. enters e (λ j. cond (is_made c.args.made j) (Some None) (copy_at c.args.slots.now j))) _ _ _ c.any.ensures.ran (YieldsList-from_slice c.args.effects.now cc) (λ x b q k. search (rules, tests))
