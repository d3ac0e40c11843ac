use Rattle.std.proofs.Common.{sym, ◌∙◌}
use Rattle.std.proofs.lemmas.Bool.{true≢false, false_from_ne_true}
use Rattle.area_reader.proofs.Rewriting.{free_unused}
use Rattle.area_reader.proofs.used_blocks.unmarked_blocks_are_free.Goals as goal

pub returns : goal.returns
returns c = λ g s m marked t k room. (
  λ free. false_from_ne_true _ (λ now. let u = (marked t k).0 now in (((free_unused g s t k).0 free).1) u.0 u.1),
  λ none. (free_unused g s t k).1 (room, λ u at. true≢false (sym ((marked t k).1 (u, at)) ∙ none)),
)
