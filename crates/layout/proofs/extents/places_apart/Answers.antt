use Rattle.std.proofs.Common.{◌∙◌, rules}
use Rattle.std.proofs.lemmas.List.Sorted.{IsNonDecreasingBy-from_sort_by_key}
use Rattle.layout.proofs.Apart.{stepping_is_apart}
use Rattle.layout.proofs.extents.places_apart.Goals as goal

pub returns : goal.returns
returns c =
    c.are_stepping.ensures
    ∙ stepping_is_apart c.args.extents.now c.sort_unstable_by_key.new.self c.sort_unstable_by_key.ensures.permutation (IsNonDecreasingBy-from_sort_by_key (λ e. e.place) _ c.sort_unstable_by_key.ensures.sorted (λ a r q k. search rules)) c.requires
