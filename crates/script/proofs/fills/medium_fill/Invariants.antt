use Rattle.std.proofs.Common.{◌≡◌, option_map}
use Rattle.script.specs.Script.{parts, words_in}
use Rattle.script.specs.Fills.{medium_fill}
use Rattle.script.proofs.FillLaws.{fill_behind}
use Rattle.script.proofs.RunLaws.{rest_length}
use Rattle.script.proofs.fills.medium_fill.Given as goal

-- what was found and the words that are left give the fill of all
abbrev pub invariant-loop-rest : goal.invariant-loop-rest
invariant-loop-rest l = medium_fill (parts 32 l.words) l.medium ≡ fill_behind l.found l.medium (words_in (option_map (λ t. t.now) l.rest))

abbrev pub decreases-loop-rest : goal.decreases-loop-rest
decreases-loop-rest l = rest_length (option_map (λ t. t.now) l.rest)
