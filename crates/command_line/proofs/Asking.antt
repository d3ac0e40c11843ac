-- What words ask for, by what is made of what they give.
use Rattle.std.proofs.Common.{List, inr, subst}
use Rattle.std.specs.Borrow.{Bor}
use Rattle.std.specs.Prelude.{Err, IfErr, IfOk, Ok, Result}
use Rattle.clap.specs.Words.{App, Row, Text}
use Rattle.command_line.specs.Options.{Asks, IsValue, Reads, rows}
use Rattle.command_line.specs.declared.option_matches.OptionMatches.{OptionMatches}
use Rattle.command_line.specs.declared.words_error.WordsError.{WordsError}

module _ {O : Type 0} (app : App) (words : List (Bor Text)) (Is : List Row → O → Type 0) (Refuses : List Row → Type 0) where
  -- of words that `clap` takes
  pub asks_taken : (matches : OptionMatches) (r : Result O WordsError) → Reads app words (Ok matches) → IfOk r (Is (rows matches)) → IfErr r (λ e. IsValue e × Refuses (rows matches))
      → Asks app words Is Refuses r
  asks_taken matches (Ok o) reads is none = (reads.0, subst (λ (found : List Row). Is found o) reads.1 is)
  asks_taken matches (Err e) reads is refused = inr (refused.0, reads.0, subst Refuses reads.1 refused.1)
