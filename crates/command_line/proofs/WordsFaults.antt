-- What is made of an error of `clap`.
use Rattle.std.proofs.Common.{inl, inr}
use Rattle.std.specs.Prelude.{Err, IsErrAnd, MatchResult, Ok, Result}
use Rattle.clap.specs.Words.{HasKind, Kinds}
use Rattle.clap.specs.declared.error.Error.{Error}
use Rattle.command_line.specs.declared.option_matches.OptionMatches.{OptionMatches}
use Rattle.command_line.specs.Options.{IsFrom, IsFault}
use Rattle.command_line.specs.declared.words_error.WordsError.{WordsError}
use Rattle.command_line.specs.declared.words_error.WordsError.TheVariants.{Memory, Usage, Value}

-- it is of the kinds that the error is of
fault_kind : (kinds : Kinds) (e : Error) (made : WordsError) → HasKind kinds e → IsFrom e made → IsFault kinds made
fault_kind kinds e Memory has is = tt
fault_kind kinds e (Usage made) (inl memory) is = absurd (is.1 memory)
fault_kind kinds e (Usage made) (inr among) is = rw is.0 among
fault_kind kinds e (Value text) has is = absurd is

pub fault_kinds : (r : Result OptionMatches WordsError) (P : OptionMatches → Type 0) (kinds : Kinds) (e : Error) → HasKind kinds e → IsErrAnd r (IsFrom e)
    → MatchResult r P (IsFault kinds)
fault_kinds (Ok g) P kinds e has is = absurd is
fault_kinds (Err made) P kinds e has is = fault_kind kinds e made has is
