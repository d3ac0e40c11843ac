-- The options of a program, and what the words of its command line give to them.
use Rattle.std.specs.Prelude.{◌≡◌, ◌<◌, ◌-◌, ◌^◌, ◌⊎◌, ⊤, ℕ, Bool, true, false, List, [], map, find, Option, Some, None, pos, option_and_then, option_map, MatchResult, Result}
use Rattle.std.specs.Borrow.{Bor}
use Rattle.std.specs.Option.{option_map_or}
use Rattle.std.specs.Str.{bytes_eq}
use Rattle.std.specs.Str.Parse.{IsNumeral, digits_value, without_leading_plus}
use Rattle.clap.specs.Simple.{new_app, new_shape}
pub use Rattle.clap.specs.Words.{App, Row, Rule, Text}
use Rattle.clap.specs.Words.{IsAmong, Kinds, fault_of, first_of, found_of, kind_of, matches_of, new_rule, one_of, rows_of}
use Rattle.clap.specs.declared.builder.action.ArgAction.{ArgAction}
use Rattle.clap.specs.declared.builder.action.ArgAction.TheVariants.{Set, SetTrue}
use Rattle.clap.specs.declared.builder.value_parser.ValueParser.{ValueParser}
use Rattle.clap.specs.declared.builder.value_parser.ValueParser.TheVariants as parsers
use Rattle.clap.specs.declared.error.Error.{Error}
use Rattle.clap.specs.declared.error.kind.ErrorKind.TheVariants.{OutOfMemory}
use Rattle.clap.specs.declared.parser.matches.ValueSource.{ValueSource}
use Rattle.clap.specs.declared.parser.matches.ValueSource.TheVariants.{CommandLine, DefaultValue}
use Rattle.command_line.specs.declared.option_matches.OptionMatches.{OptionMatches}
use Rattle.command_line.specs.declared.option_table.OptionValue.{OptionValue}
use Rattle.command_line.specs.declared.option_table.OptionValue.TheVariants as values
use Rattle.command_line.specs.declared.option_table.ProgramOption.{ProgramOption}
use Rattle.command_line.specs.declared.words_error.WordsError.{WordsError}
use Rattle.command_line.specs.declared.words_error.WordsError.TheVariants.{Memory, Usage, Value}

-- ---- a table

-- what an option does
abbrev pub option_action : OptionValue → ArgAction
option_action values.Nothing = SetTrue
option_action _ = Set

-- what its value has to be
abbrev pub option_parser : OptionValue → Option ValueParser
option_parser (values.Number32 least most) = Some (parsers.Signed (pos least) (pos most))
option_parser (values.Number64 least) = Some (parsers.Unsigned least (2 ^ 64 - 1))
option_parser _ = None

-- how many names help has for it
abbrev pub option_names : OptionValue → ℕ
option_names values.Nothing = 0
option_names _ = 1

-- an option of this name, as `clap` has it
abbrev pub option_of : Text → OptionValue → Rule
option_of name value = record (new_rule name) {
  long = Some name;
  action = Some (option_action value);
  value_names = option_names value;
  parser = option_parser value;
}

-- a program with these options, as `clap` has it
abbrev pub program_with : Text → List Rule → App
program_with name options = record (new_app name) { top = record (new_shape name) { rules = options } }

-- the options of a table
abbrev pub rules_in : List ProgramOption → List Rule
rules_in = map (λ o. option_of o.name.now o.value)

-- ---- words

-- words as texts
abbrev pub texts : List (Bor Text) → List Text
texts = map (λ w. w.now)

-- what the words give, an option a row
abbrev pub rows : OptionMatches → List Row
rows m = rows_of (found_of m.matches)

-- what is made of an error of `clap`
abbrev pub IsFrom : Error → WordsError → Type 0
IsFrom e Memory = kind_of e ≡ OutOfMemory
IsFrom e (Usage same) = (same ≡ e) × ¬ (kind_of e ≡ OutOfMemory)
IsFrom e (Value text) = ⊥

-- memory ran out, or `clap` has an error of one of these kinds
abbrev pub IsFault : Kinds → WordsError → Type 0
IsFault kinds Memory = ⊤
IsFault kinds (Usage e) = IsAmong (kind_of e) kinds
IsFault kinds (Value text) = ⊥

-- words are refused where `clap` finds a fault in them, and else give what `clap` matches
abbrev pub Reads : App → List (Bor Text) → Result OptionMatches WordsError → Type 0
Reads app words r = MatchResult r (λ m. (fault_of app (texts words) ≡ []) × (rows m ≡ matches_of app (texts words)))
    (IsFault (fault_of app (texts words)))

-- ---- values

-- the text behind an option
abbrev pub text_in : List Row → Text → Option Text
text_in rows name = first_of name rows

-- the number that a text writes
abbrev pub number_of : Text → ℕ
number_of text = digits_value 10 (without_leading_plus text)

-- the text writes a number of so many bits
abbrev pub IsNumber : ℕ → Text → Type 0
IsNumber bits text = IsNumeral 10 (without_leading_plus text) × (number_of text < 2 ^ bits)

-- the number behind an option
abbrev pub number_in : List Row → Text → Option ℕ
number_in rows name = option_map number_of (one_of name rows)

-- where there is a text behind an option, it writes a number of so many bits
abbrev pub HasNumber : ℕ → List Row → Text → Type 0
HasNumber bits rows name = (text : Text) → one_of name rows ≡ Some text → IsNumber bits text

-- there is a text behind an option, and it writes none
abbrev pub IsNoNumber : ℕ → List Row → Text → Type 0
IsNoNumber bits rows name = (text : Text) × (one_of name rows ≡ Some text) × ¬ IsNumber bits text

-- the source is the words, and no default
abbrev pub is_of_words : ValueSource → Bool
is_of_words CommandLine = true
is_of_words DefaultValue = false

-- where what an option gives comes from
abbrev pub source_in : List Row → Text → Option ValueSource
source_in rows name = option_and_then (λ r. r.source) (find (λ r. bytes_eq r.id name) rows)

-- the option stands among the words
abbrev pub is_given : List Row → Text → Bool
is_given rows name = option_map_or is_of_words (source_in rows name) false

-- what the program itself has to say against the words
abbrev pub IsValue : WordsError → Type 0
IsValue (Value why) = ⊤
IsValue _ = ⊥

-- words are refused where `clap` finds a fault in them; else they ask for what `Is` makes of what they give, or the program refuses
-- them, as `Refuses` says
abbrev pub Asks : {O : Type 0} → App → List (Bor Text) → (List Row → O → Type 0) → (List Row → Type 0) → Result O WordsError → Type 0
Asks app words Is Refuses r =
    let faults = fault_of app (texts words) in
    let found = matches_of app (texts words) in
    MatchResult r (λ o. (faults ≡ []) × Is found o) (λ e. IsFault faults e ⊎ (IsValue e × (faults ≡ []) × Refuses found))
