-- Where what an option gives comes from, by rows.
use Rattle.std.proofs.Common.{◌≡◌, ◌∙◌, Option, Some, None, ap, refl, sym}
use Rattle.std.specs.Prelude.{find, option_and_then, option_map}
use Rattle.std.specs.Str.{bytes_eq}
use Rattle.clap.specs.Facts.{Entry}
use Rattle.clap.specs.Walk.{row_of}
use Rattle.clap.specs.Words.{Row, Text, matched_of, rows_of}
use Rattle.clap.specs.declared.parser.matches.Found.{Found}
use Rattle.clap.specs.declared.parser.matches.MatchedArg.{MatchedArg}
use Rattle.clap.proofs.WalkLemmas.{find_row}
use Rattle.command_line.specs.Options.{source_in}

pub source_read : (found : Found) (name : Text) → option_and_then (λ (a : MatchedArg). a.source) (matched_of found name) ≡ source_in (rows_of found) name
source_read found name = go (find (λ (e : Entry). bytes_eq e.0.now name) found.entries.items)
    ∙ ap (option_and_then (λ (r : Row). r.source)) (sym (find_row found.entries.items name))
  where
    go : (o : Option Entry) → option_and_then (λ (a : MatchedArg). a.source) (option_map (λ e. e.1) o) ≡ option_and_then (λ (r : Row). r.source) (option_map row_of o)
    go None = refl
    go (Some e) = refl
