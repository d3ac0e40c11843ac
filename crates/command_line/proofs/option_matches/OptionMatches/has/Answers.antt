use Rattle.std.proofs.Common.{◌∙◌, ◌≡◌, Option, Some, None, ap, sym, Bool, false}
use Rattle.std.specs.Option.{option_map_or}
use Rattle.clap.specs.Words.{found_of}
use Rattle.clap.specs.declared.parser.matches.ValueSource.{ValueSource}
use Rattle.clap.specs.declared.parser.matches.ValueSource.TheVariants.{CommandLine, DefaultValue}
use Rattle.command_line.specs.Options.{is_of_words, rows, source_in}
use Rattle.command_line.proofs.OptionSources.{source_read}
use Rattle.command_line.proofs.option_matches.OptionMatches.has.Goals as goal

abbrev given : Option ValueSource → Bool
given source = option_map_or is_of_words source false

pub returns-in-Some-CommandLine : goal.returns-in-Some-CommandLine
returns-in-Some-CommandLine c =
    let same = c.value_source.ensures ∙ source_read (found_of c.args.self.now.matches) c.args.name.now in
    let source : source_in (rows c.args.self.now) c.args.name.now ≡ Some CommandLine = cc in
    sym (ap given source)

pub returns-in-Some-DefaultValue : goal.returns-in-Some-DefaultValue
returns-in-Some-DefaultValue c =
    let same = c.value_source.ensures ∙ source_read (found_of c.args.self.now.matches) c.args.name.now in
    let source : source_in (rows c.args.self.now) c.args.name.now ≡ Some DefaultValue = cc in
    sym (ap given source)

pub returns-in-None : goal.returns-in-None
returns-in-None c =
    let same = c.value_source.ensures ∙ source_read (found_of c.args.self.now.matches) c.args.name.now in
    let source : source_in (rows c.args.self.now) c.args.name.now ≡ None = cc in
    sym (ap given source)
