-- How large a world the words of a command line ask for.
use Rattle.std.specs.Prelude.{◌⊎◌, List, [], ◌∷◌, codes, unwrap_or}
use Rattle.command_line.specs.Options.{IsNoNumber, Row, Rule, number_in, option_of}
use Rattle.command_line.specs.declared.option_table.OptionValue.TheVariants.{Number32}
use Rattle.world_files.specs.declared.sizes.WorldSizes.{WorldSizes}

-- the options for the sizes of a world
abbrev pub size_options : List Rule
size_options = option_of (codes "units") (Number32 2 65536) ∷ option_of (codes "fast") (Number32 0 65536)
    ∷ option_of (codes "block") (Number32 0 65536) ∷ option_of (codes "slow") (Number32 0 65536) ∷ []

-- the sizes, where those of which nothing is said are these
abbrev pub sizes_in : List Row → WorldSizes
sizes_in rows = record {
  units = unwrap_or (number_in rows (codes "units")) 1024;
  fast = unwrap_or (number_in rows (codes "fast")) 512;
  block = unwrap_or (number_in rows (codes "block")) 1024;
  slow = unwrap_or (number_in rows (codes "slow")) 1024;
}

-- a size is no number of 32 bits
abbrev pub HasBadSize : List Row → Type 0
HasBadSize rows = IsNoNumber 32 rows (codes "units") ⊎ (IsNoNumber 32 rows (codes "fast")
    ⊎ (IsNoNumber 32 rows (codes "block") ⊎ IsNoNumber 32 rows (codes "slow")))
