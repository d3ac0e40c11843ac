-- What the words of `strata_sh` ask for.
use Rattle.std.specs.Prelude.{◌≡◌, ◌++◌, ◌&&◌, ◌⊎◌, ⊤, ℕ, List, [], ◌∷◌, Option, Some, None, codes, is_some, true}
use Rattle.command_line.specs.Options.{App, Row, is_given, option_of, program_with, text_in}
use Rattle.command_line.specs.declared.option_table.OptionValue.TheVariants.{Nothing, Text}
use Rattle.world_files.specs.SizeOptions.{HasBadSize, size_options, sizes_in}
use Rattle.workload_cli.specs.declared.options.Home.{Home}
use Rattle.workload_cli.specs.declared.options.Home.TheVariants.{Nowhere, Image, Disk}
use Rattle.workload_cli.specs.declared.options.Options.{Options}

-- the program and its options
abbrev pub shell : App
shell = program_with (codes "strata_sh") (size_options ++ option_of (codes "image") Text ∷ option_of (codes "disk") Text
    ∷ option_of (codes "echo") Nothing ∷ option_of (codes "explain") Nothing ∷ option_of (codes "rows") Nothing ∷ [])

-- a world that is kept nowhere, in the image or on the disk that is named
abbrev pub IsHome : Option (List ℕ) → Option (List ℕ) → Home → Type 0
IsHome None None Nowhere = ⊤
IsHome (Some path) None (Image named) = named.now ≡ path
IsHome None (Some path) (Disk named) = named.now ≡ path
IsHome _ _ _ = ⊥

abbrev pub IsHomeIn : List Row → Home → Type 0
IsHomeIn rows home = IsHome (text_in rows (codes "image")) (text_in rows (codes "disk")) home

-- what the words ask for
pub record AreShellOptions (rows : List Row) (o : Options) : Type 0 where
  pub sizes : o.sizes ≡ sizes_in rows
  pub home : IsHomeIn rows o.home
  pub is_table : o.is_table ≡ is_given rows (codes "rows")
  pub echoes : o.echoes ≡ is_given rows (codes "echo")
  pub explains : o.explains ≡ is_given rows (codes "explain")

-- an image and a disk are named
abbrev pub NamesTwoHomes : List Row → Type 0
NamesTwoHomes rows = (is_some (text_in rows (codes "image")) && is_some (text_in rows (codes "disk"))) ≡ true

-- why the program itself refuses words
abbrev pub HasBadValue : List Row → Type 0
HasBadValue rows = HasBadSize rows ⊎ NamesTwoHomes rows
