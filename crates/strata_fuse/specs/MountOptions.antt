-- What the words of `strata_fuse` ask for.
use Rattle.std.specs.Prelude.{◌≡◌, ◌⊎◌, ◌≤◌, ◌-◌, ℕ, List, ◌∷◌, Some, None, IfSome, codes, unwrap_or}
use Rattle.std.specs.Str.Parse.{IsNumeral, digits_value, without_leading_plus}
use Rattle.command_line.specs.Options.{App, IsNoNumber, Row, number_in, option_of, program_with, text_in}
use Rattle.command_line.specs.declared.option_table.OptionValue.TheVariants.{Number32, Number64, Text}
use Rattle.fuse_server.specs.declared.owner.Owner.{Owner}
use Rattle.strata_fuse.specs.declared.options.Options.{Options}
use Rattle.world_files.specs.SizeOptions.{HasBadSize, size_options, sizes_in}

-- the program and its options
abbrev pub mount : App
mount = program_with (codes "strata_fuse") (
    option_of (codes "disk") Text ∷ option_of (codes "client") (Number32 1 8)
    ∷ option_of (codes "uid") (Number32 0 4294967295) ∷ option_of (codes "gid") (Number32 0 4294967295)
    ∷ option_of (codes "fmask") Text ∷ option_of (codes "dmask") Text ∷ option_of (codes "clock") (Number64 0) ∷ size_options)

-- the number that a text writes in octal
abbrev pub octal_of : List ℕ → ℕ
octal_of text = digits_value 8 (without_leading_plus text)

-- the text is an octal number up to 777
abbrev pub IsMask : List ℕ → Type 0
IsMask text = IsNumeral 8 (without_leading_plus text) × (octal_of text ≤ 511)

-- a mask leaves all rights but those that it names
abbrev pub LeavesRights : List ℕ → ℕ → Type 0
LeavesRights text rights = IsMask text × (rights ≡ 511 - octal_of text)

-- the rights that the mask behind an option leaves; 0755 without it
abbrev pub AreRightsIn : List Row → List ℕ → ℕ → Type 0
AreRightsIn rows name rights = IfSome (text_in rows name) (λ text. LeavesRights text rights) × (text_in rows name ≡ None → rights ≡ 493)

-- what stands behind the option is no mask
abbrev pub IsNoMaskIn : List Row → List ℕ → Type 0
IsNoMaskIn rows name = (text : List ℕ) × (text_in rows name ≡ Some text) × ¬ IsMask text

-- to whom all files belong, and with which rights
pub record IsOwnerIn (rows : List Row) (owner : Owner) : Type 0 where
  pub uid : owner.uid ≡ unwrap_or (number_in rows (codes "uid")) 0
  pub gid : owner.gid ≡ unwrap_or (number_in rows (codes "gid")) 0
  pub files : AreRightsIn rows (codes "fmask") owner.file_mode
  pub directories : AreRightsIn rows (codes "dmask") owner.dir_mode

abbrev pub HasBadOwner : List Row → Type 0
HasBadOwner rows = IsNoNumber 32 rows (codes "uid") ⊎ (IsNoNumber 32 rows (codes "gid") ⊎ (IsNoMaskIn rows (codes "fmask") ⊎ IsNoMaskIn rows (codes "dmask")))

-- what the words ask for
pub record AreMountOptions (rows : List Row) (o : Options) : Type 0 where
  pub disk : text_in rows (codes "disk") ≡ Some o.disk.now
  pub client : o.client ≡ unwrap_or (number_in rows (codes "client")) 1
  pub sizes : o.sizes ≡ sizes_in rows
  pub owner : IsOwnerIn rows o.owner
  pub clock : o.clock ≡ number_in rows (codes "clock")

-- why the program itself refuses words: no disk is named, a number does not fit in 32 bits, or that of the clock in 64, or a mask is none
abbrev pub HasBadValue : List Row → Type 0
HasBadValue rows = (text_in rows (codes "disk") ≡ None) ⊎ (IsNoNumber 32 rows (codes "client") ⊎ (HasBadSize rows ⊎ (HasBadOwner rows ⊎ IsNoNumber 64 rows (codes "clock"))))
