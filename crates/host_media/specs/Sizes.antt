-- How many bytes a medium has.
use Rattle.std.specs.Prelude.{ℕ, ◌+◌}
use Rattle.host_media.specs.declared.sizes.Sizes.{Sizes}

-- in all its tiers
abbrev pub byte_count : Sizes → ℕ
byte_count sizes = sizes.fast + sizes.block + sizes.slow
