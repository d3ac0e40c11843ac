use Rattle.std.proofs.Common.{ℕ, List, ◌∷◌, ap, slice_index_or}
use Rattle.std.specs.Prelude.{replicate}
use Rattle.host_media.specs.declared.sizes.Sizes.{Sizes}
use Rattle.world_files.specs.PartSizes.{region_sizes}
use Rattle.world_files.proofs.geometry.part_sizes.Goals as goal

-- the sizes of all media, by the lengths of the tiers of the shared one
abbrev sizes_by : List ℕ → List Sizes
sizes_by lens = record { fast = slice_index_or lens 0 0; block = slice_index_or lens 1 0; slow = slice_index_or lens 2 0 } ∷ replicate 16 region_sizes

pub returns : goal.returns
returns c = ap (λ (lens : List ℕ). sizes_by lens) c.tier_lens.ensures
