use Rattle.std.proofs.Common.{◌∙◌, ap}
use Rattle.std.specs.Prelude.{replicate}
use Rattle.host_media.specs.Images.{media_bytes}
use Rattle.tier_device.specs.Memory.{memory_seen}
use Rattle.tier_device.specs.contracts.memory.MemMediaMedia.TheImpl.{ghosts as memory}
use Rattle.world_files.proofs.PartsEach.{as_many, parts_rest}
use Rattle.world_files.proofs.image.zero_parts.Goals as goal

pub parts_of-requires : goal.parts_of-requires
parts_of-requires c = as_many _ c.in-Ok.media.items c.args.geometry.now (c.in-Ok.ensures.sizes ∙ c.part_sizes.ensures)

pub returns-in-Ok-clause-zeros : goal.returns-in-Ok-clause-zeros
returns-in-Ok-clause-zeros c = ap (media_bytes memory_seen) c.parts_of.ensures.media ∙ c.in-Ok.ensures.bytes ∙ c.deref.ensures.value ∙ c.in_ok-zeros.ensures.items_if_clones_equal (λ y is. is) ∙ ap (λ n. replicate n 0) c.image_len.ensures

pub returns-in-Ok-clause-rest : goal.returns-in-Ok-clause-rest
returns-in-Ok-clause-rest c = parts_rest memory c.in-Ok.media.items c.in-Ok.ensures.rest c.parts_of.result c.parts_of.ensures.media c.parts_of.ensures.sixteen
